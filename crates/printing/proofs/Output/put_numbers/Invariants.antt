use Rattle.std.proofs.Common.{◌≡◌, false}
use Rattle.printing.specs.Good.{good}
use Rattle.printing.proofs.Output.put_numbers.Given as goal

abbrev pub invariant-loop-number : goal.invariant-loop-number
invariant-loop-number g l = good l.initial.self.waiting ≡ false → good l.self.waiting ≡ false
