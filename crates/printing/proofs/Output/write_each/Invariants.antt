use Rattle.std.proofs.Common.{length, ◌≡◌, ◌≤◌, false}
use Rattle.printing.specs.Good.{good}
use Rattle.printing.proofs.Output.write_each.Given as goal

abbrev pub invariant-loop-rest : goal.invariant-loop-rest
invariant-loop-rest g l = (good l.initial.self.waiting ≡ false → good l.self.waiting ≡ false)
    × (length l.rest ≤ length l.bytes)
    × (length l.bytes ≡ 0 → l.self.waiting ≡ l.initial.self.waiting)
    × (good l.initial.self.waiting ≡ false → length l.rest ≡ length l.bytes)

abbrev pub decreases-loop-rest : goal.decreases-loop-rest
decreases-loop-rest g l = length l.rest
