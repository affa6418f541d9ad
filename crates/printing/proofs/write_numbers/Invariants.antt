use Rattle.std.proofs.Common.{◌≡◌, List, ℕ, ◌++◌, length}
use Rattle.std.specs.Io.KnownBytes.{Appends}
use Rattle.printing.specs.Spaced.{spaced}
use Rattle.printing.proofs.write_numbers.Given as goal

-- some of the numbers are written, and the others are left
abbrev pub invariant-loop-rest : goal.invariant-loop-rest
invariant-loop-rest g l =
    (front : List ℕ) × Appends (g.W.Write.contents l.initial.out) (g.W.Write.contents l.out) (spaced front) × (front ++ l.rest ≡ l.numbers)

abbrev pub decreases-loop-rest : goal.decreases-loop-rest
decreases-loop-rest g l = length l.rest
