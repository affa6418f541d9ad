use Rattle.hex_digits.proofs.Reading.{Passed}
use Rattle.hex_digits.proofs.read.Given as goal

abbrev pub invariant-loop-b : goal.invariant-loop-b
invariant-loop-b l = Passed l.line l.n l.good l.b-index
