use Rattle.hex_digits.proofs.Writing.{Left}
use Rattle.hex_digits.proofs.write.Given as goal

abbrev pub invariant-loop-k : goal.invariant-loop-k
invariant-loop-k l = Left l.n l.out l.rest l.k
