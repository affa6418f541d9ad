-- The front of the lengths is written, and `rest` is the remainder that is carried.
use Rattle.unfolding.proofs.Writing.{Front}
use Rattle.unfolding.proofs.write_lengths.Given as goal

abbrev pub invariant-loop-length : goal.invariant-loop-length
invariant-loop-length l = Front l.line.a l.line.b l.line.r l.initial.lengths l.lengths l.rest l.length-index
