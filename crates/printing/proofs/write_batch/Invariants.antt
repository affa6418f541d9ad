use Rattle.std.proofs.Common.{◌≡◌, ◌≤◌, ◌*◌, take}
use Rattle.arrayvec.specs.ArrayVec.{array_vec_len}
use Rattle.printing.specs.Spaced.{spaced}
use Rattle.printing.proofs.write_batch.Given as goal

abbrev pub invariant-loop-number : goal.invariant-loop-number
invariant-loop-number g l = (l.text.items ≡ spaced (take l.number-index l.numbers)) × (array_vec_len l.text ≤ 21 * l.number-index)
