use Rattle.hex_digits.specs.Digits.{written_in}
use Rattle.replying.specs.Sheet.{two_digits}
use Rattle.judging.proofs.answer.Goals as goal

pub returns : goal.returns
unfolding two_digits written_in
returns c = rw (c.byte.ensures, c.byte-2.ensures)
