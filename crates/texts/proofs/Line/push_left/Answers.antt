use Rattle.texts.specs.Columns.{left_in}
use Rattle.texts.proofs.Lines.{then}
use Rattle.texts.proofs.Line.push_left.Goals as goal

pub returns : goal.returns
unfolding left_in
returns c = then c.push_text.ensures c.push_blanks.ensures
