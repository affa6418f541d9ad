use Rattle.texts.specs.Columns.{right_in}
use Rattle.texts.proofs.Lines.{then}
use Rattle.texts.proofs.Line.push_right.Goals as goal

pub returns : goal.returns
unfolding right_in
returns c = then c.push_blanks.ensures c.push_text.ensures
