use Rattle.words.specs.Text.{bytes}
use Rattle.texts.proofs.Lines.{then}
use Rattle.answer_lines.specs.Lines.{heading}
use Rattle.answer_lines.proofs.push_heading.Goals as goal

pub returns : goal.returns
unfolding heading bytes
returns c =
    then (then (then c.push_number_right.ensures c.push.ensures) c.push_calendar.ensures) c.push-2.ensures
