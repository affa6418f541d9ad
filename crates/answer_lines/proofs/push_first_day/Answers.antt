use Rattle.words.specs.Text.{bytes}
use Rattle.texts.proofs.Lines.{then}
use Rattle.answer_lines.specs.Lines.{or_refusal, first_day_line}
use Rattle.answer_lines.proofs.Refusals.{refused}
use Rattle.answer_lines.proofs.push_first_day.Goals as goal

pub returns-in-Ok : goal.returns-in-Ok
unfolding first_day_line or_refusal bytes
returns-in-Ok c = rw c.in-Ok.is (then c.push_text.ensures c.push_number.ensures)

pub returns-in-Err : goal.returns-in-Err
unfolding first_day_line or_refusal bytes
returns-in-Err c = rw (c.in-Err.is, refused _ _) (then c.push_text.ensures c.push_refusal.ensures)
