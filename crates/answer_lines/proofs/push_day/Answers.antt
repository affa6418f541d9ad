use Rattle.words.specs.Text.{bytes}
use Rattle.texts.proofs.Lines.{then}
use Rattle.answer_lines.specs.Lines.{or_refusal, day_line, day_text}
use Rattle.answer_lines.proofs.Refusals.{refused}
use Rattle.answer_lines.proofs.push_day.Goals as goal

pub returns-in-Ok : goal.returns-in-Ok
unfolding day_line or_refusal day_text bytes
returns-in-Ok c =
    rw c.in-Ok.is (then (then c.push_number.ensures c.push.ensures) (rw c.weekday_of.ensures at c.push_weekday.ensures))

pub returns-in-Err : goal.returns-in-Err
unfolding day_line or_refusal
returns-in-Err c = rw (c.in-Err.is, refused _ _) c.push_refusal.ensures
