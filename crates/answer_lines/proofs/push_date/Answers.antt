use mir.Syntax.{w64}
use mir.Val.{SFits}
use mir.ValLaws.{to_z-of_z}
use borrow.Author.Rules.{rules}
use Rattle.words.specs.Text.{bytes}
use Rattle.texts.proofs.Lines.{then}
use Rattle.answer_lines.specs.Lines.{or_refusal, date_line, date_text}
use Rattle.answer_lines.proofs.Refusals.{refused}
use Rattle.answer_lines.proofs.push_date.Goals as goal

pub returns-in-Ok : goal.returns-in-Ok
unfolding date_line or_refusal date_text bytes
returns-in-Ok c =
    let y : SFits w64 c.in-Ok.date.year = search rules in
    let year = rw (to_z-of_z w64 c.in-Ok.date.year y) at c.push_year.ensures in
    rw c.in-Ok.is (then (then (then (then (then (then year c.push.ensures) c.push_number.ensures) c.push-in-Ok.ensures) c.push_number-in-Ok.ensures) c.push-in-Ok-2.ensures) c.push_weekday.ensures)

pub returns-in-Err : goal.returns-in-Err
unfolding date_line or_refusal
returns-in-Err c = rw (c.in-Err.is, refused _ _) c.push_refusal.ensures
