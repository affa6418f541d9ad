use mir.Syntax.{w64}
use mir.Val.{SFits}
use mir.ValLaws.{to_z-of_z}
use borrow.Author.Rules.{rules}
use Rattle.texts.proofs.Lines.{then}
use Rattle.answer_lines.specs.Lines.{or_refusal, calendar_row}
use Rattle.answer_lines.proofs.Refusals.{refused}
use Rattle.answer_lines.proofs.push_calendar_row.Goals as goal

pub returns-in-Ok : goal.returns-in-Ok
unfolding calendar_row or_refusal
returns-in-Ok c =
    let y : SFits w64 c.in-Ok.date.year = search rules in
    rw c.in-Ok.is (then c.push_heading.ensures (rw (to_z-of_z w64 c.in-Ok.date.year y) at c.push_columns.ensures))

pub returns-in-Err : goal.returns-in-Err
unfolding calendar_row or_refusal
returns-in-Err c = rw (c.in-Err.is, refused _ _) (then c.push_heading.ensures c.push_refusal.ensures)
