use mir.Syntax.{w64}
use mir.ValLaws.{to_z-of_z}
use Rattle.words.specs.Text.{bytes}
use Rattle.texts.proofs.Lines.{then}
use Rattle.answer_lines.specs.Lines.{or_refusal, easter_row}
use Rattle.answer_lines.proofs.Refusals.{refused}
use Rattle.answer_lines.proofs.push_easter_row.Goals as goal

pub returns-in-Ok : goal.returns-in-Ok
unfolding easter_row or_refusal bytes
returns-in-Ok c =
    let date = rw (to_z-of_z w64 c.args.year c.ranges.year) at c.push_columns.ensures in
    rw c.in-Ok.is (then c.push_heading.ensures (then (then date c.push.ensures) c.push_number.ensures))

pub returns-in-Err : goal.returns-in-Err
unfolding easter_row or_refusal
returns-in-Err c = rw (c.in-Err.is, refused _ _) (then c.push_heading.ensures c.push_refusal.ensures)
