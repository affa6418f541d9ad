use mir.Syntax.{w64}
use mir.ValLaws.{to_z-of_z}
use Rattle.words.specs.Text.{bytes}
use Rattle.texts.proofs.Lines.{then}
use Rattle.answer_lines.specs.Lines.{date_columns}
use Rattle.answer_lines.proofs.push_columns.Goals as goal

pub returns : goal.returns
unfolding date_columns bytes
returns c =
    let year = rw (to_z-of_z w64 c.args.year c.ranges.year) at c.push_year_right.ensures in
    then (then (then (then year c.push.ensures) c.push_number_right.ensures) c.push-2.ensures) c.push_number_right-2.ensures
