use mathlib.Core.Path.{refl, ◌∙◌}
use borrow.Author.Rules.{rules}
use mir.Syntax.{w64}
use mir.ValLaws.{to_z-of_z}
use Rattle.words.specs.Text.{bytes}
use Rattle.texts.proofs.Lines.{then, finished}
use Rattle.answer_lines.specs.Lines.{first_row}
use Rattle.answer_lines.proofs.first_row.Goals as goal

pub returns-clause-text : goal.returns-clause-text
unfolding first_row bytes
returns-clause-text c =
    let year = rw (to_z-of_z w64 c.args.year c.ranges.year) at c.push_year_right.ensures in
    finished c.new-line.ensures (then (then (then c.push_heading.ensures c.push_number_right.ensures) c.push.ensures) year) refl (search rules)
