use mathlib.Core.Path.{refl, ◌∙◌}
use borrow.Author.Rules.{rules}
use Rattle.words.specs.Text.{bytes}
use Rattle.texts.proofs.Lines.{then, finished}
use Rattle.answer_lines.specs.Lines.{answer_row}
use Rattle.answer_lines.proofs.answer_row.Goals as goal

pub returns-clause-text : goal.returns-clause-text
unfolding answer_row bytes
returns-clause-text c =
    finished c.new-line.ensures (then (then c.push_number_right.ensures c.push.ensures) c.push_answer.ensures) refl (search rules)
