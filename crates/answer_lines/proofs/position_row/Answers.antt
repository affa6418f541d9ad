use mathlib.Core.Path.{◌≡◌, refl, ◌∙◌}
use borrow.Author.Rules.{rules}
use Rattle.words.specs.Text.{bytes}
use Rattle.texts.proofs.Lines.{then, finished}
use Rattle.calendars.specs.Paper.{position_paper}
use Rattle.answer_lines.specs.Lines.{position_row}
use Rattle.answer_lines.proofs.position_row.Goals as goal

pub returns-clause-text : goal.returns-clause-text
unfolding position_row bytes
returns-clause-text c =
    let n : c.map_or-days.result ≡ (position_paper c.args.answer).days = search rules in
    let days = rw n at c.push_number_right-2.ensures in
    let kind = rw c.kind.ensures at c.push_left.ensures in
    finished c.new-line.ensures (then (then (then (then c.push_number_right.ensures c.push.ensures) kind) c.push-2.ensures) days) refl (search rules)
