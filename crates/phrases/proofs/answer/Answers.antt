use mathlib.Core.Path.{refl, ◌∙◌}
use Rattle.words.specs.Text.{bytes}
use Rattle.words.proofs.Tables.{name_found}
use Rattle.phrases.specs.Phrases.{answer_words}
use Rattle.phrases.proofs.answer.Goals as goal

pub returns : goal.returns
unfolding answer_words bytes
returns c = c.name_at.ensures ∙ name_found _ answer_words refl c.args.number
