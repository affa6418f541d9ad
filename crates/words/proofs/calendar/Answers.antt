use mathlib.Core.Path.{refl, ◌∙◌}
use Rattle.words.specs.Text.{bytes, lower}
use Rattle.words.specs.Names.{calendar_names}
use Rattle.words.specs.Words.{small_letter, packed_from}
use Rattle.words.proofs.Tables.{found}
use Rattle.words.proofs.calendar.Goals as goal

pub returns : goal.returns
unfolding calendar_names bytes lower small_letter packed_from
returns c = c.named.ensures ∙ found (λ n. n) _ calendar_names refl refl c.args.word
