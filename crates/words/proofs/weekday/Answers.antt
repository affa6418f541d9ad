use mathlib.Core.Path.{refl, ◌∙◌}
use Rattle.words.specs.Text.{bytes, lower}
use Rattle.words.specs.Names.{weekday_names}
use Rattle.words.specs.Words.{small_letter, packed_from}
use Rattle.words.proofs.Tables.{found}
use Rattle.words.proofs.weekday.Goals as goal

pub returns : goal.returns
unfolding weekday_names bytes lower small_letter packed_from
returns c = c.named.ensures ∙ found (λ n. n) _ weekday_names refl refl c.args.word
