use mathlib.Core.Path.{refl, ◌∙◌}
use Rattle.words.specs.Text.{bytes, lower}
use Rattle.words.specs.Names.{request_names, request_numbered}
use Rattle.words.specs.Words.{small_letter, packed_from}
use Rattle.words.proofs.Tables.{found}
use Rattle.words.proofs.request_of.Goals as goal

pub returns : goal.returns
unfolding request_names bytes lower small_letter packed_from
returns c = c.named.ensures ∙ found request_numbered _ request_names refl refl c.args.word
