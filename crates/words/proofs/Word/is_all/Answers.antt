use mathlib.Core.Path.{◌≡◌, refl, ap, ◌∙◌}
use borrow.Author.Rules.{rules}
use Rattle.words.specs.declared.Word.{Word}
use Rattle.words.specs.Text.{bytes, lower, lowered, same}
use Rattle.words.specs.Words.{small_letter, all_letters, word_of}
use Rattle.words.specs.Inner.{equal}
use Rattle.words.proofs.Tables.{equal_name}
use Rattle.words.proofs.Word.is_all.Goals as goal

pub returns : goal.returns
unfolding bytes lower lowered same small_letter all_letters
returns c =
    let e : c.eq.result ≡ equal c.from.result c.args.self = search rules in
    e ∙ ap (λ (w : Word). equal w c.args.self) (c.from.ensures ∙ ap word_of c.as_slice.ensures) ∙ equal_name "all" refl c.args.self
