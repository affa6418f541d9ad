use mathlib.Core.Path.{refl, ap, ◌∙◌}
use mathlib.Core.List.{List}
use Prim.Native.Nat.{ℕ}
use Rattle.std.specs.Borrow.{Bor}
use Rattle.phrases.specs.Phrases.{answer_words}
use Rattle.words.proofs.Tables.{name_shown}
use Rattle.phrases.proofs.push_answer.Goals as goal

pub returns : goal.returns
returns c =
    let e = c.as_bytes.ensures.value ∙ ap (λ (s : Bor (List ℕ)). s.now) c.unwrap_or-words.ensures ∙ name_shown _ _ refl answer_words c.args.number c.answer.ensures in
    rw e at c.push_text.ensures
