use mathlib.Core.Path.{refl, ap, ◌∙◌}
use mathlib.Core.List.{List}
use Prim.Native.Nat.{ℕ}
use Rattle.std.specs.Borrow.{Bor}
use Rattle.words.specs.Names.{calendar_names}
use Rattle.words.proofs.Tables.{name_shown}
use Rattle.phrases.proofs.push_calendar.Goals as goal

pub returns : goal.returns
returns c =
    let e = c.as_bytes.ensures.value ∙ ap (λ (s : Bor (List ℕ)). s.now) c.unwrap_or-name.ensures ∙ name_shown _ _ refl calendar_names c.args.calendar c.calendar_name.ensures in
    rw e at c.push_left.ensures
