-- A rule asked within its years goes by what `year_from` answers.
use mathlib.Core.Path.{◌≡◌, refl, sym, ap, ◌∙◌}
use mathlib.Core.Bool.{Bool, true, false, cond, ◌&&◌}
use Prim.Native.Nat.{ℕ}
use lib.Dec.{leb}
use lib.IntN.{ℤ, pos, negsuc}
use Rattle.std.specs.Prelude.{Result, Ok, Err}
use Rattle.refusals.specs.declared.Refusal.{Refusal}
use Rattle.refusals.specs.declared.Refusal.TheVariants.{YearOutOfRange}
use Rattle.refusals.specs.Number.{number_of}
use Rattle.computus.specs.Rule.{EasterAnswer, refused, in_years}
use Rattle.easter.specs.Years.{year_from}

-- what a rule answers for a year of its own, and for any other
abbrev asked : (ℕ → EasterAnswer) → Result ℕ Refusal → EasterAnswer
asked rule (Ok A) = rule A
asked rule (Err why) = refused (number_of why)

pub asked_for : (first : ℕ) (rule : ℕ → EasterAnswer) (year : ℤ) (Y : Result ℕ Refusal) → Y ≡ year_from first year → in_years first rule year ≡ asked rule Y
unfolding in_years
asked_for first rule (negsuc k) Y h = rw h refl
asked_for first rule (pos A) Y h = go (leb first A && leb A 9999) refl ∙ ap (asked rule) (sym h)
  where
    go : (t : Bool) → (leb first A && leb A 9999) ≡ t → cond t (rule A) (refused 2) ≡ asked rule (cond t (Ok A) (Err YearOutOfRange))
    go true e = refl
    go false e = refl
