-- What is shown of the function for C. Its promise in `src/lib.rt` is an equation, for every input: the fields of the struct that C gets (`easter_fields` of
-- specs/Fields.antt) are the answer that crate computus defines (`easter_answer`). What it means is on its claims page. Here: where the number is not 0,
-- every other field is 0.
use mathlib.Core.Path.{◌≡◌, refl}
use mathlib.Core.Bool.{◌&&◌}
use Prim.Native.Nat.{ℕ, ◌+◌}
use lib.Dec.{eqb, leb}
use lib.IntN.{ℤ, pos, negsuc}
use Rattle.basics.proofs.Cases.{cond_elim}
use Rattle.refusals.specs.Number.{Refused}
use Rattle.computus.specs.Rule.{EasterAnswer, refused, exception_i, exception_ii, dated, julian_easter, gregorian_easter, in_years, easter_answer}

pub record EasterZero (x : EasterAnswer) : Type 0 where
  pub zero : Refused x.number → (x.month ≡ 0) × (x.day ≡ 0)

no_easter : (k : ℕ) → EasterZero (refused k)
no_easter k = record { zero = λ h. (refl, refl) }

easter_on : (m d : ℕ) → EasterZero (record { number = 0; month = m; day = d })
easter_on m d = record { zero = λ h. absurd (h refl) }

dated_zero : (m d e : ℕ) → EasterZero (dated m d e)
unfolding dated
dated_zero m d e =
    cond_elim EasterZero (exception_i d e) _ _ (λ f. easter_on 4 19)
    (λ f. cond_elim EasterZero (exception_ii m d e) _ _ (λ f. easter_on 4 18)
    (λ f. cond_elim EasterZero (leb (22 + d + e) 31) _ _ (λ f. easter_on 3 _) (λ f. easter_on 4 _)))

years_zero : (first : ℕ) (rule : ℕ → EasterAnswer) → ((A : ℕ) → EasterZero (rule A)) → (y : ℤ) → EasterZero (in_years first rule y)
unfolding in_years
years_zero first rule z (pos A) = cond_elim EasterZero (leb first A && leb A 9999) _ _ (λ e. z A) (λ e. no_easter 2)
years_zero first rule z (negsuc k) = no_easter 2

pub easter_zero : (c : ℕ) (y : ℤ) → EasterZero (easter_answer c y)
unfolding easter_answer
easter_zero c y =
    cond_elim EasterZero (eqb c 10) _ _ (λ e. years_zero 1 julian_easter (λ A. dated_zero _ _ _) y)
    (λ e. cond_elim EasterZero (eqb c 11) _ _ (λ e. years_zero 1583 gregorian_easter (λ A. dated_zero _ _ _) y) (λ e. no_easter 1))
