-- The years from -4712, as code meets them.
use mathlib.Core.Path.{◌≡◌, ap, ◌∙◌}
use mathlib.Core.Bool.{true, false, ◌||◌}
use Prim.Native.Nat.{ℕ, ◌≤◌}
use native.Mathlib.Omega.{arith}
use lib.IntN.{ℤ, negsuc}
use lib.Signed.{lt_z}
use borrow.Author.Tests.{not-true, not-false}
use Rattle.basics.proofs.Cases.{neither}
use Rattle.counting.specs.Years.{year_at, years_from}
use Rattle.counting.specs.Answers.{last_year}
use Rattle.counting.proofs.Signs.{years_small, year_back}
use Rattle.asking.specs.Steps.{year_inside, years_since}

-- year y is one that some calendar may have
pub record Inside (y : ℤ) : Type 0 where
  pub not_early : lt_z y (negsuc 4711) ≡ false
  pub not_late : lt_z last_year y ≡ false

pub inside : (y : ℤ) → year_inside y ≡ true → Inside y
inside y t = let o = neither (lt_z y (negsuc 4711)) (lt_z last_year y) (not-true _ t) in record { not_early = o.0; not_late = o.1 }

pub outside : (y : ℤ) → year_inside y ≡ false → (lt_z y (negsuc 4711) || lt_z last_year y) ≡ true
outside y f = not-false _ f

-- and is r years after -4712
pub record Since (y : ℤ) (r : ℕ) : Type 0 where
  pub years : r ≡ years_from (negsuc 4711) y
  pub back : year_at (negsuc 4711) r ≡ y
  pub few : r ≤ 24712

pub since : (y : ℤ) (r : ℕ) → year_inside y ≡ true → r ≡ years_since y → Since y r
unfolding years_since
since y r t e =
    let o = inside y t in
    let f : r ≡ years_from (negsuc 4711) y = rw t at e in
    record {
      years = f;
      back = ap (year_at (negsuc 4711)) f ∙ year_back (negsuc 4711) y o.not_early;
      few = omega (arith, years_small (negsuc 4711) y 4711 (omega arith) o.not_early o.not_late);
    }
