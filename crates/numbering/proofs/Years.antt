-- A year as code has it: what is tested of its bits holds of the year.
use mathlib.Core.Path.{◌≡◌, sym, ◌∙◌}
use mathlib.Core.Bool.{Bool, true, false, ◌||◌}
use Prim.Native.Nat.{ℕ}
use lib.IntN.{ℤ, negsuc}
use lib.Signed.{lt_z}
use mir.Syntax.{w64}
use mir.Val.{SFits, to_z, of_z}
use mir.ValLaws.{to_z-of_z}
use Rattle.counting.specs.Answers.{last_year}
use Rattle.asking.specs.Steps.{year_inside, years_since}
use Rattle.asking.proofs.Since.{outside, Since, since}

-- it is before another, or after it
pub before : (a : ℤ) {y : ℤ} {b : Bool} → SFits w64 y → lt_z (to_z w64 (of_z w64 y)) a ≡ b → lt_z y a ≡ b
before a {y} p t = rw (to_z-of_z w64 y p) at t

pub after : (a : ℤ) {y : ℤ} {b : Bool} → SFits w64 y → lt_z a (to_z w64 (of_z w64 y)) ≡ b → lt_z a y ≡ b
after a {y} p t = rw (to_z-of_z w64 y p) at t

-- some calendar may have it, or none
pub taken : {y : ℤ} {r : Bool} → SFits w64 y → r ≡ year_inside (to_z w64 (of_z w64 y)) → r ≡ true → year_inside y ≡ true
taken {y} p e t = sym (rw (to_z-of_z w64 y p) at e) ∙ t

pub left : {y : ℤ} {r : Bool} → SFits w64 y → r ≡ year_inside (to_z w64 (of_z w64 y)) → r ≡ false → (lt_z y (negsuc 4711) || lt_z last_year y) ≡ true
left {y} p e t = outside y (sym (rw (to_z-of_z w64 y p) at e) ∙ t)

-- the years from -4712 to it
pub years : {y : ℤ} {r : Bool} {n : ℕ}
    → SFits w64 y
    → r ≡ year_inside (to_z w64 (of_z w64 y)) → r ≡ true → n ≡ years_since (to_z w64 (of_z w64 y))
    → Since y n
years {y} {r} {n} p e t s = since y n (taken p e t) (rw (to_z-of_z w64 y p) at s)
