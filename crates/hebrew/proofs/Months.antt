-- Leap years and the count of months: two leap years are never adjacent, and the months before a year come from one division.
use Prim.Native.Nat.{ℕ, zero, suc, ◌+◌, ◌*◌, ◌-◌, ◌/◌, ◌%◌, ◌≤◌, ◌<◌}
use mathlib.Core.Path.{◌≡◌, refl, sym}
use mathlib.Core.Bool.{Bool, true, false}
use native.Mathlib.Omega.{arith}
use lib.Dec.{leb, ltb}
use borrow.Author.Tests.{ltb-true, ltb-false, le-ltb, le-leb, lt-leb}
use Rattle.basics.proofs.Cases.{cond_elim}
use Rattle.hebrew.specs.Hebrew.{leap, months_in, months_before}

pub not_twice : (y : ℕ) → leap y ≡ true → leap (suc y) ≡ false
unfolding leap
not_twice y h = le-ltb ((7 * suc y + 1) % 19) 7 (apart (7 * y + 1) (7 * suc y + 1) (omega arith) (ltb-true ((7 * y + 1) % 19) 7 h))
  where
    apart : (z x : ℕ) → x ≡ z + 7 → z % 19 < 7 → 7 ≤ x % 19
    apart z x e h = omega arith

-- 235/19 months a year are 12 and 7/19
parts : (n : ℕ) → (235 * n + 1) / 19 ≡ 12 * n + (7 * n + 1) / 19
parts n = omega arith

months_step : (n : ℕ) → (235 * suc n + 1) / 19 ≡ (235 * n + 1) / 19 + months_in (suc n)
unfolding months_in leap
months_step n =
    cond_elim (λ (k : ℕ). (235 * suc n + 1) / 19 ≡ (235 * n + 1) / 19 + k) (ltb ((7 * suc n + 1) % 19) 7) 13 12
    (λ h. let k = ltb-true ((7 * suc n + 1) % 19) 7 h in omega (arith, parts n, parts (suc n)))
    (λ h. let k = ltb-false ((7 * suc n + 1) % 19) 7 h in omega (arith, parts n, parts (suc n)))

pub months_suc : (n : ℕ) → months_before (suc n) ≡ (235 * n + 1) / 19
unfolding months_before
months_suc zero = refl
months_suc (suc n) = omega (arith, months_suc n, months_step n)

pub months_closed : (y : ℕ) → 1 ≤ y → months_before y ≡ (235 * y - 234) / 19
months_closed zero h = absurd (omega arith)
months_closed (suc n) h = omega (arith, months_suc n)

-- ---- what the division for the months leaves tells whether the year, and the year before, are leap

left : (n : ℕ) → (235 * suc n - 234) % 19 ≡ (7 * n + 1) % 19
left n = omega arith

pub leap_left : (y : ℕ) → 1 ≤ y → leap y ≡ leb 12 ((235 * y - 234) % 19)
unfolding leap
leap_left zero h = absurd (omega arith)
leap_left (suc n) h = rw (left n) (go (7 * n + 1) (7 * suc n + 1) (omega arith) (ltb ((7 * suc n + 1) % 19) 7) refl)
  where
    go : (w x : ℕ) → x ≡ w + 7 → (t : Bool) → ltb (x % 19) 7 ≡ t → t ≡ leb 12 (w % 19)
    go w x e true h = let k = ltb-true (x % 19) 7 h in sym (le-leb 12 (w % 19) (omega arith))
    go w x e false h = let k = ltb-false (x % 19) 7 h in sym (lt-leb 12 (w % 19) (omega arith))

pub before_left : (y : ℕ) → 1 ≤ y → leap (y - 1) ≡ ltb ((235 * y - 234) % 19) 7
unfolding leap
before_left zero h = absurd (omega arith)
before_left (suc n) h = let e : suc n - 1 ≡ n = omega arith in rw (e, left n) refl
