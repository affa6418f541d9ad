-- Signed numbers as the machine computes them: a natural number below 0, and the distance of a number from 0.
use mathlib.Core.Path.{◌≡◌, refl}
use mathlib.Core.Bool.{true, false}
use Prim.Native.Nat.{ℕ, zero, suc, ◌+◌, ◌<◌, ◌^◌}
use native.Mathlib.Omega.{arith}
use lib.Dec.{T}
use lib.IntN.{ℤ, pos, negsuc, nat_abs, neg_ℤ, neg_ℤ-neg_ℤ, ◌+ℤ◌, ◌-ℤ◌, +ℤ_idl, +ℤ_one}
use lib.Signed.{lt_z, non_neg}
use mir.Syntax.{w64}
use mir.Val.{Fits, SFits, to_z}
use borrow.Author.Tests.{lt-ltb, ltb-true}

minus : (n : ℕ) → n < 2 ^ 63 → SFits w64 (neg_ℤ (pos n))
minus zero h = record { sfits = omega arith }
minus (suc n) h = record { sfits = omega arith }

-- 0 less a number that is below 2^63
pub negated : (n : ℕ) → n < 2 ^ 63 → SFits w64 (pos 0 -ℤ to_z w64 n)
negated n h = rw (lt-ltb n (2 ^ 63) h, +ℤ_idl) (minus n h)

after : (k : ℕ) → negsuc k +ℤ pos 1 ≡ neg_ℤ (pos k)
after zero = refl
after (suc k) = +ℤ_one (negsuc (suc k))

-- `read` is what the machine reads back from a number's bits. Of a negative number: one more than it fits; 0 less that fits, is not negative and
-- leaves room for 1.
module _ (read : ℤ → ℤ) (same : (z : ℤ) → SFits w64 z → read z ≡ z) where
  abbrev pub Measured : ℤ → Type 0
  Measured z =
      let next = read z +ℤ pos 1 in
      let rest = pos 0 -ℤ read next in
      SFits w64 next × SFits w64 rest × (T (non_neg (read rest)) × Fits w64 (nat_abs (read rest))) × Fits w64 (nat_abs (read rest) + 1)

  pub measured : (z : ℤ) → SFits w64 z → lt_z (read z) (pos 0) ≡ true → Measured z
  measured (pos n) f h = absurd (omega (arith, ltb-true n 0 (rw (same (pos n) f) at h)))
  measured (negsuc k) f h =
      let a : SFits w64 (neg_ℤ (pos k)) = minus k (omega (arith, f.sfits)) in
      let b : SFits w64 (pos k) = record { sfits = omega (arith, f.sfits) } in
      rw (same (negsuc k) f, after k, same (neg_ℤ (pos k)) a, +ℤ_idl (neg_ℤ (neg_ℤ (pos k))), neg_ℤ-neg_ℤ (pos k), same (pos k) b)
      (a, b, (tt, record { fits = omega (arith, b.sfits) }), record { fits = omega (arith, b.sfits) })

  -- one that is not negative can be cast to an unsigned number
  pub unsigned : (z : ℤ) → SFits w64 z → lt_z (read z) (pos 0) ≡ false → T (non_neg (read z)) × Fits w64 (nat_abs (read z))
  unsigned z f h = rw (same z f) (go z f (rw (same z f) at h))
    where
      go : (z : ℤ) → SFits w64 z → lt_z z (pos 0) ≡ false → T (non_neg z) × Fits w64 (nat_abs z)
      go (pos n) f h = (tt, record { fits = omega (arith, f.sfits) })
      go (negsuc k) f h = let z : ◌≡◌ {A = ℕ} 0 1 = cc in absurd (omega arith)
