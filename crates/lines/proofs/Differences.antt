-- Whole numbers as differences of natural ones, z = u - v, so that `omega` can work on them; and what rounding down means (`rounds_down`).
use mathlib.Core.Path.{◌≡◌, refl, ap, subst}
use mathlib.Core.Bool.{Bool, true, false, not, cond}
use Prim.Native.Nat.{ℕ, zero, suc, ◌+◌, ◌*◌, ◌-◌, ◌/◌, ◌%◌, ◌≤◌, ◌<◌}
use native.Mathlib.Nat.{div-add-mod', mod-lt}
use native.Mathlib.Omega.{arith}
use lib.Dec.{T, ltb, ltb→lt, nltb→le}
use lib.IntN.{ℤ, pos, negsuc, neg_ℤ, sub_ℕ, ◌+ℤ◌, ◌*ℤ◌}
use Rattle.lines.specs.Line.{floor_div}

abbrev pub Diff : ℤ → ℕ → ℕ → Type 0
Diff (pos n) u v = n + v ≡ u
Diff (negsuc n) u v = u + suc n ≡ v

abbrev pub over : ℤ → ℕ
over (pos n) = n
over (negsuc n) = 0

abbrev pub under : ℤ → ℕ
under (pos n) = 0
under (negsuc n) = suc n

pub diff : (z : ℤ) → Diff z (over z) (under z)
diff (pos n) = omega arith
diff (negsuc n) = omega arith

pub diff_to : (z : ℤ) {u v u' v' : ℕ} → u ≡ u' → v ≡ v' → Diff z u v → Diff z u' v'
diff_to (pos n) p q h = omega arith
diff_to (negsuc n) p q h = omega arith

-- a number has its differences, and a difference its number
diff_same : (z : ℤ) (u v s t : ℕ) → Diff z u v → Diff z s t → u + t ≡ s + v
diff_same (pos n) u v s t p q = omega arith
diff_same (negsuc n) u v s t p q = omega arith

diff_one : (z w : ℤ) (u v : ℕ) → Diff z u v → Diff w u v → z ≡ w
diff_one (pos m) (pos n) u v p q = ap pos (omega arith)
diff_one (pos m) (negsuc n) u v p q = absurd (omega arith)
diff_one (negsuc m) (pos n) u v p q = absurd (omega arith)
diff_one (negsuc m) (negsuc n) u v p q = ap negsuc (omega arith)

diff_neg : (m u v : ℕ) → u + m ≡ v → Diff (neg_ℤ (pos m)) u v
diff_neg zero u v h = omega arith
diff_neg (suc m) u v h = h

diff_sub : (a b u v : ℕ) → a + v ≡ u + b → Diff (sub_ℕ a b) u v
diff_sub a b u v e = go (ltb a b) (ltb→lt a b) (nltb→le a b)
  where
    go : (c : Bool) → (T c → a < b) → (T (not c) → b ≤ a) → Diff (cond c (negsuc (b - suc a)) (pos (a - b))) u v
    go true p q = omega (arith, p tt)
    go false p q = omega (arith, q tt)

pub diff_add : (z w : ℤ) (u v s t : ℕ) → Diff z u v → Diff w s t → Diff (z +ℤ w) (u + s) (v + t)
diff_add (pos a) (pos b) u v s t p q = omega arith
diff_add (pos a) (negsuc b) u v s t p q = diff_sub a (suc b) (u + s) (v + t) (omega arith)
diff_add (negsuc a) (pos b) u v s t p q = diff_sub b (suc a) (u + s) (v + t) (omega arith)
diff_add (negsuc a) (negsuc b) u v s t p q = omega arith

pub diff_mul : (z : ℤ) (k u v : ℕ) → Diff z u v → Diff (z *ℤ pos k) (u * k) (v * k)
diff_mul (pos n) k u v h = omega (arith, ap (λ (t : ℕ). t * k) h)
diff_mul (negsuc n) k u v h = diff_neg (suc n * k) (u * k) (v * k) (omega (arith, ap (λ (t : ℕ). t * k) h))

-- ---- rounding down

-- a multiple of b and a remainder
diff_parts : (q : ℤ) (b m s t : ℕ) → Diff q s t → Diff (q *ℤ pos b +ℤ pos m) (s * b + m) (t * b)
diff_parts q b m s t d =
    diff_to (q *ℤ pos b +ℤ pos m) refl (omega arith) (diff_add (q *ℤ pos b) (pos m) (s * b) (t * b) m 0 (diff_mul q b s t d) (omega arith))

-- division with a remainder from 0 to b - 1
pub rounds_down : (z : ℤ) (b : ℕ) → 0 < b → (m : ℕ) × (m < b) × (floor_div z b *ℤ pos b +ℤ pos m ≡ z)
unfolding floor_div
rounds_down (pos n) b h = (
  n % b,
  mod-lt n h,
  diff_one _ (pos n) (n / b * b + n % b) (0 * b)
      (diff_parts (floor_div (pos n) b) b (n % b) (n / b) 0 (omega arith)) (omega (arith, div-add-mod' n b)),
)
rounds_down (negsuc n) b h =
    let m = b - suc (n % b) in (
      m,
      omega arith,
      diff_one _ (negsuc n) (0 * b + m) (suc (n / b) * b)
          (diff_parts (floor_div (negsuc n) b) b m 0 (suc (n / b)) (omega arith)) (omega (arith, div-add-mod' n b, mod-lt n h)),
    )

-- s - t ≤ (u - v)/b < s - t + 1
pub diff_floor : (z : ℤ) (b u v s t : ℕ) → 0 < b → Diff z u v → Diff (floor_div z b) s t → (s * b + v ≤ u + t * b) × (u + t * b < s * b + v + b)
diff_floor z b u v s t h p q =
    let d = rounds_down z b h in
    let e = diff_same z u v (s * b + d.0) (t * b) p (subst (λ (x : ℤ). Diff x (s * b + d.0) (t * b)) d.2 (diff_parts (floor_div z b) b d.0 s t q)) in
    (omega arith, omega (arith, d.1))
