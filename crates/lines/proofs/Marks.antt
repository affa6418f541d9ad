-- Laws of marks: what a line yields is the step between two of them; those of a line with natural a and r, where n lies between two, and how one follows
-- from the one before.
use mathlib.Core.Path.{◌≡◌, refl, sym, ap, ◌∙◌}
use mathlib.Core.Logic.{◌↔◌}
use mathlib.Core.Bool.{Bool, true, false, cond}
use Prim.Native.Nat.{ℕ, suc, ◌+◌, ◌-◌, ◌*◌, ◌/◌, ◌%◌, ◌≤◌, ◌<◌}
use native.Mathlib.Omega.{arith}
use native.Mathlib.Nat.{div-lt_iff_lt-mul, le-div_iff_mul-le, suc-mul, mul_comm, div-eq_of_lt, mul-zero, mul-suc, mul-add-div_right}
use native.Mathlib.Nat.{div-add-mod', mod-lt, div-eq_of_lt-le}
use lib.Dec.{ltb}
use lib.IntN.{ℤ, pos, ◌+ℤ◌, ◌-ℤ◌, ◌*ℤ◌, +ℤ-neg_ℤ_cancel, -ℤ-+ℤ_cancel}
use borrow.Author.Tests.{ltb-true, ltb-false}
use Rattle.lines.specs.Line.{Line, natural, floor_div, mark, yields}
use Rattle.lines.specs.Marks.{mark_at}

-- ---- marks over the whole numbers, at a place that is k

pub mark_is : (l : Line) (k : ℕ) → mark l k ≡ floor_div (l.a *ℤ pos k +ℤ l.r) l.b
unfolding mark
mark_is l k = ap (λ (x : ℕ). floor_div (l.a *ℤ pos x +ℤ l.r) l.b) (omega arith)

yields_is : (l : Line) (k : ℕ) → yields l k ≡ mark l (suc k) -ℤ mark l k
unfolding yields
yields_is l k = at (omega arith) (omega arith)
  where
    at : {x y : ℕ} → x ≡ suc k → y ≡ k → mark l x -ℤ mark l y ≡ mark l (suc k) -ℤ mark l k
    at p q = λ i. mark l (p i) -ℤ mark l (q i)

pub mark_next : (l : Line) (k : ℕ) {c : ℤ} → yields l k ≡ c → c +ℤ mark l k ≡ mark l (suc k)
mark_next l k e = ap (λ z. z +ℤ mark l k) (sym e ∙ yields_is l k) ∙ -ℤ-+ℤ_cancel (mark l (suc k)) (mark l k)

-- ---- and of a line with natural a and r

mark_natural : (a b r k : ℕ) → mark (natural a b r) k ≡ pos (mark_at a b r k)
unfolding floor_div mark_at
mark_natural a b r k = mark_is (natural a b r) k ∙ ap (λ (x : ℕ). pos (x / b)) (omega arith)

pub yields_natural : (a b r k c : ℕ) → mark_at a b r (suc k) ≡ c + mark_at a b r k → yields (natural a b r) k ≡ pos c
yields_natural a b r k c e =
    yields_is (natural a b r) k
    ∙ ap (λ z. z -ℤ mark (natural a b r) k) (mark_natural a b r (suc k) ∙ ap pos e)
    ∙ ap (λ z. pos (c + mark_at a b r k) -ℤ z) (mark_natural a b r k)
    ∙ +ℤ-neg_ℤ_cancel (pos c) (pos (mark_at a b r k))

-- ---- the way back

-- the last k whose mark is at most n
unfoldable pub last_at : ℕ → ℕ → ℕ → ℕ → ℕ
last_at a b r n = (b * n + (b - 1 - r)) / a

-- the mark at k is at most n exactly for the k up to last_at n
pub mark_le : (a b r n k : ℕ) → 0 < a → r < b → (mark_at a b r k ≤ n) ↔ (k ≤ last_at a b r n)
unfolding mark_at last_at
mark_le a b r n k ha hr =
    let e = suc-mul n b in
    let f = mul_comm n b in
    let g = mul_comm k a in
    let hb : 0 < b = omega arith in (
      (λ h. (le-div_iff_mul-le ha).1 (omega (arith, (div-lt_iff_lt-mul {x = a * k + r} {y = suc n} hb).0 (omega arith)))),
      (λ h. omega (arith, (div-lt_iff_lt-mul {x = a * k + r} {y = suc n} hb).1 (omega (arith, (le-div_iff_mul-le {x = k} ha).0 h)))),
    )

-- so n lies between the mark at last_at n and the next
pub mark_between : (a b r n : ℕ) → 0 < a → r < b → (mark_at a b r (last_at a b r n) ≤ n) × (n < mark_at a b r (suc (last_at a b r n)))
mark_between a b r n ha hr =
    let up : mark_at a b r (suc (last_at a b r n)) ≤ n → ⊥ = λ h. omega (arith, (mark_le a b r n (suc (last_at a b r n)) ha hr).0 h) in
    ((mark_le a b r n (last_at a b r n) ha hr).1 (omega arith), omega (arith, up))

pub mark_zero : (a b r : ℕ) → r < b → mark_at a b r 0 ≡ 0
unfolding mark_at
mark_zero a b r h = rw mul-zero (div-eq_of_lt (omega arith))

-- ---- the step from one mark to the next: the whole part p of the slope p + q/b, and one more where the remainders carry

-- 1 where the remainder at k and q make a whole b
unfoldable pub carry : ℕ → ℕ → ℕ → ℕ → ℕ
carry q b r k = cond (ltb ((q * k + r) % b + q) b) 0 1

pub part_step : (q b r k : ℕ) → q ≤ b → 0 < b → (q * suc k + r) / b ≡ (q * k + r) / b + carry q b r k
unfolding carry
part_step q b r k hq hb = go (ltb (R + q) b) refl
  where
    Q : ℕ
    Q = (q * k + r) / b

    R : ℕ
    R = (q * k + r) % b

    x : Q * b + R ≡ q * k + r
    x = div-add-mod' (q * k + r) b

    l : R < b
    l = mod-lt (q * k + r) hb

    n : q * suc k ≡ q * k + q
    n = mul-suc q k

    go : (c : Bool) → ltb (R + q) b ≡ c → (q * suc k + r) / b ≡ Q + cond c 0 1
    go true h = div-eq_of_lt-le b (omega (arith, x, n)) (omega (arith, x, n, ltb-true (R + q) b h))
    go false h = div-eq_of_lt-le b (omega (arith, x, n, ltb-false (R + q) b h)) (omega (arith, x, n, l))

part : (p q b r k : ℕ) → 0 < b → mark_at (p * b + q) b r k ≡ p * k + (q * k + r) / b
unfolding mark_at
part p q b r k hb =
    let e : (p * b + q) * k + r ≡ p * k * b + (q * k + r) = omega arith in
    ap (λ (m : ℕ). m / b) e ∙ mul-add-div_right hb (p * k) (q * k + r)

pub mark_step : (p q b r k : ℕ) → q ≤ b → 0 < b → mark_at (p * b + q) b r (suc k) ≡ mark_at (p * b + q) b r k + (p + carry q b r k)
mark_step p q b r k hq hb = omega (arith, part p q b r k hb, part p q b r (suc k) hb, mul-suc p k, part_step q b r k hq hb)
