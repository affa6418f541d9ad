-- The rules of the first day give the four gates.
use Prim.Native.Nat.{ℕ, zero, suc, ◌+◌, ◌*◌, ◌%◌, ◌≤◌, ◌<◌}
use mathlib.Core.Path.{◌≡◌, refl}
use mathlib.Core.Bool.{Bool, true, false, cond, not, ◌&&◌}
use mathlib.Core.List.{[], ◌∷◌}
use native.Mathlib.Omega.{arith}
use lib.Dec.{leb, eqb}
use lib.ListN.{get_or}
use borrow.Author.Tests.{leb-true, leb-false, eqb-true}
use Rattle.basics.proofs.Cases.{both, cond_elim, each}
use Rattle.hebrew.specs.Hebrew.{first_hour, second_hour, third_hour, second_applies, third_applies, moved, fourth_applies, fourth}
use Rattle.hebrew.proofs.Gates.{Handed, hand, gate, By, Begins}

-- what is handed on, where c and p say whether the year and the one before are leap: by rule 3 in a common year after a leap year, by rule 2 in a common year
abbrev pub handed : Bool → Bool → Handed
handed c p = hand (cond (not c && p) 2651 0) (cond c 0 9516)

pub monday_le : (c p : Bool) → (handed c p).monday ≤ 2651
monday_le true p = omega arith
monday_le false true = omega arith
monday_le false false = omega arith

pub tuesday_le : (c p : Bool) → (handed c p).tuesday ≤ 9516
tuesday_le true p = omega arith
tuesday_le false p = omega arith

-- nothing by rule 3 after a common year
pub monday_none : (c : Bool) → (handed c false).monday ≤ 0
monday_none true = omega arith
monday_none false = omega arith

-- ---- rule 4: by weekday, the gate, and what is handed on of the day

abbrev gate_of : ℕ → ℕ
gate_of w = get_or (0 ∷ 1 ∷ 2 ∷ 2 ∷ 3 ∷ 3 ∷ 0 ∷ []) w 0

abbrev handed_at : Handed → ℕ → ℕ
handed_at h w = get_or (h.monday ∷ h.tuesday ∷ []) w 0

handed_le : (h : Handed) (w : ℕ) → h.monday ≤ 2651 → h.tuesday ≤ 9516 → handed_at h w ≤ 9516
handed_le h zero a b = omega arith
handed_le h (suc zero) a b = omega arith
handed_le h (suc (suc w)) a b = omega arith

-- the new moon is on the day, before what is handed on
settle : (h : Handed) (m day : ℕ) → h.monday ≤ 2651 → 25920 * day ≤ m → m + handed_at h (day % 7) < 25920 * (day + 1) → Begins h h m (fourth day)
unfolding fourth fourth_applies
settle h m day s a b =
    record {
      number = gate_of (day % 7);
      one_of_4 = each 7 (λ (w : ℕ). gate_of w < 4) (omega arith) (day % 7) (omega arith);
      by =
          each 7 (λ (w : ℕ). day % 7 ≡ w → m + handed_at h w < 25920 * (day + 1) → By (gate h h (gate_of w)) m (cond (fourth_applies w) (day + 1) day))
          (omega arith) (day % 7) (omega arith) refl b;
    }

-- a day that rule 4 leaves
stays : (day w : ℕ) → day % 7 ≡ w → fourth_applies w ≡ false → fourth day ≡ day
unfolding fourth
stays day w e h = rw (e, h) refl

-- ---- rules 2 and 3

-- the new moon's day and hour, before 18 hours
module _ (d t : ℕ) (early : t < first_hour) where
  -- rule 2 is used: Thursday
  thursday : (c p : Bool) → second_applies c (d % 7) t ≡ true → Begins (handed c p) (handed c p) (25920 * d + t + 6480) (fourth (d + 2))
  unfolding second_applies fourth_applies
  thursday true p h = let z : ◌≡◌ {A = ℕ} 0 1 = cc in absurd (omega arith)
  thursday false p h =
      let a = both (eqb (d % 7) 1) (leb second_hour t) h in
      let w : d % 7 ≡ 1 = eqb-true (d % 7) 1 a.0 in
      let l = leb-true second_hour t a.1 in
      rw (stays (d + 2) 3 (omega arith) refl) (record { number = 2; one_of_4 = omega arith; by = omega arith })

  -- rule 3 is used: Tuesday
  tuesday : (c p : Bool) → third_applies c p (d % 7) t ≡ true → Begins (handed c p) (handed c p) (25920 * d + t + 6480) (fourth (d + 1))
  unfolding third_applies fourth_applies
  tuesday true p h = let z : ◌≡◌ {A = ℕ} 0 1 = cc in absurd (omega arith)
  tuesday false false h = let z : ◌≡◌ {A = ℕ} 0 1 = cc in absurd (omega arith)
  tuesday false true h =
      let a = both (eqb (d % 7) 0) (leb third_hour t) h in
      let w : d % 7 ≡ 0 = eqb-true (d % 7) 0 a.0 in
      let l = leb-true third_hour t a.1 in
      rw (stays (d + 1) 1 (omega arith) refl) (record { number = 1; one_of_4 = omega arith; by = omega arith })

  -- neither is: the new moon is before what is handed on
  neither : (c p : Bool) (w : ℕ) → second_applies c w t ≡ false → third_applies c p w t ≡ false → t + 6480 + handed_at (handed c p) w < 25920
  unfolding second_applies third_applies
  neither c p (suc (suc w)) h k = omega arith
  neither true p (suc zero) h k = omega arith
  neither false p (suc zero) h k = omega (arith, leb-false second_hour t h)
  neither true p zero h k = omega arith
  neither false false zero h k = omega arith
  neither false true zero h k = omega (arith, leb-false third_hour t k)

-- ---- all four: c and p say whether the year and the one before are leap, d and t are the new moon's day and hour

pub rules : (c p : Bool) (d t : ℕ) → t < 25920 → Begins (handed c p) (handed c p) (25920 * d + t + 6480) (fourth (moved c p d t))
unfolding moved
rules c p d t h =
    cond_elim To (leb first_hour t) (d + 1) _
    (λ l. let a = leb-true first_hour t l in
    settle (handed c p) m (d + 1) (monday_le c p) (omega arith) (omega (arith, handed_le (handed c p) ((d + 1) % 7) (monday_le c p) (tuesday_le c p))))
    (λ l. let a = leb-false first_hour t l in
    cond_elim To (second_applies c (d % 7) t) (d + 2) _ (thursday d t a c p)
    (λ i. cond_elim To (third_applies c p (d % 7) t) (d + 1) d (tuesday d t a c p)
    (λ j. settle (handed c p) m d (monday_le c p) (omega arith) (omega (arith, neither d t a c p (d % 7) i j)))))
  where
    m : ℕ
    m = 25920 * d + t + 6480

    To : ℕ → Type 0
    To day = Begins (handed c p) (handed c p) m (fourth day)
