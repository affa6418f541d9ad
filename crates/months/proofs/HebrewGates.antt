-- The first day of a Hebrew year and of the next from one new moon, by where in the week it falls.
use mathlib.Core.Path.{◌≡◌, refl, sym, ap, ◌∙◌}
use mathlib.Core.Bool.{Bool, true, false, cond}
use Prim.Native.Nat.{ℕ, suc, ◌+◌, ◌-◌, ◌*◌, ◌/◌, ◌%◌, ◌≤◌, ◌<◌}
use native.Mathlib.Decide.{dec_lt}
use native.Mathlib.Omega.{arith}
use lib.Dec.{ltb}
use borrow.Author.Tests.{le-leb, lt-leb, ltb-true, ltb-false}
use Rattle.basics.proofs.Cases.{cond_elim}
use Rattle.hebrew.specs.Hebrew.{leap, moon, new_year, year_days}
use Rattle.hebrew.proofs.Months.{not_twice}
use Rattle.hebrew.proofs.Bounds.{moon_closed}
use Rattle.hebrew.proofs.Gates.{Handed, Begins, at_gate, Apart}
use Rattle.hebrew.proofs.Rules.{handed, monday_le, tuesday_le}
use Rattle.hebrew.proofs.Lengths.{moment, begins, year_length}
use Rattle.hebrew.proofs.SixKinds.{kind_of, year_kind}
use Rattle.months.proofs.Years.{flag}
use Rattle.months.specs.Hebrew.{HebrewYear, months_to, gate_days, next_days}

-- ---- months

pub leap_number : (y : ℕ) → months_to (y + 1) ≡ months_to y + 12 + cond (leap y) 1 0
unfolding leap
leap_number y =
    let w : ℕ = 7 * y + 1 in
    let p : months_to y ≡ 12 * y + (w + 12) / 19 = omega arith in
    let q : months_to (y + 1) ≡ 12 * y + 12 + (w + 19) / 19 = omega arith in
    let d : (w + 19) / 19 ≡ w / 19 + 1 = omega arith in
    cond_elim (λ (k : ℕ). months_to (y + 1) ≡ months_to y + 12 + k) (ltb (w % 19) 7) 1 0
    (λ h. sums (months_to y) (months_to (y + 1)) y ((w + 12) / 19) ((w + 19) / 19) (w / 19 + 1) 1 p q d (low w (ltb-true (w % 19) 7 h)))
    (λ h. sums (months_to y) (months_to (y + 1)) y ((w + 12) / 19) ((w + 19) / 19) (w / 19 + 1) 0 p q d (high w (ltb-false (w % 19) 7 h)))
  where
    low : (w : ℕ) → w % 19 < 7 → w / 19 + 1 ≡ (w + 12) / 19 + 1
    low w h = omega arith

    high : (w : ℕ) → 7 ≤ w % 19 → w / 19 + 1 ≡ (w + 12) / 19 + 0
    high w h = omega arith

    sums : (x y z u v t k : ℕ) → x ≡ 12 * z + u → y ≡ 12 * z + 12 + v → v ≡ t → t ≡ u + k → y ≡ x + 12 + k
    sums x y z u v t k a b c d = omega arith

pub moon_is : (y : ℕ) → 1 ≤ y → months_to y * 765433 - 9938545 ≡ moon y + 6480
moon_is y h =
    let e : months_to y ≡ (235 * y - 234) / 19 + 13 = omega arith in
    omega (arith, moon_closed y h)

-- ---- the days by the parts of the week

module _ (r a b : ℕ) (h : a ≤ b) (k : b ≤ 103680) where
  gate_0 : r < a → gate_days r a b ≡ 0
  gate_0 l = rw (lt-leb a r l, lt-leb b r (omega arith), lt-leb 103680 r (omega arith), lt-leb 155520 r (omega arith)) refl

  gate_1 : a ≤ r → r < b → gate_days r a b ≡ 1
  gate_1 m l = rw (le-leb a r m, lt-leb b r l, lt-leb 103680 r (omega arith), lt-leb 155520 r (omega arith)) refl

  gate_3 : b ≤ r → r < 103680 → gate_days r a b ≡ 3
  gate_3 m l = rw (le-leb a r (omega arith), le-leb b r m, lt-leb 103680 r l, lt-leb 155520 r (omega arith)) refl

  gate_5 : 103680 ≤ r → r < 155520 → gate_days r a b ≡ 5
  gate_5 m l = rw (le-leb a r (omega arith), le-leb b r (omega arith), le-leb 103680 r m, lt-leb 155520 r l) refl

  gate_7 : 155520 ≤ r → gate_days r a b ≡ 7
  gate_7 m = rw (le-leb a r (omega arith), le-leb b r (omega arith), le-leb 103680 r (omega arith), le-leb 155520 r m) refl

module _ (r a b : ℕ) (g : 155520 ≤ a) (h : a ≤ b) (k : b ≤ 285120) where
  next_0 : r < 155520 → next_days r a b ≡ 0
  next_0 l = rw (lt-leb a r (omega arith), lt-leb 155520 r l, lt-leb b r (omega arith), lt-leb 285120 r (omega arith)) refl

  next_2 : 155520 ≤ r → r < a → next_days r a b ≡ 2
  next_2 m l = rw (lt-leb a r l, le-leb 155520 r m, lt-leb b r (omega arith), lt-leb 285120 r (omega arith)) refl

  next_3 : a ≤ r → r < b → next_days r a b ≡ 3
  next_3 m l = rw (le-leb a r m, le-leb 155520 r (omega arith), lt-leb b r l, lt-leb 285120 r (omega arith)) refl

  next_5 : b ≤ r → r < 285120 → next_days r a b ≡ 5
  next_5 m l = rw (le-leb a r (omega arith), le-leb 155520 r (omega arith), le-leb b r m, lt-leb 285120 r l) refl

  next_7 : 285120 ≤ r → next_days r a b ≡ 7
  next_7 m = rw (le-leb a r (omega arith), le-leb 155520 r (omega arith), le-leb b r (omega arith), le-leb 285120 r m) refl

-- ---- the first day by its gate

module _ {h : Handed} {n : ℕ} (ma : h.monday ≤ 2651) (tu : h.tuesday ≤ 9516) where
  -- a new moon r parts into week w
  first_day_lem : (w r : ℕ) → r < 181440 → Begins h h (25920 * 347998 + (181440 * w + r)) n
      → n ≡ 347998 + 7 * w + gate_days r (25920 - h.monday) (51840 - h.tuesday)
  first_day_lem w r l b = go (dec_lt r A) (dec_lt r B) (dec_lt r 103680) (dec_lt r 155520)
    where
      A : ℕ
      A = 25920 - h.monday

      B : ℕ
      B = 51840 - h.tuesday

      Is : ℕ → Type 0
      Is d = n ≡ 347998 + 7 * w + d

      to : (d : ℕ) → gate_days r A B ≡ d → Is d → Is (gate_days r A B)
      to d e i = rw e i

      go : Dec (r < A) → Dec (r < B) → Dec (r < 103680) → Dec (r < 155520) → Is (gate_days r A B)
      go (yes p) q s t = to 0 (gate_0 r A B (omega arith) (omega arith) p) (at_gate b (λ (k : ℕ). n ≡ 347998 + 7 * w + 0) (omega arith))
      go (no p) (yes q) s t = to 1 (gate_1 r A B (omega arith) (omega arith) (omega arith) q) (at_gate b (λ (k : ℕ). n ≡ 347998 + 7 * w + 1) (omega arith))
      go (no p) (no q) (yes s) t = to 3 (gate_3 r A B (omega arith) (omega arith) (omega arith) s) (at_gate b (λ (k : ℕ). n ≡ 347998 + 7 * w + 3) (omega arith))
      go (no p) (no q) (no s) (yes t) =
          to 5 (gate_5 r A B (omega arith) (omega arith) (omega arith) t) (at_gate b (λ (k : ℕ). n ≡ 347998 + 7 * w + 5) (omega arith))
      go (no p) (no q) (no s) (no t) =
          to 7 (gate_7 r A B (omega arith) (omega arith) (omega arith)) (at_gate b (λ (k : ℕ). n ≡ 347998 + 7 * w + 7) (omega arith))

  -- a new moon r parts after the beginning of week w, late in it or in the next
  next_day : (w r : ℕ) → 103680 ≤ r → r < 336960 → Begins h h (25920 * 347998 + (181440 * w + r)) n
      → n ≡ 348003 + 7 * w + next_days r (207360 - h.monday) (233280 - h.tuesday)
  next_day w r u l b = go (dec_lt r 155520) (dec_lt r A) (dec_lt r B) (dec_lt r 285120)
    where
      A : ℕ
      A = 207360 - h.monday

      B : ℕ
      B = 233280 - h.tuesday

      Is : ℕ → Type 0
      Is d = n ≡ 348003 + 7 * w + d

      to : (d : ℕ) → next_days r A B ≡ d → Is d → Is (next_days r A B)
      to d e i = rw e i

      go : Dec (r < 155520) → Dec (r < A) → Dec (r < B) → Dec (r < 285120) → Is (next_days r A B)
      go (yes p) q s t = to 0 (next_0 r A B (omega arith) (omega arith) (omega arith) p) (at_gate b (λ (k : ℕ). n ≡ 348003 + 7 * w + 0) (omega arith))
      go (no p) (yes q) s t =
          to 2 (next_2 r A B (omega arith) (omega arith) (omega arith) (omega arith) q) (at_gate b (λ (k : ℕ). n ≡ 348003 + 7 * w + 2) (omega arith))
      go (no p) (no q) (yes s) t =
          to 3 (next_3 r A B (omega arith) (omega arith) (omega arith) (omega arith) s) (at_gate b (λ (k : ℕ). n ≡ 348003 + 7 * w + 3) (omega arith))
      go (no p) (no q) (no s) (yes t) =
          to 5 (next_5 r A B (omega arith) (omega arith) (omega arith) (omega arith) t) (at_gate b (λ (k : ℕ). n ≡ 348003 + 7 * w + 5) (omega arith))
      go (no p) (no q) (no s) (no t) =
          to 7 (next_7 r A B (omega arith) (omega arith) (omega arith) (omega arith)) (at_gate b (λ (k : ℕ). n ≡ 348003 + 7 * w + 7) (omega arith))

-- ---- a year

-- what is handed on, from the numbers
handed_monday : (c p : Bool) → (p ≡ true → c ≡ false) → (handed c p).monday ≡ 2651 * cond p 1 0
handed_monday true true h = let z : ◌≡◌ {A = ℕ} 0 1 = ap (λ (t : Bool). cond t 1 0) (sym (h refl)) in absurd (omega arith)
handed_monday true false h = refl
handed_monday false true h = refl
handed_monday false false h = refl

handed_tuesday : (c p : Bool) → 51840 - (handed c p).tuesday ≡ 42324 + 9516 * cond c 1 0
handed_tuesday true p = refl
handed_tuesday false p = refl

module _ (y : ℕ) (h : 1 ≤ y) where
  -- the leap years around it, as numbers
  before : ℕ
  before = cond (leap (y - 1)) 1 0

  now : ℕ
  now = cond (leap y) 1 0

  after : ℕ
  after = cond (leap (y + 1)) 1 0

  m : ℕ
  m = moon y + 6480

  here : ℕ
  here = gate_days (m % 181440) (25920 - 2651 * before) (42324 + 9516 * now)

  there : ℕ
  there = next_days (m % 181440 + 113196 + 39673 * now) (207360 - 2651 * now) (223764 + 9516 * after)

  twice : (x : ℕ) → 1 ≤ x → leap (x - 1) ≡ true → leap x ≡ false
  twice x l t = let e : suc (x - 1) ≡ x = omega arith in ap leap (sym e) ∙ not_twice (x - 1) t

  this_year : new_year y ≡ 347998 + 7 * (m / 181440) + here
  unfolding moment before now m here
  this_year =
      let c = leap y in
      let p = leap (y - 1) in
      let e : 25920 * 347998 + moon y + 6480 ≡ 25920 * 347998 + (181440 * (m / 181440) + m % 181440) = omega arith in
      let a : 25920 - (handed c p).monday ≡ 25920 - 2651 * before = ap (λ (k : ℕ). 25920 - k) (handed_monday c p (twice y h)) in
      first_day_lem (monday_le c p) (tuesday_le c p) (m / 181440) (m % 181440) (omega arith) (rw e at (begins y))
      ∙ ap (λ (k : ℕ). 347998 + 7 * (m / 181440) + gate_days (m % 181440) k (51840 - (handed c p).tuesday)) a
      ∙ ap (λ (k : ℕ). 347998 + 7 * (m / 181440) + gate_days (m % 181440) (25920 - 2651 * before) k) (handed_tuesday c p)

  next_moon : moon (y + 1) + 6480 ≡ 181440 * (m / 181440 + 50 + 4 * now) + (m % 181440 + 113196 + 39673 * now)
  unfolding m now
  next_moon =
      let e = leap_number y in
      let b : 13 ≤ months_to y = omega arith in
      let p : months_to (y + 1) * 765433 ≡ months_to y * 765433 + 9185196 + 765433 * cond (leap y) 1 0 = ap (λ (k : ℕ). k * 765433) e ∙ omega arith in
      let q : m ≡ 181440 * (m / 181440) + m % 181440 = omega arith in
      sums _ _ _ _ _ _ _ (moon_is y h) (moon_is (y + 1) (omega arith)) p (omega arith) q
    where
      sums : (x x' m m' l w r : ℕ) → x - 9938545 ≡ m → x' - 9938545 ≡ m' → x' ≡ x + 9185196 + 765433 * l → 9938545 ≤ x → m ≡ 181440 * w + r
          → m' ≡ 181440 * (w + 50 + 4 * l) + (r + 113196 + 39673 * l)
      sums x x' m m' l w r a b c d e = omega arith

  next_year : new_year (y + 1) ≡ 348003 + 7 * (m / 181440 + 50 + 4 * now) + there
  unfolding moment now after there
  next_year =
      let c = leap (y + 1) in
      let p = leap (y + 1 - 1) in
      let w : ℕ = m / 181440 + 50 + 4 * now in
      let far : ℕ = m % 181440 + 113196 + 39673 * now in
      let i : y + 1 - 1 ≡ y = omega arith in
      let e : 25920 * 347998 + moon (y + 1) + 6480 ≡ 25920 * 347998 + (181440 * w + far) = omega (arith, next_moon) in
      let a : 207360 - (handed c p).monday ≡ 207360 - 2651 * now =
      ap (λ (k : ℕ). 207360 - k) (handed_monday c p (twice (y + 1) (omega arith)) ∙ ap (λ (k : ℕ). 2651 * cond (leap k) 1 0) i) in
      let b : 233280 - (handed c p).tuesday ≡ 223764 + 9516 * after = omega (arith, handed_tuesday c p, tuesday_le c p) in
      next_day (monday_le c p) (tuesday_le c p) w far (omega arith) (omega (arith, flag (leap y))) (rw e at (begins (y + 1)))
      ∙ ap (λ (k : ℕ). 348003 + 7 * w + next_days far k (233280 - (handed c p).tuesday)) a
      ∙ ap (λ (k : ℕ). 348003 + 7 * w + next_days far (207360 - 2651 * now) k) b

  kind_of_lem : (here ≤ there + now + 2) × (there + now + 2 - here ≡ kind_of (leap y) (year_days y))
  unfolding kind_of now
  kind_of_lem = go (leap y) (year_length y h) this_year next_year
    where
      go : (t : Bool) → Apart (cond t 383 353) (new_year y) (new_year (y + 1)) → new_year y ≡ 347998 + 7 * (m / 181440) + here
          → new_year (y + 1) ≡ 348003 + 7 * (m / 181440 + 50 + 4 * cond t 1 0) + there
          → (here ≤ there + cond t 1 0 + 2) × (there + cond t 1 0 + 2 - here ≡ cond t (year_days y - 380) (year_days y - 353))
      go true a e f = omega arith
      go false a e f = omega arith

pub year_found : (y : ℕ) → 1 ≤ y
    → let before = cond {A = ℕ} (leap (y - 1)) 1 0 in let now = cond {A = ℕ} (leap y) 1 0 in let after = cond {A = ℕ}
    (leap (y + 1)) 1 0 in let m = moon y + 6480 in
    let here = gate_days (m % 181440) (25920 - 2651 * before) (42324 + 9516 * now) in
    let there = next_days (m % 181440 + 113196 + 39673 * now) (207360 - 2651 * now) (223764 + 9516 * after) in
    (here ≤ there + now + 2) × HebrewYear y (347998 + 7 * (m / 181440) + here) now (there + now + 2 - here)
unfolding before now after m here there
year_found y h =
    let k = kind_of_lem y h in
    let q = year_kind y h in
    (k.0, record { begins = sym (this_year y h); leap_is = refl; kind_is = k.1; below = omega (arith, q.below, k.1) })
