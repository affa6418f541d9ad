-- The Hebrew calendar: a position of a year and the date of a day, by the formulas that code works out.
use mathlib.Core.Path.{◌≡◌, refl, sym, ap, ◌∙◌}
use mathlib.Core.Bool.{Bool, true, false, cond, ◌&&◌}
use mathlib.Core.List.{List, []}
use Prim.Native.Nat.{ℕ, ◌+◌, ◌-◌, ◌*◌, ◌/◌, ◌%◌, ◌^◌, ◌≤◌, ◌<◌}
use native.Mathlib.Omega.{arith}
use lib.Dec.{eqb, leb, ltb}
use lib.IntN.{ℤ, pos}
use lib.ListN.{length, take, get_or}
use borrow.Author.Tests.{eq-eqb, ne_eqb, eqb-true, ltb-true, leb-true, le-leb, lt-leb}
use Rattle.basics.specs.Every.{every}
use Rattle.basics.proofs.Cases.{both}
use Rattle.basics.proofs.Every.{every_at}
use Rattle.counting.specs.Calendar.{total, start}
use Rattle.hebrew.specs.Hebrew.{leap, new_year, year_days, kinds, lengths}
use Rattle.hebrew.proofs.Calendar.{YearOf, start_is}
use Rattle.hebrew.proofs.Gates.{Apart}
use Rattle.hebrew.proofs.Lengths.{year_length}
use Rattle.hebrew.proofs.SixKinds.{totals, kind_of, year_kind, lengths_row, row_length}
use Rattle.hebrew.specs.Years.{years as hebrew_years}
use Rattle.counting.specs.Answers.{years}
use Rattle.counting.proofs.Starts.{start_same}
use Rattle.calendar_rules.specs.Calendars.{hebrew}
use Rattle.calendar_rules.proofs.HebrewYears.{hebrew_row, hebrew_kind}
use Rattle.calendar_rules.proofs.Bounds.{has_days, hebrew_bounded}
use Rattle.months.specs.Parts.{MonthOf, DateIs, length_at}
use Rattle.months.specs.Hebrew.{HebrewYear, short, month_before, month_of}
use Rattle.months.proofs.Tested.{places_all, tested_date, tested_month}

-- ---- the six kinds, tested

-- whether a kind is leap
abbrev long : ℕ → ℕ
long k = cond (leb 3 k) 1 0

over : (f : ℕ → ℕ → Bool) (n : ℕ) → every (λ k. every (f k) n) 6 ≡ true → (k : ℕ) → k < 6 → every (f k) n ≡ true
over f n t k h = every_at (λ k. every (f k) n) 6 t k h

room_test : every (λ k. every (λ q. leb (short k / 2 ^ (4 * q) % 16) (30 * q)) 14) 6 ≡ true
unfolding every
room_test = refl

-- what code takes away is there
pub month_room : (k q : ℕ) → k < 6 → q < 14 → short k / 2 ^ (4 * q) % 16 ≤ 30 * q
month_room k q h l =
    leb-true (short k / 2 ^ (4 * q) % 16) (30 * q)
    (every_at (λ q. leb (short k / 2 ^ (4 * q) % 16) (30 * q)) 14 (over (λ k q. leb (short k / 2 ^ (4 * q) % 16) (30 * q)) 14 room_test k h) q l)

-- as code has it, with no number below 0
pub month_of_is : (l p : ℕ) → l ≤ 1 → p ≤ 12 → (1 ≤ cond (ltb 6 p) (p + l) (p + 1)) × (cond (ltb 6 p) (p + l) (p + 1) - 1 ≡ month_of l p) × (month_of l p < 13)
month_of_is l p h k = go (ltb 6 p) refl
  where
    go : (t : Bool) → ltb 6 p ≡ t → (1 ≤ cond t (p + l) (p + 1)) × (cond t (p + l) (p + 1) - 1 ≡ cond t (p + l - 1) p) × (cond t (p + l - 1) p < 13)
    go true e = omega (arith, ltb-true 6 p e)
    go false e = omega arith

-- a month has the days that those before the next are more; position 7 of a common year, which is no month, has none
abbrev none : ℕ → ℕ → Bool
none k p = eqb (p + 8 * long k) 6

abbrev length_test : ℕ → ℕ → Bool
length_test k p =
    let q = month_of (long k) p in
    let len = get_or (get_or kinds k []) p 0 in
    cond (none k p) (eqb len 0) (ltb (month_before k q) (month_before k (q + 1)) && eqb (month_before k (q + 1) - month_before k q) len)

length_test_lem : every (λ k. every (length_test k) 13) 6 ≡ true
unfolding every
length_test_lem = refl

before_test : every (λ k. every (λ p. eqb (month_before k (month_of (long k) p)) (total (take p (get_or kinds k [])))) 13) 6 ≡ true
unfolding every total
before_test = refl

-- the month that day r of the year is in or is one before, and the step from it
abbrev pub found_month : ℕ → ℕ → ℕ
found_month k r = cond (leb (month_before k (r / 32 + 1)) r) (r / 32 + 1) (r / 32)

abbrev pub found_before : ℕ → ℕ → ℕ
found_before k r = cond (leb (month_before k (r / 32 + 1)) r) (month_before k (r / 32 + 1)) (month_before k (r / 32))

-- its position
abbrev pub position_of : ℕ → ℕ → ℕ
position_of l q = q + cond (leb (6 + 13 * l) q) 1 0

days_test : every (λ k. places_all (get_or kinds k []) (λ r. position_of (long k) (found_month k r)) (λ r. r - found_before k r) (get_or totals k 0)) 6 ≡ true
unfolding every total
days_test = refl

begun_test : every (λ k. every (λ r. leb (found_before k r) r) 385) 6 ≡ true
unfolding every
begun_test = refl

pub found_room : (k r : ℕ) → k < 6 → r < 385 → found_before k r ≤ r
found_room k r h l = leb-true (found_before k r) r (every_at (λ r. leb (found_before k r) r) 385 (over (λ k r. leb (found_before k r) r) 385 begun_test k h) r l)

-- ---- a year

-- leap just where its kind is
long_is : (y : ℕ) → 1 ≤ y → cond {A = ℕ} (leap y) 1 0 ≡ long (kind_of (leap y) (year_days y))
unfolding kind_of
long_is y h = go (leap y) (year_length y h)
  where
    go : (t : Bool) → Apart (cond t 383 353) (new_year y) (new_year (y + 1)) → cond {A = ℕ} t 1 0 ≡ long (cond t (year_days y - 380) (year_days y - 353))
    go true a = rw (le-leb 3 (year_days y - 380) (omega arith)) refl
    go false a = rw (lt-leb 3 (year_days y - 353) (omega arith)) refl

module _ {y begin l kind : ℕ} (h : 1 ≤ y) (x : HebrewYear y begin l kind) where
  lengths_are : years hebrew (y - 1) ≡ get_or kinds kind []
  unfolding hebrew_years
  lengths_are =
      let e : y - 1 + 1 ≡ y = omega arith in
      hebrew_row (y - 1) ∙ ap lengths e ∙ lengths_row y h ∙ ap (λ (n : ℕ). get_or kinds n []) (sym x.kind_is)

  l_is : l ≡ long kind
  l_is = x.leap_is ∙ long_is y h ∙ ap long (sym x.kind_is)

  begin_is : start (years hebrew) (y - 1) + 347998 ≡ begin
  begin_is =
      let e : y - 1 + 1 ≡ y = omega arith in
      omega (arith, start_same _ _ hebrew_row (y - 1), start_is (y - 1), ap new_year e, x.begins)

pub hebrew_length : (i p begin l kind : ℕ) → HebrewYear (i + 1) begin l kind → get_or (get_or kinds kind []) p 0 ≡ length_at hebrew i p
hebrew_length i p begin l kind x =
    let e : i + 1 - 1 ≡ i = omega arith in
    ap (λ (ls : List ℕ). get_or ls p 0) (sym (rw e at (lengths_are (omega arith) x)))

module _ {y begin l kind : ℕ} (h : 1 ≤ y) (x : HebrewYear y begin l kind) (p : ℕ) (k : p ≤ 12) where
  tested : (t : Bool) → none kind p ≡ t
      → cond t (eqb (get_or (get_or kinds kind []) p 0) 0)
      (ltb (month_before kind (month_of l p)) (month_before kind (month_of l p + 1))
      && eqb (month_before kind (month_of l p + 1) - month_before kind (month_of l p)) (get_or (get_or kinds kind []) p 0)) ≡ true
  tested t e = rw (← e, l_is h x) (every_at (length_test kind) 13 (over length_test 13 length_test_lem kind x.below) p (omega arith))

  pub no_month_there : p + 8 * l ≡ 6 → get_or (get_or kinds kind []) p 0 ≡ 0
  no_month_there e = eqb-true (get_or (get_or kinds kind []) p 0) 0 (tested true (rw (← l_is h x) (eq-eqb (p + 8 * l) 6 e)))

  pub word_length : (p + 8 * l ≡ 6 → ⊥)
      → (month_before kind (month_of l p) < month_before kind (month_of l p + 1))
      × (month_before kind (month_of l p + 1) - month_before kind (month_of l p) ≡ get_or (get_or kinds kind []) p 0)
  word_length n =
      let b = both _ _ (tested false (rw (← l_is h x) (ne_eqb (p + 8 * l) 6 n))) in
      (ltb-true _ _ b.0, eqb-true _ _ b.1)

pub hebrew_month : (i p begin l kind from days : ℕ) → p ≤ 12 → HebrewYear (i + 1) begin l kind → from ≡ begin + month_before kind (month_of l p)
    → days ≡ get_or (get_or kinds kind []) p 0
    → MonthOf hebrew i p from days
hebrew_month i p begin l kind from days h x es ed =
    let e : i + 1 - 1 ≡ i = omega arith in
    let b = rw e at (begin_is (omega arith) x) in
    let m : from ≡ begin + month_before kind (month_of (long kind) p) = rw (← l_is (omega arith) x) es in
    tested_month (years hebrew) 347998 i p from days (get_or kinds kind []) (λ q. month_before kind (month_of (long kind) q)) 13
    (rw e at (lengths_are (omega arith) x)) (omega arith)
    (every_at (λ k. every (λ p. eqb (month_before k (month_of (long k) p)) (total (take p (get_or kinds k [])))) 13) 6 before_test kind x.below)
    (omega arith) (ed ∙ hebrew_length i p begin l kind x)

pub hebrew_date : (day y begin l kind : ℕ) (z : ℤ) (m d : ℕ) → YearOf day y → HebrewYear y begin l kind
    → let rest = day - begin in z ≡ pos y → m ≡ position_of l (found_month kind rest) + 1 → d ≡ rest - found_before kind rest + 1
    → DateIs (years hebrew) (pos 1) (day - 347998) z m d
hebrew_date day y begin l kind z m d w x ez em ed =
    let rest : ℕ = day - begin in
    let h = w.from_1 in
    let b = begin_is h x in
    let e : 1 + (y - 1) ≡ y = omega arith in
    let k = year_kind y h in
    let t : get_or totals kind 0 ≡ year_days y = ap (λ (n : ℕ). get_or totals n 0) x.kind_is ∙ k.place in
    tested_date (years hebrew) (has_days hebrew_bounded) (pos 1) (day - 347998) (y - 1) rest (get_or kinds kind [])
    (λ r. position_of (long kind) (found_month kind r)) (λ r. r - found_before kind r) (get_or totals kind 0)
    (lengths_are h x) (omega (arith, w.begun, x.begins)) (omega (arith, w.begun, w.still, x.begins))
    (every_at (λ k. places_all (get_or kinds k []) (λ r. position_of (long k) (found_month k r)) (λ r. r - found_before k r) (get_or totals k 0)) 6 days_test kind
    x.below)
    z m d (ez ∙ ap pos (sym e)) (em ∙ ap (λ (n : ℕ). position_of n (found_month kind rest) + 1) (l_is h x)) ed

-- the days of a year that have passed
pub rest_small : (day y begin l kind : ℕ) → YearOf day y → HebrewYear y begin l kind → (begin ≤ day) × (day - begin < 385)
rest_small day y begin l kind w x =
    let h = w.from_1 in
    let a = year_length y h in
    go (leap y) a
  where
    go : (t : Bool) → Apart (cond t 383 353) (new_year y) (new_year (y + 1)) → (begin ≤ day) × (day - begin < 385)
    go true a = omega (arith, w.begun, w.still, x.begins)
    go false a = omega (arith, w.begun, w.still, x.begins)

pub hebrew_positions : (i : ℕ) → length (years hebrew i) ≡ 13
hebrew_positions i = let k = hebrew_kind i in ap length k.2 ∙ row_length k.0 k.1
