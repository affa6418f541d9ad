-- What the answers of a calendar have to do with counting and with each other, for any calendar in which every year has days: counting from the first day
-- reaches the date, each way undoes the other, and dates in order have days in order.
use mathlib.Core.Path.{◌≡◌, refl, sym, ap, subst, ◌∙◌}
use mathlib.Core.Bool.{Bool, true, false, cond, ◌||◌}
use mathlib.Core.Logic.{◌↔◌}
use mathlib.Core.Option.{Option}
use mathlib.Core.List.{List}
use Prim.Native.Nat.{ℕ, suc, ◌-◌, ◌≤◌, ◌<◌}
use native.Mathlib.Omega.{arith}
use lib.Dec.{eqb, ltb}
use lib.IntN.{ℤ}
use lib.ListN.{length, get_or-eq_default}
use lib.Signed.{lt_z}
use borrow.Author.Tests.{eqb-false, eq-eqb, ltb-true, ltb-false, lt-ltb, le-ltb, ne_eqb}
use Rattle.counting.specs.Calendar.{total, Date, Valid, len, first_from, new_year, next, date_at, Before}
use Rattle.counting.specs.Calendar.Before.{by_year as before-by-year, by_month as before-by-month, by_day as before-by-day}
use Rattle.counting.specs.Years.{year_at, years_from}
use Rattle.counting.specs.Answers.{Calendar, years, DateAnswer, last_day, last_year, year_out, length_in, month_zero, no_days_that_year, no_month}
use Rattle.counting.specs.Answers.{no_day, day_out, after, ended, day_number, date_on, year_on, the_date, dated, no_day_answer, no_date_answer, day_for, date_for, IsDate, last_with, last_of}
use Rattle.counting.specs.Answers.{weekday_of, Proper}
use Rattle.counting.specs.Order.{Earlier}
use Rattle.counting.specs.Order.Earlier.{by_year, by_month, by_day}
use Rattle.basics.proofs.Cases.{neither, cond_elim}
use Rattle.counting.proofs.Given.{passed, none_applies, day_is}
use Rattle.counting.proofs.Signs.{year_back, place_back, not_before, order_kept}
use Rattle.counting.proofs.Counting.{date_is, counted, orders_agree}

-- the date, with its year counted from the first
abbrev pub counting : Calendar → ℤ → ℕ → ℕ → Date
counting K y m d = record { year = years_from K.first_year y; month = m; day = d }

-- a date that the calendar has, and its day
pub record Stands (K : Calendar) (y : ℤ) (m d n : ℕ) : Type 0 where
  pub from_first : lt_z y K.first_year ≡ false
  pub to_last : lt_z last_year y ≡ false
  pub valid : Valid (years K) (counting K y m d)
  pub number : day_number K y m d ≡ n

-- one whose day is answered
pub record Accepted (K : Calendar) (y : ℤ) (m d n : ℕ) : Type 0 where
  pub stands : Stands K y m d n
  pub small : n ≤ last_of K

-- the lengths of a year from the first on
pub lengths_at : (K : Calendar) (y : ℤ) → lt_z y K.first_year ≡ false → K.lengths y ≡ years K (years_from K.first_year y)
unfolding years
lengths_at K y h = ap K.lengths (sym (year_back K.first_year y h))

-- a position's length is the one that the list has there
length_is : (K : Calendar) (y : ℤ) (m : ℕ) → length_in K y m ≡ len (K.lengths y) m
length_is K y m = ap (len (K.lengths y)) (omega arith)

-- a position above the positions has no days, so that two of the three conditions would do
pub no_month_lem : (K : Calendar) (y : ℤ) (m : ℕ) → no_month K y m ≡ (month_zero m || no_days_that_year K y m)
no_month_lem K y m = go (eqb m 0) refl (ltb (length (K.lengths y)) m) refl
  where
    go : (z : Bool) → eqb m 0 ≡ z → (t : Bool) → ltb (length (K.lengths y)) m ≡ t → (z || t || eqb (length_in K y m) 0) ≡ (z || eqb (length_in K y m) 0)
    go true e t h = refl
    go false e false h = refl
    go false e true h =
        let l = ltb-true (length (K.lengths y)) m h in
        sym (eq-eqb (length_in K y m) 0 (get_or-eq_default (K.lengths y) 0 (omega arith)))

or_false : (t : Bool) → (t || false) ≡ t
or_false true = refl
or_false false = refl

-- the last day that is answered is not above 5,373,484 and not after the end
pub last_in : (o : Option ℕ) {n : ℕ} → n ≤ last_with o → (n ≤ last_day) × (after o n ≡ false)
last_in Option.none h = (h, refl)
last_in (Option.some e) {n} h = (omega arith, le-ltb e n (omega arith))

pub last_small : (o : Option ℕ) → last_with o ≤ last_day
last_small Option.none = omega arith
last_small (Option.some e) = omega arith

in_last : (o : Option ℕ) {n : ℕ} → n ≤ last_day → after o n ≡ false → n ≤ last_with o
in_last Option.none h f = h
in_last (Option.some e) {n} h f = omega (arith, ltb-false e n f)

-- where that is below 5,373,484, the days after it are after the end
pub past_end : (o : Option ℕ) {n : ℕ} → last_with o < n → last_with o < last_day → after o n ≡ true
past_end Option.none h k = absurd (omega arith)
past_end (Option.some e) {n} h k = lt-ltb e n (omega arith)

module _ (K : Calendar) where
  module _ (y : ℤ) (m d : ℕ) where
    -- a date stands where 2, 3 and 4 do not apply,
    pub stands : year_out K y ≡ false → no_month K y m ≡ false → no_day K y m d ≡ false → Stands K y m d (day_number K y m d)
    stands q r s =
        let Y = neither (lt_z y K.first_year) (lt_z last_year y) q in
        let M = neither (month_zero m) (no_days_that_year K y m) (sym (no_month_lem K y m) ∙ r) in
        let D = neither (eqb d 0) (ltb (length_in K y m) d) s in
        let l = length_is K y m ∙ ap (λ (ls : List ℕ). len ls m) (lengths_at K y Y.0) in
        record {
          from_first = Y.0;
          to_last = Y.1;
          valid =
              record {
                month_from_1 = omega (arith, eqb-false m 0 M.0);
                day_from_1 = omega (arith, eqb-false d 0 D.0);
                day_in_month = omega (arith, ltb-false (length_in K y m) d D.1, l);
              };
          number = refl;
        }

    pub date_stands : IsDate K y m d → Stands K y m d (day_number K y m d)
    date_stands x = stands x.year_in x.month_in x.day_in

    -- and only there;
    pub exists : {n : ℕ} → Stands K y m d n → IsDate K y m d
    exists a =
        let l = length_is K y m ∙ ap (λ (ls : List ℕ). len ls m) (lengths_at K y a.from_first) in
        let v = a.valid in
        record {
          year_in = rw (a.from_first, a.to_last) refl;
          month_in =
              rw (
                no_month_lem K y m,
                ne_eqb m 0 (omega (arith, v.month_from_1)),
                ne_eqb (length_in K y m) 0 (omega (arith, v.day_from_1, v.day_in_month)),
              ) refl;
          day_in = rw (ne_eqb d 0 (omega (arith, v.day_from_1)), le-ltb (length_in K y m) d (omega (arith, v.day_in_month))) refl;
        }

    -- then its day is what is tried
    pub stand : (n : ℕ) → Stands K y m d n
        → day_for K y m d ≡ cond (ended K n) (no_day_answer 17) (cond (ltb last_day n) (no_day_answer 5) (record { number = 0; day = n }))
    unfolding day_for
    stand n a =
        let x = exists a in
        rw (
          x.year_in,
          x.month_in,
          x.day_in,
          le-ltb (day_number K y m d) K.first_day (omega arith),
          or_false (ltb last_day (day_number K y m d)),
          a.number,
        ) refl

    pub accepted : (day_for K y m d).number ≡ 0 → Accepted K y m d (day_for K y m d).day
    accepted e =
        let n = day_number K y m d in
        let t = none_applies K y m d e in
        let N = neither (ltb last_day n) (ltb n K.first_day) t.4 in
        rw (day_is K y m d e) (record { stands = stands t.0 t.1 t.2; small = in_last K.end (ltb-false last_day n N.0) t.3 })

    pub accept : (n : ℕ) → Accepted K y m d n → day_for K y m d ≡ record { number = 0; day = n }
    accept n a = let w = last_in K.end a.small in stand n a.stands ∙ rw (w.1, le-ltb last_day n w.0) refl

  -- a day that is answered
  pub answered : (n : ℕ) → K.first_day ≤ n → n ≤ last_of K → date_for K n ≡ dated K (date_on K n) (weekday_of n)
  unfolding date_for
  answered n f k = let w = last_in K.end k in rw (le-ltb last_day n w.0, le-ltb n K.first_day f, w.1) refl

  pub given_date : (n : ℕ) → (date_for K n).number ≡ 0 → (K.first_day ≤ n) × (n ≤ last_of K)
  unfolding date_for
  given_date n e =
      let through = passed (λ (a : DateAnswer). a.number) in
      let q = through (day_out K n) (no_date_answer 5) _ (omega arith) e in
      let r = through (ended K n) (no_date_answer 17) _ (omega arith) q.1 in
      let N = neither (ltb last_day n) (ltb n K.first_day) q.0 in
      (ltb-false n K.first_day N.1, in_last K.end (ltb-false last_day n N.0) r.0)

  -- a day that is refused has no weekday
  pub weekday_0 : (n : ℕ) → ¬ ((date_for K n).number ≡ 0) → (date_for K n).weekday ≡ 0
  unfolding date_for
  weekday_0 n =
      cond_elim (λ (a : DateAnswer). ¬ (a.number ≡ 0) → a.weekday ≡ 0) (day_out K n) _ _ (λ e h. refl)
      (λ e. cond_elim (λ (a : DateAnswer). ¬ (a.number ≡ 0) → a.weekday ≡ 0) (ended K n) _ _ (λ e h. refl) (λ e h. absurd (h refl)))

  -- the day after has the date that follows
  pub next_date : (n : ℕ) → K.first_day ≤ n → date_on K (suc n) ≡ next (years K) (date_on K n)
  unfolding date_at
  next_date n h = let e : suc n - K.first_day ≡ suc (n - K.first_day) = omega arith in ap (date_at (years K)) e

  -- the first day is 1/1 of the first year, where its first position has days
  pub first_date : first_from 1 (years K 0) ≡ 1 → date_on K K.first_day ≡ record { year = 0; month = 1; day = 1 }
  unfolding date_at new_year
  first_date o = let e : K.first_day - K.first_day ≡ 0 = omega arith in rw (e, o) refl

-- every year has days
module _ (K : Calendar) (has_days : (i : ℕ) → 1 ≤ total (years K i)) where
  -- counting from the first day reaches the date
  pub reached : (y : ℤ) (m d n : ℕ) → Stands K y m d n → (K.first_day ≤ n) × (date_on K n ≡ counting K y m d)
  reached y m d n a =
      (omega (arith, a.number), date_is (years K) has_days (n - K.first_day) (counting K y m d) a.valid (omega (arith, a.number)))

  -- so its day has that date
  pub there_and_back : (y : ℤ) (m d n : ℕ) → Accepted K y m d n → date_for K n ≡ the_date y m d (weekday_of n)
  there_and_back y m d n a =
      let r = reached y m d n a.stands in
      answered K n r.0 a.small ∙ rw (r.1, year_back K.first_year y a.stands.from_first) refl

  -- and a day's date has that day, if its year is not above the last
  pub on_day_lem : (n : ℕ) → K.first_day ≤ n → lt_z last_year (year_on K n) ≡ false
      → let x = dated K (date_on K n) (weekday_of n) in Stands K x.year x.month x.day n
  on_day_lem n f l =
      let D = date_on K n in
      let g = counted (years K) has_days (n - K.first_day) in
      let i = place_back K.first_year D.year in
      record { from_first = not_before K.first_year D.year; to_last = l; valid = rw i g.0; number = rw i (omega (arith, g.1)) }

  pub back_and_there : (n : ℕ) → K.first_day ≤ n → n ≤ last_of K → lt_z last_year (year_on K n) ≡ false
      → let x = dated K (date_on K n) (weekday_of n) in Accepted K x.year x.month x.day n
  back_and_there n f k l = record { stands = on_day_lem n f l; small = k }

  -- a date exists exactly where counting reaches it, in a year not above the last
  pub exists_counted : (y : ℤ) (m d : ℕ) → IsDate K y m d
      ↔ ((lt_z last_year y ≡ false) × ((n : ℕ) × (K.first_day ≤ n) × (dated K (date_on K n) (weekday_of n) ≡ the_date y m d (weekday_of n))))
  exists_counted y m d = (to, from)
    where
      to : IsDate K y m d → (lt_z last_year y ≡ false) × ((n : ℕ) × (K.first_day ≤ n) × (dated K (date_on K n) (weekday_of n) ≡ the_date y m d (weekday_of n)))
      to x =
          let a = date_stands K y m d x in
          let r = reached y m d (day_number K y m d) a in
          (a.to_last, (day_number K y m d, r.0, rw (r.1, year_back K.first_year y a.from_first) refl))

      from : (lt_z last_year y ≡ false) × ((n : ℕ) × (K.first_day ≤ n) × (dated K (date_on K n) (weekday_of n) ≡ the_date y m d (weekday_of n)))
          → IsDate K y m d
      from p =
          let e = p.1.2 in
          let l = ap (λ (a : DateAnswer). lt_z last_year a.year) e ∙ p.0 in
          subst (λ (a : DateAnswer). IsDate K a.year a.month a.day) e (exists K _ _ _ (on_day_lem p.1.0 p.1.1 l))

-- a date that is given a day, to its day and back, and a day that is given a date, to its date and back
module _ (K : Calendar) (p : Proper K) where
  pub there : (y : ℤ) (m d : ℕ) → (day_for K y m d).number ≡ 0 → let n = (day_for K y m d).day in date_for K n ≡ the_date y m d (weekday_of n)
  there y m d e = there_and_back K p.has_days y m d (day_for K y m d).day (accepted K y m d e)

  pub back : (n : ℕ) → (date_for K n).number ≡ 0
      → let x = date_for K n in (day_for K x.year x.month x.day ≡ record { number = 0; day = n }) × (x.weekday ≡ weekday_of n)
  back n e =
      let g = given_date K n e in
      let x = dated K (date_on K n) (weekday_of n) in
      let a = accept K x.year x.month x.day n (back_and_there K p.has_days n g.0 g.1 (p.in_time n (last_in K.end g.1).0)) in
      let r = answered K n g.0 g.1 in
      (ap (λ (a : DateAnswer). day_for K a.year a.month a.day) r ∙ a, ap (λ (a : DateAnswer). a.weekday) r)

-- ---- order

module _ (K : Calendar) (y : ℤ) (m d n : ℕ) (y' : ℤ) (m' d' n' : ℕ) (a : Stands K y m d n) (a' : Stands K y' m' d' n') where
  first : ℤ
  first = K.first_year

  -- years in order are places in order
  places : lt_z y y' ≡ ltb (years_from first y) (years_from first y')
  unfolding first
  places = rw (year_back first y a.from_first, year_back first y' a'.from_first) at (order_kept first (years_from first y) (years_from first y'))

  to : Earlier y m d y' m' d' → Before (counting K y m d) (counting K y' m' d')
  unfolding first
  to (by_year h) = before-by-year (ltb-true (years_from first y) (years_from first y') (sym places ∙ h))
  to (by_month e h) = before-by-month (ap (years_from first) e) h
  to (by_day e f h) = before-by-day (ap (years_from first) e) f h

  same : years_from first y ≡ years_from first y' → y ≡ y'
  unfolding first
  same e = sym (year_back first y a.from_first) ∙ ap (year_at first) e ∙ year_back first y' a'.from_first

  from : Before (counting K y m d) (counting K y' m' d') → Earlier y m d y' m' d'
  unfolding first
  from (before-by-year h) = by_year (places ∙ lt-ltb (years_from first y) (years_from first y') h)
  from (before-by-month e h) = by_month (same e) h
  from (before-by-day e f h) = by_day (same e) f h

  pub ordered : Earlier y m d y' m' d' ↔ (n < n')
  ordered =
      let o = orders_agree (years K) (counting K y m d) (counting K y' m' d') a.valid a'.valid in
      ((λ e. omega (arith, o.0 (to e), a.number, a'.number)), λ h. from (o.1 (omega (arith, a.number, a'.number))))
