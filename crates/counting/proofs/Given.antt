-- The number of each answer is the one that the rules' table gives (specs/Given.antt).
use mathlib.Core.Path.{◌≡◌, refl, sym, ap, subst}
use mathlib.Core.Bool.{Bool, true, false, cond, ◌||◌, true≢false}
use mathlib.Core.List.{List, [], ◌∷◌, ◌++◌}
use mathlib.Core.Option.{Option}
use mathlib.Core.Logic.{◌⊎◌, inl, inr, ◌↔◌}
use Prim.Native.Nat.{ℕ, ◌≤◌, ◌<◌}
use native.Mathlib.Omega.{arith}
use lib.Dec.{eqb, ltb}
use lib.IntN.{ℤ}
use lib.ListN.{length}
use lib.Signed.{lt_z}
use borrow.Author.Tests.{eqb-true, eqb-false, ltb-true, ltb-false}
use Rattle.counting.specs.Answers.{Calendar, DayAnswer, DateAnswer, last_day, last_year, year_out, length_in, month_zero, above_positions}
use Rattle.counting.specs.Answers.{no_days_that_year, no_month, no_day, day_out, after, ended, day_number, no_day_answer, no_date_answer, day_for, day_with, date_for}
use Rattle.counting.specs.Answers.{FitsDay}
use Rattle.counting.specs.Positions.{PositionAnswer, no_position, no_position_answer, position_for}
use Rattle.counting.specs.Given.{Given, date_order, day_order, position_order, OfYear, OfDate, OfDay, OfPosition}
use Rattle.counting.specs.Given.OfYear.{below_first, above_20000}
use Rattle.counting.specs.Given.OfDate.{its_year, month_0, beyond_positions, no_days, day_0, beyond_month, its_day, other_weekday}
use Rattle.counting.specs.Given.OfPosition.{its_year as of-its-year, position_0, beyond_positions as above-all}
use Rattle.counting.specs.Given.OfDay.{above_5373484, before_first, after_end}
use Rattle.counting.specs.Given.Given.{done, first, later}
use Rattle.basics.specs.Every.{All}
use Rattle.basics.proofs.Cases.{neither}
use Rattle.counting.proofs.Weekdays as W

-- one number is given,
one_given : {A : ℕ → Type 0} {order : List ℕ} {j k : ℕ} → Given A order j → Given A order k → j ≡ k
one_given done done = refl
one_given (first a) (first b) = refl
one_given (first a) (later n g) = absurd (n a)
one_given (later n g) (first a) = absurd (n a)
one_given (later n g) (later m h) = one_given g h

-- so what is given is given exactly
pub exactly : {A : ℕ → Type 0} {order : List ℕ} {n : ℕ} → Given A order n → (k : ℕ) → (n ≡ k) ↔ Given A order k
exactly {A} {order} g k = ((λ e. subst (Given A order) e g), λ h. one_given g h)

-- it is 0 or one of the order
pub one_of : (P : ℕ → Type 0) {A : ℕ → Type 0} {order : List ℕ} {k : ℕ} → P 0 → All P order → Given A order k → P k
one_of P z a done = z
one_of P z a (first h) = a.0
one_of P z a (later n g) = one_of P z a.1 g

-- numbers that are tried after all of an order, where it gives 0
appended : {A : ℕ → Type 0} {order rest : List ℕ} {j k : ℕ} → All (λ (i : ℕ). ¬ (i ≡ 0)) order → Given A order j
    → (j ≡ 0 → Given A rest k) → (¬ (j ≡ 0) → k ≡ j)
    → Given A (order ++ rest) k
appended {A} {order} {rest} a done f g = f refl
appended {A} {order} {rest} a (first h) f g = subst (Given A (order ++ rest)) (sym (g a.0)) (first h)
appended a (later n h) f g = later n (appended a.1 h f g)

-- where one test or the other holds
either : {C : Type 0} (t u : Bool) → (t || u) ≡ true → (t ≡ true → C) → (u ≡ true → C) → C
either true u e f g = f refl
either false u e f g = g e

-- no test holds and does not
clash : {t : Bool} → t ≡ true → t ≡ false → ⊥
clash e f = let z : ◌≡◌ {A = ℕ} 0 1 = cc in omega arith

-- a number is tried: where its test holds it applies and is given, and where not it does not apply, and the next are tried
tried : {R : Type 0} (number : R → ℕ) (A : ℕ → Type 0) (order : List ℕ) (t : Bool) (refusal rest : R)
    → (t ≡ true → A (number refusal)) → (t ≡ false → ¬ A (number refusal)) → Given A order (number rest)
    → Given A (number refusal ∷ order) (number (cond t refusal rest))
tried number A order true refusal rest f g h = first (f refl)
tried number A order false refusal rest f g h = later (g refl) h

-- where a choice is answered k, a refusal of another number was not chosen
pub passed : {R : Type 0} (number : R → ℕ) {k : ℕ} (t : Bool) (refusal rest : R) → (number refusal ≡ k → ⊥) → number (cond t refusal rest) ≡ k
    → (t ≡ false) × (number rest ≡ k)
passed number true refusal rest n e = absurd (n e)
passed number false refusal rest n e = (refl, e)

-- where a choice has the refusal's number and the rest has another, the refusal was chosen
pub chosen : {R : Type 0} (number : R → ℕ) (t : Bool) (refusal rest : R) → (number rest ≡ number refusal → ⊥) → number (cond t refusal rest) ≡ number refusal
    → t ≡ true
chosen number true refusal rest n e = refl
chosen number false refusal rest n e = absurd (n e)

-- ---- day to date

-- after an end, where there is one
pub is_after : (o : Option ℕ) (n : ℕ) → after o n ≡ true → (e : ℕ) × (o ≡ Option.some e) × (e < n)
is_after Option.none n h = absurd (true≢false (sym h))
is_after (Option.some e) n h = (e, refl, ltb-true e n h)

pub not_after : (o : Option ℕ) (n : ℕ) → after o n ≡ false → (e : ℕ) → o ≡ Option.some e → n ≤ e
not_after Option.none n h e f = let z : ◌≡◌ {A = ℕ} 0 1 = cc in absurd (omega arith)
not_after (Option.some x) n h e f = let g : x ≡ e = cc in omega (arith, ltb-false x n h)

module _ (K : Calendar) (n : ℕ) where
  from_5 : {j : ℕ} → OfDay K n j → 5 ≤ j
  from_5 (above_5373484 f) = omega arith
  from_5 (before_first f) = omega arith
  from_5 (after_end e f) = omega arith

  not_13 : {j : ℕ} → OfDay K n j → ¬ (j ≡ 13)
  not_13 (above_5373484 f) e = omega arith
  not_13 (before_first f) e = omega arith
  not_13 (after_end e f) g = omega arith

  -- so not 1
  pub no_1 : ¬ OfDay K n 1
  no_1 a = omega (arith, from_5 a)

  late : Bool
  late = ltb last_day n

  early : Bool
  early = ltb n K.first_day

  is_5 : day_out K n ≡ true → OfDay K n 5
  unfolding late early
  is_5 e = either late early e (λ f. above_5373484 (omega (arith, ltb-true last_day n f))) (λ f. before_first (ltb-true n K.first_day f))

  not_5 : day_out K n ≡ false → ¬ OfDay K n 5
  unfolding late early
  not_5 e (above_5373484 f) = omega (arith, ltb-false last_day n (neither late early e).0)
  not_5 e (before_first f) = omega (arith, ltb-false n K.first_day (neither late early e).1)

  is_17 : ended K n ≡ true → OfDay K n 17
  is_17 t = let a = is_after K.end n t in after_end a.1 a.2

  not_17 : ended K n ≡ false → ¬ OfDay K n 17
  not_17 t (after_end {e} f h) = omega (arith, not_after K.end n t e f)

  pub date_given : Given (OfDay K n) day_order (date_for K n).number
  unfolding date_for
  date_given =
      let try = tried (λ (a : DateAnswer). a.number) (OfDay K n) in
      try _ (day_out K n) (no_date_answer 5) _ is_5 not_5
      (try _ (ended K n) (no_date_answer 17) _ is_17 not_17 done)

-- ---- a year, a position of it

module _ (K : Calendar) (y : ℤ) where
  only_2 : {k : ℕ} → OfYear K y k → k ≡ 2
  only_2 (below_first f) = refl
  only_2 (above_20000 f) = refl

  is_2 : year_out K y ≡ true → OfYear K y 2
  is_2 e = either (lt_z y K.first_year) (lt_z last_year y) e below_first above_20000

  not_2 : year_out K y ≡ false → ¬ OfYear K y 2
  not_2 e (below_first f) = clash f (neither (lt_z y K.first_year) (lt_z last_year y) e).0
  not_2 e (above_20000 f) = clash f (neither (lt_z y K.first_year) (lt_z last_year y) e).1

module _ (K : Calendar) (y : ℤ) (m : ℕ) where
  from_2 : {k : ℕ} → OfPosition K y m k → 2 ≤ k
  from_2 (of-its-year a) = omega (arith, only_2 K y a)
  from_2 (position_0 f) = omega arith
  from_2 (above-all f) = omega arith

  -- so 1 does not apply
  pub position_not_1 : ¬ OfPosition K y m 1
  position_not_1 a = omega (arith, from_2 a)

  position_not_2 : year_out K y ≡ false → ¬ OfPosition K y m 2
  position_not_2 e (of-its-year a) = not_2 K y e a

  position_is_3 : no_position K y m ≡ true → OfPosition K y m 3
  position_is_3 e =
      either (month_zero m) (above_positions K y m) e (λ f. position_0 (eqb-true m 0 f)) (λ f. above-all (ltb-true (length (K.lengths y)) m f))

  position_not_3 : no_position K y m ≡ false → ¬ OfPosition K y m 3
  position_not_3 e (of-its-year a) = omega (arith, only_2 K y a)
  position_not_3 e (position_0 f) = eqb-false m 0 (neither (month_zero m) (above_positions K y m) e).0 f
  position_not_3 e (above-all f) = omega (arith, ltb-false (length (K.lengths y)) m (neither (month_zero m) (above_positions K y m) e).1)

  pub position_given : Given (OfPosition K y m) position_order (position_for K y m).number
  unfolding position_for
  position_given =
      let try = tried (λ (x : PositionAnswer). x.number) (OfPosition K y m) in
      try _ (year_out K y) (no_position_answer 2) _ (λ e. of-its-year (is_2 K y e)) position_not_2
      (try _ (no_position K y m) (no_position_answer 3) _ position_is_3 position_not_3 done)

-- ---- date to day

-- of a date that is given a day: no test holds, and the day is its number
module _ (K : Calendar) (y : ℤ) (m d : ℕ) (e : (day_for K y m d).number ≡ 0) where
  pub none_applies : (year_out K y ≡ false) × (no_month K y m ≡ false) × (no_day K y m d ≡ false) × (ended K (day_number K y m d) ≡ false)
      × (day_out K (day_number K y m d) ≡ false)
  unfolding day_for
  none_applies =
      let n = day_number K y m d in
      let through = passed (λ (a : DayAnswer). a.number) in
      let q = through (year_out K y) (no_day_answer 2) _ (omega arith) e in
      let r = through (no_month K y m) (no_day_answer 3) _ (omega arith) q.1 in
      let s = through (no_day K y m d) (no_day_answer 4) _ (omega arith) r.1 in
      let t = through (ended K n) (no_day_answer 17) _ (omega arith) s.1 in
      let u = through (day_out K n) (no_day_answer 5) _ (omega arith) t.1 in
      (q.0, r.0, s.0, t.0, u.0)

  pub day_is : (day_for K y m d).day ≡ day_number K y m d
  unfolding day_for
  day_is = let t = none_applies in rw (t.0, t.1, t.2, t.3, t.4) refl

module _ (K : Calendar) (y : ℤ) (m d w : ℕ) where
  -- each test holds exactly where its number applies
  date_not_2 : year_out K y ≡ false → ¬ OfDate K y m d w 2
  date_not_2 e (its_year a) = not_2 K y e a
  date_not_2 e (its_day a) = omega (arith, from_5 K (day_number K y m d) a)

  is_3 : no_month K y m ≡ true → OfDate K y m d w 3
  is_3 e = either (no_position K y m) (no_days_that_year K y m) e (λ f. at (position_is_3 K y m f)) (λ f. no_days (eqb-true (length_in K y m) 0 f))
    where
      at : OfPosition K y m 3 → OfDate K y m d w 3
      at (of-its-year a) = its_year a
      at (position_0 f) = month_0 f
      at (above-all f) = beyond_positions f

  not_3 : no_month K y m ≡ false → ¬ OfDate K y m d w 3
  not_3 e a = let M = neither (no_position K y m) (no_days_that_year K y m) e in go (position_not_3 K y m M.0) (eqb-false (length_in K y m) 0 M.1) a
    where
      go : ¬ OfPosition K y m 3 → ¬ (length_in K y m ≡ 0) → ¬ OfDate K y m d w 3
      go u w (its_year a) = u (of-its-year a)
      go u w (month_0 f) = u (position_0 f)
      go u w (beyond_positions f) = u (above-all f)
      go u w (no_days f) = w f
      go u w (its_day a) = omega (arith, from_5 K (day_number K y m d) a)

  is_4 : no_day K y m d ≡ true → OfDate K y m d w 4
  is_4 e = either (eqb d 0) (ltb (length_in K y m) d) e (λ f. day_0 (eqb-true d 0 f)) (λ f. beyond_month (ltb-true (length_in K y m) d f))

  not_4 : no_day K y m d ≡ false → ¬ OfDate K y m d w 4
  not_4 e (its_year a) = omega (arith, only_2 K y a)
  not_4 e (day_0 f) = eqb-false d 0 (neither (eqb d 0) (ltb (length_in K y m) d) e).0 f
  not_4 e (beyond_month f) = omega (arith, ltb-false (length_in K y m) d (neither (eqb d 0) (ltb (length_in K y m) d) e).1)
  not_4 e (its_day a) = omega (arith, from_5 K (day_number K y m d) a)

  -- 5 and 17 only as to its day
  of_day : {k : ℕ} → 5 ≤ k → ¬ (k ≡ 13) → OfDate K y m d w k → OfDay K (day_number K y m d) k
  of_day h n (its_year a) = absurd (omega (arith, only_2 K y a))
  of_day h n (month_0 f) = absurd (omega arith)
  of_day h n (beyond_positions f) = absurd (omega arith)
  of_day h n (no_days f) = absurd (omega arith)
  of_day h n (day_0 f) = absurd (omega arith)
  of_day h n (beyond_month f) = absurd (omega arith)
  of_day h n (its_day a) = a
  of_day h n (other_weekday f) = absurd (n refl)

  -- 1 does not apply
  pub not_1 : ¬ OfDate K y m d w 1
  not_1 (its_year a) = omega (arith, only_2 K y a)
  not_1 (its_day a) = omega (arith, from_5 K (day_number K y m d) a)

  -- the numbers before 13
  rest_given : Given (OfDate K y m d w) (2 ∷ 3 ∷ 4 ∷ 17 ∷ 5 ∷ []) (day_for K y m d).number
  unfolding day_for
  rest_given =
      let n = day_number K y m d in
      let try = tried (λ (a : DayAnswer). a.number) (OfDate K y m d w) in
      try _ (year_out K y) (no_day_answer 2) _ (λ e. its_year (is_2 K y e)) date_not_2
      (try _ (no_month K y m) (no_day_answer 3) _ is_3 not_3
      (try _ (no_day K y m d) (no_day_answer 4) _ is_4 not_4
      (try _ (ended K n) (no_day_answer 17) _ (λ e. its_day (is_17 K n e)) (λ e a. not_17 K n e (of_day (omega arith) (omega arith) a))
      (try _ (day_out K n) (no_day_answer 5) _ (λ e. its_day (is_5 K n e)) (λ e a. not_5 K n e (of_day (omega arith) (omega arith) a)) done))))

  -- 13 is not one of them
  pub rest_not_13 : ¬ ((day_for K y m d).number ≡ 13)
  rest_not_13 =
      one_of (λ (k : ℕ). ¬ (k ≡ 13)) (λ e. omega arith)
      ((λ e. omega arith), ((λ e. omega arith), ((λ e. omega arith), ((λ e. omega arith), ((λ e. omega arith), tt))))) rest_given

  -- it applies exactly where the weekday does not fit
  date_not_13 : FitsDay w (day_number K y m d) → ¬ OfDate K y m d w 13
  date_not_13 f (its_year a) = omega (arith, only_2 K y a)
  date_not_13 f (its_day a) = not_13 K (day_number K y m d) a refl
  date_not_13 f (other_weekday n) = n f

  pub day_given : Given (OfDate K y m d w) date_order (day_with K y m d w).number
  day_given =
      let x = day_for K y m d in
      appended ((λ e. omega arith), ((λ e. omega arith), ((λ e. omega arith), ((λ e. omega arith), ((λ e. omega arith), tt))))) rest_given
      (λ e. weekday (day_is K y m d e) (W.tried w x) e)
      (λ n. ap (λ (a : DayAnswer). a.number) (W.refused w x n))
    where
      weekday : (day_for K y m d).day ≡ day_number K y m d
          → ((day_with K y m d w ≡ no_day_answer 13) × ((day_for K y m d).number ≡ 0) × ¬ FitsDay w (day_for K y m d).day)
          ⊎ ((day_with K y m d w ≡ day_for K y m d) × ((day_for K y m d).number ≡ 0 → FitsDay w (day_for K y m d).day))
          → (day_for K y m d).number ≡ 0
          → Given (OfDate K y m d w) (13 ∷ []) (day_with K y m d w).number
      weekday g (inl t) e = rw t.0 (first (other_weekday (λ f. t.2 (rw g f))))
      weekday g (inr t) e = rw (t.0, e) (later (date_not_13 (rw g at (t.1 e))) done)
