-- The positions of a year: each answer is one of four cases; which dates a position has; and their lengths make up the year.
use mathlib.Core.Path.{◌≡◌, refl, sym, ap, subst, ◌∙◌}
use mathlib.Core.Bool.{Bool, true, false, cond, ◌||◌, true≢false}
use mathlib.Core.Logic.{◌⊎◌, inl, inr, ⊎_elim, ◌↔◌}
use mathlib.Core.Option.{Option}
use Prim.Native.Nat.{ℕ, zero, suc, ◌+◌, ◌≤◌, ◌<◌}
use native.Mathlib.Omega.{arith}
use lib.Dec.{eqb, ltb}
use lib.IntN.{ℤ, pos}
use lib.ListN.{length, get_or, take, get_or-eq_default}
use lib.Seq.{take_all}
use lib.Signed.{lt_z}
use borrow.Author.Tests.{eqb-true, eqb-false, eq-eqb, ne_eqb, ltb-true, ltb-false, lt-ltb, le-ltb}
use Rattle.counting.specs.Calendar.{total, start}
use Rattle.counting.specs.Years.{years_from}
use Rattle.counting.specs.Answers.{Calendar, years, DayAnswer, year_out, length_in, above_positions, no_days_that_year, no_month, no_day, ended}
use Rattle.counting.specs.Answers.{day_out, day_number, no_day_answer, day_for, IsDate}
use Rattle.counting.specs.Positions.{Kind, PositionAnswer, no_position, is_strip, kind_in, no_position_answer, position_for, Case, Is, OneCase, HasDays, sum_to}
use Rattle.basics.proofs.Cases.{cond_elim, neither, holds}
use Rattle.counting.proofs.Given.{chosen}
use Rattle.counting.proofs.Rounds.{lengths_at}
use Rattle.counting.proofs.Totals.{total_take_suc}

-- ---- the four cases

of_kind : Kind → Case
of_kind Kind.month = Case.month
of_kind Kind.strip = Case.strip
of_kind Kind.none = Case.none

case_of : PositionAnswer → Case
case_of x = cond (eqb x.number 0) (of_kind x.kind) Case.refused

is_case : (c : Case) (x : PositionAnswer) → Is c x → c ≡ case_of x
unfolding case_of of_kind
is_case Case.month x i = rw (i.0, i.1) refl
is_case Case.strip x i = rw (i.0, i.1) refl
is_case Case.none x i = rw (i.0, i.1) refl
is_case Case.refused x i = rw (ne_eqb x.number 0 i.0) refl

-- an answer that is in a case is in no other
only : (c : Case) (x : PositionAnswer) → Is c x → OneCase x
only c x i = (c, i, λ c' j. is_case c' x j ∙ sym (is_case c x i))

pub refused_case : (k : ℕ) → ¬ (k ≡ 0) → OneCase (no_position_answer k)
refused_case k n = only Case.refused (no_position_answer k) (n, refl, refl)

-- the test of the strip
is_strip_lem : (o : Option ℕ) (m : ℕ) → (is_strip o m ≡ true) ↔ (o ≡ Option.some m)
is_strip_lem Option.none m = ((λ e. absurd (true≢false (sym e))), λ e. let z : ◌≡◌ {A = ℕ} 0 1 = cc in absurd (omega arith))
is_strip_lem (Option.some p) m = ((λ e. ap Option.some (sym (eqb-true m p e))), λ e. let g : p ≡ m = cc in eq-eqb m p (sym g))

module _ (K : Calendar) (y : ℤ) (m : ℕ) where
  -- what is answered: where 2 or 3 applies, and where neither does
  early : year_out K y ≡ true → position_for K y m ≡ no_position_answer 2
  unfolding position_for
  early e = rw e refl

  not_there : year_out K y ≡ false → no_position K y m ≡ true → position_for K y m ≡ no_position_answer 3
  unfolding position_for
  not_there o e = rw (o, e) refl

  answered : year_out K y ≡ false → no_position K y m ≡ false
      → ((position_for K y m).number ≡ 0) × ((position_for K y m).kind ≡ kind_in K y m) × ((position_for K y m).days ≡ length_in K y m)
  unfolding position_for
  answered o n = rw (o, n) (refl, refl, refl)

  -- the kinds
  kind_none : no_days_that_year K y m ≡ true → kind_in K y m ≡ Kind.none
  kind_none e = rw e refl

  kind_strip : no_days_that_year K y m ≡ false → is_strip K.strip m ≡ true → kind_in K y m ≡ Kind.strip
  kind_strip e f = rw (e, f) refl

  kind_month : no_days_that_year K y m ≡ false → is_strip K.strip m ≡ false → kind_in K y m ≡ Kind.month
  kind_month e f = rw (e, f) refl

  -- so each case, where it is
  none_here : year_out K y ≡ false → no_position K y m ≡ false → no_days_that_year K y m ≡ true → Is Case.none (position_for K y m)
  none_here o n e = let a = answered o n in (a.0, a.1 ∙ kind_none e, a.2 ∙ eqb-true (length_in K y m) 0 e)

  strip_here : year_out K y ≡ false → no_position K y m ≡ false → no_days_that_year K y m ≡ false → is_strip K.strip m ≡ true → Is Case.strip (position_for K y m)
  strip_here o n e f = let a = answered o n in (a.0, a.1 ∙ kind_strip e f, omega (arith, a.2, eqb-false (length_in K y m) 0 e))

  month_here : year_out K y ≡ false → no_position K y m ≡ false → no_days_that_year K y m ≡ false → is_strip K.strip m ≡ false → Is Case.month (position_for K y m)
  month_here o n e f = let a = answered o n in (a.0, a.1 ∙ kind_month e f, omega (arith, a.2, eqb-false (length_in K y m) 0 e))

  pub one_case : OneCase (position_for K y m)
  one_case = go (year_out K y) refl (no_position K y m) refl (no_days_that_year K y m) refl (is_strip K.strip m) refl
    where
      go : (t : Bool) → year_out K y ≡ t → (u : Bool) → no_position K y m ≡ u → (v : Bool) → no_days_that_year K y m ≡ v → (w : Bool) → is_strip K.strip m ≡ w
          → OneCase (position_for K y m)
      go true o u n v e w f = subst OneCase (sym (early o)) (refused_case 2 (omega arith))
      go false o true n v e w f = subst OneCase (sym (not_there o n)) (refused_case 3 (omega arith))
      go false o false n true e w f = only Case.none _ (none_here o n e)
      go false o false n false e true f = only Case.strip _ (strip_here o n e f)
      go false o false n false e false f = only Case.month _ (month_here o n e f)

  -- an answer that is no refusal
  passed_by : (position_for K y m).number ≡ 0 → (year_out K y ≡ false) × (no_position K y m ≡ false)
  passed_by e = go (year_out K y) refl (no_position K y m) refl
    where
      number : PositionAnswer → ℕ
      number x = x.number

      go : (t : Bool) → year_out K y ≡ t → (u : Bool) → no_position K y m ≡ u → (t ≡ false) × (u ≡ false)
      go true o u n = absurd (omega (arith, e, ap number (early o)))
      go false o true n = absurd (omega (arith, e, ap number (not_there o n)))
      go false o false n = (refl, refl)

  -- the position has days
  pub has_days : HasDays (position_for K y m) ↔ ((year_out K y ≡ false) × (no_month K y m ≡ false))
  has_days = (⊎_elim (λ i. to i.0 i.2) (λ i. to i.0 i.2), λ p. from p.0 (neither (no_position K y m) (no_days_that_year K y m) p.1))
    where
      to : (position_for K y m).number ≡ 0 → 1 ≤ (position_for K y m).days → (year_out K y ≡ false) × (no_month K y m ≡ false)
      to e h = let p = passed_by e in (p.0, rw (p.1, ne_eqb (length_in K y m) 0 (omega (arith, (answered p.0 p.1).2))) refl)

      which : year_out K y ≡ false → no_position K y m ≡ false → no_days_that_year K y m ≡ false → (t : Bool) → is_strip K.strip m ≡ t → HasDays (position_for K y m)
      which o n e true f = inr (strip_here o n e f)
      which o n e false f = inl (month_here o n e f)

      from : year_out K y ≡ false → (no_position K y m ≡ false) × (no_days_that_year K y m ≡ false) → HasDays (position_for K y m)
      from o n = which o n.0 n.1 (is_strip K.strip m) refl

  days_are : HasDays (position_for K y m) → (position_for K y m).days ≡ length_in K y m
  days_are h = let p = passed_by (⊎_elim (λ i. i.0) (λ i. i.0) h) in (answered p.0 p.1).2

  -- the strip, exactly
  pub strip_exactly : Is Case.strip (position_for K y m) ↔ ((year_out K y ≡ false) × (no_month K y m ≡ false) × (K.strip ≡ Option.some m))
  strip_exactly = (to, λ p. let n = neither (no_position K y m) (no_days_that_year K y m) p.1 in strip_here p.0 n.0 n.1 ((is_strip_lem K.strip m).1 p.2))
    where
      to : Is Case.strip (position_for K y m) → (year_out K y ≡ false) × (no_month K y m ≡ false) × (K.strip ≡ Option.some m)
      to i =
          let h = has_days.0 (inr i) in
          let n = neither (no_position K y m) (no_days_that_year K y m) h.1 in
          (h.0, h.1, (is_strip_lem K.strip m).0 (holds (is_strip K.strip m) (λ f. clash (sym (month_here h.0 n.0 n.1 f).1 ∙ i.1))))
        where
          clash : Kind.month ≡ Kind.strip → ⊥
          clash e = let z : ◌≡◌ {A = ℕ} 0 1 = cc in omega arith

  -- none, exactly
  pub none_exactly : Is Case.none (position_for K y m) ↔ ((year_out K y ≡ false) × (no_position K y m ≡ false) × (length_in K y m ≡ 0))
  none_exactly = (
    (λ i. let p = passed_by i.0 in (p.0, p.1, sym (answered p.0 p.1).2 ∙ i.2)),
    λ p. none_here p.0 p.1 (eq-eqb (length_in K y m) 0 p.2),
  )

  pub none_answer : year_out K y ≡ false → no_position K y m ≡ false → no_days_that_year K y m ≡ true
      → position_for K y m ≡ record { number = 0; kind = Kind.none; days = 0 }
  none_answer o n e = let i = none_here o n e in λ j. record { number = i.0 j; kind = i.1 j; days = i.2 j }

  -- ---- the dates of a position

  -- a date exists exactly where its position has days and its day is one of them
  pub dates : (d : ℕ) → IsDate K y m d ↔ (HasDays (position_for K y m) × (1 ≤ d) × (d ≤ (position_for K y m).days))
  dates d = (to, from)
    where
      to : IsDate K y m d → HasDays (position_for K y m) × (1 ≤ d) × (d ≤ (position_for K y m).days)
      to x =
          let h = has_days.1 (x.year_in, x.month_in) in
          let D = neither (eqb d 0) (ltb (length_in K y m) d) x.day_in in
          (h, omega (arith, eqb-false d 0 D.0), omega (arith, ltb-false (length_in K y m) d D.1, days_are h))

      from : HasDays (position_for K y m) × (1 ≤ d) × (d ≤ (position_for K y m).days) → IsDate K y m d
      from p =
          let h = has_days.0 p.0 in
          let l : d ≤ length_in K y m = omega (arith, p.2, days_are p.0) in
          record { year_in = h.0; month_in = h.1; day_in = rw (ne_eqb d 0 (omega (arith, p.1)), le-ltb (length_in K y m) d l) refl }

  -- what is tried after 4
  after_4 : ℕ → DayAnswer
  after_4 d =
      let n = day_number K y m d in
      cond (ended K n) (no_day_answer 17) (cond (day_out K n) (no_day_answer 5) (record { number = 0; day = n }))

  not_4 : (d : ℕ) → ¬ ((after_4 d).number ≡ 4)
  unfolding after_4
  not_4 d =
      let n = day_number K y m d in
      let Q : DayAnswer → Type 0 = λ x. ¬ (x.number ≡ 4) in
      cond_elim Q (ended K n) _ _ (λ e f. omega arith) (λ e. cond_elim Q (day_out K n) _ _ (λ e f. omega arith) (λ e f. omega arith))

  -- any other of its days is refused 4,
  pub other_days : HasDays (position_for K y m) → (d : ℕ) → ((day_for K y m d).number ≡ 4) ↔ ((d ≡ 0) ⊎ ((position_for K y m).days < d))
  unfolding day_for after_4
  other_days p d = rw ((has_days.0 p).0, (has_days.0 p).1) (to, from)
    where
      either : (t u : Bool) → eqb d 0 ≡ t → ltb (length_in K y m) d ≡ u → (t || u) ≡ true → (d ≡ 0) ⊎ ((position_for K y m).days < d)
      either true u e f g = inl (eqb-true d 0 e)
      either false true e f g = inr (omega (arith, ltb-true (length_in K y m) d f, days_are p))
      either false false e f g = absurd (true≢false (sym g))

      to : (cond (no_day K y m d) (no_day_answer 4) (after_4 d)).number ≡ 4 → (d ≡ 0) ⊎ ((position_for K y m).days < d)
      to e = either (eqb d 0) (ltb (length_in K y m) d) refl refl (chosen (λ (x : DayAnswer). x.number) (no_day K y m d) (no_day_answer 4) (after_4 d) (not_4 d) e)

      from : (d ≡ 0) ⊎ ((position_for K y m).days < d) → (cond (no_day K y m d) (no_day_answer 4) (after_4 d)).number ≡ 4
      from (inl e) = rw e refl
      from (inr l) = rw (lt-ltb (length_in K y m) d (omega (arith, days_are p)), or_true (eqb d 0)) refl
        where
          or_true : (t : Bool) → (t || true) ≡ true
          or_true true = refl
          or_true false = refl

  -- and where it is none, every date is refused 3
  pub none_dates : Is Case.none (position_for K y m) → (d : ℕ) → day_for K y m d ≡ no_day_answer 3
  unfolding day_for
  none_dates i d = let p = none_exactly.0 i in rw (p.0, p.1, eq-eqb (length_in K y m) 0 p.2) refl

  -- ---- the lengths of all positions

  -- a position from 1 on has its length; one above the positions has none
  pub days_in : year_out K y ≡ false → 1 ≤ m → (position_for K y m).days ≡ length_in K y m
  days_in o h = go (above_positions K y m) refl
    where
      place : {t : Bool} → above_positions K y m ≡ t → no_position K y m ≡ t
      place e = rw (ne_eqb m 0 (omega arith), e) refl

      go : (t : Bool) → above_positions K y m ≡ t → (position_for K y m).days ≡ length_in K y m
      go true e =
          ap (λ (x : PositionAnswer). x.days) (not_there o (place e))
          ∙ sym (get_or-eq_default (K.lengths y) 0 (omega (arith, ltb-true (length (K.lengths y)) m e)))
      go false e = (answered o (place e)).2

module _ (K : Calendar) (y : ℤ) (o : year_out K y ≡ false) where
  sum_to_lem : (n : ℕ) → sum_to (λ m. (position_for K y m).days) n ≡ total (take n (K.lengths y))
  unfolding sum_to total
  sum_to_lem zero = refl
  sum_to_lem (suc n) =
      let l : length_in K y (suc n) ≡ get_or (K.lengths y) n 0 = ap (λ (k : ℕ). get_or (K.lengths y) k 0) (omega arith) in
      omega (arith, sum_to_lem n, days_in K y (suc n) o (omega arith), total_take_suc n (K.lengths y))

  -- they are the days from the beginning of the year to that of the next
  pub year_days_lem : (n : ℕ) → length (K.lengths y) ≤ n
      → let i = years_from K.first_year y in start (years K) (suc i) ≡ start (years K) i + sum_to (λ m. (position_for K y m).days) n
  unfolding start
  year_days_lem n h =
      let s = sum_to_lem n ∙ ap total (take_all n (K.lengths y) h) in
      let l = ap total (lengths_at K y (neither (lt_z y K.first_year) (lt_z (pos 20000) y) o).0) in
      omega arith
