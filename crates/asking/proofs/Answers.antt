-- The answers in steps are the answers: a year that is refused; a position that the year does not have; and one that it has, with the days in it.
use mathlib.Core.List.{List}
use mathlib.Core.Option.{Option}
use Rattle.std.specs.Prelude.{Some, None, is_some}
use Rattle.std.specs.Prelude as S
use mathlib.Core.Path.{◌≡◌, refl, sym, ap, subst, ◌∙◌}
use mathlib.Core.Bool.{Bool, true, false, cond, ◌&&◌, ◌||◌, true≢false}
use mathlib.Core.Logic.{◌⊎◌, inl, inr}
use Prim.Native.Nat.{ℕ, zero, suc, ◌+◌, ◌-◌, ◌*◌, ◌/◌, ◌%◌, ◌^◌, ◌≤◌, ◌<◌}
use native.Mathlib.Decide.{dec_lt}
use native.Mathlib.Omega.{arith}
use lib.Dec.{eqb, ltb}
use lib.IntN.{ℤ, negsuc}
use lib.ListN.{get_or, take}
use lib.Signed.{lt_z}
use borrow.Author.Tests.{le-ltb, lt-ltb, ltb-true, ltb-false, eqb-true, eqb-false, eq-eqb, ne_eqb}
use Rattle.counting.specs.Calendar.{total, start, len, day_of}
use Rattle.counting.specs.Years.{years_from}
use Rattle.counting.specs.Answers.{Calendar, years, DayAnswer, DateAnswer, last_day, last_year, year_out, no_month, no_day, day_out, day_number}
use Rattle.counting.specs.Answers.{length_in, no_days_that_year, no_day_answer, no_date_answer, day_for, date_for, dated, date_on, after, ended, last_of}
use Rattle.counting.specs.Answers.{weekday_of, FitsDay, wrong_weekday, weekday_tried}
use Rattle.counting.specs.Positions.{Kind, PositionAnswer, no_position, is_strip, kind_in, no_position_answer, position_for}
use Rattle.basics.proofs.Cases.{neither, cond_elim}
use Rattle.counting.proofs.Counting.{counted}
use Rattle.counting.proofs.Positions.{days_in}
use Rattle.counting.proofs.Rounds.{lengths_at, no_month_lem, last_small, past_end, answered}
use Rattle.counting.proofs.Signs.{years_small}
use Rattle.counting.proofs.Totals.{get_d_le_total}
use Rattle.counting.proofs.Weekdays.{tried, refused}
use Rattle.calendar_rules.specs.Calendars.{lookup, calendar, Listed}
use Rattle.calendar_rules.specs.Answers.{of_listed, day_answer, day_answer_with, date_answer, position_answer}
use Rattle.calendar_rules.proofs.Listed.{listed_sound, end_if, end_is}
use Rattle.calendar_rules.proofs.Positions.{absent}
use Rattle.calendar_rules.proofs.Bounds.{start_within, position_within, year_days_lem, has_days}
use Rattle.calendar_rules.proofs.Weekdays.{with_weekday}
use Rattle.calendar_rules.proofs.Claims.{day_asked, date_asked, position_asked}
use Rattle.months.specs.Parts.{length_at, IsLength, LengthAt, MonthOf, packed_in, PackedAt}
use Rattle.parts.specs.declared.Month.{Month}
use Rattle.parts.specs.declared.Place.{Place}
use Rattle.parts.specs.Found.{MonthAt, PlaceAt, PlaceTo}
use Rattle.asking.specs.Steps.{OfListed, packed_day, packed_tried, none_number, packed_none, none_there, given, Answered, Sought}
use Rattle.asking.specs.Steps.{on_day, in_range, try_end, end_tried, day_in, why_not, IsDate}
use Rattle.asking.proofs.Arms.{before_first, never}

-- ---- in a calendar, a year that is not refused

module _ (K : Calendar) (y : ℤ) (m : ℕ) (o : year_out K y ≡ false) where
  abbrev i : ℕ
  i = years_from K.first_year y

  abbrev b : ℕ
  b = K.first_day + start (years K) i + total (take (m - 1) (years K i))

  number_is : (d : ℕ) → day_number K y m d ≡ b + (d - 1)
  unfolding day_of
  number_is d = omega arith

  -- no such day number is before the first
  day_out_lem : (d : ℕ) → day_out K (day_number K y m d) ≡ ltb last_day (b + (d - 1))
  day_out_lem d = rw (number_is d, le-ltb (b + (d - 1)) K.first_day (omega arith)) (or_false (ltb last_day (b + (d - 1))))
    where
      or_false : (t : Bool) → (t || false) ≡ t
      or_false true = refl
      or_false false = refl

  lengths_are : K.lengths y ≡ years K i
  lengths_are = lengths_at K y (neither (lt_z y K.first_year) (lt_z last_year y) o).0

  day_for_lem : (d : ℕ) → day_for K y m d ≡ cond (eqb m 0 || eqb (len (years K i) m) 0) (no_day_answer 3) (day_in K b (len (years K i) m) d)
  unfolding day_for
  day_for_lem d = rw (o, no_month_lem K y m, lengths_are, day_out_lem d, number_is d) refl

-- ---- a day as one number

pub packed_in_lem : (K : Calendar) → K.end ≡ Option.none → (b l d : ℕ) → packed_in b l d ≡ packed_day (day_in K b l d)
packed_in_lem K f b l d = rw f (go (eqb d 0 || ltb l d) (ltb last_day (b + (d - 1))))
  where
    go : (t u : Bool) → cond t 17179869184 (cond u 21474836480 (b + (d - 1)))
        ≡ packed_day (cond t (no_day_answer 4) (cond u (no_day_answer 5) (record { number = 0; day = b + (d - 1) })))
    go true u = refl
    go false true = refl
    go false false = omega arith

-- ---- a position that there is not

module _ (c : ℕ) (y : ℤ) (m : ℕ) where
  -- no calendar that is listed for the number has it
  abbrev pub Nowhere : Type 0
  Nowhere = OfListed c (λ K. year_out K y ≡ false → no_month K y m ≡ true)

  pub day_none : Nowhere → (d : ℕ) → packed_none c y ≡ packed_day (day_answer c y m d)
  unfolding none_number day_answer day_for
  day_none h d = go (calendar c) refl
    where
      in_year : (K : Calendar) → Listed c K → (t : Bool) → year_out K y ≡ t → cond t 2 3 * 2 ^ 32 ≡ packed_day (day_for K y m d)
      in_year K l true e = rw e refl
      in_year K l false e = rw (e, h K l e) refl

      go : (o : Option Calendar) → calendar c ≡ o
          → of_listed o 1 (λ K. cond (year_out K y) 2 3) * 2 ^ 32 ≡ packed_day (of_listed o (no_day_answer 1) (λ K. day_for K y m d))
      go Option.none e = refl
      go (Option.some K) e = in_year K (record { row = e }) (year_out K y) refl

  -- since no calendar has the year, or since there is no month 0
  pub nowhere_year : (lt_z y (negsuc 4711) || lt_z last_year y) ≡ true → Nowhere
  nowhere_year e K l f = go (lt_z y (negsuc 4711)) refl (lt_z last_year y) refl e
    where
      o : (lt_z y K.first_year ≡ false) × (lt_z last_year y ≡ false)
      o = neither (lt_z y K.first_year) (lt_z last_year y) f

      go : (a : Bool) → lt_z y (negsuc 4711) ≡ a → (b : Bool) → lt_z last_year y ≡ b → (a || b) ≡ true → no_month K y m ≡ true
      go true ea b eb g = absurd (true≢false (sym (before_first c y K l ea) ∙ o.0))
      go false ea true eb g = absurd (true≢false (sym eb ∙ o.1))
      go false ea false eb g = absurd (true≢false (sym g))

  pub nowhere_0 : m ≡ 0 → Nowhere
  nowhere_0 e K l f = rw (no_month_lem K y m, eq-eqb m 0 e) refl

  -- since the year has no such position
  pub nowhere_zero : OfListed c (λ K. year_out K y ≡ false → length_at K (years_from K.first_year y) (m - 1) ≡ 0) → Nowhere
  nowhere_zero h K l f = rw (no_month_lem K y m, lengths_are K y m f, h K l f) (or_true (eqb m 0))
    where
      or_true : (t : Bool) → (t || true) ≡ true
      or_true true = refl
      or_true false = refl

-- ---- a position that there is, and a day in it

-- a calendar that has the year
pub record YearIn (c : ℕ) (y : ℤ) : Type 0 where
  pub calendar : Calendar
  pub listed : Listed c calendar
  pub inside : year_out calendar y ≡ false

-- the years from its first
abbrev pub years_of : {c : ℕ} {y : ℤ} → YearIn c y → ℕ
years_of {y = y} x = years_from x.calendar.first_year y

pub year_found : {A : Type 0} {c : ℕ} {y : ℤ} {P : Calendar → ℕ → Type 0} {a : A} → Sought c y P (Some a) → (x : YearIn c y) × P x.calendar (years_of x)
year_found {c = c} {y = y} {P = P} {a = a} s = go (calendar c) refl
  where
    n : Some a ≡ None → ⊥
    n e = true≢false (ap is_some e)

    in_year : (K : Calendar) → Listed c K → (t : Bool) → year_out K y ≡ t → (x : YearIn c y) × P x.calendar (years_of x)
    in_year K l true e = absurd (n (s.out K l e))
    in_year K l false e = (record { calendar = K; listed = l; inside = e }, s.there K l e)

    go : (o : Option Calendar) → calendar c ≡ o → (x : YearIn c y) × P x.calendar (years_of x)
    go Option.none e = absurd (n (s.off e))
    go (Option.some K) e = in_year K (record { row = e }) (year_out K y) refl

module _ {c : ℕ} {y : ℤ} (x : YearIn c y) (m : ℕ) where
  -- the position's length, and the day that it begins on
  abbrev pub days_of : ℕ
  days_of = length_at x.calendar (years_of x) (m - 1)

  abbrev pub begin_of : ℕ
  begin_of = x.calendar.first_day + start (years x.calendar) (years_of x) + total (take (m - 1) (years x.calendar (years_of x)))

  pub day_there : (m ≡ 0 → ⊥) → (days_of ≡ 0 → ⊥) → (d : ℕ) → day_in x.calendar begin_of days_of d ≡ day_answer c y m d
  day_there n z d = rw (day_asked x.listed y m d, day_for_lem x.calendar y m x.inside d, ne_eqb m 0 n, ne_eqb days_of 0 z) refl

  pub there_small : (begin_of ≤ 20000000) × (days_of ≤ 385)
  there_small =
      let s = listed_sound x.listed in
      let h = s.bounded in
      let r = years_of x in
      let o = neither (lt_z y x.calendar.first_year) (lt_z last_year y) x.inside in
      let k = years_small x.calendar.first_year y 4711 s.first_year_lem o.0 o.1 in (
        omega (arith, s.first_day_lem, start_within h r, position_within h r (m - 1)),
        omega (arith, get_d_le_total (years x.calendar r) (m - 1), year_days_lem h r),
      )

  -- as code has them, from the position that was found
  module _ {start days : ℕ} (f : MonthOf x.calendar (years_of x) (m - 1) start days) (n : m ≡ 0 → ⊥) (k : 1 ≤ days) where
    begins_there : start ≡ begin_of
    begins_there = f.begins k

    pub found_small : (start ≤ 20000000) × (days ≤ 385)
    found_small = let s = there_small in (omega (arith, s.0, begins_there), omega (arith, s.1, f.length_is))

    pub found_day : (d : ℕ) → packed_day (day_in x.calendar start days d) ≡ packed_day (day_answer c y m d)
    found_day d = ap packed_day ((λ i. day_in x.calendar (begins_there i) (f.length_is i) d) ∙ day_there n (λ e. omega (arith, k, f.length_is, e)) d)

  -- and of a position that the year may have or not, where the calendar did not end
  pub packed_there : x.calendar.end ≡ Option.none → (d r : ℕ) → (m ≡ 0 → ⊥) → PackedAt x.calendar (years_of x) (m - 1) d r
      → r ≡ packed_day (day_answer c y m d)
  packed_there f d r n p = go (dec_lt 0 days_of)
    where
      go : Dec (0 < days_of) → r ≡ packed_day (day_answer c y m d)
      go (yes l) = p.there l ∙ packed_in_lem x.calendar f _ _ d ∙ ap packed_day (day_there n (λ z. omega arith) d)
      go (no l) =
          let e : day_answer c y m d ≡ no_day_answer 3 =
          rw (day_asked x.listed y m d, day_for_lem x.calendar y m x.inside d, ne_eqb m 0 n, eq-eqb days_of 0 (omega arith)) refl in
          p.none (omega arith) ∙ ap packed_day (sym e)

-- ---- 17, tried on a day

and-false : (t : Bool) → (t && false) ≡ false
and-false true = refl
and-false false = refl

-- of a day it makes what is answered
pub end_tried_lem : {c : ℕ} {K : Calendar} → Listed c K → (n : ℕ) → n < 2 ^ 32 → end_tried c (in_range n) ≡ packed_day (on_day K n)
unfolding end_tried try_end
end_tried_lem {c} {K} l n s = rw (l.row, end_is l) (go (eqb c 7) (ltb last_day n) refl (ltb 2380687 n) refl)
  where
    go : (t u : Bool) → ltb last_day n ≡ u → (v : Bool) → ltb 2380687 n ≡ v
        → try_end (end_if t) (cond u (5 * 2 ^ 32) n)
        ≡ packed_day (cond (after (end_if t) n) (no_day_answer 17) (cond u (no_day_answer 5) (record { number = 0; day = n })))
    go false true e v f = refl
    go false false e v f = omega arith
    go true true e true f = rw f refl
    go true true e false f = absurd (omega (arith, ltb-true last_day n e, ltb-false 2380687 n f))
    go true false e true f = rw (f, lt-ltb n (2 ^ 32) s) refl
    go true false e false f = rw f (omega arith)

-- it is tried of calendar 7, and of no other
pub end_of_7 : {c : ℕ} (r : ℕ) → c ≡ 7 → try_end (Option.some 2380687) r ≡ end_tried c r
unfolding end_tried calendar lookup
end_of_7 {c} r e = rw e refl

pub end_of_other : {c : ℕ} (r : ℕ) → (c ≡ 7 → ⊥) → r ≡ end_tried c r
unfolding end_tried try_end
end_of_other {c} r n = go (calendar c) refl
  where
    go : (o : Option Calendar) → calendar c ≡ o → r ≡ of_listed o r (λ K. try_end K.end r)
    go Option.none e = refl
    go (Option.some K) e =
        let l : Listed c K = record { row = e } in
        rw (end_is l, ne_eqb c 7 n) refl

-- ---- as code has them, from what was sought

module _ {c : ℕ} {y : ℤ} (m : ℕ) (h : m ≡ 0 → ⊥) (d : ℕ) where
  -- the position is not there
  pub not_there : Sought {A = Month} c y (λ K i. MonthAt K i (m - 1) None) None → packed_none c y ≡ packed_day (day_answer c y m d)
  not_there s = day_none c y m (nowhere_zero c y m s.there) d

  module _ {month : Month} (s : Sought c y (λ K i. MonthAt K i (m - 1) (Some month)) (Some month)) where
    there : (x : YearIn c y) × (month.start ≤ 20000000) × (month.days ≤ 385)
        × (packed_day (day_in x.calendar month.start month.days d) ≡ packed_day (day_answer c y m d))
    there =
        let x = year_found s in
        let b = found_small x.0 m x.1.1 h x.1.0 in
        (x.0, b.0, b.1, found_day x.0 m x.1.1 h x.1.0 d)

    -- it has no such day
    pub no_such_day : (eqb d 0 || ltb month.days d) ≡ true → 4 * 2 ^ 32 ≡ packed_day (day_answer c y m d)
    no_such_day t = refused there.0.calendar t ∙ there.3
      where
        refused : (K : Calendar) → (eqb d 0 || ltb month.days d) ≡ true → 4 * 2 ^ 32 ≡ packed_day (day_in K month.start month.days d)
        refused K t = rw t refl

    -- or has it
    pub found : (eqb d 0 || ltb month.days d) ≡ false
        → (1 ≤ d) × (d ≤ 385) × (month.start ≤ 20000000) × (end_tried c (in_range (month.start + (d - 1))) ≡ packed_day (day_answer c y m d))
    found t =
        let o = neither (eqb d 0) (ltb month.days d) t in
        let l = ltb-false month.days d o.1 in
        let k : 1 ≤ d = omega (arith, eqb-false d 0 o.0) in
        let x = there in
        let e : d ≤ 385 = omega (arith, l, x.2) in
        (k, e, x.1, end_tried_lem x.0.listed (month.start + (d - 1)) (omega (arith, x.1)) ∙ given x.0.calendar t ∙ x.3)
      where
        given : (K : Calendar) → (eqb d 0 || ltb month.days d) ≡ false
            → packed_day (on_day K (month.start + (d - 1))) ≡ packed_day (day_in K month.start month.days d)
        given K t = rw t refl

-- ---- a position: its days first

-- a position of a year without days
without_days : (K : Calendar) (y : ℤ) (m : ℕ) → year_out K y ≡ false → (position_for K y m).days ≡ 0 → no_month K y m ≡ true
unfolding position_for
without_days K y m o z = go (no_position K y m) (rw o at z)
  where
    go : (t : Bool) → (cond t (no_position_answer 3) (record { number = 0; kind = kind_in K y m; days = length_in K y m })).days ≡ 0 → (t || no_days_that_year K y m) ≡ true
    go true z = refl
    go false z = eq-eqb (length_in K y m) 0 z

module _ (c : ℕ) (y : ℤ) (m : ℕ) where
  -- where no calendar that is listed has it there are none
  pub no_days : Nowhere c y m → 0 ≡ (position_answer c y m).days
  unfolding position_answer position_for
  no_days h = go (calendar c) refl
    where
      in_calendar : (K : Calendar) (t : Bool) → (t ≡ false → no_month K y m ≡ true) → (u : Bool) → no_position K y m ≡ u
          → 0 ≡ (cond t (no_position_answer 2) (cond u (no_position_answer 3) (record { number = 0; kind = kind_in K y m; days = length_in K y m }))).days
      in_calendar K true h u e = refl
      in_calendar K false h true e = refl
      in_calendar K false h false e = sym (eqb-true (length_in K y m) 0 (sym (ap (λ (t : Bool). t || no_days_that_year K y m) e) ∙ h refl))

      go : (o : Option Calendar) → calendar c ≡ o → 0 ≡ (of_listed o (no_position_answer 1) (λ K. position_for K y m)).days
      go Option.none e = refl
      go (Option.some K) e = in_calendar K (year_out K y) (h K (record { row = e })) (no_position K y m) refl

  pub days_found : (found : S.Option ℕ) → (m ≡ 0 → ⊥) → Sought c y (λ K i. LengthAt K i (m - 1) found) found → IsLength (position_answer c y m).days found
  days_found None h s = sym (no_days (nowhere_zero c y m s.there))
  days_found (Some n) h s =
      let x = year_found s in
      let K = x.0.calendar in (
        x.1.0,
        x.1.1
            ∙ ap (λ (ls : List ℕ). get_or ls (m - 1) 0) (sym (lengths_are K y m x.0.inside))
            ∙ sym (days_in K y m x.0.inside (omega (arith, h)))
            ∙ ap (λ (a : PositionAnswer). a.days) (sym (position_asked x.0.listed y m)),
      )

  -- where there are none, it is none this year or refused,
  pub days_none : (position_answer c y m).days ≡ 0 → none_there c m (none_number c y) ≡ position_answer c y m
  unfolding position_answer none_number position_for
  days_none z = go (calendar c) refl z
    where
      in_year : (K : Calendar) → Listed c K → (t : Bool) → year_out K y ≡ t → (position_for K y m).days ≡ 0 → none_there c m (cond t 2 3) ≡ position_for K y m
      in_year K l true e z = rw e refl
      in_year K l false e z = sym (absent l y e m (without_days K y m e z))

      go : (o : Option Calendar) → calendar c ≡ o → (of_listed o (no_position_answer 1) (λ K. position_for K y m)).days ≡ 0
          → none_there c m (of_listed o 1 (λ K. cond (year_out K y) 2 3)) ≡ of_listed o (no_position_answer 1) (λ K. position_for K y m)
      go Option.none e z = refl
      go (Option.some K) e z = in_year K (record { row = e }) (year_out K y) refl z

  -- and where there are some, a strip or a month, as the calendar's strip says
  days_there : (n : ℕ) (t : Bool) → IsLength (position_answer c y m).days (Some n) → OfListed c (λ K. is_strip K.strip m ≡ t)
      → ◌≡◌ {A = PositionAnswer} (record { number = 0; kind = cond t Kind.strip Kind.month; days = n }) (position_answer c y m)
  unfolding position_answer position_for
  days_there n t d f = go (calendar c) refl d.1
    where
      h : n ≡ 0 → ⊥
      h e = omega (arith, d.0, e)

      in_calendar : (K : Calendar) → Listed c K → (o u : Bool) → no_position K y m ≡ u → (v : Bool) → no_days_that_year K y m ≡ v
          → let x : PositionAnswer =
          cond o (no_position_answer 2)
          (cond u (no_position_answer 3)
          (record { number = 0; kind = cond v Kind.none (cond (is_strip K.strip m) Kind.strip Kind.month); days = length_in K y m })) in
          n ≡ x.days → ◌≡◌ {A = PositionAnswer} (record { number = 0; kind = cond t Kind.strip Kind.month; days = n }) x
      in_calendar K l true u q v d e = absurd (h e)
      in_calendar K l false true q v d e = absurd (h e)
      in_calendar K l false false q true d e = absurd (h (e ∙ eqb-true (length_in K y m) 0 d))
      in_calendar K l false false q false d e = λ j. record { number = 0; kind = cond (sym (f K l) j) Kind.strip Kind.month; days = e j }

      go : (o : Option Calendar) → calendar c ≡ o → n ≡ (of_listed o (no_position_answer 1) (λ K. position_for K y m)).days
          → ◌≡◌ {A = PositionAnswer} (record { number = 0; kind = cond t Kind.strip Kind.month; days = n }) (of_listed o (no_position_answer 1) (λ K. position_for K y m))
      go Option.none g e = absurd (h e)
      go (Option.some K) g e = in_calendar K (record { row = g }) (year_out K y) (no_position K y m) refl (no_days_that_year K y m) refl e

  module _ {n : ℕ} {strip : S.Option ℕ} (d : IsLength (position_answer c y m).days (Some n)) (f : OfListed c (λ K. strip ≡ given K.strip)) where
    pub strip_there : strip ≡ Some m → ◌≡◌ {A = PositionAnswer} (record { number = 0; kind = Kind.strip; days = n }) (position_answer c y m)
    strip_there g = days_there n true d (λ K l. it_is K.strip (sym (f K l) ∙ g))
      where
        it_is : (o : Option ℕ) → given o ≡ Some m → is_strip o m ≡ true
        it_is Option.none e = absurd (true≢false (sym (ap is_some e)))
        it_is (Option.some p) e = eq-eqb m p (sym (ap (λ (x : S.Option ℕ). S.unwrap_or x 0) e))

    pub month_there : (strip ≡ Some m → ⊥) → ◌≡◌ {A = PositionAnswer} (record { number = 0; kind = Kind.month; days = n }) (position_answer c y m)
    month_there g = days_there n false d (λ K l. it_is_not K.strip (λ e. g (f K l ∙ e)))
      where
        it_is_not : (o : Option ℕ) → (given o ≡ Some m → ⊥) → is_strip o m ≡ false
        it_is_not Option.none n = refl
        it_is_not (Option.some p) n = ne_eqb m p (λ e. n (ap S.Some (sym e)))

-- which of those without days are none this year
module _ (c m : ℕ) where
  pub refused_as : (y : ℤ) {k : ℕ} → ¬ (k ≡ 3) → k ≡ none_number c y → no_position_answer k ≡ none_there c m (none_number c y)
  refused_as y {k} n e = let f : no_position_answer k ≡ none_there c m k = rw (ne_eqb k 3 n) refl in f ∙ ap (none_there c m) e

  pub none_then : c ≡ 18 → m ≡ 7 → ◌≡◌ {A = PositionAnswer} (record { number = 0; kind = Kind.none; days = 0 }) (none_there c m 3)
  none_then e f = rw (e, f) refl

  pub not_hebrew : ¬ (c ≡ 18) → no_position_answer 3 ≡ none_there c m 3
  not_hebrew n = rw (ne_eqb c 18 n) refl

  pub not_seventh : ¬ (m ≡ 7) → no_position_answer 3 ≡ none_there c m 3
  not_seventh n = rw (ne_eqb m 7 n, and-false (eqb c 18)) refl

-- ---- and back

-- r is x packed: what its number in the high place says of x
abbrev Unpacks : ℕ → DayAnswer → Type 0
Unpacks r x = r ≡ packed_day x
    → (5 < r / 4294967296 → ¬ (r / 4294967296 ≡ 13) → r / 4294967296 ≡ 17)
    × (r / 4294967296 ≡ 0 → ◌≡◌ {A = DayAnswer} (record { number = 0; day = r }) x)
    × ((k : ℕ) → r / 4294967296 ≡ suc k → no_day_answer (suc k) ≡ x)

unpacks_refused : (r j : ℕ) → (5 < suc j → ¬ (suc j ≡ 13) → suc j ≡ 17) → Unpacks r (no_day_answer (suc j))
unpacks_refused r j h e =
    let q : r / 4294967296 ≡ suc j = omega arith in
    ((λ g n. q ∙ h (omega arith) (λ z. n (q ∙ z))), (λ z. absurd (omega arith)), λ k z. ap no_day_answer (omega arith))

unpacks_day : (r n : ℕ) → n ≤ last_day → Unpacks r (record { number = 0; day = n })
unpacks_day r n h e =
    let q : r ≡ n = omega arith in
    ((λ g n. absurd (omega arith)), (λ z. ap (λ (k : ℕ). record { number = 0; day = k }) q), λ k z. absurd (omega arith))

-- of a date without a weekday,
unpacks_rest : (c : ℕ) (y : ℤ) (m d r : ℕ) → Unpacks r (day_answer c y m d)
unfolding day_answer day_for
unpacks_rest c y m d r = go (calendar c)
  where
    go : (o : Option Calendar) → Unpacks r (of_listed o (no_day_answer 1) (λ K. day_for K y m d))
    go Option.none = unpacks_refused r 0 (λ g n. omega arith)
    go (Option.some K) =
        cond_elim (Unpacks r) (year_out K y) _ _ (λ h. unpacks_refused r 1 (λ g n. omega arith))
        (λ h. cond_elim (Unpacks r) (no_month K y m) _ _ (λ h. unpacks_refused r 2 (λ g n. omega arith))
        (λ h. cond_elim (Unpacks r) (no_day K y m d) _ _ (λ h. unpacks_refused r 3 (λ g n. omega arith))
        (λ h. cond_elim (Unpacks r) (ended K (day_number K y m d)) _ _ (λ h. unpacks_refused r 16 (λ g n. refl))
        (λ h. cond_elim (Unpacks r) (day_out K (day_number K y m d)) _ _ (λ h. unpacks_refused r 4 (λ g n. omega arith))
        (λ h. unpacks_day r (day_number K y m d)
        (ltb-false last_day (day_number K y m d) (neither (ltb last_day (day_number K y m d)) (ltb (day_number K y m d) K.first_day) h).0))))))

-- and with one
pub unpacks : (c : ℕ) (y : ℤ) (m d w r : ℕ) → Unpacks r (day_answer_with c y m d w)
unpacks c y m d w r = subst (Unpacks r) (sym (with_weekday c y m d w)) (go (tried w (day_answer c y m d)))
  where
    go : ((weekday_tried w (day_answer c y m d) ≡ no_day_answer 13) × ((day_answer c y m d).number ≡ 0) × ¬ FitsDay w (day_answer c y m d).day)
        ⊎ ((weekday_tried w (day_answer c y m d) ≡ day_answer c y m d) × ((day_answer c y m d).number ≡ 0 → FitsDay w (day_answer c y m d).day))
        → Unpacks r (weekday_tried w (day_answer c y m d))
    go (inl t) = subst (Unpacks r) (sym t.0) (unpacks_refused r 12 (λ g n. absurd (n refl)))
    go (inr t) = subst (Unpacks r) (sym t.0) (unpacks_rest c y m d r)

-- from the one to the other
pub packed_with : (c : ℕ) (y : ℤ) (m d w r : ℕ) → r ≡ packed_day (day_answer c y m d) → packed_tried w r ≡ packed_day (day_answer_with c y m d w)
unfolding weekday_tried
packed_with c y m d w r e = go (r / 4294967296) refl (unpacks_rest c y m d r e) ∙ ap packed_day (sym (with_weekday c y m d w))
  where
    either_way : (t : Bool) → cond t (13 * 2 ^ 32) r ≡ packed_day (cond t (no_day_answer 13) (record { number = 0; day = r }))
    either_way true = refl
    either_way false = omega arith

    go : (k : ℕ) → r / 4294967296 ≡ k
        → (5 < r / 4294967296 → ¬ (r / 4294967296 ≡ 13) → r / 4294967296 ≡ 17)
        × (r / 4294967296 ≡ 0 → ◌≡◌ {A = DayAnswer} (record { number = 0; day = r }) (day_answer c y m d))
        × ((k : ℕ) → r / 4294967296 ≡ suc k → no_day_answer (suc k) ≡ day_answer c y m d)
        → packed_tried w r ≡ packed_day (weekday_tried w (day_answer c y m d))
    go zero f u = rw (sym (u.1 f), lt-ltb r 4294967296 (omega arith)) (either_way (wrong_weekday w r))
    go (suc k) f u =
        let n = ap (λ (a : DayAnswer). a.number) (u.2 k f) in
        rw (le-ltb r 4294967296 (omega arith), refused w (day_answer c y m d) (λ z. omega (arith, n, z))) e

-- and its two fields
pub fields : (c : ℕ) (y : ℤ) (m d w r : ℕ) → r ≡ packed_day (day_answer_with c y m d w)
    → ◌≡◌ {A = DayAnswer} (record { number = r / 4294967296; day = r % 4294967296 }) (day_answer_with c y m d w)
fields c y m d w r e = go (r / 4294967296) refl (unpacks c y m d w r e)
  where
    both_are : {a b : ℕ} → r / 4294967296 ≡ a → r % 4294967296 ≡ b
        → ◌≡◌ {A = DayAnswer} (record { number = r / 4294967296; day = r % 4294967296 }) (record { number = a; day = b })
    both_are f g = λ i. record { number = f i; day = g i }

    go : (k : ℕ) → r / 4294967296 ≡ k
        → (5 < r / 4294967296 → ¬ (r / 4294967296 ≡ 13) → r / 4294967296 ≡ 17)
        × (r / 4294967296 ≡ 0 → ◌≡◌ {A = DayAnswer} (record { number = 0; day = r }) (day_answer_with c y m d w))
        × ((k : ℕ) → r / 4294967296 ≡ suc k → no_day_answer (suc k) ≡ day_answer_with c y m d w)
        → ◌≡◌ {A = DayAnswer} (record { number = r / 4294967296; day = r % 4294967296 }) (day_answer_with c y m d w)
    go zero f u = both_are f (omega arith) ∙ u.1 f
    go (suc k) f u = let p = ap packed_day (u.2 k f) in both_are f (omega arith) ∙ u.2 k f

-- ---- day to date

-- in a calendar: where the month is 0 there is no date, and why not
module _ {c : ℕ} {K : Calendar} (l : Listed c K) (n : ℕ) where
  -- a day that has a date
  month_from_1 : K.first_day ≤ n → n ≤ last_of K → 1 ≤ (date_for K n).month
  month_from_1 f k =
      let g = counted (years K) (has_days (listed_sound l).bounded) (n - K.first_day) in
      omega (arith, ap (λ (a : DateAnswer). a.month) (answered K n f k), g.0.month_from_1)

  why_not_lem : (date_for K n).month ≡ 0 → date_for K n ≡ no_date_answer (why_not K n)
  unfolding date_for
  why_not_lem z = go (dec_lt last_day n) (dec_lt (last_of K) n)
    where
      go : Dec (last_day < n) → Dec (last_of K < n) → date_for K n ≡ no_date_answer (why_not K n)
      go (yes h) b = rw (lt-ltb last_day n h) refl
      go (no h) (yes k) =
          rw (
            le-ltb last_day n (omega arith),
            le-ltb n K.first_day (omega (arith, (listed_sound l).to_last)),
            lt-ltb (last_of K) n k,
            past_end K.end k (omega arith),
          ) refl
      go (no h) (no k) = early (dec_lt n K.first_day)
        where
          early : Dec (n < K.first_day) → date_for K n ≡ no_date_answer (why_not K n)
          early (yes f) = rw (le-ltb last_day n (omega arith), lt-ltb n K.first_day f, le-ltb (last_of K) n (omega arith)) refl
          early (no f) = absurd (omega (arith, month_from_1 (omega arith) (omega arith)))

  -- after the last day, and before the first
  late_month : last_of K < n → (date_for K n).month ≡ 0
  unfolding date_for
  late_month h = go (dec_lt last_day n)
    where
      go : Dec (last_day < n) → (date_for K n).month ≡ 0
      go (yes k) = rw (lt-ltb last_day n k) refl
      go (no k) = cond_elim (λ (a : DateAnswer). a.month ≡ 0) (day_out K n) _ _ (λ e. refl) (λ e. rw (past_end K.end h (omega arith)) refl)

  early_month : n ≤ last_day → n < K.first_day → (date_for K n).month ≡ 0
  unfolding date_for
  early_month k h = rw (le-ltb last_day n k, lt-ltb n K.first_day h) refl

  -- the date that was found is the one that is answered
  placed_date : (found : S.Option Place) → PlaceTo K (last_of K) n found → IsDate (date_for K n) found
  placed_date None (inl h) = early_month (omega (arith, h, (listed_sound l).to_last, last_small K.end)) h
  placed_date None (inr h) = late_month h
  placed_date (Some date) p =
      let e = answered K n p.1.0 p.0 in
      let D = p.1.1 in
      rw e ((λ z. omega (arith, month_from_1 p.1.0 p.0, ap (λ (a : DateAnswer). a.month) e, z)), D.year, D.month, D.day)

-- a day before the first has no place
pub early_place : (K : Calendar) (n : ℕ) → n < K.first_day → PlaceAt K n S.None
early_place K n h = h

-- the date of a day that is not too late
pub to_last : (K : Calendar) {last n : ℕ} (found : S.Option Place) → n ≤ last → PlaceAt K n found → PlaceTo K last n found
to_last K None h p = inl p
to_last K (Some date) h p = (h, p)

module _ (c n : ℕ) where
  -- what holds of the refusal of a number that is not listed, and of what its calendar answers
  of_answer : (P : DateAnswer → Type 0) → (calendar c ≡ Option.none → P (no_date_answer 1)) → OfListed c (λ K. P (date_for K n)) → P (date_answer c n)
  unfolding date_answer
  of_answer P r f = go (calendar c) refl
    where
      go : (o : Option Calendar) → calendar c ≡ o → P (of_listed o (no_date_answer 1) (λ K. date_for K n))
      go Option.none e = r e
      go (Option.some K) e = f K (record { row = e })

  pub late_date : last_day < n → (date_answer c n).month ≡ 0
  late_date h = of_answer (λ a. a.month ≡ 0) (λ e. refl) (λ K l. late_month l n (omega (arith, last_small K.end)))

  pub date_found : (found : S.Option Place) → Answered c (λ K. PlaceTo K (last_of K) n found) found → IsDate (date_answer c n) found
  date_found found p = of_answer (λ a. IsDate a found) (λ e. rw (p.off e) refl) (λ K l. placed_date l n found (p.on K l))

  -- and back: it is refused where its month is 0, and only there
  pub date_refused : (date_answer c n).month ≡ 0
      → (calendar c ≡ Option.none → no_date_answer 1 ≡ date_answer c n) × OfListed c (λ K. no_date_answer (why_not K n) ≡ date_answer c n)
  date_refused z = ((λ e. rw (none_asked e) refl), λ K l. sym (date_asked l n ∙ why_not_lem l n (sym (ap (λ (a : DateAnswer). a.month) (date_asked l n)) ∙ z)))
    where
      none_asked : calendar c ≡ Option.none → date_answer c n ≡ no_date_answer 1
      none_asked e = of_answer (λ a. a ≡ no_date_answer 1) (λ f. refl) (λ K l. never (sym l.row ∙ e))

  pub date_given : ((date_answer c n).month ≡ 0 → ⊥) → (0 ≡ (date_answer c n).number) × (weekday_of n ≡ (date_answer c n).weekday)
  unfolding date_for
  date_given =
      of_answer (λ a. (a.month ≡ 0 → ⊥) → (0 ≡ a.number) × (weekday_of n ≡ a.weekday)) (λ e h. absurd (h refl))
      (λ K l. in_range_lem K (day_out K n) (ended K n))
    where
      in_range_lem : (K : Calendar) (t u : Bool)
          → let a = cond t (no_date_answer 5) (cond u (no_date_answer 17) (dated K (date_on K n) (weekday_of n))) in
          (a.month ≡ 0 → ⊥) → (0 ≡ a.number) × (weekday_of n ≡ a.weekday)
      in_range_lem K true u h = absurd (h refl)
      in_range_lem K false true h = absurd (h refl)
      in_range_lem K false false h = (refl, refl)

-- why there is no position is 1, 2 or 3
pub none_within : (c : ℕ) (y : ℤ) → (1 ≤ none_number c y) × (none_number c y ≤ 3)
unfolding none_number
none_within c y = go (calendar c)
  where
    in_year : (t : Bool) → (1 ≤ cond {A = ℕ} t 2 3) × (cond {A = ℕ} t 2 3 ≤ 3)
    in_year true = omega arith
    in_year false = omega arith

    go : (o : Option Calendar) → (1 ≤ of_listed o 1 (λ K. cond (year_out K y) 2 3)) × (of_listed o 1 (λ K. cond (year_out K y) 2 3) ≤ 3)
    go Option.none = omega arith
    go (Option.some K) = in_year (year_out K y)
