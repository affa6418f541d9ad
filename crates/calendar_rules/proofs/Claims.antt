-- What is shown of the sixteen calendars, on one page. It rests on these definitions: the rows (`table`, `calendar` of specs/Calendars.antt), what is answered
-- for a number (`day_answer_with`, and without a weekday `day_answer`, `date_answer`, `position_answer` of specs/Answers.antt; an answer whose number is 0 is no
-- refusal), and of crate counting what a calendar answers (`day_with`, `day_for`, `date_for`, `position_for`), the weekday of a day (`weekday_of`), the date that
-- follows (`next`), a date counted from the first year (`Date`), the order of dates (`Earlier`), which number is given (`Given`) and the cases of a position
-- (`Is`).
-- What counting's claims page shows of any calendar in which every year has days holds of each that is listed; here it is said by number.
use mathlib.Core.Path.{◌≡◌, refl, sym, ap, subst, ◌∙◌}
use mathlib.Core.Bool.{Bool, true, false, cond}
use mathlib.Core.Logic.{◌⊎◌, inl, inr, ⊎_elim, ◌↔◌}
use mathlib.Core.List.{◌∷◌}
use mathlib.Core.Option.{Option}
use Prim.Native.Nat.{ℕ, suc, ◌+◌, ◌≤◌, ◌<◌}
use native.Mathlib.Omega.{arith}
use lib.Dec.{eqb}
use lib.IntN.{ℤ, pos}
use lib.ListN.{length}
use Rattle.basics.specs.Every.{All}
use Rattle.counting.specs.Calendar.{Date, total, start, next}
use Rattle.counting.specs.Years.{years_from}
use Rattle.counting.specs.Answers.{Calendar, years, DayAnswer, no_day_answer, DateAnswer, last_day, year_out, date_on, the_date, dated, day_for, day_with, date_for}
use Rattle.counting.specs.Answers.{weekday_of, next_weekday, FitsDay, IsDate, last_with, last_of, Proper}
use Rattle.counting.specs.Positions.{Kind, PositionAnswer, no_position_answer, position_for, Case, Is, OneCase, HasDays, sum_to}
use Rattle.counting.specs.Order.{Earlier}
use Rattle.counting.specs.Given.{Given, date_order, day_order, position_order, OfDate, OfDay, OfPosition}
use Rattle.counting.proofs.Given as G
use Rattle.counting.proofs.Claims as C
use Rattle.counting.proofs.Positions as Q
use Rattle.counting.proofs.Weekdays as W
use Rattle.hebrew.specs.Hebrew.{leap}
use Rattle.calendar_rules.specs.Calendars.{republican, calendar, Listed}
use Rattle.calendar_rules.specs.Answers.{of_listed, day_answer, day_answer_with, date_answer, position_answer}
use Rattle.calendar_rules.specs.Given.{Asked, StripAt}
use Rattle.calendar_rules.specs.Examples as E
use Rattle.calendar_rules.specs.Examples.{Answered}
use Rattle.calendar_rules.proofs.Bounds as B
use Rattle.calendar_rules.proofs.Ends as N
use Rattle.calendar_rules.proofs.Examples as X
use Rattle.calendar_rules.proofs.Given.{asked}
use Rattle.calendar_rules.proofs.Positions as P
use Rattle.calendar_rules.proofs.Weekdays as D
use Rattle.calendar_rules.proofs.Listed.{Sound, listed_sound, sound_proper, end_if, end_is}

-- ---- a number that is listed: the answers are its calendar's

module _ {c : ℕ} {K : Calendar} (l : Listed c K) where
  sound : Sound c K
  sound = listed_sound l

  -- one that counting's theorems are about
  pub listed_proper : Proper K
  listed_proper = sound_proper sound

  pub day_asked : (y : ℤ) (m d : ℕ) → day_answer c y m d ≡ day_for K y m d
  unfolding day_answer
  day_asked y m d = rw l.row refl

  pub with_asked : (y : ℤ) (m d w : ℕ) → day_answer_with c y m d w ≡ day_with K y m d w
  unfolding day_answer_with
  with_asked y m d w = rw l.row refl

  pub date_asked : (n : ℕ) → date_answer c n ≡ date_for K n
  unfolding date_answer
  date_asked n = rw l.row refl

  pub position_asked : (y : ℤ) (m : ℕ) → position_answer c y m ≡ position_for K y m
  unfolding position_answer
  position_asked y m = rw l.row refl

  -- day to date is counting one by one from the listed first day: the first day is 1/1 of the first year,
  pub first_day_lem : date_answer c K.first_day ≡ the_date K.first_year 1 1 (weekday_of K.first_day)
  first_day_lem = date_asked K.first_day ∙ C.first_day_lem K listed_proper (B.year_opens sound.bounded 0) sound.to_last

  -- and each day after has the date that follows
  pub next_day : (n : ℕ) → K.first_day ≤ n → n < last_of K
      → (D : Date) × (date_answer c n ≡ dated K D (weekday_of n)) × (date_answer c (suc n) ≡ dated K (next (years K) D) (weekday_of (suc n)))
  next_day n f k = let x = C.next_day K listed_proper n f k in (x.0, date_asked n ∙ x.1, date_asked (suc n) ∙ x.2)

  -- and the next weekday
  pub next_weekday_lem : (n : ℕ) → K.first_day ≤ n → n < last_of K → (date_answer c (suc n)).weekday ≡ next_weekday (date_answer c n).weekday
  next_weekday_lem n f k = rw (date_asked n, date_asked (suc n)) (C.next_weekday_lem K listed_proper n f k)

  -- every day from the first to the last has a date, and it is accepted back, with its weekday
  pub every_day : (n : ℕ) → K.first_day ≤ n → n ≤ last_of K
      → let x = date_answer c n in (x.number ≡ 0) × (day_answer_with c x.year x.month x.day x.weekday ≡ record { number = 0; day = n })
  every_day n f k = let x = C.every_day K listed_proper n f k in rw (date_asked n) (x.0, with_asked _ _ _ _ ∙ x.1)

  -- a year has 353 to 385 days
  pub year_days_lem : (i : ℕ) → (353 ≤ total (years K i)) × (total (years K i) ≤ 385)
  year_days_lem = B.year_days_lem sound.bounded

-- ---- where the answer is no refusal, the number is listed

was_listed : {A : Type 0} (number : A → ℕ) (c : ℕ) (refusal : A) (answer : Calendar → A) → (number refusal ≡ 0 → ⊥)
    → number (of_listed (calendar c) refusal answer) ≡ 0
    → (K : Calendar) × Listed c K
was_listed number c refusal answer n = go (calendar c) refl
  where
    go : (o : Option Calendar) → calendar c ≡ o → number (of_listed o refusal answer) ≡ 0 → (K : Calendar) × Listed c K
    go Option.none l e = absurd (n e)
    go (Option.some K) l e = (K, record { row = l })

pub day_listed : (c : ℕ) (y : ℤ) (m d w : ℕ) → (day_answer_with c y m d w).number ≡ 0 → (K : Calendar) × Listed c K
unfolding day_answer_with
day_listed c y m d w = was_listed (λ (a : DayAnswer). a.number) c _ _ (λ e. omega arith)

pub date_listed : (c n : ℕ) → (date_answer c n).number ≡ 0 → (K : Calendar) × Listed c K
unfolding date_answer
date_listed c n = was_listed (λ (a : DateAnswer). a.number) c _ _ (λ e. omega arith)

pub position_listed : (c : ℕ) (y : ℤ) (m : ℕ) → (position_answer c y m).number ≡ 0 → (K : Calendar) × Listed c K
unfolding position_answer
position_listed c y m = was_listed (λ (a : PositionAnswer). a.number) c _ _ (λ e. omega arith)

-- ---- which number is answered: k exactly where the rules' table gives k (`Given` and what applies: specs/Given.antt, and that of crate counting)

pub day_number_lem : (c : ℕ) (y : ℤ) (m d w k : ℕ) → ((day_answer_with c y m d w).number ≡ k) ↔ Given (Asked c (λ K. OfDate K y m d w)) (1 ∷ date_order) k
unfolding day_answer_with
day_number_lem c y m d w = G.exactly (asked (λ (a : DayAnswer). a.number) c _ _ _ refl (λ K. G.not_1 K y m d w) (λ K. G.day_given K y m d w))

pub date_number : (c n k : ℕ) → ((date_answer c n).number ≡ k) ↔ Given (Asked c (λ K. OfDay K n)) (1 ∷ day_order) k
unfolding date_answer
date_number c n = G.exactly (asked (λ (a : DateAnswer). a.number) c _ _ _ refl (λ K. G.no_1 K n) (λ K. G.date_given K n))

pub position_number : (c : ℕ) (y : ℤ) (m k : ℕ) → ((position_answer c y m).number ≡ k) ↔ Given (Asked c (λ K. OfPosition K y m)) (1 ∷ position_order) k
unfolding position_answer
position_number c y m =
    G.exactly (asked (λ (a : PositionAnswer). a.number) c _ _ _ refl (λ K. G.position_not_1 K y m) (λ K. G.position_given K y m))

-- ---- a weekday handed in (`FitsDay` of crate counting: it is 0 or the day's; `day_answer` is the answer to a date without one)

module _ (c : ℕ) (y : ℤ) (m d : ℕ) where
  -- a date with weekday 0 is answered by its year, month and day,
  pub no_weekday : day_answer_with c y m d 0 ≡ day_answer c y m d
  no_weekday = D.with_weekday c y m d 0 ∙ W.no_weekday (day_answer c y m d)

  -- and so is one that is refused by these, whatever its weekday,
  pub refused_before : (w : ℕ) → ¬ ((day_answer c y m d).number ≡ 0) → day_answer_with c y m d w ≡ day_answer c y m d
  refused_before w n = D.with_weekday c y m d w ∙ W.refused w (day_answer c y m d) n

  -- and one whose weekday fits
  pub weekday_fits : (w : ℕ) → FitsDay w (day_answer c y m d).day → day_answer_with c y m d w ≡ day_answer c y m d
  weekday_fits w f = D.with_weekday c y m d w ∙ W.fitting w (day_answer c y m d) f

  -- 13 exactly where the rest is accepted and the weekday is neither 0 nor the day's; else, where the rest is accepted, the date is
  pub weekday_refused : (w : ℕ) → ((day_answer_with c y m d w).number ≡ 13) ↔ (((day_answer c y m d).number ≡ 0) × ¬ FitsDay w (day_answer c y m d).day)
  weekday_refused w = rw (D.with_weekday c y m d w) (W.refused_exactly w (day_answer c y m d) (D.not_13 c y m d))

  pub weekday_accepted : (w : ℕ) → ((day_answer_with c y m d w).number ≡ 0) ↔ (((day_answer c y m d).number ≡ 0) × FitsDay w (day_answer c y m d).day)
  weekday_accepted w = rw (D.with_weekday c y m d w) (W.accepted_exactly w (day_answer c y m d))

-- a date has a weekday from 1 to 7; only a refusal has 0
pub weekday_within : (c n : ℕ) → (date_answer c n).number ≡ 0 → (1 ≤ (date_answer c n).weekday) × ((date_answer c n).weekday ≤ 7)
weekday_within c n e =
    let l = date_listed c n e in
    let a = date_asked l.1 n in
    rw a (C.weekday_within l.0 (listed_proper l.1) n (rw a at e))

-- ---- counting, undoing, order

-- date to day agrees with counting: the day that a date is given is the one that counting reaches the date on
pub counted : (c : ℕ) (y : ℤ) (m d w : ℕ) → (day_answer_with c y m d w).number ≡ 0
    → (K : Calendar) × Listed c K
    × (let n = (day_answer_with c y m d w).day in (K.first_day ≤ n) × (n ≤ last_of K) × (date_on K n ≡ record { year = years_from K.first_year y; month = m; day = d }))
counted c y m d w e =
    let l = day_listed c y m d w e in
    let a = with_asked l.1 y m d w in
    (l.0, l.1, rw a (C.counted_day l.0 (listed_proper l.1) y m d w (rw a at e)))

-- each undoes the other, and the weekday is filled in
pub there_and_back : (c : ℕ) (y : ℤ) (m d w : ℕ) → (day_answer_with c y m d w).number ≡ 0
    → let n = (day_answer_with c y m d w).day in date_answer c n ≡ the_date y m d (weekday_of n)
there_and_back c y m d w e =
    let l = day_listed c y m d w e in
    let a = with_asked l.1 y m d w in
    rw a (date_asked l.1 _ ∙ C.there_and_back l.0 (listed_proper l.1) y m d w (rw a at e))

pub back_and_there : (c n : ℕ) → (date_answer c n).number ≡ 0
    → let x = date_answer c n in day_answer_with c x.year x.month x.day x.weekday ≡ record { number = 0; day = n }
back_and_there c n e =
    let l = date_listed c n e in
    let a = date_asked l.1 n in
    rw a (with_asked l.1 _ _ _ _ ∙ C.back_and_there l.0 (listed_proper l.1) n (rw a at e))

-- a date is given a day exactly where counting reaches it on a day up to the last, and its weekday fits
pub given_day : (c : ℕ) (y : ℤ) (m d w : ℕ) → ((day_answer_with c y m d w).number ≡ 0) ↔ ((n : ℕ) × (date_answer c n ≡ the_date y m d (weekday_of n)) × FitsDay w n)
given_day c y m d w = (to, from)
  where
    to : (day_answer_with c y m d w).number ≡ 0 → (n : ℕ) × (date_answer c n ≡ the_date y m d (weekday_of n)) × FitsDay w n
    to e =
        let l = day_listed c y m d w e in
        let x = (C.given_day l.0 (listed_proper l.1) y m d w).0 (rw (with_asked l.1 y m d w) at e) in
        (x.0, date_asked l.1 x.0 ∙ x.1, x.2)

    from : (n : ℕ) × (date_answer c n ≡ the_date y m d (weekday_of n)) × FitsDay w n → (day_answer_with c y m d w).number ≡ 0
    from x =
        let l = date_listed c x.0 (ap (λ (a : DateAnswer). a.number) x.1) in
        rw (with_asked l.1 y m d w)
        ((C.given_day l.0 (listed_proper l.1) y m d w).1 (x.0, sym (date_asked l.1 x.0) ∙ x.1, x.2))

-- dates in order have days in order, and the other way round
pub ordered : (c : ℕ) (y : ℤ) (m d w : ℕ) (y' : ℤ) (m' d' w' : ℕ) → (day_answer_with c y m d w).number ≡ 0 → (day_answer_with c y' m' d' w').number ≡ 0
    → Earlier y m d y' m' d' ↔ ((day_answer_with c y m d w).day < (day_answer_with c y' m' d' w').day)
ordered c y m d w y' m' d' w' e e' =
    let l = day_listed c y m d w e in
    let a = with_asked l.1 y m d w in
    let a' = with_asked l.1 y' m' d' w' in
    rw (a, a') (C.dates_ordered l.0 (listed_proper l.1) y m d w y' m' d' w' (rw a at e) (rw a' at e'))

-- ---- the positions of a year

-- a position is in one case, a month or a strip or none or refused, and in no other
pub one_case : (c : ℕ) (y : ℤ) (m : ℕ) → OneCase (position_answer c y m)
unfolding position_answer
one_case c y m = go (calendar c)
  where
    go : (o : Option Calendar) → OneCase (of_listed o (no_position_answer 1) (λ K. position_for K y m))
    go Option.none = Q.refused_case 1 (omega arith)
    go (Option.some K) = C.one_case K y m

-- it has days where it is not none
pub has_days : (c : ℕ) (y : ℤ) (m : ℕ) → ¬ ((position_answer c y m).kind ≡ Kind.none) → HasDays (position_answer c y m)
has_days c y m n = let o = one_case c y m in go o.0 o.1
  where
    go : (x : Case) → Is x (position_answer c y m) → HasDays (position_answer c y m)
    go Case.month i = inl i
    go Case.strip i = inr i
    go Case.none i = absurd (n i.1)
    go Case.refused i = absurd (n i.1)

-- a date exists (`IsDate` of crate counting) exactly where its position has days, as a month or a strip, and its day is from 1 to the length
pub dates : {c : ℕ} {K : Calendar} → Listed c K → (y : ℤ) (m d : ℕ) → IsDate K y m d ↔ (HasDays (position_answer c y m) × (1 ≤ d) × (d ≤ (position_answer c y m).days))
dates {c} {K} l y m d = rw (position_asked l y m) (C.dates K y m d)

-- date to day refuses 4 for the other days of such a position, and for no more,
pub other_days : (c : ℕ) (y : ℤ) (m : ℕ) → HasDays (position_answer c y m) → (d w : ℕ)
    → ((day_answer_with c y m d w).number ≡ 4) ↔ ((d ≡ 0) ⊎ ((position_answer c y m).days < d))
other_days c y m h d w =
    let l = position_listed c y m (⊎_elim (λ i. i.0) (λ i. i.0) h) in
    let a = position_asked l.1 y m in
    rw (a, with_asked l.1 y m d w) (C.other_days l.0 y m (rw a at h) d w)

-- and 3 for every date of a position that is none
pub none_dates : (c : ℕ) (y : ℤ) (m : ℕ) → Is Case.none (position_answer c y m) → (d w : ℕ) → day_answer_with c y m d w ≡ no_day_answer 3
none_dates c y m i d w =
    let l = position_listed c y m i.0 in
    rw (with_asked l.1 y m d w) (C.none_dates l.0 y m (rw (position_asked l.1 y m) at i) d w)

-- none is exactly position 7 of a common Hebrew year
pub none_exactly : (c : ℕ) (y : ℤ) (m : ℕ)
    → Is Case.none (position_answer c y m) ↔ ((c ≡ 18) × (m ≡ 7) × ((n : ℕ) × (y ≡ pos n) × (1 ≤ n) × (n ≤ 20000) × (leap n ≡ false)))
none_exactly c y m = (to, λ x. rw x.0 (rw (position_asked P.listed_18 y m) ((P.hebrew_none y m).1 (x.1, x.2))))
  where
    to : Is Case.none (position_answer c y m) → (c ≡ 18) × (m ≡ 7) × ((n : ℕ) × (y ≡ pos n) × (1 ≤ n) × (n ≤ 20000) × (leap n ≡ false))
    to i =
        let l = position_listed c y m i.0 in
        let j = rw (position_asked l.1 y m) at i in
        let e = P.none_of l.1 y m j in
        let h = (P.hebrew_none y m).0 (subst (λ (C : Calendar). Is Case.none (position_for C y m)) (P.is_hebrew l.1 e) j) in
        (e, h.0, h.1)

-- a strip is exactly a position that the rules list (`StripAt` of specs/Given.antt), in every year that the calendar has
pub strip_exactly : {c : ℕ} {K : Calendar} → Listed c K → (y : ℤ) (m : ℕ) → Is Case.strip (position_answer c y m) ↔ ((year_out K y ≡ false) × StripAt c m)
strip_exactly l y m = rw (position_asked l y m) (P.strips l y m)

-- the lengths of all positions of a year are the days from its beginning to that of the next
pub year_lengths : {c : ℕ} {K : Calendar} → Listed c K → (y : ℤ) → year_out K y ≡ false → (n : ℕ) → length (K.lengths y) ≤ n
    → let i = years_from K.first_year y in start (years K) (suc i) ≡ start (years K) i + sum_to (λ m. (position_answer c y m).days) n
year_lengths {c} {K} l y o n h =
    C.year_days_lem K y o n h ∙ ap (λ (f : ℕ → ℕ). start (years K) (years_from K.first_year y) + sum_to f n) (λ j m. (sym (position_asked l y m) j).days)

-- ---- the end: 5,373,484 is the last day that has a date, but in the Republican calendar, which ended

pub last_day_lem : {c : ℕ} {K : Calendar} → Listed c K → last_of K ≡ cond (eqb c 7) 2380687 5373484
last_day_lem {c} l = ap last_with (end_is l) ∙ go (eqb c 7)
  where
    go : (t : Bool) → last_with (end_if t) ≡ cond t 2380687 5373484
    go true = refl
    go false = refl

-- that day is 14/4/10
pub end_date : day_answer 7 (pos 14) 4 10 ≡ record { number = 0; day = 2380687 }
end_date = N.day_7 (pos 14) 4 10 ∙ N.end_date

-- a date is refused 17 exactly where it is one of that calendar's dates (`IsDate` of crate counting) and after 14/4/10,
pub ended_date : (c : ℕ) (y : ℤ) (m d w : ℕ) → ((day_answer_with c y m d w).number ≡ 17) ↔ ((c ≡ 7) × IsDate republican y m d × Earlier (pos 14) 4 10 y m d)
ended_date c y m d w =
    rw (D.with_weekday c y m d w) (W.other_number w (day_answer c y m d) (λ e. omega arith) (λ e. omega arith) (N.ended_date c y m d))

-- and a day exactly where it is one of the days from 2380688 to 5,373,484
pub ended_day : (c n : ℕ) → ((date_answer c n).number ≡ 17) ↔ ((c ≡ 7) × (2380687 < n) × (n ≤ last_day))
ended_day = N.ended_day

-- every day from 2375840 to 2380687 has a date, and it is accepted back
pub republican_days : (n : ℕ) → 2375840 ≤ n → n ≤ 2380687
    → let x = date_answer 7 n in (x.number ≡ 0) × (day_answer_with 7 x.year x.month x.day x.weekday ≡ record { number = 0; day = n })
republican_days = every_day N.listed_7

-- ---- worked examples (specs/Examples.antt): of each row a date and its day, what is answered at the limits and at the Republican end, to positions, and to
-- weekdays handed in

pub rows : All Answered E.rows
rows = X.rows_answered

pub limits : All Answered E.limits
limits = X.limits_answered

pub ends : All Answered E.ends
ends = X.ends_answered

pub strips : All Answered E.strips
strips = X.strips_answered

pub months : All Answered E.months
months = X.months_answered

pub weekdays : All Answered E.weekdays
weekdays = X.weekdays_answered
