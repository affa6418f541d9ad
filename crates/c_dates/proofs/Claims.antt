-- What is shown of the functions for C, on one page. Each promise in `src/lib.rt` is an equation, for every input: the fields of the struct that C gets
-- (`day_fields`, `date_fields`, `position_fields` of specs/Fields.antt) are the answer that crate calendar_rules defines (`day_answer_with`, `date_answer`,
-- `position_answer`). What these mean is on its claims page. Here: where the number is not 0, every other field is 0.
use mathlib.Core.Path.{◌≡◌, refl}
use mathlib.Core.Bool.{◌&&◌}
use mathlib.Core.Option.{Option}
use Prim.Native.Nat.{ℕ}
use lib.Dec.{eqb}
use lib.IntN.{ℤ, pos}
use Rattle.basics.proofs.Cases.{cond_elim}
use Rattle.refusals.specs.Number.{Refused}
use Rattle.counting.specs.Answers.{Calendar, DayAnswer, DateAnswer, no_day_answer, no_date_answer}
use Rattle.counting.specs.Answers.{year_out, no_month, no_day, day_out, ended, wrong_weekday, day_number, day_for, weekday_tried, date_for}
use Rattle.counting.specs.Positions.{PositionAnswer, no_position, no_position_answer, position_for}
use Rattle.calendar_rules.specs.Calendars.{calendar}
use Rattle.calendar_rules.specs.Answers.{of_listed, day_answer_with, date_answer, position_answer}
use Rattle.c_dates.specs.Fields.{position_fields}
use Rattle.c_dates.specs.declared.PositionFields.{PositionFields}

-- what holds of the refusal and of every calendar's answer holds of what is answered for a number
listed_elim : {A : Type 0} (P : A → Type 0) (o : Option Calendar) (refusal : A) (answer : Calendar → A) → P refusal → ((K : Calendar) → P (answer K))
    → P (of_listed o refusal answer)
listed_elim P Option.none refusal answer r f = r
listed_elim P (Option.some K) refusal answer r f = f K

-- ---- date to day

pub record DayZero (x : DayAnswer) : Type 0 where
  pub zero : Refused x.number → x.day ≡ 0

no_day_lem : (k : ℕ) → DayZero (no_day_answer k)
no_day_lem k = record { zero = λ h. refl }

pub day_zero : (c : ℕ) (y : ℤ) (m d w : ℕ) → DayZero (day_answer_with c y m d w)
unfolding day_answer_with weekday_tried day_for
day_zero c y m d w =
    listed_elim DayZero (calendar c) _ _ (no_day_lem 1)
    (λ K. cond_elim DayZero (eqb (day_for K y m d).number 0 && wrong_weekday w (day_for K y m d).day) _ _ (λ e. no_day_lem 13)
    (λ e. cond_elim DayZero (year_out K y) _ _ (λ e. no_day_lem 2)
    (λ e. cond_elim DayZero (no_month K y m) _ _ (λ e. no_day_lem 3)
    (λ e. cond_elim DayZero (no_day K y m d) _ _ (λ e. no_day_lem 4)
    (λ e. cond_elim DayZero (ended K (day_number K y m d)) _ _ (λ e. no_day_lem 17)
    (λ e. cond_elim DayZero (day_out K (day_number K y m d)) _ _ (λ e. no_day_lem 5) (λ e. record { zero = λ h. absurd (h refl) })))))))

-- ---- day to date

pub record DateZero (x : DateAnswer) : Type 0 where
  pub zero : Refused x.number → (x.year ≡ pos 0) × (x.month ≡ 0) × (x.day ≡ 0) × (x.weekday ≡ 0)

no_date : (k : ℕ) → DateZero (no_date_answer k)
no_date k = record { zero = λ h. (refl, refl, refl, refl) }

pub date_zero : (c n : ℕ) → DateZero (date_answer c n)
unfolding date_answer date_for
date_zero c n =
    listed_elim DateZero (calendar c) _ _ (no_date 1)
    (λ K. cond_elim DateZero (day_out K n) _ _ (λ e. no_date 5)
    (λ e. cond_elim DateZero (ended K n) _ _ (λ e. no_date 17) (λ e. record { zero = λ h. absurd (h refl) })))

-- ---- a position of a year

pub record PositionZero (x : PositionFields) : Type 0 where
  pub zero : Refused x.number → (x.kind ≡ 0) × (x.days ≡ 0)

abbrev Zero : PositionAnswer → Type 0
Zero x = PositionZero (position_fields x)

no_position_lem : (k : ℕ) → Zero (no_position_answer k)
no_position_lem k = record { zero = λ h. (refl, refl) }

pub position_zero : (c : ℕ) (y : ℤ) (m : ℕ) → PositionZero (position_fields (position_answer c y m))
unfolding position_answer position_for
position_zero c y m =
    listed_elim Zero (calendar c) _ _ (no_position_lem 1)
    (λ K. cond_elim Zero (year_out K y) _ _ (λ e. no_position_lem 2)
    (λ e. cond_elim Zero (no_position K y m) _ _ (λ e. no_position_lem 3) (λ e. record { zero = λ h. absurd (h refl) })))
