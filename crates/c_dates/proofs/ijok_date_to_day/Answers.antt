use Rattle.std.proofs.Common.{◌≡◌, ◌∙◌, ℕ, ◌/◌, ◌%◌, arith}
use lib.IntN.{ℤ}
use mir.Syntax.{w64}
use mir.ValLaws.{to_z-of_z}
use Rattle.calendar_rules.specs.Answers.{day_answer_with}
use Rattle.asking.specs.Steps.{packed_day}
use Rattle.asking.proofs.Answers.{fields}
use Rattle.c_dates.specs.declared.DayFields.{DayFields}
use Rattle.c_dates.specs.Fields.{day_fields}
use Rattle.c_dates.proofs.ijok_date_to_day.Goals as goal

-- the fields of an answer as one number
split : (c : ℕ) (y : ℤ) (m d w r : ℕ) (x : DayFields) → (x.number ≡ r / 4294967296) × (x.day ≡ r % 4294967296) → r ≡ packed_day (day_answer_with c y m d w)
    → day_fields x ≡ day_answer_with c y m d w
split c y m d w r x p e = (λ i. record { number = p.0 i; day = p.1 i }) ∙ fields c y m d w r e

pub returns-then-calendar-eq-HEBREW : goal.returns-then-calendar-eq-HEBREW
returns-then-calendar-eq-HEBREW c =
    let a = c.args in
    let e : a.calendar ≡ 18 = omega arith in
    rw e (split 18 a.year a.month a.day a.weekday c.hebrew_day.result.number c.from.result c.from.ensures (rw (to_z-of_z w64 a.year c.ranges.year) at c.hebrew_day.ensures))

pub returns : goal.returns
returns c =
    let a = c.args in
    split a.calendar a.year a.month a.day a.weekday c.packed_day.result.number c.from-2.result c.from-2.ensures
    (rw (to_z-of_z w64 a.year c.ranges.year) at c.packed_day.ensures)
