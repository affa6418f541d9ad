use Rattle.std.proofs.Common.{◌≡◌, ◌≢◌, sym, ap, ◌∙◌, ℕ, suc, ◌-◌, ◌/◌, ◌<◌, Result, Ok, Err, arith, rules}
use native.Mathlib.Decide.{dec_lt}
use mir.Syntax.{w64}
use mir.Val.{SFits, to_z, of_z}
use mir.ValLaws.{to_z-of_z}
use Rattle.refusals.specs.declared.Refusal.{Refusal}
use Rattle.refusals.specs.declared.Refusal.TheVariants.{UnknownCalendar, YearOutOfRange, NoSuchMonth, NoSuchDay, DayOutOfRange, WrongWeekday, CalendarEnded}
use Rattle.refusals.specs.Number.{number_of}
use Rattle.refusals.proofs.Claims.{not_done}
use Rattle.counting.specs.Answers.{DayAnswer, no_day_answer}
use Rattle.calendar_rules.specs.Answers.{day_answer_with}
use Rattle.asking.specs.Steps.{packed_day}
use Rattle.asking.proofs.Answers.{unpacks}
use Rattle.parts.specs.Packed.{Unpacked}
use Rattle.calendars.specs.declared.Date.{Date}
use Rattle.calendars.specs.Paper.{day_paper}
use Rattle.calendars.proofs.date_to_day.Goals as goal

-- what a number that was given for a date says of the answer
read : (n : ℕ) (x : Date) {r : ℕ} → SFits w64 x.year → r ≡ packed_day (day_answer_with n (to_z w64 (of_z w64 x.year)) x.month x.day x.weekday)
    → let a = day_answer_with n x.year x.month x.day x.weekday in
    (5 < r / 4294967296 → ¬ (r / 4294967296 ≡ 13) → r / 4294967296 ≡ 17)
    × (r / 4294967296 ≡ 0 → ◌≡◌ {A = DayAnswer} (record { number = 0; day = r }) a)
    × ((k : ℕ) → r / 4294967296 ≡ suc k → no_day_answer (suc k) ≡ a)
read n x {r} s e = unpacks n x.year x.month x.day x.weekday r (rw (to_z-of_z w64 x.year s) at e)

-- and where what stands high is no refusal's number, it is 0
no_refusal : (q : ℕ) → ((why : Refusal) → number_of why ≢ q) → (5 < q → ¬ (q ≡ 13) → q ≡ 17) → q ≡ 0
no_refusal q f u = go (dec_lt 5 q)
  where
    go : Dec (5 < q) → q ≡ 0
    go (yes h) = absurd (f CalendarEnded (sym (u h (λ e. f WrongWeekday (sym e)))))
    go (no h) = omega (arith, h, f UnknownCalendar, f YearOutOfRange, f NoSuchMonth, f NoSuchDay, f DayOutOfRange)

answered : (n : ℕ) (x : Date) {r : ℕ} → SFits w64 x.year → r ≡ packed_day (day_answer_with n (to_z w64 (of_z w64 x.year)) x.month x.day x.weekday)
    → (found : Result ℕ Refusal) → Unpacked r found → day_paper found ≡ day_answer_with n x.year x.month x.day x.weekday
answered n x s e (Ok day) u = let q = read n x s e in rw u.0 (q.1 (no_refusal _ u.1 q.0))
answered n x s e (Err why) u =
    let k : number_of why ≡ suc (number_of why - 1) = omega (arith, not_done why) in
    ap no_day_answer k ∙ (read n x s e).2 (number_of why - 1) (sym u ∙ k)

pub returns : goal.returns
returns c = answered c.args.calendar c.args.date (search rules) c.packed_day-found.ensures _ c.to_result.ensures
