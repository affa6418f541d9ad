-- A weekday handed in, where a calendar is asked for by its number: it is tried on what is answered without.
use mathlib.Core.Path.{◌≡◌, refl, sym}
use mathlib.Core.Option.{Option}
use Prim.Native.Nat.{ℕ}
use native.Mathlib.Omega.{arith}
use lib.IntN.{ℤ}
use Rattle.counting.specs.Answers.{Calendar, no_day_answer, day_for, weekday_tried, day_with}
use Rattle.counting.proofs.Given.{rest_not_13}
use Rattle.counting.proofs.Weekdays.{refused}
use Rattle.calendar_rules.specs.Calendars.{calendar}
use Rattle.calendar_rules.specs.Answers.{of_listed, day_answer, day_answer_with}

module _ (c : ℕ) (y : ℤ) (m d : ℕ) where
  pub with_weekday : (w : ℕ) → day_answer_with c y m d w ≡ weekday_tried w (day_answer c y m d)
  unfolding day_answer_with day_answer
  with_weekday w = go (calendar c)
    where
      go : (o : Option Calendar) → of_listed o (no_day_answer 1) (λ K. day_with K y m d w) ≡ weekday_tried w (of_listed o (no_day_answer 1) (λ K. day_for K y m d))
      go Option.none = sym (refused w (no_day_answer 1) (λ e. omega arith))
      go (Option.some K) = refl

  pub not_13 : ¬ ((day_answer c y m d).number ≡ 13)
  unfolding day_answer
  not_13 = go (calendar c)
    where
      go : (o : Option Calendar) → ¬ ((of_listed o (no_day_answer 1) (λ K. day_for K y m d)).number ≡ 13)
      go Option.none e = omega arith
      go (Option.some K) e = rest_not_13 K y m d 0 e
