-- What an Easter is (docs/RULES.md, "Easter"): a date of its season, one that its calendar has, and a Sunday by the calendar's own date to day.
use Rattle.std.specs.Prelude.{◌≡◌, ◌⊎◌, ℕ, ◌≤◌, ℤ, pos}
use Rattle.counting.specs.Answers.{weekday_of}
use Rattle.calendar_rules.specs.Answers.{day_answer}
use Rattle.computus.specs.Rule.{EasterAnswer}

-- the rules' years of Easter
pub data Allowed : ℕ → ℤ → Type 0 where
  julian : {A : ℕ} → 1 ≤ A → A ≤ 9999 → Allowed 10 (pos A)
  gregorian : {A : ℕ} → 1583 ≤ A → A ≤ 9999 → Allowed 11 (pos A)

-- from 22 March to 25 April
abbrev pub InSpring : EasterAnswer → Type 0
InSpring D = ((D.month ≡ 3) × (22 ≤ D.day) × (D.day ≤ 31)) ⊎ ((D.month ≡ 4) × (1 ≤ D.day) × (D.day ≤ 25))

-- D is answered for a year of calendar c: a date from 22 March to 25 April, one that the calendar's date to day accepts, and a Sunday by it
pub record Feast (c : ℕ) (year : ℤ) (D : EasterAnswer) : Type 0 where
  pub done : D.number ≡ 0
  pub season : InSpring D
  pub good : (day_answer c year D.month D.day).number ≡ 0
  pub weekday : weekday_of (day_answer c year D.month D.day).day ≡ 7
