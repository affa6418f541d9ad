-- For code: years whose extra day is the last, and calendars whose years begin at a later position of them. Nobody has to believe this page.
use Rattle.std.specs.Prelude.{◌≡◌, ℕ, ◌+◌, ◌-◌, ◌≤◌, ◌<◌, ℤ}
use Rattle.counting.specs.Years.{year_at}

-- the date of day rest of year z. A year has so many positions, with so many days before each, and a day of it has its position; a year of the calendar begins
-- at position turn, and F is the calendar's year that the dates before that have in z = 0
pub record DateIn (count : ℕ) (before position : ℕ → ℕ) (F : ℤ) (turn z rest : ℕ) (y : ℤ) (m d : ℕ) : Type 0 where
  pub late : turn ≤ position rest → (y ≡ year_at F (z + 1)) × (m ≡ position rest + 1 - turn)
  pub soon : position rest < turn → (y ≡ year_at F z) × (m ≡ position rest + (count + 1) - turn)
  pub day : d ≡ rest - before (position rest) + 1
