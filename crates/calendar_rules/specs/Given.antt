-- The tables of docs/RULES.md, "Answer numbers", where a calendar is asked for by its number. `Given`, and what applies in a calendar, are those of crate
-- counting.
use Rattle.std.specs.Prelude.{ℕ, ◌≤◌, ◌≡◌, ◌⊎◌}
use Rattle.counting.specs.Answers.{Calendar}
use Rattle.calendar_rules.specs.Calendars.{Listed}

-- calendars 1 to 15 and 18 are listed
abbrev pub IsListed : ℕ → Type 0
IsListed c = ((1 ≤ c) × (c ≤ 15)) ⊎ (c ≡ 18)

-- 1, which is tried first: calendar number not listed. The other numbers apply as in its calendar
pub data Asked (c : ℕ) (Applies : Calendar → ℕ → Type 0) : ℕ → Type 0 where
  not_listed : ¬ IsListed c → Asked c Applies 1
  in_calendar : {K : Calendar} {k : ℕ} → Listed c K → Applies K k → Asked c Applies k

-- the strips: position 13 of calendars 1, 2, 3, 5, 6 and 7, position 9 of 4, position 19 of 14
abbrev pub StripAt : ℕ → ℕ → Type 0
StripAt c m = ((1 ≤ c) × (c ≤ 7) × ¬ (c ≡ 4) × (m ≡ 13)) ⊎ ((c ≡ 4) × (m ≡ 9)) ⊎ ((c ≡ 14) × (m ≡ 19))
