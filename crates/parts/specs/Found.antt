-- For code: a position of a year, and the date of a day, as they are found or not. Nobody has to believe this page.
use Rattle.std.specs.Prelude.{◌≡◌, ℕ, ◌-◌, ◌≤◌, ◌<◌, ◌⊎◌, List, get_or, Option, MatchOption}
use Rattle.counting.specs.Answers.{Calendar, years}
use Rattle.months.specs.Parts.{MonthIs, DateIs}
use Rattle.parts.specs.declared.Month.{Month}
use Rattle.parts.specs.declared.Place.{Place}

-- position p of year i of a calendar with the years L and the first day first: none where that year has no such position
abbrev pub MonthIn : (ℕ → List ℕ) → ℕ → ℕ → ℕ → Option Month → Type 0
MonthIn L first i p found = MatchOption found (get_or (L i) p 0 ≡ 0) (λ month. (1 ≤ month.days) × MonthIs L first i p month.start month.days)

abbrev pub MonthAt : Calendar → ℕ → ℕ → Option Month → Type 0
MonthAt K i p found = MonthIn (years K) K.first_day i p found

-- the date of day n, from the first day on
abbrev pub PlaceIs : Calendar → ℕ → Place → Type 0
PlaceIs K n date = (K.first_day ≤ n) × DateIs (years K) K.first_year (n - K.first_day) date.year date.month date.day

-- none before it
abbrev pub PlaceAt : Calendar → ℕ → Option Place → Type 0
PlaceAt K n found = MatchOption found (n < K.first_day) (λ date. PlaceIs K n date)

-- the same up to a last day: none after it too
abbrev pub PlaceTo : Calendar → ℕ → ℕ → Option Place → Type 0
PlaceTo K last n found = MatchOption found ((n < K.first_day) ⊎ (last < n)) (λ date. (n ≤ last) × PlaceIs K n date)
