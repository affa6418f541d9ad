-- The tables of docs/RULES.md, "Answer numbers", as they are worded: which numbers apply to a question, and which one is given. The claims page shows that
-- each answer's number is the one given here. (1, a number that is no calendar's, is tried where calendars are looked up by number.)
use Rattle.std.specs.Prelude.{ℕ, ◌<◌, ◌≡◌, true, List, [], ◌∷◌, ℤ, pos, length}
use Rattle.std.proofs.Math.Option.{Option}
use Rattle.std.specs.Int.Signed.{lt_z}
use Rattle.counting.specs.Answers.{Calendar, FitsDay, length_in, day_number}

-- numbers are tried in an order: the first that applies is given; 0, done, where none does
pub data Given (Applies : ℕ → Type 0) : List ℕ → ℕ → Type 0 where
  done : Given Applies [] 0
  first : {k : ℕ} {rest : List ℕ} → Applies k → Given Applies (k ∷ rest) k
  later : {j k : ℕ} {rest : List ℕ} → ¬ Applies j → Given Applies rest k → Given Applies (j ∷ rest) k

-- the orders
abbrev pub date_order : List ℕ
date_order = 2 ∷ 3 ∷ 4 ∷ 17 ∷ 5 ∷ 13 ∷ []

abbrev pub day_order : List ℕ
day_order = 5 ∷ 17 ∷ []

abbrev pub position_order : List ℕ
position_order = 2 ∷ 3 ∷ []

-- to day n
pub data OfDay (K : Calendar) (n : ℕ) : ℕ → Type 0 where
  -- 5: day above 5,373,484, or before the calendar's first day
  above_5373484 : 5373484 < n → OfDay K n 5
  before_first : n < K.first_day → OfDay K n 5
  -- 17: day after the calendar's end
  after_end : {e : ℕ} → K.end ≡ Option.some e → e < n → OfDay K n 17

-- to year y
pub data OfYear (K : Calendar) (y : ℤ) : ℕ → Type 0 where
  -- 2: year below the calendar's first or above 20,000
  below_first : lt_z y K.first_year ≡ true → OfYear K y 2
  above_20000 : lt_z (pos 20000) y ≡ true → OfYear K y 2

-- to the date y/m/d with weekday w
pub data OfDate (K : Calendar) (y : ℤ) (m d w : ℕ) : ℕ → Type 0 where
  -- 2, as to its year
  its_year : {k : ℕ} → OfYear K y k → OfDate K y m d w k
  -- 3: month 0, above the positions, or of no days that year
  month_0 : m ≡ 0 → OfDate K y m d w 3
  beyond_positions : length (K.lengths y) < m → OfDate K y m d w 3
  no_days : length_in K y m ≡ 0 → OfDate K y m d w 3
  -- 4: day 0 or beyond the month
  day_0 : d ≡ 0 → OfDate K y m d w 4
  beyond_month : length_in K y m < d → OfDate K y m d w 4
  -- 5 and 17, as to its day
  its_day : {k : ℕ} → OfDay K (day_number K y m d) k → OfDate K y m d w k
  -- 13: weekday neither 0 nor the day's
  other_weekday : ¬ FitsDay w (day_number K y m d) → OfDate K y m d w 13

-- to position m of year y
pub data OfPosition (K : Calendar) (y : ℤ) (m : ℕ) : ℕ → Type 0 where
  -- 2, as to its year
  its_year : {k : ℕ} → OfYear K y k → OfPosition K y m k
  -- 3: position 0 or above the positions
  position_0 : m ≡ 0 → OfPosition K y m 3
  beyond_positions : length (K.lengths y) < m → OfPosition K y m 3
