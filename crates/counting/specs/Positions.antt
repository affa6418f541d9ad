-- A position of a year, by docs/RULES.md, "Positions of a year": what it is, a month or a strip of loose days or none this year, and its length. 2 and 3 are
-- tried. (1, a number that is no calendar's, is tried where calendars are looked up by number.)
use Rattle.std.specs.Prelude.{ℕ, zero, suc, ◌+◌, ◌≤◌, ◌≡◌, Bool, false, cond, ◌||◌, ◌⊎◌, eqb, ℤ}
use Rattle.std.proofs.Math.Option.{Option}
use Rattle.counting.specs.Answers.{Calendar, year_out, length_in, month_zero, above_positions, no_days_that_year}

pub data Kind : Type 0 where
  month : Kind
  strip : Kind
  none : Kind

pub record PositionAnswer : Type 0 where
  pub number : ℕ
  pub kind : Kind
  pub days : ℕ

-- 3: position 0 or above the positions. (One of no days that year is none here; date to day refuses its dates with 3)
abbrev pub no_position : Calendar → ℤ → ℕ → Bool
no_position K y m = month_zero m || above_positions K y m

-- position m is the strip
abbrev pub is_strip : Option ℕ → ℕ → Bool
is_strip Option.none m = false
is_strip (Option.some p) m = eqb m p

abbrev pub kind_in : Calendar → ℤ → ℕ → Kind
kind_in K y m = cond (no_days_that_year K y m) Kind.none (cond (is_strip K.strip m) Kind.strip Kind.month)

abbrev pub no_position_answer : ℕ → PositionAnswer
no_position_answer k = record { number = k; kind = Kind.none; days = 0 }

unfoldable pub position_for : Calendar → ℤ → ℕ → PositionAnswer
position_for K y m =
    cond (year_out K y) (no_position_answer 2)
    (cond (no_position K y m) (no_position_answer 3)
    (record { number = 0; kind = kind_in K y m; days = length_in K y m }))

-- ---- for the claims

-- the cases of an answer: a month of so many days, a strip of so many days, none this year, refused
pub data Case : Type 0 where
  month : Case
  strip : Case
  none : Case
  refused : Case

abbrev pub Is : Case → PositionAnswer → Type 0
Is Case.month x = (x.number ≡ 0) × (x.kind ≡ Kind.month) × (1 ≤ x.days)
Is Case.strip x = (x.number ≡ 0) × (x.kind ≡ Kind.strip) × (1 ≤ x.days)
Is Case.none x = (x.number ≡ 0) × (x.kind ≡ Kind.none) × (x.days ≡ 0)
Is Case.refused x = ¬ (x.number ≡ 0) × (x.kind ≡ Kind.none) × (x.days ≡ 0)

-- in one case, and in no other
abbrev pub OneCase : PositionAnswer → Type 0
OneCase x = (c : Case) × Is c x × ((c' : Case) → Is c' x → c' ≡ c)

-- a month or a strip
abbrev pub HasDays : PositionAnswer → Type 0
HasDays x = Is Case.month x ⊎ Is Case.strip x

-- f 1 + .. + f n
unfoldable pub sum_to : (ℕ → ℕ) → ℕ → ℕ
sum_to f zero = 0
sum_to f (suc n) = sum_to f n + f (suc n)
