-- The row of the Hebrew calendar: its years are those of crate hebrew, and each has the lengths of one of the six kinds.
use mathlib.Core.Path.{◌≡◌, ap, ◌∙◌}
use mathlib.Core.Bool.{Bool, true, false, cond, not}
use mathlib.Core.List.{[]}
use Prim.Native.Nat.{ℕ, ◌+◌, ◌-◌, ◌≤◌, ◌<◌}
use native.Mathlib.Omega.{arith}
use lib.Dec.{ltb}
use lib.ListN.{get_or}
use borrow.Author.Tests.{lt-ltb, le-ltb}
use Rattle.counting.specs.Answers.{years}
use Rattle.hebrew.specs.Hebrew.{leap, year_days, kinds, lengths}
use Rattle.hebrew.specs.Years.{years as hebrew_years}
use Rattle.hebrew.proofs.Lengths.{year_length}
use Rattle.hebrew.proofs.SixKinds.{kind_of, year_kind, lengths_row}
use Rattle.calendar_rules.specs.Calendars.{hebrew}

pub hebrew_row : (i : ℕ) → years hebrew i ≡ hebrew_years i
unfolding years hebrew_years
hebrew_row i = ap lengths (omega arith)

-- the first three kinds are those of the common years
common_kind : (t : Bool) (days : ℕ) → cond t 383 353 ≤ days → days ≤ cond t 383 353 + 2 → ltb (kind_of t days) 3 ≡ not t
unfolding kind_of
common_kind true days a b = le-ltb (days - 380) 3 (omega arith)
common_kind false days a b = lt-ltb (days - 353) 3 (omega arith)

pub hebrew_kind : (i : ℕ) → (k : ℕ) × (k < 6) × (years hebrew i ≡ get_or kinds k []) × (ltb k 3 ≡ not (leap (i + 1)))
unfolding hebrew_years
hebrew_kind i =
    let y : ℕ = i + 1 in
    let a = year_length y (omega arith) in (
      kind_of (leap y) (year_days y),
      (year_kind y (omega arith)).below,
      hebrew_row i ∙ lengths_row y (omega arith),
      common_kind (leap y) (year_days y) (omega arith) (omega arith),
    )
