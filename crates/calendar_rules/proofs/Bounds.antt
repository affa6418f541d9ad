-- What holds of calendars whose years each have 353 to 385 days and begin with a position that has days, as the years of every row do; and the positions
-- without days.
use mathlib.Core.Path.{◌≡◌, refl, sym, ap, ◌∙◌}
use mathlib.Core.Bool.{Bool, true, false, cond, not, ◌&&◌, true≢false}
use mathlib.Core.List.{List, []}
use mathlib.Core.Option.{Option}
use Prim.Native.Nat.{ℕ, ◌+◌, ◌*◌, ◌≤◌, ◌<◌}
use native.Mathlib.Omega.{arith}
use lib.Dec.{eqb, leb, ltb}
use lib.IntN.{ℤ}
use lib.ListN.{length, take, get_or}
use borrow.Author.Tests.{eqb-true, leb-true}
use Rattle.basics.specs.Every.{every}
use Rattle.basics.proofs.Cases.{both}
use Rattle.basics.proofs.Every.{every_at}
use Rattle.counting.specs.Calendar.{total, start, first_from}
use Rattle.counting.specs.Answers.{Calendar, years}
use Rattle.counting.proofs.Totals.{total_take_le}
use Rattle.counting.proofs.Starts as S
use Rattle.hebrew.specs.Hebrew.{leap, kinds}
use Rattle.calendar_rules.specs.Calendars.{hebrew}
use Rattle.calendar_rules.proofs.HebrewYears.{hebrew_kind}

-- 353 to 385 days, and the first position has some
unfoldable pub within : List ℕ → Bool
within ls = leb 353 (total ls) && leb (total ls) 385 && eqb (first_from 1 ls) 1

-- as every year has
pub record Bounded (L : ℕ → List ℕ) : Type 0 where
  pub each : (i : ℕ) → within (L i) ≡ true

module _ {L : ℕ → List ℕ} (y : Bounded L) where
  parts : (i : ℕ) → (353 ≤ total (L i)) × (total (L i) ≤ 385) × (first_from 1 (L i) ≡ 1)
  unfolding within
  parts i =
      let ls = L i in
      let a = both (leb 353 (total ls) && leb (total ls) 385) (eqb (first_from 1 ls) 1) (y.each i) in
      let b = both (leb 353 (total ls)) (leb (total ls) 385) a.0 in
      (leb-true 353 (total ls) b.0, leb-true (total ls) 385 b.1, eqb-true (first_from 1 ls) 1 a.1)

  pub year_days_lem : (i : ℕ) → (353 ≤ total (L i)) × (total (L i) ≤ 385)
  year_days_lem i = let p = parts i in (p.0, p.1)

  pub has_days : (i : ℕ) → 1 ≤ total (L i)
  has_days i = omega (arith, year_days_lem i)

  pub start_within : (i : ℕ) → (353 * i ≤ start L i) × (start L i ≤ 385 * i)
  start_within = S.start_within L 353 385 year_days_lem

  pub position_within : (i m : ℕ) → total (take m (L i)) ≤ 385
  position_within i m = omega (arith, total_take_le m (L i), year_days_lem i)

  -- the first position has days
  pub year_opens : (i : ℕ) → first_from 1 (L i) ≡ 1
  year_opens i = (parts i).2

-- ---- the positions without days

unfoldable pub same : Bool → Bool → Bool
same t u = cond t u (not u)

are_same : (t u : Bool) → same t u ≡ true → t ≡ u
unfolding same
are_same true true e = refl
are_same false false e = refl
are_same true false e = absurd (true≢false (sym e))
are_same false true e = absurd (true≢false (sym e))

-- the seventh where that is so, and no other
unfoldable pub gaps_are : Bool → List ℕ → Bool
gaps_are seventh ls = every (λ p. same (eqb (get_or ls p 0) 0) (seventh && eqb p 6)) (length ls)

pub gap_at : (seventh : Bool) (ls : List ℕ) → gaps_are seventh ls ≡ true → (p : ℕ) → p < length ls → eqb (get_or ls p 0) 0 ≡ (seventh && eqb p 6)
unfolding gaps_are
gap_at seventh ls e p h = are_same _ _ (every_at (λ p. same (eqb (get_or ls p 0) 0) (seventh && eqb p 6)) (length ls) e p h)

-- ---- the strip is one of the positions

unfoldable pub strip_within : Option ℕ → List ℕ → Bool
strip_within Option.none ls = true
strip_within (Option.some m) ls = leb 1 m && leb m (length ls)

pub strip_at_lem : (m : ℕ) (ls : List ℕ) → strip_within (Option.some m) ls ≡ true → (1 ≤ m) × (m ≤ length ls)
unfolding strip_within
strip_at_lem m ls e = let b = both (leb 1 m) (leb m (length ls)) e in (leb-true 1 m b.0, leb-true m (length ls) b.1)

-- ---- the rows

-- a year of a row has one of two lists of lengths
unfoldable pub both_years : (List ℕ → Bool) → (Bool → List ℕ) → Bool
both_years test positions = test (positions false) && test (positions true)

pub each_year : (test : List ℕ → Bool) (K : Calendar) (positions : Bool → List ℕ) (is_leap : ℤ → Bool) → ((y : ℤ) → K.lengths y ≡ positions (is_leap y))
    → both_years test positions ≡ true
    → (i : ℕ) → test (years K i) ≡ true
unfolding years both_years
each_year test K positions is_leap by e i = ap test (by _) ∙ go (both (test (positions false)) (test (positions true)) e) (is_leap _)
  where
    go : (test (positions false) ≡ true) × (test (positions true) ≡ true) → (t : Bool) → test (positions t) ≡ true
    go b true = b.1
    go b false = b.0

-- and a Hebrew year one of six, of which the first three are common
kind_test : ℕ → Bool
kind_test k = within (get_or kinds k []) && gaps_are (ltb k 3) (get_or kinds k [])

kinds_tested : every kind_test 6 ≡ true
unfolding every within total first_from kind_test gaps_are same
kinds_tested = refl

pub hebrew_within : (i : ℕ) → (within (years hebrew i) ≡ true) × (gaps_are (not (leap (i + 1))) (years hebrew i) ≡ true)
unfolding kind_test
hebrew_within i =
    let k = hebrew_kind i in
    let b = both (within (get_or kinds k.0 [])) (gaps_are (ltb k.0 3) (get_or kinds k.0 [])) (every_at kind_test 6 kinds_tested k.0 k.1) in
    (ap within k.2 ∙ b.0, (λ j. gaps_are (sym k.3 j) (k.2 j)) ∙ b.1)

pub hebrew_bounded : Bounded (years hebrew)
hebrew_bounded = record { each = λ i. (hebrew_within i).0 }
