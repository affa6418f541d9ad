-- The six kinds of year: their totals, the kind that a year has, and that it has no other.
use Prim.Native.Nat.{ℕ, zero, suc, ◌+◌, ◌-◌, ◌≤◌, ◌<◌, min}
use mathlib.Core.Path.{◌≡◌, refl, sym, ◌∙◌, ap}
use mathlib.Core.Bool.{Bool, true, false, cond}
use mathlib.Core.List.{List, [], ◌∷◌, map}
use native.Mathlib.Omega.{arith}
use lib.ListN.{get_or, length}
use Rattle.counting.specs.Calendar.{total}
use Rattle.basics.proofs.Cases.{each}
use Rattle.hebrew.specs.Hebrew.{leap, year_days, kinds, of_total, lengths}
use Rattle.hebrew.proofs.Lengths.{year_length}

map_at : {A B : Type 0} (f : A → B) (l : List A) (k : ℕ) (a : A) (b : B) → k < length l → get_or (map f l) k b ≡ f (get_or l k a)
map_at f [] k a b h = absurd (omega arith)
map_at f (x ∷ l) zero a b h = refl
map_at f (x ∷ l) (suc k) a b h = map_at f l k a b (omega arith)

-- ---- the table, computed

-- their totals
abbrev pub totals : List ℕ
totals = 353 ∷ 354 ∷ 355 ∷ 383 ∷ 384 ∷ 385 ∷ []

pub row_totals : map total kinds ≡ totals
unfolding total
row_totals = refl

pub rows_by_total : map (λ (n : ℕ). of_total n kinds) totals ≡ kinds
unfolding of_total total
rows_by_total = refl

pub row_lengths : map length kinds ≡ 13 ∷ 13 ∷ 13 ∷ 13 ∷ 13 ∷ 13 ∷ []
row_lengths = refl

-- ---- the row at k

pub row_total : (k : ℕ) → k < 6 → total (get_or kinds k []) ≡ get_or totals k 0
row_total k h = sym (map_at total kinds k [] 0 h) ∙ ap (λ l. get_or l k 0) row_totals

row_by_total : (k : ℕ) → k < 6 → of_total (get_or totals k 0) kinds ≡ get_or kinds k []
row_by_total k h = sym (map_at (λ (n : ℕ). of_total n kinds) totals k 0 [] h) ∙ ap (λ l. get_or l k []) rows_by_total

pub row_length : (k : ℕ) → k < 6 → length (get_or kinds k []) ≡ 13
row_length = each 6 (λ (k : ℕ). length (get_or kinds k []) ≡ 13) (omega arith)

-- ---- the kind of a length

-- where a kind stands in `kinds`, from whether its years are leap and the days that they have
unfoldable pub kind_of : Bool → ℕ → ℕ
kind_of leap_now days = cond leap_now (days - 380) (days - 353)

pub record Kind (leap_now : Bool) (days : ℕ) : Type 0 where
  pub below : kind_of leap_now days < 6
  pub place : get_or totals (kind_of leap_now days) 0 ≡ days

kind_of_lem : (c : Bool) (days : ℕ) → cond c 383 353 ≤ days → days ≤ cond c 383 353 + 2 → Kind c days
unfolding kind_of
kind_of_lem c days a b = let e : cond c 383 353 + (days - cond c 383 353) ≡ days = omega arith in rw e at (at c (days - cond c 383 353) (omega arith))
  where
    at : (c : Bool) (j : ℕ) → j < 3 → Kind c (cond c 383 353 + j)
    at true = each 3 (λ (j : ℕ). Kind true (383 + j)) (omega arith)
    at false = each 3 (λ (j : ℕ). Kind false (353 + j)) (omega arith)

-- ---- the kind of a year

pub year_kind : (y : ℕ) → 1 ≤ y → Kind (leap y) (year_days y)
year_kind y h = let a = year_length y h in kind_of_lem (leap y) (year_days y) (omega arith) (omega arith)

pub lengths_row : (y : ℕ) → 1 ≤ y → lengths y ≡ get_or kinds (kind_of (leap y) (year_days y)) []
unfolding lengths
lengths_row y h = let k = year_kind y h in ap (λ (n : ℕ). of_total n kinds) (sym k.place) ∙ row_by_total (kind_of (leap y) (year_days y)) k.below

pub lengths_total : (y : ℕ) → 1 ≤ y → total (lengths y) ≡ year_days y
lengths_total y h = let k = year_kind y h in ap total (lengths_row y h) ∙ row_total (kind_of (leap y) (year_days y)) k.below ∙ k.place

-- no two totals are the same
place : ℕ → ℕ
place days = min (days - 353) 2 + (days - 382)

place_of : (k : ℕ) → k < 6 → place (get_or totals k 0) ≡ k
unfolding place
place_of = each 6 (λ (k : ℕ). place (get_or totals k 0) ≡ k) (omega arith)

pub kind_unique : (y k : ℕ) → 1 ≤ y → k < 6 → total (get_or kinds k []) ≡ year_days y → k ≡ kind_of (leap y) (year_days y)
kind_unique y k h b e =
    let q = year_kind y h in
    sym (place_of k b) ∙ ap place (sym (row_total k b) ∙ e ∙ sym q.place) ∙ place_of (kind_of (leap y) (year_days y)) q.below
