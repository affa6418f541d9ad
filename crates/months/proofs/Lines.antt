-- The lines of the months: each yields the lengths before the last, in a common and a leap year, by a computed test.
use mathlib.Core.Path.{◌≡◌, refl, ap, sym, subst, ◌∙◌}
use mathlib.Core.Bool.{Bool, false}
use mathlib.Core.List.{List, [], ◌∷◌, ◌++◌, append-nil}
use Prim.Native.Nat.{ℕ, suc, ◌+◌}
use native.Mathlib.Omega.{arith}
use lib.ListN.{take, drop}
use Rattle.basics.specs.Every.{every, All}
use Rattle.basics.proofs.Cases.{◌and◌}
use Rattle.lines.specs.Marks.{mark_at}
use Rattle.counting.specs.Answers.{years}
use Rattle.calendar_rules.specs.Calendars.{thirties_and5, thirties_and5or6, in_turn, from_september, from_october, from_january}
use Rattle.calendar_rules.specs.Calendars.{macedonian, syrian, julian, gregorian}
use Rattle.months.specs.Lines.{turned_by, ByLine, by_lines, lengths, Yields, Finds}
use Rattle.months.specs.Leap.{fourth_leap, islamic_leap_at, gregorian_long}
use Rattle.months.specs.March.{from_march}
use Rattle.months.proofs.ByLine.{OnLine, grows, on_line, by_line_lem}
use Rattle.months.proofs.Rows.{plain_row, coptic_row, republican_row, islamic_row, macedonian_row, syrian_row, julian_row, gregorian_row}

pub thirties_line : (leap : Bool) → OnLine 30 1 0 (thirties_and5 leap)
unfolding grows every mark_at
thirties_line leap = on_line 30 1 0 (thirties_and5 leap) (omega arith) (omega arith) (omega arith) refl

pub coptic_line : (leap : Bool) → OnLine 30 1 0 (thirties_and5or6 leap)
unfolding grows every mark_at
coptic_line leap = on_line 30 1 0 (thirties_and5or6 leap) (omega arith) (omega arith) (omega arith) refl

pub turn_line : (leap : Bool) → OnLine 59 2 1 (in_turn leap)
unfolding grows every mark_at
turn_line leap = on_line 59 2 1 (in_turn leap) (omega arith) (omega arith) (omega arith) refl

pub march_line : (leap : Bool) → OnLine 153 5 2 (from_march leap)
unfolding grows every mark_at
march_line leap = on_line 153 5 2 (from_march leap) (omega arith) (omega arith) (omega arith) refl

-- ---- the calendars: their years as they are counted, from the first position or from March

-- from the first position: the year has the lengths ls
from_first : (L : ℕ → List ℕ) (i : ℕ) {a b r : ℕ} {ls : List ℕ} → L i ≡ ls → OnLine a b r ls → OnLine a b r (turned_by 0 L i)
unfolding turned_by
from_first L i {a} {b} {r} e o = subst (OnLine a b r) (sym (append-nil (L i) ∙ e)) o

-- from March, k positions on: what comes of two years are the months from March, in which the second year's February is the last
from_march_lem : (k : ℕ) (L : ℕ → List ℕ) (positions : Bool → List ℕ) (leap : ℕ → Bool)
    → ((t u : Bool) → drop k (positions t) ++ take k (positions u) ≡ from_march u)
    → ((i : ℕ) → L i ≡ positions (leap i)) → (i : ℕ) → OnLine 153 5 2 (turned_by k L i)
unfolding turned_by
from_march_lem k L positions leap same e i =
    subst (OnLine 153 5 2)
    (sym (ap (λ (ls : List ℕ). drop k ls ++ take k (L (suc i))) (e i) ∙ ap (λ (ls : List ℕ). drop k (positions (leap i)) ++ take k ls) (e (suc i))
    ∙ same (leap i) (leap (suc i))))
    (march_line (leap (suc i)))

-- a row of the table
abbrev Lies : ByLine → Type 0
Lies x = (i : ℕ) → OnLine x.a x.b x.r (lengths x i)

lies : All Lies by_lines
lies =
    (λ i. from_first _ i (plain_row 1448638 i) (thirties_line false))
    and (λ i. from_first _ i (plain_row 1922868 i) (thirties_line false))
    and (λ i. from_first _ i (plain_row 1952068 i) (thirties_line false))
    and (λ i. from_first _ i (coptic_row 1724221 i) (coptic_line (fourth_leap 1 i)))
    and (λ i. from_first _ i (coptic_row 1825030 i) (coptic_line (fourth_leap 1 i)))
    and (λ i. from_first _ i (republican_row i) (coptic_line (fourth_leap 1 i)))
    and from_march_lem 6 (years macedonian) from_september (fourth_leap 1) (λ t u. refl) macedonian_row
    and from_march_lem 5 (years syrian) from_october (fourth_leap 1) (λ t u. refl) syrian_row
    and from_march_lem 2 (years julian) from_january (fourth_leap 3) (λ t u. refl) julian_row
    and from_march_lem 2 (years gregorian) from_january (λ i. gregorian_long (87 + i)) (λ t u. refl) gregorian_row
    and (λ i. from_first _ i (islamic_row 1948439 i) (turn_line (islamic_leap_at i)))
    and (λ i. from_first _ i (islamic_row 1948440 i) (turn_line (islamic_leap_at i)))
    and tt

-- what holds of each row that lies on its line
pub each_row : (P : ByLine → Type 0) → ((x : ByLine) → Lies x → P x) → All P by_lines
each_row P f = go by_lines lies
  where
    go : (xs : List ByLine) → All Lies xs → All P xs
    go [] a = tt
    go (x ∷ xs) a = (f x a.0, go xs a.1)

pub yields_all : All Yields by_lines
yields_all = each_row Yields (λ x l i. (l i).yields)

pub finds_all : All Finds by_lines
finds_all = each_row Finds (λ x l i n h. by_line_lem (l i) n h)
