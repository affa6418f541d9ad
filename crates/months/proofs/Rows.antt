-- The rows: the years of each calendar by the years from its first.
use mathlib.Core.Path.{◌≡◌, refl, ap, ◌∙◌}
use mathlib.Core.Bool.{false}
use Prim.Native.Nat.{ℕ, suc, ◌+◌, ◌*◌, ◌%◌, ◌<◌}
use native.Mathlib.Omega.{arith}
use lib.Dec.{ltb, leb}
use lib.IntN.{ℤ, pos, negsuc, ◌+ℤ◌}
use borrow.Author.Tests.{ltb-true, ltb-false, le-leb, lt-leb}
use Rattle.counting.specs.Years.{mod_floor, year_at}
use Rattle.counting.specs.Answers.{years}
use Rattle.basics.proofs.Cases.{same_test, same_eqb}
use Rattle.counting.proofs.Signs.{mod_after}
use Rattle.calendar_rules.specs.Calendars.{remainder, gregorian_leap, islamic_leap, thirties_and5, thirties_and5or6, five_at9, from_september, from_october}
use Rattle.calendar_rules.specs.Calendars.{from_january, in_turn, nineteens, saka_months, persian, republican, macedonian, syrian, julian, gregorian, bahai, saka}
use Rattle.months.specs.Leap.{fourth_leap, gregorian_long, islamic_leap_at}
use Rattle.months.specs.Parts.{plain_from, coptic_from, islamic_from}
use Rattle.months.proofs.Gregorian.{in_words}

-- ---- leap years by the years from the first

-- remainder 3 by 4 in years from 1 on
threes : (i : ℕ) → remainder 3 4 (year_at (pos 1) i) ≡ fourth_leap 1 i
threes i = same_eqb ((1 + i) % 4) 3 ((i + 1) % 4) 3 (omega arith) (omega arith)

-- remainder 0 by 4 from -4712 on, which is divisible by 4
divisible : (i : ℕ) → remainder 0 4 (year_at (negsuc 4711) i) ≡ fourth_leap 3 i
divisible i = rw (mod_after 4711 0 1178 4 i (omega arith) refl) (same_eqb ((i + 0) % 4) 0 ((i + 3) % 4) 3 (omega arith) (omega arith))

-- the Gregorian rule of a year that is z + 1 years after one that is divisible by 400
by_rests : (y : ℤ) (z : ℕ) → mod_floor y 4 ≡ suc z % 4 → mod_floor y 100 ≡ suc z % 100 → mod_floor y 400 ≡ suc z % 400 → gregorian_leap y ≡ gregorian_long z
by_rests y z a b c = rw (a, b, c) (in_words z)

-- from -4712 on, 88 years after -4800
from_4712 : (i : ℕ) → gregorian_leap (year_at (negsuc 4711) i) ≡ gregorian_long (87 + i)
from_4712 i = by_rests (year_at (negsuc 4711) i) (87 + i) (after 1200 4 (omega arith) refl) (after 48 100 (omega arith) refl) (after 12 400 (omega arith) refl)
  where
    after : (q b : ℕ) → 0 < b → 4800 ≡ q * b → mod_floor (year_at (negsuc 4711) i) b ≡ suc (87 + i) % b
    after q b h e = let s : i + 88 ≡ suc (87 + i) = omega arith in mod_after 4711 88 q b i h e ∙ ap (λ (x : ℕ). x % b) s

-- from year 1 on, where k is added to the year
pub from_year_1 : (k i : ℕ) → gregorian_leap (year_at (pos 1) i +ℤ pos k) ≡ gregorian_long (k + 4800 + i)
from_year_1 k i =
    by_rests (year_at (pos 1) i +ℤ pos k) (k + 4800 + i) (rest 4 (omega arith)) (rest 100 (omega arith)) (rest 400 (omega arith))
  where
    rest : (b : ℕ) → (1 + i + k) % b ≡ suc (k + 4800 + i) % b → mod_floor (year_at (pos 1) i +ℤ pos k) b ≡ suc (k + 4800 + i) % b
    rest b e = e

-- 11 in 30: a remainder that 11 takes past 30
eleven : (i : ℕ) → islamic_leap (year_at (pos 1) i) ≡ islamic_leap_at i
eleven i =
    let e : 11 * (1 + i) + 14 ≡ 11 * i + 14 + 11 = omega arith in
    rw e (past (11 * i + 14))
  where
    past : (z : ℕ) → ltb ((z + 11) % 30) 11 ≡ leb 19 (z % 30)
    past z =
        same_test (ltb ((z + 11) % 30) 11) (leb 19 (z % 30))
        (λ h. le-leb 19 (z % 30) (omega (arith, ltb-true ((z + 11) % 30) 11 h)))
        (λ h. lt-leb 19 (z % 30) (omega (arith, ltb-false ((z + 11) % 30) 11 h)))

-- ---- the years of each row

module _ (first i : ℕ) where
  pub plain_row : years (plain_from first) i ≡ thirties_and5 false
  unfolding years
  plain_row = refl

  pub coptic_row : years (coptic_from first) i ≡ thirties_and5or6 (fourth_leap 1 i)
  unfolding years
  coptic_row = ap thirties_and5or6 (threes i)

  pub islamic_row : years (islamic_from first) i ≡ in_turn (islamic_leap_at i)
  unfolding years
  islamic_row = ap in_turn (eleven i)

-- the Republican calendar ended, and its years are of the same kind
pub republican_row : (i : ℕ) → years republican i ≡ thirties_and5or6 (fourth_leap 1 i)
unfolding years
republican_row i = coptic_row republican.first_day i

pub persian_row : (i : ℕ) → years persian i ≡ five_at9 false
unfolding years
persian_row i = refl

pub macedonian_row : (i : ℕ) → years macedonian i ≡ from_september (fourth_leap 1 i)
unfolding years
macedonian_row i = ap from_september (threes i)

pub syrian_row : (i : ℕ) → years syrian i ≡ from_october (fourth_leap 1 i)
unfolding years
syrian_row i = ap from_october (threes i)

pub julian_row : (i : ℕ) → years julian i ≡ from_january (fourth_leap 3 i)
unfolding years
julian_row i = ap from_january (divisible i)

pub gregorian_row : (i : ℕ) → years gregorian i ≡ from_january (gregorian_long (87 + i))
unfolding years
gregorian_row i = ap from_january (from_4712 i)

pub bahai_row : (i : ℕ) → years bahai i ≡ nineteens (gregorian_long (6644 + i))
unfolding years
bahai_row i = ap nineteens (from_year_1 1844 i)

pub saka_row : (i : ℕ) → years saka i ≡ saka_months (gregorian_long (4878 + i))
unfolding years
saka_row i = ap saka_months (from_year_1 78 i)
