-- The length of a year, in general: from its first day to the next year's are 353, 354 or 355 days where it is common, 383, 384 or 385 where it is leap.
use Prim.Native.Nat.{ℕ, zero, suc, ◌+◌, ◌*◌, ◌-◌, ◌≤◌}
use mathlib.Core.Path.{◌≡◌, refl, ◌∙◌, ap}
use mathlib.Core.Bool.{Bool, true, false, cond}
use native.Mathlib.Omega.{arith}
use native.Mathlib.Numerals.{add-one}
use Rattle.hebrew.specs.Hebrew.{leap, months_in, months_before, moon, moon_day, moon_hour, new_year}
use Rattle.hebrew.proofs.Months.{not_twice}
use Rattle.hebrew.proofs.Gates.{hand, Begins, widen, Apart, after_common, after_leap}
use Rattle.hebrew.proofs.Rules.{handed, monday_le, tuesday_le, monday_none, rules}

-- the new moon of year y, 6 hours on, in parts from the beginning of day 0
unfoldable pub moment : ℕ → ℕ
moment y = 25920 * 347998 + moon y + 6480

-- its gate
pub begins : (y : ℕ) → Begins (handed (leap y) (leap (y - 1))) (handed (leap y) (leap (y - 1))) (moment y) (new_year y)
unfolding new_year moon_day moon_hour moment
begins y =
    let e : 25920 * moon_day y + moon_hour y + 6480 ≡ 25920 * 347998 + moon y + 6480 = omega arith in
    rw e at (rules (leap y) (leap (y - 1)) (moon_day y) (moon_hour y) (omega arith))

-- twelve months are 354 days and 9,516 parts, thirteen 383 days and 23,269 parts
moment_on : (n : ℕ) (c : Bool) → leap (suc n) ≡ c → moment (suc (suc n)) ≡ moment (suc n) + cond c 9950629 9185196
unfolding moment moon months_before months_in
moment_on n true h = rw h (omega arith)
moment_on n false h = rw h (omega arith)

year_apart : (n : ℕ) → Apart (cond (leap (suc n)) 383 353) (new_year (suc n)) (new_year (suc (suc n)))
year_apart n = go (leap (suc n)) refl
  where
    p : Bool
    p = leap (suc n - 1)

    -- this year, whatever the year before was
    this : (c : Bool) → leap (suc n) ≡ c → Begins (hand 2651 (cond c 0 9516)) (hand 0 (cond c 0 9516)) (moment (suc n)) (new_year (suc n))
    this c h = widen (hand 2651 (cond c 0 9516)) (hand 0 (cond c 0 9516)) (monday_le c p) (omega arith) (omega arith) (omega arith) (rw h at (begins (suc n)))

    -- the next, whatever rule 2 says of it
    next : (c d : Bool) (k : ℕ) → (handed d c).monday ≤ k → k ≤ (handed d c).monday → leap (suc n) ≡ c → leap (suc (suc n)) ≡ d
        → Begins (hand k 9516) (hand k 0) (moment (suc n) + cond c 9950629 9185196) (new_year (suc (suc n)))
    next c d k a b h i =
        let e : suc (suc n) - 1 ≡ suc n = omega arith in
        let j : leap (suc (suc n) - 1) ≡ c = ap leap e ∙ h in
        widen (hand k 9516) (hand k 0) a (tuesday_le d c) b (omega arith) (rw (i, j, moment_on n c h) at (begins (suc (suc n))))

    go : (c : Bool) → leap (suc n) ≡ c → Apart (cond c 383 353) (new_year (suc n)) (new_year (suc (suc n)))
    go false h = let d = leap (suc (suc n)) in after_common (this false h) (next false d 0 (monday_none d) (omega arith) h refl)
    go true h = after_leap (this true h) (next true false 2651 (omega arith) (omega arith) h (not_twice (suc n) h))

pub year_length : (y : ℕ) → 1 ≤ y → Apart (cond (leap y) 383 353) (new_year y) (new_year (y + 1))
year_length zero h = absurd (omega arith)
year_length (suc n) h = rw (add-one (suc n)) (year_apart n)

pub common_length : (y : ℕ) → 1 ≤ y → leap y ≡ false → Apart 353 (new_year y) (new_year (y + 1))
common_length y h e = rw e at (year_length y h)

pub leap_length : (y : ℕ) → 1 ≤ y → leap y ≡ true → Apart 383 (new_year y) (new_year (y + 1))
leap_length y h e = rw e at (year_length y h)

-- whatever the kind
pub grows : (y : ℕ) → 1 ≤ y → (new_year y + 353 ≤ new_year (y + 1)) × (new_year (y + 1) ≤ new_year y + 385)
grows y h = go (leap y) (year_length y h)
  where
    go : (c : Bool) → Apart (cond c 383 353) (new_year y) (new_year (y + 1)) → (new_year y + 353 ≤ new_year (y + 1)) × (new_year (y + 1) ≤ new_year y + 385)
    go true a = omega arith
    go false a = omega arith
