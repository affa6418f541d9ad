-- The four gates: a year begins on a Monday, a Tuesday, a Thursday or a Saturday, and on which depends only on where in the week its mean new moon falls and on
-- which of it and its neighbours are leap. Seen from the new moon 6 hours on, rule 1 is nothing but the day that it is then on; rule 4 is the choice
-- among the four; rule 3 hands the end of Monday on to Tuesday, and rule 2 the end of Tuesday to Thursday. So a year's length is a matter of four gates here
-- and four there, for each of two jumps, of 12 and of 13 months.
use Prim.Native.Nat.{ℕ, zero, suc, ◌+◌, ◌*◌, ◌%◌, ◌≤◌, ◌<◌}
use mathlib.Core.Path.{◌≡◌}
use native.Mathlib.Omega.{arith}
use Rattle.basics.proofs.Cases.{Each, each}

-- ---- what a gate is

-- the parts at the end of Monday and of Tuesday that are handed on
pub record Handed : Type 0 where
  pub monday : ℕ
  pub tuesday : ℕ

abbrev pub hand : ℕ → ℕ → Handed
hand m t = record { monday = m; tuesday = t }

-- a gate: a weekday to begin on, for new moons from so many parts before the beginning of the day to so many before its end
pub record Gate : Type 0 where
  pub weekday : ℕ
  pub early : ℕ
  pub late : ℕ

-- the four, Saturday being 3 and all above, where Tuesday and Thursday take so much and Monday and Tuesday give so much. The two are the same, but for a
-- year of which it is left open whether a rule applies: then take the most and give the least
abbrev pub gate : Handed → Handed → ℕ → Gate
gate take give zero = record { weekday = 0; early = 25920; late = give.monday }
gate take give (suc zero) = record { weekday = 1; early = take.monday; late = give.tuesday }
gate take give (suc (suc zero)) = record { weekday = 3; early = 25920 + take.tuesday; late = 0 }
gate take give (suc (suc (suc k))) = record { weekday = 5; early = 25920; late = 0 }

-- the year whose new moon is m parts after the beginning of day 0 begins on day n, by a gate
pub record By (g : Gate) (m n : ℕ) : Type 0 where
  pub weekday : n % 7 ≡ g.weekday
  pub opened : 25920 * n ≤ m + g.early
  pub not_shut : m + g.late < 25920 * (n + 1)

-- by one of the four
pub record Begins (take give : Handed) (m n : ℕ) : Type 0 where
  pub number : ℕ
  pub one_of_4 : number < 4
  pub by : By (gate take give number) m n

-- what is so for each gate
pub at_gate : {take give : Handed} {m n : ℕ} (b : Begins take give m n) (P : ℕ → Type 0) → Each 4 (λ (k : ℕ). By (gate take give k) m n → P k) → P b.number
at_gate {take} {give} {m} {n} b P e = each 4 (λ (k : ℕ). By (gate take give k) m n → P k) e b.number b.one_of_4 b.by

pub widen : {take give : Handed} {m n : ℕ} (take' give' : Handed)
    → take.monday ≤ take'.monday → take.tuesday ≤ take'.tuesday → give'.monday ≤ give.monday → give'.tuesday ≤ give.tuesday
    → Begins take give m n → Begins take' give' m n
widen {take} {give} {m} {n} take' give' h i j k b =
    record { number = b.number; one_of_4 = b.one_of_4; by = at_gate b (λ (k : ℕ). By (gate take' give' k) m n) (omega arith) }

-- the new moon is at most 35,436 parts before the first day, and before its end
pub near : {take give : Handed} {m n : ℕ} → take.monday ≤ 2651 → take.tuesday ≤ 9516 → Begins take give m n → (25920 * n ≤ m + 35436) × (m < 25920 * (n + 1))
near {take} {give} {m} {n} h i b = at_gate b (λ (k : ℕ). (25920 * n ≤ m + 35436) × (m < 25920 * (n + 1))) (omega arith)

-- ---- from one first day to the next

-- first days by the gates g and g', of new moons that are so many parts apart
record Between (g g' : Gate) (jump n n' : ℕ) : Type 0 where
  weekday : n % 7 ≡ g.weekday
  weekday' : n' % 7 ≡ g'.weekday
  least : 25920 * n + jump + g'.late < 25920 * n' + 25920 + g.early
  most : 25920 * n' + g.late < 25920 * n + 25920 + jump + g'.early

-- n' is low, low + 1 or low + 2 days after n
abbrev pub Apart : ℕ → ℕ → ℕ → Type 0
Apart low n n' = (n + low ≤ n') × (n' ≤ n + low + 2)

abbrev Pair : Gate → Gate → ℕ → ℕ → Type 0
Pair g g' jump low = (n n' : ℕ) → Between g g' jump n n' → Apart low n n'

-- each gate of a year with each gate of the next
abbrev Pairs : (ℕ → Gate) → (ℕ → Gate) → ℕ → ℕ → Type 0
Pairs g g' jump low = Each 4 (λ (k : ℕ). Each 4 (λ (k' : ℕ). Pair (g k) (g' k') jump low))

-- for any jump
apart : {take give take' give' : Handed} {m n n' : ℕ} (jump low : ℕ) → Pairs (gate take give) (gate take' give') jump low
    → Begins take give m n → Begins take' give' (m + jump) n' → Apart low n n'
apart {take} {give} {take'} {give'} {m} {n} {n'} jump low all b b' =
    let g = gate take give in
    let g' = gate take' give' in
    let row = each 4 (λ (k : ℕ). Each 4 (λ (k' : ℕ). Pair (g k) (g' k') jump low)) all b.number b.one_of_4 in
    let pair = each 4 (λ (k' : ℕ). Pair (g b.number) (g' k') jump low) row b'.number b'.one_of_4 in
    pair n n' (between (g b.number) (g' b'.number) b.by b'.by)
  where
    between : (g g' : Gate) → By g m n → By g' (m + jump) n' → Between g g' jump n n'
    between g g' h h' = record { weekday = h.weekday; weekday' = h'.weekday; least = omega arith; most = omega arith }

-- twelve months, a common year: rule 2 applies to it, and rule 3 does not to the next
common_pairs : Pairs (gate (hand 2651 9516) (hand 0 9516)) (gate (hand 0 9516) (hand 0 0)) 9185196 353
common_pairs = (omega arith, (omega arith, omega arith))

pub after_common : {m n n' : ℕ} → Begins (hand 2651 9516) (hand 0 9516) m n → Begins (hand 0 9516) (hand 0 0) (m + 9185196) n' → Apart 353 n n'
after_common = apart 9185196 353 common_pairs

-- thirteen, a leap year: rule 2 does not apply to it, and rule 3 does to the next
leap_pairs : Pairs (gate (hand 2651 0) (hand 0 0)) (gate (hand 2651 9516) (hand 2651 0)) 9950629 383
leap_pairs = (omega arith, (omega arith, omega arith))

pub after_leap : {m n n' : ℕ} → Begins (hand 2651 0) (hand 0 0) m n → Begins (hand 2651 9516) (hand 2651 0) (m + 9950629) n' → Apart 383 n n'
after_leap = apart 9950629 383 leap_pairs
