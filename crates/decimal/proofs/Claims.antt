-- What is proved of decimal numbers as text: the page to read first. It rests on specs/Decimal.antt (what some bytes are, the bytes that write a number).
use mathlib.Core.Path.{◌≡◌, refl, ap, ◌∙◌}
use mathlib.Core.List.{List, [], ◌∷◌, ◌++◌}
use mathlib.Core.Bool.{true}
use Prim.Native.Nat.{ℕ, suc, ◌^◌, ◌-◌, ◌≤◌, ◌<◌}
use native.Mathlib.Omega.{arith}
use lib.ListN.{length, get_or}
use lib.IntN.{ℤ, pos, negsuc}
use mir.Syntax.{w64}
use mir.Val.{SFits}
use Rattle.std.specs.Prelude.{decimal}
use Rattle.std.specs.Fmt.{signed_decimal}
use Rattle.decimal.specs.declared.Number.{Number}
use Rattle.decimal.specs.declared.Number.TheVariants.{Empty, Natural, Negative}
use Rattle.decimal.specs.Decimal.{all_digits, value_from, value, number_of, pushed, clamp, integer_of, text, signed_text}
use Rattle.decimal.proofs.Laws as laws

-- ---- reading

-- byte by byte is the whole: what no bytes are, and what bytes are with one more
pub no_byte : number_of [] ≡ Empty
unfolding number_of
no_byte = refl

pub byte_by_byte : (s : List ℕ) (b : ℕ) → number_of (s ++ b ∷ []) ≡ pushed (number_of s) b
byte_by_byte = laws.more

-- a number of more than 64 bits is the largest, and so never a smaller one
nonempty : (s : List ℕ) → 2 ^ 64 ≤ value s → 0 < length s
unfolding value_from
nonempty [] h = absurd (omega arith)
nonempty (b ∷ s) h = omega arith

pub too_large : (s : List ℕ) → all_digits s ≡ true → 2 ^ 64 ≤ value s → number_of s ≡ Natural (2 ^ 64 - 1)
too_large s a h = laws.of_digits s a (nonempty s h) ∙ ap Natural (omega arith)

pub too_low : (s : List ℕ) → all_digits s ≡ true → 2 ^ 64 ≤ value s → number_of (45 ∷ s) ≡ Negative (2 ^ 64 - 1)
too_low s a h = laws.of_negative s a (nonempty s h) ∙ ap Negative (omega arith)

-- ---- reading what was written gives it back

written : (n : ℕ) → n < 2 ^ 64 → value (text n) ≡ n
written n h = laws.value_of 20 n (omega arith)

pub reading_the_written : (n : ℕ) → n < 2 ^ 64 → number_of (text n) ≡ Natural n
reading_the_written n h =
    laws.of_digits (text n) (laws.are_digits 20 n) (laws.length_least 20 n (omega arith)) ∙ ap Natural (omega (arith, written n h))

reading_a_negative : (n : ℕ) → n < 2 ^ 64 → number_of (45 ∷ text n) ≡ Negative n
reading_a_negative n h =
    laws.of_negative (text n) (laws.are_digits 20 n) (laws.length_least 20 n (omega arith)) ∙ ap Negative (omega (arith, written n h))

-- for every i64
pub reading_the_signed : (z : ℤ) → SFits w64 z → clamp (integer_of (number_of (signed_text z))) ≡ z
reading_the_signed (pos n) f =
    ap (λ (x : Number). clamp (integer_of x)) (reading_the_written n (omega (arith, f.sfits))) ∙ ap pos (omega (arith, f.sfits))
reading_the_signed (negsuc n) f =
    ap (λ (x : Number). clamp (integer_of x)) (reading_a_negative (suc n) (omega (arith, f.sfits))) ∙ ap negsuc (omega (arith, f.sfits))

-- ---- the text

-- digits, 1 to 20 of them
pub text_digits : (n : ℕ) → all_digits (text n) ≡ true
text_digits n = laws.are_digits 20 n

pub text_length : (n : ℕ) → (0 < length (text n)) × (length (text n) ≤ 20)
text_length n = (laws.length_least 20 n (omega arith), laws.length_most 20 n)

-- the first is `0` in 0 alone
pub no_leading_zero : (n : ℕ) → n < 2 ^ 64 → get_or (text n) 0 0 ≡ 48 → n ≡ 0
no_leading_zero n h = laws.no_leading_zero 20 n (omega arith)

-- and of a signed number with its sign likewise
pub signed_length : (z : ℤ) → SFits w64 z → length (signed_text z) ≤ 20
signed_length (pos n) f = laws.length_most 20 n
signed_length (negsuc n) f = omega (arith, laws.length_fewest 20 (suc n) 19 (omega arith) (omega (arith, f.sfits)))

-- it is what std writes of a number, as `write!` does, so that all of this holds of what is written so
pub shown : (n : ℕ) → n < 2 ^ 64 → text n ≡ decimal n
shown = laws.shown

pub signed_shown : (z : ℤ) → SFits w64 z → signed_text z ≡ signed_decimal z
signed_shown (pos n) f = laws.shown n (omega (arith, f.sfits))
signed_shown (negsuc n) f = ap (λ (s : List ℕ). 45 ∷ s) (laws.shown (suc n) (omega (arith, f.sfits)))
