-- A number put digit by digit behind a text.
use mathlib.Core.Path.{◌≡◌, sym, ap, ◌∙◌}
use mathlib.Core.Bool.{true, false}
use mathlib.Core.List.{List, [], ◌∷◌, ◌++◌, append_assoc}
use Prim.Native.Nat.{ℕ, suc, ◌+◌, ◌/◌, ◌%◌, ◌^◌, ◌≤◌, ◌<◌}
use native.Mathlib.Omega.{arith}
use borrow.Author.Tests.{ltb-true}
use lib.IntN.{ℤ, pos, negsuc, nat_abs}
use lib.Signed.{lt_z}
use lib.ListN.{length, length-append}
use mir.Syntax.{w64}
use mir.Val.{SFits}
use Rattle.std.specs.Prelude.{decimal}
use Rattle.std.specs.Fmt.{signed_decimal}
use Rattle.std.proofs.lemmas.Fmt.{decimal_digit, decimal_step, length-decimal-le}
use Rattle.decimal.proofs.Claims.{signed_length, signed_shown}

-- the number stands behind the text, where it has room
abbrev pub Put : ℕ → List ℕ → List ℕ → ℕ → Type 0
Put most old new n = length old + length (decimal n) ≤ most → new ≡ old ++ decimal n

-- one byte more, likewise
abbrev pub PutByte : ℕ → List ℕ → List ℕ → ℕ → Type 0
PutByte most old new b = length old < most → new ≡ old ++ b ∷ []

pub one_digit : (most n : ℕ) (old new : List ℕ) → n < 10 → PutByte most old new (48 + n % 10) → Put most old new n
one_digit most n old new h digit room =
    let e = decimal_digit n h in
    digit (omega (arith, room, ap (length {A = ℕ}) e)) ∙ ap (λ (s : List ℕ). old ++ s) (ap (λ d. (48 + d) ∷ []) (omega (arith, h)) ∙ sym e)

pub last_digit : (most n : ℕ) (old middle new : List ℕ) → 10 ≤ n → n < 2 ^ 64 → Put most old middle (n / 10) → PutByte most middle new (48 + n % 10) → Put most old new n
last_digit most n old middle new h f before digit room =
    let e = decimal_step n h f in
    let l = ap (length {A = ℕ}) e ∙ length-append (decimal (n / 10)) ((48 + n % 10) ∷ []) in
    let m = before (omega (arith, room, l)) in
    digit (omega (arith, room, l, ap (length {A = ℕ}) m ∙ length-append old (decimal (n / 10))))
    ∙ ap (λ s. s ++ (48 + n % 10) ∷ []) m
    ∙ append_assoc old (decimal (n / 10)) ((48 + n % 10) ∷ [])
    ∙ ap (λ s. old ++ s) (sym e)

-- the last two digits of a number of more
pub last_two : (most n : ℕ) (old front middle new : List ℕ) → 100 ≤ n → n < 2 ^ 64 → Put most old front (n / 100) → PutByte most front middle (48 + n / 10 % 10)
    → PutByte most middle new (48 + n % 10) → Put most old new n
last_two most n old front middle new h f before ten one =
    let e : n / 100 ≡ n / 10 / 10 = omega arith in
    last_digit most n old middle new (omega (arith, h)) f (last_digit most (n / 10) old front middle (omega (arith, h)) (omega (arith, f)) (rw e at before) ten) one

-- a signed number by its distance from 0, behind a minus sign where it is negative
pub plain : (most : ℕ) (z : ℤ) (old new : List ℕ) → lt_z z (pos 0) ≡ false → Put most old new (nat_abs z)
    → length old + length (signed_decimal z) ≤ most → new ≡ old ++ signed_decimal z
plain most (pos n) old new h put room = put room
plain most (negsuc n) old new h put room = let z : ◌≡◌ {A = ℕ} 0 1 = cc in absurd (omega arith)

pub negative : (most : ℕ) (z : ℤ) (old middle new : List ℕ) → lt_z z (pos 0) ≡ true → PutByte most old middle 45 → Put most middle new (nat_abs z)
    → length old + length (signed_decimal z) ≤ most → new ≡ old ++ signed_decimal z
negative most (pos n) old middle new h sign put room = absurd (omega (arith, ltb-true n 0 h))
negative most (negsuc n) old middle new h sign put room =
    let m = sign (omega (arith, room)) in
    put (omega (arith, room, ap (length {A = ℕ}) m ∙ length-append old (45 ∷ [])))
    ∙ ap (λ (s : List ℕ). s ++ decimal (suc n)) m
    ∙ append_assoc old (45 ∷ []) (decimal (suc n))

-- how long a text is with another behind it
pub longer : (old new text : List ℕ) → new ≡ old ++ text → length new ≡ length old + length text
longer old new text e = ap (length {A = ℕ}) e ∙ length-append old text

-- twenty bytes are room for a number, signed or not
pub few : (n : ℕ) → n < 2 ^ 64 → length (decimal n) ≤ 20
few n f = length-decimal-le 20 n (omega arith) (omega (arith, f)) f

pub few_signed : (z : ℤ) → SFits w64 z → length (signed_decimal z) ≤ 20
few_signed z f = rw (signed_shown z f) at (signed_length z f)
