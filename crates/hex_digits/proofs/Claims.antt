-- What is proved of 16 digits: the page to read first. It rests on specs/Digits.antt (digits, the number that some write, the digits that write a number)
-- and specs/Read.antt (what reading answers).
use mathlib.Core.Path.{◌≡◌, refl, sym, ap, ◌∙◌}
use mathlib.Core.List.{List}
use mathlib.Core.Bool.{Bool, true, false, cond}
use Prim.Native.Nat.{ℕ, ◌^◌, ◌<◌}
use native.Mathlib.Nat.{mod-eq_of_lt}
use lib.Dec.{eqb}
use lib.ListN.{length}
use borrow.Author.Tests.{eqb-true, eq-eqb}
use Rattle.basics.proofs.Cases.{both}
use Rattle.std.specs.Prelude.{Some, None}
use Rattle.hex_digits.specs.Digits.{all_digits, sixteen_digits, number_in, written_in}
use Rattle.hex_digits.specs.Read.{digits_of}
use Rattle.hex_digits.proofs.Laws.{read_written, written_read, written_length, written_digits}

-- a number comes from exactly 16 digits, and is the one that they write
pub is_number : (line : List ℕ) (n : ℕ) → Some n ≡ digits_of line → (sixteen_digits line ≡ true) × (n ≡ number_in line)
unfolding digits_of
is_number line n = go (sixteen_digits line)
  where
    go : (c : Bool) → Some n ≡ cond c (Some (number_in line)) None → (c ≡ true) × (n ≡ number_in line)
    go true e = (refl, cc)
    go false e = cc

-- no number comes from anything else
pub is_malformed : (line : List ℕ) → None ≡ digits_of line → sixteen_digits line ≡ false
unfolding digits_of
is_malformed line = go (sixteen_digits line)
  where
    go : (c : Bool) → None ≡ cond c (Some (number_in line)) None → c ≡ false
    go true e = cc
    go false e = refl

-- a frame has 16 bytes, and they are digits
pub sixteen_parts : (line : List ℕ) → sixteen_digits line ≡ true → (length line ≡ 16) × (all_digits line ≡ true)
unfolding sixteen_digits
sixteen_parts line h = let p = both (eqb (length line) 16) (all_digits line) h in (eqb-true (length line) 16 p.0, p.1)

pub written_sixteen : (n : ℕ) → sixteen_digits (written_in 16 n) ≡ true
unfolding sixteen_digits
written_sixteen n = rw (eq-eqb (length (written_in 16 n)) 16 (written_length 16 n), written_digits 16 n)

-- reading what was written gives the number
pub reading_the_written : (n : ℕ) → n < 2 ^ 64 → digits_of (written_in 16 n) ≡ Some n
unfolding digits_of
reading_the_written n h = rw (written_sixteen n, read_written 16 n, mod-eq_of_lt h)

-- and writing what was read gives the same bytes
pub writing_the_read : (line : List ℕ) (n : ℕ) → Some n ≡ digits_of line → written_in 16 n ≡ line
writing_the_read line n e =
    let r = is_number line n e in
    let p = sixteen_parts line r.0 in
    ap (written_in 16) r.1 ∙ ap (λ (k : ℕ). written_in k (number_in line)) (sym p.0) ∙ written_read line p.1
