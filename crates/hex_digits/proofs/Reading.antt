-- What the loop of `read` keeps: whether the bytes passed are digits, and if so the number that they write.
use mathlib.Core.Path.{◌≡◌, refl, sym, ap, ◌∙◌}
use mathlib.Core.List.{List}
use mathlib.Core.Bool.{Bool, true, false, cond, ◌&&◌}
use Prim.Native.Nat.{ℕ, ◌+◌, ◌*◌, ◌%◌, ◌^◌, ◌≤◌, ◌<◌}
use native.Mathlib.Omega.{arith}
use native.Mathlib.Numerals.{add-one}
use native.Mathlib.Nat.{pow-suc, pow-le-pow_right}
use lib.Dec.{eqb}
use lib.ListN.{length, take, get_or}
use lib.Seq.{take_all}
use borrow.Author.Tests.{eq-eqb}
use Rattle.basics.proofs.Cases.{both}
use Rattle.std.specs.Prelude.{Some, None}
use Rattle.std.specs.Bool.{then_some}
use Rattle.hex_digits.specs.Digits.{is_digit, all_digits, sixteen_digits, number_in, hex_byte}
use Rattle.hex_digits.specs.Read.{digits_of}
use Rattle.hex_digits.specs.Inner.{guess}
use Rattle.hex_digits.proofs.Laws.{number_suc, all_suc, guessed}

pub record Passed (line : List ℕ) (n : ℕ) (good : Bool) (k : ℕ) : Type 0 where
  pub most : k ≤ 16
  pub small : n < 16 ^ k
  pub digits : good ≡ all_digits (take k line)
  pub value : good ≡ true → n ≡ number_in (take k line)

-- one byte more, b, of which d is the guess and w what the guess writes: it is a digit where w is b
pub next : {line : List ℕ} {n n' : ℕ} {good good' : Bool} {k k' d w : ℕ} → length line ≡ 16 → Passed line n good k → k < 16 → get_or line k 0 < 256
    → d ≡ guess (get_or line k 0) → w ≡ hex_byte (d % 16)
    → n' ≡ n * 16 + d → good' ≡ (good && eqb w (get_or line k 0)) → k' ≡ k + 1 → Passed line n' good' k'
next {line} {n} {n'} {good} {good'} {k} {k'} {d} {w} h p l small e f en eg ek =
    let b = get_or line k 0 in
    let g = guessed b small in
    let s : k < length line = omega arith in
    let t : eqb w b ≡ is_digit b = ap (λ (x : ℕ). eqb x b) (f ∙ ap (λ (x : ℕ). hex_byte (x % 16)) e) ∙ g.0 in
    let m : d < 16 = omega arith in
    rw (en, eg, ek)
    (record {
      most = omega arith;
      small = rw (add-one, pow-suc) (omega (arith, p.small));
      digits = rw (add-one, all_suc line k s, t, p.digits);
      value = λ y. let a = both good (eqb w b) y in rw (add-one, number_suc line k s) (omega (arith, p.value a.0, g.1 (sym t ∙ a.1)));
    })

-- its number fits
pub fits : {line : List ℕ} {n : ℕ} {good : Bool} {k : ℕ} (d : ℕ) → Passed line n good k → k < 16 → d < 16 → n * 16 + d < 2 ^ 64
fits {line} {n} {good} {k} d p l m = omega (arith, p.small, pow-le-pow_right {n = 16} (omega arith) {i = k} {j = 15} (omega arith))

-- all 16 bytes: the number, if all are digits
pub whole : {line : List ℕ} {n : ℕ} {good : Bool} {k : ℕ} → Passed line n good k → length line ≡ 16 → length line ≤ k → then_some good n ≡ digits_of line
unfolding digits_of sixteen_digits
whole {line} {n} {good} {k} p h l =
    let w = take_all k line l in
    rw (eq-eqb (length line) 16 h, sym (p.digits ∙ ap all_digits w)) (go good (λ e. p.value e ∙ ap number_in w))
  where
    go : (b : Bool) → (b ≡ true → n ≡ number_in line) → then_some b n ≡ cond b (Some (number_in line)) None
    go true v = ap Some (v refl)
    go false v = refl
