-- What the loop of `write` keeps: the digits that are still to be written, and then those that are, are all of them.
use mathlib.Core.Path.{◌≡◌, sym, ap, ◌∙◌}
use mathlib.Core.List.{List, [], ◌∷◌, ◌++◌}
use Prim.Native.Nat.{ℕ, suc, ◌/◌, ◌%◌, ◌≤◌, ◌<◌}
use native.Mathlib.Omega.{arith}
use lib.ListN.{length, take, drop, set, length-set}
use lib.Seq.{append_snoc, set_split, drop_at, length-take-le}
use Rattle.hex_digits.specs.Digits.{hex_byte, written_in}

pub record Left (n : ℕ) (out : List ℕ) (rest k : ℕ) : Type 0 where
  pub size : length out ≡ 16
  pub most : k ≤ 16
  pub all : written_in k rest ++ drop k out ≡ written_in 16 n

-- one digit more, at the place before
pub next : {n : ℕ} {out : List ℕ} {rest rest' k k' at b : ℕ} → Left n out rest k → k ≡ suc k' → b ≡ hex_byte (rest % 16) → at ≡ k' → rest' ≡ rest / 16
    → Left n (set out at b) rest' k'
unfolding written_in
next {n} {out} {rest} {rest'} {k} {k'} {at} {b} l ek e ea er =
    let h : k' < length out = omega (arith, l.most, l.size) in
    let m : written_in (suc k') rest ++ drop (suc k') out ≡ written_in 16 n = rw ek at l.all in
    let at_place : drop k' (set out k' b) ≡ b ∷ drop (suc k') out = ap (drop k') (set_split out k' b h)
    ∙ drop_at (take k' out) (b ∷ drop (suc k') out) k' (length-take-le k' out (omega arith)) in
    rw (ea, er)
    (record {
      size = length-set out k' b ∙ l.size;
      most = omega (arith, l.most);
      all =
          ap (λ (x : List ℕ). written_in k' (rest / 16) ++ x) at_place
          ∙ sym (append_snoc (written_in k' (rest / 16)) b (drop (suc k') out))
          ∙ ap (λ (x : ℕ). (written_in k' (rest / 16) ++ x ∷ []) ++ drop (suc k') out) e
          ∙ m;
    })
