-- The first bytes of an unfinished line, kept in an array with room for n: the state of a loop that adds the bytes of `more`, of which i are passed.
use mathlib.Core.Path.{◌≡◌, sym, ap, ◌∙◌}
use mathlib.Core.List.{List, ◌++◌, append-nil}
use Prim.Native.Nat.{ℕ, suc, ◌+◌, ◌≤◌, ◌<◌}
use native.Mathlib.Omega.{arith}
use native.Mathlib.Numerals.{add-one}
use lib.ListN.{length, take, drop, set, get_or, length-set, length-take, drop_of_length-le}
use lib.Seq.{take_all, take_at, take-suc-set, drop-cons, append_snoc}

-- what is kept, and then the bytes left, begin with the same n bytes as all of them
pub record Keeping (n : ℕ) (all more bytes : List ℕ) (count i : ℕ) : Type 0 where
  pub size : length bytes ≡ n
  pub place : i ≤ length more
  pub front : take n (take count bytes ++ drop i more) ≡ take n all

module _ {n : ℕ} {all more bytes : List ℕ} {count i : ℕ} (k : Keeping n all more bytes count i) where
  -- one byte more
  pub one_more : i < length more → count < n → Keeping n all more (set bytes count (get_or more i 0)) (count + 1) (i + 1)
  one_more h l =
      let b = get_or more i 0 in
      let e : take (suc count) (set bytes count b) ++ drop (suc i) more ≡ take count bytes ++ drop i more =
      ap (λ (x : List ℕ). x ++ drop (suc i) more) (take-suc-set bytes count b (omega (arith, k.size)))
      ∙ append_snoc (take count bytes) b (drop (suc i) more)
      ∙ ap (λ (x : List ℕ). take count bytes ++ x) (sym (drop-cons more i 0 h)) in
      record { size = length-set bytes count b ∙ k.size; place = omega arith; front = simp add-one (ap (take n) e ∙ k.front) }

  -- all n bytes are there
  pub full : n ≤ count → take count bytes ≡ take n all
  full h =
      let e : take count bytes ≡ bytes = take_all count bytes (omega (arith, k.size)) in
      e ∙ sym (take_at bytes (drop i more) n k.size) ∙ ap (λ (x : List ℕ). take n (x ++ drop i more)) (sym e) ∙ k.front

  -- all bytes are passed
  pub passed : length more ≤ i → take count bytes ≡ take n all
  passed h =
      sym (take_all n (take count bytes) (omega (arith, length-take count bytes, k.size)))
      ∙ ap (take n) (sym (append-nil (take count bytes)) ∙ ap (λ (x : List ℕ). take count bytes ++ x) (sym (drop_of_length-le more h)))
      ∙ k.front
