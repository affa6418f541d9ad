-- A calendar whose years begin some positions on in those of another: the same days, under other years and positions.
use mathlib.Core.Path.{◌≡◌, ap, ◌∙◌}
use mathlib.Core.List.{List, ◌++◌}
use Prim.Native.Nat.{ℕ, zero, suc, ◌+◌, ◌-◌, ◌≤◌, ◌<◌}
use native.Mathlib.Decide.{dec_lt}
use native.Mathlib.Omega.{arith}
use lib.ListN.{length, take, drop, get_or, length-append, length-take, length-drop, get_or-append}
use lib.Seq.{take-append-le, take-append-add, take-take, get_or-append-add, get_or-take, get_or-drop}
use Rattle.counting.specs.Calendar.{total, start}
use Rattle.counting.proofs.Totals.{total_append, total_split, total_take_add, total_take_suc, total_take_mono}
use Rattle.counting.proofs.Counting.{start_mono}
use Rattle.months.specs.Lines.{turned_by}

module _ (M : ℕ → List ℕ) (count : ℕ) (counted : (z : ℕ) → length (M z) ≡ count) (z₀ k : ℕ) (small : k ≤ count) where
  abbrev L : ℕ → List ℕ
  L = turned_by k (λ i. M (z₀ + i))

  -- the days of M before the first year
  abbrev S : ℕ
  S = start M z₀ + total (take k (M z₀))

  -- a year's lengths, with the next year written so
  lengths_are : (i : ℕ) → L i ≡ drop k (M (z₀ + i)) ++ take k (M (suc (z₀ + i)))
  unfolding turned_by
  lengths_are i = let e : z₀ + suc i ≡ suc (z₀ + i) = omega arith in ap (λ (z : ℕ). drop k (M (z₀ + i)) ++ take k (M z)) e

  rest_length : (z : ℕ) → length (drop k (M z)) ≡ count - k
  rest_length z = length-drop k (M z) ∙ ap (λ (n : ℕ). n - k) (counted z)

  pub positions : (i : ℕ) → length (L i) ≡ count
  positions i =
      let t : length (take k (M (suc (z₀ + i)))) ≡ k = omega (arith, length-take k (M (suc (z₀ + i))), counted (suc (z₀ + i))) in
      omega (arith, ap length (lengths_are i), length-append (drop k (M (z₀ + i))) (take k (M (suc (z₀ + i)))), rest_length (z₀ + i))

  pub starts : (i : ℕ) → start L i + S ≡ start M (z₀ + i) + total (take k (M (z₀ + i)))
  unfolding start
  starts zero = let e : z₀ + 0 ≡ z₀ = omega arith in omega (arith, ap (λ (z : ℕ). start M z + total (take k (M z))) e)
  starts (suc i) =
      let e : z₀ + suc i ≡ suc (z₀ + i) = omega arith in
      let t = ap total (lengths_are i) in
      omega (
        arith,
        starts i,
        ap (λ (z : ℕ). start M z + total (take k (M z))) e,
        total_append (drop k (M (z₀ + i))) (take k (M (suc (z₀ + i)))),
        total_split k (M (z₀ + i)),
      )

  -- position p of year i is position q of year z of M, in the same year or, where w is 1, in the next
  pub before_turn : (i p : ℕ) → p + k < count
      → (start L i + total (take p (L i)) + S ≡ start M (z₀ + i) + total (take (p + k) (M (z₀ + i)))) × (get_or (L i) p 0 ≡ get_or (M (z₀ + i)) (p + k) 0)
  before_turn i p h =
      let z = z₀ + i in
      let A = drop k (M z) in
      let B = take k (M (suc z)) in
      let l = rest_length z in
      let t = ap (λ (ls : List ℕ). total (take p ls)) (lengths_are i) in
      let a : total (take p (A ++ B)) ≡ total (take p A) = ap total (take-append-le p A B (omega arith)) in
      let c : k + p ≡ p + k = omega arith in (
        omega (arith, t, starts i, total_take_add k p (M z), ap (λ (n : ℕ). total (take n (M z))) c),
        ap (λ (ls : List ℕ). get_or ls p 0) (lengths_are i) ∙ get_or-append A B 0 p (omega arith) ∙ get_or-drop k (M z) p 0
            ∙ ap (λ (n : ℕ). get_or (M z) n 0) c,
      )

  pub after_turn : (i p q : ℕ) → p + k ≡ q + count → q < k
      → (start L i + total (take p (L i)) + S ≡ start M (suc (z₀ + i)) + total (take q (M (suc (z₀ + i)))))
      × (get_or (L i) p 0 ≡ get_or (M (suc (z₀ + i))) q 0)
  unfolding start
  after_turn i p q h l =
      let z = z₀ + i in
      let A = drop k (M z) in
      let B = take k (M (suc z)) in
      let e : p ≡ length A + q = omega (arith, rest_length z) in
      let t = ap (λ (ls : List ℕ). total (take p ls)) (lengths_are i) in
      let a : total (take p (A ++ B)) ≡ total A + total (take q B) =
      ap (λ (n : ℕ). total (take n (A ++ B))) e ∙ ap total (take-append-add A B q) ∙ total_append A (take q B) in
      let b : total (take q B) ≡ total (take q (M (suc z))) = ap total (take-take q k (M (suc z)) (omega arith)) in (
        omega (arith, t, starts i, total_split k (M z)),
        ap (λ (ls : List ℕ). get_or ls p 0) (lengths_are i) ∙ ap (λ (n : ℕ). get_or (A ++ B) n 0) e ∙ get_or-append-add A B q 0 ∙ get_or-take k (M (suc z)) q 0 l,
      )

  -- a day of position q of year z that is not before the first year is not in an earlier year, and in a later one where q is before the turn
  pub not_before : (z q e : ℕ) → S ≤ start M z + total (take q (M z)) + e → e < get_or (M z) q 0 → (z₀ ≤ z) × (q < k → z₀ < z)
  unfolding start
  not_before z q e h l = (go (dec_lt z z₀), λ m. later (dec_lt z₀ z) m)
    where
      inside : start M z + total (take q (M z)) + e < start M (suc z)
      inside = omega (arith, total_take_suc q (M z), total_split (suc q) (M z))

      go : Dec (z < z₀) → z₀ ≤ z
      go (yes m) = absurd (omega (arith, inside, start_mono M (suc z) z₀ m))
      go (no m) = omega arith

      later : Dec (z₀ < z) → q < k → z₀ < z
      later (yes m) n = m
      later (no m) n =
          let s : z ≡ z₀ = omega (arith, go (dec_lt z z₀)) in
          absurd (omega (arith, ap (λ (x : ℕ). start M x + total (take k (M x))) s, total_take_suc q (M z), total_take_mono (suc q) k (M z) n))
