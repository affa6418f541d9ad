-- What a state keeps, for code that looks into it.
use mathlib.Core.Path.{◌≡◌, refl, sym, ap, ◌∙◌}
use mathlib.Core.List.{List, [], ◌++◌}
use mathlib.Core.Bool.{Bool, true, false}
use Prim.Native.Nat.{ℕ, ◌≤◌, ◌<◌, min}
use native.Mathlib.Omega.{arith}
use lib.Dec.{ltb}
use lib.ListN.{length, take, length-take}
use lib.Seq.{take_all}
use borrow.Author.Tests.{ltb-true, ltb-false}
use Rattle.streaming.proofs.Kept.{Keeping, full, passed}
use Rattle.carrying.specs.declared.Unfinished.{Unfinished}
use Rattle.carrying.specs.Kept.{most, kept_of}

module _ (u : Unfinished) where
  pub kept_few : length u.bytes ≡ 17 → length (kept_of u) ≤ most
  unfolding kept_of
  kept_few h = omega (arith, length-take u.count u.bytes)

  pub none_kept : u.count ≡ 0 → kept_of u ≡ []
  unfolding kept_of
  none_kept h = rw h

  pub some_kept : length u.bytes ≡ 17 → (u.count ≡ 0 → ⊥) → 0 < length (kept_of u)
  unfolding kept_of
  some_kept h n = omega (arith, length-take u.count u.bytes)

  -- the array has no more than 17 bytes
  pub kept_bytes : (n : ℕ) → length u.bytes ≡ 17 → n ≡ min u.count 17 → take n u.bytes ≡ kept_of u
  unfolding kept_of
  kept_bytes n h e = go (ltb u.count 17) refl
    where
      go : (c : Bool) → ltb u.count 17 ≡ c → take n u.bytes ≡ take u.count u.bytes
      go true t = let k : n ≡ u.count = omega (arith, ltb-true u.count 17 t) in ap (λ (i : ℕ). take i u.bytes) k
      go false t =
          let l = ltb-false u.count 17 t in take_all n u.bytes (omega arith) ∙ sym (take_all u.count u.bytes (omega arith))

-- what the loop of `keep` has kept once all 17 bytes are there, or all bytes are passed
module _ (u : Unfinished) (more bytes : List ℕ) (count i : ℕ) where
  pub kept_full : Keeping most (take u.count u.bytes ++ more) more bytes count i → most ≤ count
      → kept_of (record { bytes = bytes; count = count }) ≡ take most (kept_of u ++ more)
  unfolding kept_of
  kept_full k h = full k h

  pub kept_passed : Keeping most (take u.count u.bytes ++ more) more bytes count i → length more ≤ i
      → kept_of (record { bytes = bytes; count = count }) ≡ take most (kept_of u ++ more)
  unfolding kept_of
  kept_passed k h = passed k h
