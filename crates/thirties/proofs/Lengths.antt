-- The length of a position, as it is found where one has so many days and all others have 30.
use Rattle.std.proofs.Common.{◌≡◌, ◌∙◌, ℕ, ◌≤◌, ◌<◌, cond, nat_eq, min, Option, Some, None, MatchOption, IfSome, arith}
use Rattle.months.specs.Parts.{IsLength}

module _ (short days p : ℕ) where
  abbrev Found : Option ℕ → Type 0
  Found found = MatchOption found (12 < p) (λ n. (p ≤ 12) × (n ≡ cond (nat_eq p short) days 30) × (min days 30 ≤ n))

  -- it is the length, where none after the thirteenth has one
  pub is_length : {n : ℕ} (found : Option ℕ) → Found found → 1 ≤ days → (12 < p → n ≡ 0) → (p ≤ 12 → cond (nat_eq p short) days 30 ≡ n) → IsLength n found
  is_length None f d out there = out f
  is_length (Some k) f d out there = (omega (arith, f.2, d), f.1 ∙ there f.0)

  pub early : (found : Option ℕ) → Found found → IfSome found (λ _. p ≤ 12)
  early None f = tt
  early (Some k) f = f.0
