-- Where the first line of some bytes ends.
use mathlib.Core.Path.{◌≡◌, refl}
use mathlib.Core.List.{List, [], ◌∷◌}
use mathlib.Core.Bool.{Bool, true, false, cond, not}
use Prim.Native.Nat.{ℕ, zero, suc, ◌+◌, ◌≤◌, ◌<◌}
use native.Mathlib.Omega.{arith}
use lib.Dec.{eqb, ltb}
use lib.ListN.{length, get_or}
use borrow.Author.Tests.{ltb-false, eqb-true, eqb-false}
use Rattle.std.specs.Prelude.{Some, None, unwrap_or}
use Rattle.std.specs.List.{position, position_or_len}
use Rattle.streaming.specs.Lines.{newline}
use Rattle.carrying.specs.Kept.{line_end}

pub within : (s : List ℕ) → line_end s ≤ length s
unfolding line_end
within [] = omega arith
within (b ∷ s) = go (eqb b newline) (within s)
  where
    go : (c : Bool) → line_end s ≤ length s → cond c 0 (suc (line_end s)) ≤ suc (length s)
    go true h = omega arith
    go false h = omega arith

pub none_before : (s : List ℕ) (k : ℕ) → k < line_end s → get_or s k 0 ≡ newline → ⊥
unfolding line_end
none_before [] k h e = omega arith
none_before (b ∷ s) k h e = go (eqb b newline) refl (none_before s) k h e
  where
    go : (c : Bool) → eqb b newline ≡ c → ((k : ℕ) → k < line_end s → get_or s k 0 ≡ newline → ⊥) → (k : ℕ) → k < cond c 0 (suc (line_end s))
        → get_or (b ∷ s) k 0 ≡ newline → ⊥
    go true t r k h e = omega arith
    go false t r zero h e = eqb-false b newline t e
    go false t r (suc k) h e = r k (omega arith) e

pub newline_there : (s : List ℕ) → line_end s < length s → get_or s (line_end s) 0 ≡ newline
unfolding line_end
newline_there [] h = absurd (omega arith)
newline_there (b ∷ s) h = go (eqb b newline) refl (newline_there s) h
  where
    go : (c : Bool) → eqb b newline ≡ c → (line_end s < length s → get_or s (line_end s) 0 ≡ newline) → cond c 0 (suc (line_end s)) < suc (length s)
        → get_or (b ∷ s) (cond c 0 (suc (line_end s))) 0 ≡ newline
    go true t r h = eqb-true b newline t
    go false t r h = r (omega arith)

-- as std's `position` finds it
pub positioned : (s : List ℕ) → unwrap_or (position (λ b. eqb b newline) s) (length s) ≡ line_end s
unfolding line_end
positioned s = go (position_or_len (λ b. eqb b newline) s) (same s)
  where
    same : (s : List ℕ) → position_or_len (λ b. eqb b newline) s ≡ line_end s
    same [] = refl
    same (b ∷ s) = step (eqb b newline) (same s)
      where
        step : (c : Bool) → position_or_len (λ b. eqb b newline) s ≡ line_end s
            → cond (not c) (1 + position_or_len (λ b. eqb b newline) s) 0 ≡ cond c 0 (suc (line_end s))
        step true e = refl
        step false e = omega arith

    go : (n : ℕ) → n ≡ line_end s → unwrap_or (cond (ltb n (length s)) (Some n) None) (length s) ≡ line_end s
    go n e = ends (ltb n (length s)) refl
      where
        ends : (c : Bool) → ltb n (length s) ≡ c → unwrap_or (cond c (Some n) None) (length s) ≡ line_end s
        ends true t = e
        ends false t = omega (arith, ltb-false n (length s) t, within s)
