-- Numbers written batch after batch.
use mathlib.Core.Path.{◌≡◌, refl, sym, ap, ◌∙◌}
use mathlib.Core.List.{List, [], ◌∷◌, ◌++◌, append_assoc}
use Prim.Native.Nat.{ℕ, ◌-◌}
use lib.ListN.{length, take, drop}
use Rattle.std.proofs.lemmas.List.{take-append-drop, take_rest}
use Rattle.std.specs.Prelude.{Option, Some, None, codes, decimal}
use Rattle.std.specs.Io.KnownBytes.{Appends}
use Rattle.printing.specs.Spaced.{spaced}

spaced_append : (front back : List ℕ) → spaced (front ++ back) ≡ spaced front ++ spaced back
spaced_append [] back = refl
spaced_append (n ∷ front) back = ap (λ s. (codes " " ++ decimal n) ++ s) (spaced_append front back) ∙ sym (append_assoc (codes " " ++ decimal n) (spaced front) (spaced back))

-- one text behind another
pub behind : (old middle new : Option (List ℕ)) (front back whole : List ℕ) → front ++ back ≡ whole → Appends old middle front → Appends middle new back
    → Appends old new whole
behind None middle new front back whole e a b = tt
behind (Some xs) None new front back whole e a b = absurd a
behind (Some xs) (Some ys) None front back whole e a b = absurd b
behind (Some xs) (Some ys) (Some zs) front back whole e a b = b ∙ ap (λ s. s ++ back) a ∙ append_assoc xs front back ∙ ap (λ s. xs ++ s) e

-- the numbers written and those left, after one batch more
pub one_more : (old middle new : Option (List ℕ)) (front batch left rest numbers : List ℕ) → Appends old middle (spaced front) → front ++ rest ≡ numbers
    → Appends middle new (spaced batch) → batch ++ left ≡ rest → (x : List ℕ) × Appends old new (spaced x) × (x ++ left ≡ numbers)
one_more old middle new front batch left rest numbers a e b s = (
  front ++ batch,
  behind old middle new (spaced front) (spaced batch) (spaced (front ++ batch)) (sym (spaced_append front batch)) a b,
  append_assoc front batch left ∙ ap (λ x. front ++ x) s ∙ e,
)

-- a batch and the numbers behind it
pub parted : (n : ℕ) (rest : List ℕ) → take n rest ++ take (length rest - n) (drop n rest) ≡ rest
parted n rest = ap (λ x. take n rest ++ x) (take_rest rest n) ∙ take-append-drop n rest
