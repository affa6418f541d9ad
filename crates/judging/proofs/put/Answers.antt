use mathlib.Core.Path.{◌≡◌, ◌∙◌}
use mathlib.Core.List.{List, [], ◌∷◌, ◌++◌, append_assoc}
use Prim.Native.Nat.{ℕ, ◌+◌, ◌≤◌}
use native.Mathlib.Numerals.{add-one, add-two}
use lib.ListN.{set, length, take, drop}
use lib.Seq.{sets-eq}
use Rattle.hex_digits.specs.Digits.{written_in}
use Rattle.replying.specs.Sheet.{two_digits}
use Rattle.judging.proofs.put.Goals as goal

-- three bytes stored one after the other
three : (l : List ℕ) (at a b x : ℕ) → at + 3 ≤ length l → set (set (set l at a) (at + 1) b) (at + 2) x ≡ take at l ++ (a ∷ b ∷ x ∷ drop (at + 3) l)
three l at a b x h = rw (add-one, add-two) (sets-eq (a ∷ b ∷ x ∷ []) l at h ∙ append_assoc (take at l) (a ∷ b ∷ x ∷ []) (drop (at + 3) l))

pub returns : goal.returns
unfolding two_digits written_in
returns c = record { buffer = rw c.answer.ensures (three c.args.out.now c.args.at _ _ _ c.requires) }
