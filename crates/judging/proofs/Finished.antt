-- What the end of an input adds, as the code finds it.
use mathlib.Core.Path.{◌≡◌, refl, sym, ap, ◌∙◌}
use mathlib.Core.List.{List, [], ◌∷◌}
use Prim.Native.Nat.{ℕ, ◌<◌}
use native.Mathlib.Omega.{arith}
use lib.ListN.{length}
use Rattle.std.specs.Prelude.{Some, None}
use Rattle.verdicts.specs.Verdict.{verdict_of}
use Rattle.carrying.specs.declared.Unfinished.{Unfinished}
use Rattle.carrying.specs.Kept.{kept_of}
use Rattle.carrying.proofs.Kept.{none_kept, some_kept}
use Rattle.replying.specs.Sheet.{two_digits, reply}
use Rattle.judging.specs.Piece.{ending_of}

-- no line
pub no_ending : (u : Unfinished) → u.count ≡ 0 → None ≡ ending_of (kept_of u)
unfolding ending_of
no_ending u h = ap ending_of (sym (none_kept u h))

-- a line that has bytes
some_bytes : (line : List ℕ) → 0 < length line → Some (reply line) ≡ ending_of line
unfolding ending_of
some_bytes [] h = absurd (omega arith)
some_bytes (b ∷ line) h = refl

pub an_ending : (u : Unfinished) (v : ℕ) (out : List ℕ) → length u.bytes ≡ 17 → (u.count ≡ 0 → ⊥) → v ≡ verdict_of (kept_of u) → out ≡ two_digits v
    → Some out ≡ ending_of (kept_of u)
an_ending u v out l n e p = ap Some (p ∙ ap two_digits e) ∙ some_bytes (kept_of u) (some_kept u l n)
