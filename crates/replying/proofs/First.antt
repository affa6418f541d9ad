-- What some bytes begin with, as the code finds it.
use mathlib.Core.Path.{◌≡◌, refl, sym, ap, ◌∙◌}
use mathlib.Core.List.{List}
use mathlib.Core.Bool.{Bool, true, false, cond, ◌&&◌}
use Prim.Native.Nat.{ℕ, ◌≤◌, ◌<◌}
use native.Mathlib.Omega.{arith}
use lib.ListN.{length, take, get_or, get_or-eq_default}
use borrow.Author.Tests.{ne_eqb}
use Rattle.std.specs.Prelude.{Some, None}
use Rattle.hex_digits.specs.Digits.{sixteen_digits}
use Rattle.frames.specs.declared.Frame.{Frame}
use Rattle.frames.specs.Frame.{reading_of}
use Rattle.frames.proofs.Claims.{is_fields, is_malformed}
use Rattle.streaming.specs.Lines.{newline}
use Rattle.verdicts.specs.Verdict.{verdict_on, verdict_of}
use Rattle.verdicts.proofs.Verdicts.{frame}
use Rattle.replying.specs.First.{first_line}
use Rattle.replying.proofs.Claims.{frame_first}

-- a frame that was read and judged
pub is_frame : (s : List ℕ) (v : ℕ) (f : Frame) → 16 < length s → get_or s 16 0 ≡ newline → Some f ≡ reading_of (take 16 s) → v ≡ verdict_on f
    → Some v ≡ first_line s
is_frame s v f l e d w =
    let r = is_fields (take 16 s) f d in
    (frame_first s v).1 (record { digits = r.0; within = l; ends = e; verdict = w ∙ ap verdict_on r.1 ∙ sym (frame (take 16 s) r.0) })

-- something else
pub no_digits : (s : List ℕ) → None ≡ reading_of (take 16 s) → None ≡ first_line s
unfolding first_line
no_digits s d = rw (is_malformed (take 16 s) d)

pub no_newline : (s : List ℕ) → (get_or s 16 0 ≡ newline → ⊥) → None ≡ first_line s
unfolding first_line
no_newline s n = rw (ne_eqb (get_or s 16 0) newline n) (go (sixteen_digits (take 16 s)))
  where
    go : (d : Bool) → None ≡ cond (d && false) (Some (verdict_of (take 16 s))) None
    go true = refl
    go false = refl

pub too_short : (s : List ℕ) → length s ≤ 16 → None ≡ first_line s
too_short s h = no_newline s (λ e. omega (arith, get_or-eq_default s 0 {n = 16} h))
