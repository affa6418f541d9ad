-- What is proved of the answer to a line: the page to read first. It rests on specs/Verdict.antt of crate verdicts (the verdict on a line), specs/Sheet.antt
-- (the bytes of an answer) and specs/First.antt (a frame where it stands).
use mathlib.Core.Path.{◌≡◌, refl, sym, ap, ◌∙◌}
use mathlib.Core.Logic.{◌↔◌}
use mathlib.Core.List.{List}
use mathlib.Core.Bool.{Bool, true, false, cond, ◌&&◌}
use Prim.Native.Nat.{ℕ, ◌<◌}
use native.Mathlib.Decide.{dec_lt}
use native.Mathlib.Omega.{arith}
use lib.Dec.{ltb, eqb}
use lib.ListN.{length, take, get_or, get_or-eq_default}
use lib.Seq.{take_all, length-take-le}
use borrow.Author.Tests.{ltb-true, ltb-false, eqb-true, eq-eqb}
use Rattle.std.specs.Prelude.{Some, None}
use Rattle.hex_digits.specs.Digits.{sixteen_digits, written_in}
use Rattle.streaming.specs.Lines.{newline}
use Rattle.streaming.proofs.Pieces.{Reads}
use Rattle.verdicts.specs.Verdict.{verdict_of}
use Rattle.verdicts.proofs.Verdicts.{other_length}
use Rattle.carrying.specs.Kept.{most}
use Rattle.replying.specs.Sheet.{two_digits, judging}
use Rattle.replying.specs.First.{first_line}

-- an answer has three bytes
pub three_bytes : (n : ℕ) → length (two_digits n) ≡ 3
unfolding two_digits written_in
three_bytes n = refl

-- the first 17 bytes of a line fix its verdict
pub first_bytes : (line : List ℕ) → verdict_of (take 17 line) ≡ verdict_of line
first_bytes line = go (ltb 17 (length line)) refl
  where
    go : (c : Bool) → ltb 17 (length line) ≡ c → verdict_of (take 17 line) ≡ verdict_of line
    go true e =
        let h = ltb-true 17 (length line) e in
        let k : length (take 17 line) ≡ 17 = length-take-le 17 line (omega arith) in
        other_length (take 17 line) (λ x. omega arith) ∙ sym (other_length line (λ x. omega arith))
    go false e = ap verdict_of (take_all 17 line (ltb-false 17 (length line) e))

-- so what is kept of a line is enough to answer it
pub reads : Reads most judging
reads = record { reply = λ s line. ap two_digits (first_bytes line); move = λ s line. refl }

-- bytes that begin with a frame: exactly 16 digits and a newline; and the frame's verdict
pub record Begins (s : List ℕ) (v : ℕ) : Type 0 where
  pub digits : sixteen_digits (take 16 s) ≡ true
  pub within : 16 < length s
  pub ends : get_or s 16 0 ≡ newline
  pub verdict : v ≡ verdict_of (take 16 s)

pub frame_first : (s : List ℕ) (v : ℕ) → (Some v ≡ first_line s) ↔ Begins s v
unfolding first_line
frame_first s v = (
  there (sixteen_digits (take 16 s)) refl (eqb (get_or s 16 0) newline) refl,
  λ b. rw (b.digits, eq-eqb (get_or s 16 0) newline b.ends) (ap Some b.verdict),
)
  where
    within : get_or s 16 0 ≡ newline → Dec (16 < length s) → 16 < length s
    within e (yes h) = h
    within e (no h) = absurd (omega (arith, get_or-eq_default s 0 {n = 16} (omega arith)))

    there : (d : Bool) → sixteen_digits (take 16 s) ≡ d → (e : Bool) → eqb (get_or s 16 0) newline ≡ e
        → Some v ≡ cond (d && e) (Some (verdict_of (take 16 s))) None → Begins s v
    there true h true k e =
        let l = eqb-true (get_or s 16 0) newline k in record { digits = h; within = within l (dec_lt 16 (length s)); ends = l; verdict = cc }
    there true h false k e = cc
    there false h x k e = cc
