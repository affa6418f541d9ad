-- What is proved of sheets: the page to read first. It rests on specs/Verdict.antt of crate verdicts (the verdict on a line), specs/Lines.antt of crate
-- streaming (lines, and what is written for them) and specs/Sheet.antt of crate replying (the output for an input). specs/Piece.antt, with specs/Kept.antt
-- of crate carrying, says what a call of the code does with a piece; the last claim takes any run of such calls to the output of the whole input.
use mathlib.Core.Path.{◌≡◌, refl, sym, ap, ◌∙◌}
use mathlib.Core.List.{List, [], ◌∷◌, ◌++◌}
use Prim.Native.Nat.{ℕ, ◌*◌, ◌<◌}
use native.Mathlib.Omega.{arith}
use lib.ListN.{length, take, drop, get_or}
use lib.Seq.{take_at}
use Rattle.std.specs.Prelude.{unwrap_or}
use Rattle.streaming.specs.Lines.{newline, lines_of, replies}
use Rattle.streaming.specs.Pieces.{answers, ending, in_pieces, joined}
use Rattle.streaming.proofs.Claims.{w_bytes_a_line, reply_of_each_line, cut_at_a_newline, in_any_pieces}
use Rattle.verdicts.specs.Verdict.{verdict_of}
use Rattle.carrying.specs.declared.Unfinished.{Unfinished}
use Rattle.carrying.specs.Kept.{most, kept_of}
use Rattle.replying.specs.Sheet.{reply, judging, sheet_of}
use Rattle.replying.proofs.Claims.{three_bytes, reads}
use Rattle.judging.specs.declared.Progress.{Progress}
use Rattle.judging.specs.Piece.{Judged, ending_of}

-- each line's answer is fixed by that line: three bytes a line, those of the kth line from 3 k on
pub three_bytes_a_line : (s : List ℕ) → length (sheet_of s) ≡ length (lines_of s) * 3
unfolding sheet_of
three_bytes_a_line s = w_bytes_a_line judging 3 (λ x line. three_bytes (verdict_of line)) tt s

pub each_line : (s : List ℕ) (k : ℕ) → k < length (lines_of s) → take 3 (drop (k * 3) (sheet_of s)) ≡ reply (get_or (lines_of s) k [])
unfolding sheet_of
each_line s k h = reply_of_each_line judging 3 (λ x line. three_bytes (verdict_of line)) tt s k h

pub empty_input : sheet_of [] ≡ []
unfolding sheet_of lines_of replies
empty_input = refl

-- a sheet may be cut at any newline, and the parts judged by themselves
pub split : (s t : List ℕ) → sheet_of ((s ++ newline ∷ []) ++ t) ≡ sheet_of (s ++ newline ∷ []) ++ sheet_of t
unfolding sheet_of
split s t = cut_at_a_newline judging tt s t

-- ---- the code: a run of calls, one for each piece, and then the end of the input. What it writes is what each call puts into its buffer.

pub data Run : Unfinished → List (List ℕ) → List ℕ → Type 0 where
  finish : {u : Unfinished} → Run u [] (unwrap_or (ending_of (kept_of u)) [])
  judge : {u : Unfinished} {piece out out' : List ℕ} {r : Progress} {rest : List (List ℕ)} {written : List ℕ} → Judged u piece out r out'
      → Run r.state rest written → Run u (piece ∷ rest) (take r.written out' ++ written)

ends : (line : List ℕ) → unwrap_or (ending_of line) [] ≡ ending judging tt line
unfolding ending_of ending
ends [] = refl
ends (b ∷ line) = refl

by_pieces : {u : Unfinished} {ps : List (List ℕ)} {written : List ℕ} → Run u ps written → written ≡ in_pieces judging most tt (kept_of u) ps
unfolding in_pieces
by_pieces {u} finish = ends (kept_of u)
by_pieces (judge {u} {piece} {out} {out'} {r} {rest} {written} j run) =
    ap (λ (l : List ℕ). l ++ written) (ap (take r.written) j.buffer
    ∙ take_at (answers judging tt (kept_of u) piece) (drop r.written out) r.written (sym j.written))
    ∙ ap (λ (l : List ℕ). answers judging tt (kept_of u) piece ++ l) (by_pieces run ∙ ap (λ (l : List ℕ). in_pieces judging most tt l rest) j.state)

-- However the input comes in pieces, and whatever buffers are lent, what a run from the first state writes is the output for the whole.
pub whole : {u : Unfinished} {ps : List (List ℕ)} {written : List ℕ} → kept_of u ≡ [] → Run u ps written → written ≡ sheet_of (joined ps)
unfolding sheet_of
whole {u} {ps} {written} e run =
    by_pieces run ∙ ap (λ (l : List ℕ). in_pieces judging most tt l ps) e ∙ (in_any_pieces judging most (omega arith) reads tt ps).0
