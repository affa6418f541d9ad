-- What the code takes of an input: a frame with its newline, the rest of any line, a newline. And what a program needs that writes what was judged.
use mathlib.Core.Path.{◌≡◌, refl, sym, ap, ◌∙◌, subst}
use mathlib.Core.List.{List, [], ◌∷◌, ◌++◌}
use Prim.Native.Nat.{ℕ, ◌+◌, ◌-◌, ◌*◌, ◌/◌, ◌≤◌, ◌<◌, min}
use native.Mathlib.Omega.{arith}
use lib.ListN.{length, take, drop, get_or, length-append, length-drop, length-take}
use lib.Seq.{drop-cons, take-suc, take_all, get_or-drop}
use Rattle.std.specs.Prelude.{Some}
use Rattle.hex_digits.specs.Digits.{digit_of}
use Rattle.hex_digits.proofs.Claims.{sixteen_parts}
use Rattle.hex_digits.proofs.Laws.{plain_digits}
use Rattle.streaming.specs.Lines.{newline}
use Rattle.streaming.specs.Pieces.{answers}
use Rattle.streaming.specs.Work.{WorkedFrom}
use Rattle.streaming.proofs.Newlines.{Plain}
use Rattle.streaming.proofs.Work.{unended, ended, whole_line, whole_input, few, same_size}
use Rattle.verdicts.specs.Verdict.{verdict_of}
use Rattle.carrying.specs.declared.Unfinished.{Unfinished}
use Rattle.carrying.specs.declared.Part.{Part}
use Rattle.carrying.specs.Kept.{most, kept_of, GoneOn}
use Rattle.carrying.proofs.Claims.{end_within, end_at_newline, no_newline_before}
use Rattle.replying.specs.Sheet.{two_digits, judging}
use Rattle.replying.specs.First.{first_line}
use Rattle.replying.proofs.Claims.{three_bytes, reads, Begins, frame_first}
use Rattle.judging.specs.declared.Progress.{Progress}
use Rattle.judging.specs.Piece.{taken, Judged}
use Rattle.judging.specs.Inner.{Put}

-- no byte has more than three written
few_written : {input : List ℕ} {i j : ℕ} {kept kept' out out' : List ℕ} {at at' : ℕ} → WorkedFrom judging most input i j tt kept out at tt kept' out' at'
    → at' ≤ at + (j - i) * 3
few_written w = few judging 3 (λ s line. three_bytes (verdict_of line)) w

-- the buffer keeps its length
pub same_buffer : {input : List ℕ} {i j : ℕ} {kept kept' out out' : List ℕ} {at at' : ℕ} → at + (length input - i) * 3 ≤ length out
    → WorkedFrom judging most input i j tt kept out at tt kept' out' at' → length out' ≡ length out
same_buffer h w = same_size w.work (omega (arith, few_written w, w.on, w.within))

-- and room for an answer to each byte that is left
pub room : {input : List ℕ} {i j : ℕ} {kept kept' out out' : List ℕ} {at at' : ℕ} → at + (length input - i) * 3 ≤ length out
    → WorkedFrom judging most input i j tt kept out at tt kept' out' at' → at' + (length input - j) * 3 ≤ length out'
room h w = omega (arith, few_written w, same_buffer h w, w.on, w.within)

-- ---- what is taken

-- the answer v, put behind what was written
answer_put : {out out' : List ℕ} {v x p : ℕ} (at at' : ℕ) → v ≡ x → Put v p out out' → p ≡ at → at' ≡ at + 3
    → out' ≡ take at out ++ (two_digits x ++ drop at' out)
answer_put at at' w o e i = rw (i, ← w, ← e) o.buffer

-- what is left of an input from a place on
rest : (input : List ℕ) (from : ℕ) → take (length input - from) (drop from input) ≡ drop from input
rest input from = take_all (length input - from) (drop from input) (omega (arith, length-drop from input))

-- a frame that stands at a place
pub frame_at : (input : List ℕ) (q from v : ℕ) → Some v ≡ first_line (take (length input - q) (drop q input)) → q ≡ from → Begins (drop from input) v
frame_at input q from v g e = (frame_first (drop from input) v).0 (rw (rest input from) at (rw e at g))

-- its line
pub frame_taken : {input out out' : List ℕ} {from next v at at' p : ℕ} → at ≤ length out → Begins (drop from input) v → Put v p out out' → p ≡ at
    → next ≡ from + 17 → at' ≡ at + 3 → WorkedFrom judging most input from next tt [] out at tt [] out' at'
unfolding digit_of
frame_taken {input} {out} {out'} {from} {next} {v} {at} {at'} a f o ep en i =
    let line = take 16 (drop from input) in
    let plain : Plain line = record { none = plain_digits line (sixteen_parts line f.digits).1 newline refl } in
    let n : next - from ≡ 17 = omega arith in
    let b : take 17 (drop from input) ≡ line ++ newline ∷ [] =
    take-suc (drop from input) 16 0 f.within ∙ ap (λ (x : ℕ). line ++ x ∷ []) f.ends in
    let w = whole_line judging most (omega arith) reads plain a refl (i
    ∙ omega (arith, three_bytes (verdict_of line))) (answer_put at at' f.verdict o ep i) in
    record { on = omega arith; within = omega (arith, f.within, length-drop from input); work = rw (n, b) w }

module _ (u : Unfinished) (input : List ℕ) (from end : ℕ) (r : Part) (g : GoneOn u (take (length input - from) (drop from input)) r) (e : end ≡ from + r.end)
  where
    gone : GoneOn u (drop from input) r
    gone = rw (rest input from) at g

    -- the bytes of a line up to its newline, or to the end of the input
    pub line_taken : (out : List ℕ) (at : ℕ) → at ≤ length out → from ≤ length input → WorkedFrom judging most input from end tt (kept_of u) out at tt (kept_of r.line) out at
    line_taken out at a h =
        let n : end - from ≡ r.end = omega arith in
        record {
          on = omega arith;
          within = omega (arith, gone.end, end_within (drop from input), length-drop from input);
          work = rw n (unended judging most tt out at (rw gone.end (no_newline_before (drop from input))) a gone.line);
        }

    pub line_ends : end < length input → get_or input end 0 ≡ newline
    line_ends h =
        rw e (sym (get_or-drop from input r.end 0) ∙ rw gone.end (end_at_newline (drop from input) (omega (arith, gone.end, length-drop from input))))

-- and the newline
pub newline_taken : {kept input out out' : List ℕ} {end next at at' v p : ℕ} → end < length input → get_or input end 0 ≡ newline → v ≡ verdict_of kept
    → Put v p out out'
    → p ≡ at → next ≡ end + 1 → at' ≡ at + 3 → WorkedFrom judging most input end next tt kept out at tt [] out' at'
newline_taken {kept} {input} {out} {out'} {end} {next} {at} {at'} {v} h e w o ep en i =
    let n : next - end ≡ 1 = omega arith in
    let b : take 1 (drop end input) ≡ newline ∷ [] = ap (take 1) (drop-cons input end 0 h) ∙ ap (λ (x : ℕ). x ∷ []) e in
    record {
      on = omega arith;
      within = omega arith;
      work = rw (n, b)
          (ended judging most refl (i ∙ omega (arith, three_bytes (verdict_of kept))) (answer_put at at' w o ep i));
    }

-- all of an input
pub judged : {u u' : Unfinished} {input out out' : List ℕ} {i at consumed written : ℕ}
    → WorkedFrom judging most input 0 i tt (kept_of u) out 0 tt (kept_of u') out' at → i ≡ length input → consumed ≡ i → written ≡ at
    → Judged u input out (record { state = u'; consumed = consumed; written = written }) out'
judged {u} {u'} {input} {out} {out'} {i} {at} {consumed} {written} w e c n =
    let v = whole_input (subst (λ (k : ℕ). WorkedFrom judging most input 0 k tt (kept_of u) out 0 tt (kept_of u') out' at) e w) in
    record { consumed = c ∙ e; written = omega (arith, v.count); buffer = rw n v.buffer; state = v.left }

-- ---- for a program that writes what was judged: it lies within the buffer

pub written_within : {u : Unfinished} {input out : List ℕ} {r : Progress} {out' : List ℕ} → Judged u input out r out' → r.written ≤ length out'
written_within {u} {input} {out} {r} {out'} j =
    omega (arith, j.written, ap length j.buffer, length-append (answers judging tt (kept_of u) input) (drop r.written out))

pub consumed_within : (piece : List ℕ) {u : Unfinished} {out : List ℕ} {r : Progress} {out' : List ℕ} → Judged u (taken piece out) out r out'
    → r.consumed ≤ length piece
consumed_within piece {u} {out} j = omega (arith, j.consumed, length-take (min (length piece) (length out / 3)) piece)
