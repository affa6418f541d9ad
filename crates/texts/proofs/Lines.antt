-- A text added to a line after another is the two together.
use mathlib.Core.Path.{◌≡◌, refl, sym, ◌∙◌, subst}
use mathlib.Core.List.{List, [], ◌∷◌, ◌++◌}
use Prim.Native.Nat.{ℕ, ◌+◌, ◌≤◌, ◌<◌, min}
use native.Mathlib.Omega.{arith}
use lib.ListN.{length, take, get_or}
use lib.Seq.{take_all}
use Rattle.std.specs.Borrow.{MutBor}
use Rattle.texts.specs.declared.Line.{Line}
use Rattle.texts.specs.Writing.{Writes}
use Rattle.texts.specs.Lines.{Begins, Adds}
use Rattle.texts.proofs.Writing as W

-- an empty text
pub nothing : {buffer : MutBor (List ℕ)} {at end : ℕ} → end ≡ min at (length buffer.now)
    → Adds [] (record { buffer = buffer; end = at }) (record { buffer = buffer; end = end })
nothing {buffer} {at} {end} e = record { same = refl; writes = subst (Writes at [] buffer.now buffer.now) (sym e) (W.nothing at buffer.now); fits = omega (arith, e) }

-- one text after another
pub then : {text more : List ℕ} {before between after : Line} → Adds text before between → Adds more between after → Adds (text ++ more) before after
then a b = record { same = b.same ∙ a.same; writes = W.then a.writes b.writes; fits = b.fits }

-- a byte more of a text
pub next : {before between after : Line} (text : List ℕ) (k : ℕ) → Adds (take k text) before between → k < length text → Adds (get_or text k 0 ∷ []) between after
    → Adds (take (k + 1) text) before after
next {before} {between} {after} text k a h b = subst (λ (x : List ℕ). Adds x before after) (sym (W.next_byte text k h)) (then a b)

pub all : {before after : Line} (text : List ℕ) (k : ℕ) → Adds (take k text) before after → length text ≤ k → Adds text before after
all {before} {after} text k a h = subst (λ (x : List ℕ). Adds x before after) (take_all k text h) a

-- what the caller has of a line that began in its buffer
pub finished : {buffer : MutBor (List ℕ)} {first last : Line} {text : List ℕ} → Begins buffer first → Adds text first last
    → {end : ℕ} → end ≡ last.end → {after : List ℕ} → (buffer.ghost_name ≡ last.buffer.ghost_name → after ≡ last.buffer.now) → Writes 0 text buffer.now after end
finished {buffer} {first} {last} {text} b a {end} e {after} lent =
    let bytes : after ≡ last.buffer.now = lent (sym (a.same ∙ b.same)) in
    record {
      whole = rw (bytes) (rw (b.start, b.bytes) at a.writes.whole);
      end_of = e ∙ rw (b.start, b.bytes) at a.writes.end_of;
    }
