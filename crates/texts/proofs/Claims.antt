-- What is shown of text in a lent buffer beyond the equations, over any text and any buffer.
use mathlib.Core.Path.{◌≡◌}
use mathlib.Core.List.{List, ◌++◌}
use Prim.Native.Nat.{ℕ, ◌+◌, ◌≤◌}
use lib.ListN.{length, take}
use Rattle.texts.specs.Writing.{kept, written, Writes}
use Rattle.texts.proofs.Writing as W

-- Where there is room, all of the text is written behind the bytes before it.
pub whole : (at : ℕ) (text line : List ℕ) → at ≤ length line → at + length text ≤ length line → kept at text line ≡ take at line ++ text
whole = W.whole_text

-- The buffer keeps its length, and the text ends within it.
pub same_length : (at : ℕ) (text line : List ℕ) → length (written at text line) ≡ length line
same_length = W.same_length

pub within : (at : ℕ) (text line : List ℕ) → length (kept at text line) ≤ length line
within = W.kept_short

-- Before its end stands what is kept: the bytes before it, and the text.
pub front : (at : ℕ) (text line : List ℕ) → take (length (kept at text line)) (written at text line) ≡ kept at text line
front = W.front

-- One text after another is the two together: so is a line built, part by part.
pub then : {at : ℕ} {text : List ℕ} {before between : List ℕ} {end : ℕ}
    → Writes at text before between end
    → {more : List ℕ} {after : List ℕ} {last : ℕ}
    → Writes end more between after last
    → Writes at (text ++ more) before after last
then = W.then
