-- What is kept of a line between two pieces of an input, and how the line goes on with more bytes.
use Rattle.std.specs.Prelude.{◌≡◌, List, [], ◌∷◌, ◌++◌, cond, ℕ, suc, eqb, take}
use Rattle.streaming.specs.Lines.{newline}
use Rattle.carrying.specs.declared.Unfinished.{Unfinished}
use Rattle.carrying.specs.declared.Part.{Part}

-- how many bytes of an unfinished line are kept: one more than a frame has, so that a line that is too long is known as such
abbrev pub most : ℕ
most = 17

-- the bytes that a state keeps of the unfinished line
unfoldable pub kept_of : Unfinished → List ℕ
kept_of u = take u.count u.bytes

-- where the first line of some bytes ends: the place of their first newline, or their length where they have none
unfoldable pub line_end : List ℕ → ℕ
line_end [] = 0
line_end (b ∷ s) = cond (eqb b newline) 0 (suc (line_end s))

-- The line u with what some bytes have of it. What is kept is said: the bytes past the count mean nothing, and nothing reads them.
pub record GoneOn (u : Unfinished) (bytes : List ℕ) (r : Part) : Type 0 where
  pub end : r.end ≡ line_end bytes
  pub line : kept_of r.line ≡ take most (kept_of u ++ take r.end bytes)
