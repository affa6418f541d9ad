-- What one call does with a piece of an input, and what the end of the input adds.
use Rattle.std.specs.Prelude.{◌≡◌, List, Option, Some, None, [], ◌∷◌, ◌++◌, ℕ, ◌/◌, min, length, take, drop}
use Rattle.streaming.specs.Pieces.{after, answers}
use Rattle.carrying.specs.declared.Unfinished.{Unfinished}
use Rattle.carrying.specs.Kept.{most, kept_of}
use Rattle.replying.specs.Sheet.{reply, judging}
use Rattle.judging.specs.declared.Progress.{Progress}

-- What one call takes of a piece: all of it, if the output buffer has room for an answer to each byte.
abbrev pub taken : List ℕ → List ℕ → List ℕ
taken piece out = take (min (length piece) (length out / 3)) piece

-- What one call does with the state u, the input that it takes, and the output buffer, which holds `out` before it and `out'` after it.
-- Of the next state what it keeps is said: the bytes past its count mean nothing, and nothing reads them.
pub record Judged (u : Unfinished) (input out : List ℕ) (r : Progress) (out' : List ℕ) : Type 0 where
  pub consumed : r.consumed ≡ length input
  pub written : r.written ≡ length (answers judging tt (kept_of u) input)
  pub buffer : out' ≡ answers judging tt (kept_of u) input ++ drop r.written out
  pub state : kept_of r.state ≡ take most (after (kept_of u) input)

-- what the end of the input adds: nothing where no line is unfinished
unfoldable pub ending_of : List ℕ → Option (List ℕ)
ending_of [] = None
ending_of (b ∷ line) = Some (reply (b ∷ line))
