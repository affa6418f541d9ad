-- An input that comes in pieces. Between two pieces stand the line that is not finished and the state after those that are; a step is one byte.
use Rattle.std.specs.Prelude.{List, [], ◌∷◌, ◌++◌, cond, ℕ, eqb, take}
use Rattle.streaming.specs.Lines.{newline, Machine}

-- the unfinished line after one byte more
unfoldable pub grown : List ℕ → ℕ → List ℕ
grown line b = cond (eqb b newline) [] (line ++ b ∷ [])

-- the unfinished line after some bytes more
unfoldable pub after : List ℕ → List ℕ → List ℕ
after line [] = line
after line (b ∷ t) = after (grown line b) t

module _ {S : Type 0} (m : Machine S) where
  -- the state after one byte more: the line that it ends moves it
  unfoldable pub moved_by : S → List ℕ → ℕ → S
  moved_by s line b = cond (eqb b newline) (m.move s line) s

  -- what one byte more has written: the reply to the line that it ends
  unfoldable pub answered : S → List ℕ → ℕ → List ℕ
  answered s line b = cond (eqb b newline) (m.reply s line) []

  -- the state after some bytes more
  unfoldable pub state_after : S → List ℕ → List ℕ → S
  state_after s line [] = s
  state_after s line (b ∷ t) = state_after (moved_by s line b) (grown line b) t

  -- what some bytes more have written
  unfoldable pub answers : S → List ℕ → List ℕ → List ℕ
  answers s line [] = []
  answers s line (b ∷ t) = answered s line b ++ answers (moved_by s line b) (grown line b) t

  -- what the end of the input has written: the reply to the unfinished line, if it has bytes
  unfoldable pub ending : S → List ℕ → List ℕ
  ending s [] = []
  ending s (b ∷ line) = m.reply s (b ∷ line)

  -- the state at the end of the input
  unfoldable pub end_state : S → List ℕ → S
  end_state s [] = s
  end_state s (b ∷ line) = m.move s (b ∷ line)

  -- What a program writes that takes the pieces one after the other and keeps the first n bytes of the unfinished line, and the state, from each to the next.
  unfoldable pub in_pieces : ℕ → S → List ℕ → List (List ℕ) → List ℕ
  in_pieces n s kept [] = ending s kept
  in_pieces n s kept (piece ∷ rest) = answers s kept piece ++ in_pieces n (state_after s kept piece) (take n (after kept piece)) rest

  -- the state that it ends in
  unfoldable pub last_state : ℕ → S → List ℕ → List (List ℕ) → S
  last_state n s kept [] = end_state s kept
  last_state n s kept (piece ∷ rest) = last_state n (state_after s kept piece) (take n (after kept piece)) rest

-- the pieces put together
unfoldable pub joined : List (List ℕ) → List ℕ
joined [] = []
joined (piece ∷ rest) = piece ++ joined rest
