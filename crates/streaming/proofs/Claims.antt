-- What is proved of inputs of lines, over any machine that replies to lines: the page to read first.
-- It rests on specs/Lines.antt (lines, machines, replies) and, for the claims on pieces, on specs/Pieces.antt (a step of one byte,
-- the unfinished line, pieces).
use mathlib.Core.Path.{◌≡◌, refl}
use mathlib.Core.List.{List, [], ◌∷◌, ◌++◌}
use Prim.Native.Nat.{ℕ, ◌*◌, ◌<◌}
use lib.ListN.{length, take, drop, get_or}
use Rattle.streaming.specs.Lines.{newline, lines_of, Machine, replies, moved, still}
use Rattle.streaming.specs.Pieces.{after, in_pieces, last_state, joined}
use Rattle.streaming.proofs.Pieces.{Reads, after_newline, parts, pieces, pieces_state}
use Rattle.streaming.proofs.Lines.{missing, lines_back, lines_plain, replies_length, reply_at}

-- ---- the lines of an input

-- with their newlines put back they are the input, and a newline where the input lacks one at its end
pub lines_are_the_input : (t : List ℕ) → replies (still (λ line. line ++ newline ∷ [])) tt (lines_of t) ≡ t ++ missing (after [] t)
lines_are_the_input = lines_back

-- none has a newline in it
pub lines_have_no_newline : (t : List ℕ) (k j : ℕ) → get_or (get_or (lines_of t) k []) j 0 ≡ newline → ⊥
lines_have_no_newline = lines_plain

-- an empty input has none
pub no_lines : lines_of [] ≡ []
unfolding lines_of
no_lines = refl

-- ---- what a machine writes

module _ {S : Type 0} (m : Machine S) where
  -- each reply is fixed by its line and by the lines before it: where all have w bytes, those of the kth line stand from k w on
  pub w_bytes_a_line : (w : ℕ) → ((s : S) (line : List ℕ) → length (m.reply s line) ≡ w) → (s : S) (t : List ℕ)
      → length (replies m s (lines_of t)) ≡ length (lines_of t) * w
  w_bytes_a_line w wide s t = replies_length m w wide s (lines_of t)

  pub reply_of_each_line : (w : ℕ) → ((s : S) (line : List ℕ) → length (m.reply s line) ≡ w) → (s : S) (t : List ℕ) (k : ℕ) → k < length (lines_of t)
      → take w (drop (k * w) (replies m s (lines_of t))) ≡ m.reply (moved m s (take k (lines_of t))) (get_or (lines_of t) k [])
  reply_of_each_line w wide s t k h = reply_at m w wide s (lines_of t) k h

  -- an input may be cut at any newline: the second part goes on from the state that the first leaves
  pub cut_at_a_newline : (s : S) (t u : List ℕ)
      → replies m s (lines_of ((t ++ newline ∷ []) ++ u))
      ≡ replies m s (lines_of (t ++ newline ∷ [])) ++ replies m (moved m s (lines_of (t ++ newline ∷ []))) (lines_of u)
  cut_at_a_newline s t u = parts m s (t ++ newline ∷ []) u (after_newline [] t)

  -- However the input is cut into pieces, what is written piece by piece is the output of the whole and the state at the end is that of the whole,
  -- also where only the first n bytes of an unfinished line are kept, if those fix its reply and how it moves the state.
  pub in_any_pieces : (n : ℕ) → 0 < n → Reads n m → (s : S) (ps : List (List ℕ))
      → (in_pieces m n s [] ps ≡ replies m s (lines_of (joined ps))) × (last_state m n s [] ps ≡ moved m s (lines_of (joined ps)))
  in_any_pieces n h reads s ps = (pieces n h m reads s ps, pieces_state n h m reads s ps)
