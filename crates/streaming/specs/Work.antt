-- What code that works through an input in a lent buffer promises of a part of it: what private functions say to each other. Nobody has to believe it.
use Rattle.std.specs.Prelude.{◌≡◌, List, ◌++◌, ℕ, ◌+◌, ◌-◌, ◌≤◌, length, take, drop}
use Rattle.streaming.specs.Lines.{Machine}
use Rattle.streaming.specs.Pieces.{after, state_after, answers}

-- Before: a state, what is kept of the unfinished line, a buffer, and how many of its bytes are written. After, with a prime: the state that the bytes
-- leave, the first n bytes of the line that they leave unfinished, and the replies behind what was written; what lies past them stays.
pub record Worked
    {S : Type 0} (m : Machine S) (n : ℕ) (bytes : List ℕ) (s : S) (kept out : List ℕ) (at : ℕ) (s' : S) (kept' out' : List ℕ) (at' : ℕ) : Type 0 where
  pub state : s' ≡ state_after m s kept bytes
  pub left : kept' ≡ take n (after kept bytes)
  pub count : at' ≡ at + length (answers m s kept bytes)
  pub buffer : out' ≡ take at out ++ (answers m s kept bytes ++ drop at' out)

-- the same of the bytes of an input from one place to another
pub record WorkedFrom
    {S : Type 0} (m : Machine S) (n : ℕ) (input : List ℕ) (from next : ℕ) (s : S) (kept out : List ℕ) (at : ℕ)
    (s' : S) (kept' out' : List ℕ) (at' : ℕ) : Type 0 where
  pub on : from ≤ next
  pub within : next ≤ length input
  pub work : Worked m n (take (next - from) (drop from input)) s kept out at s' kept' out' at'
