-- Text written into a lent buffer: after its first bytes, as much as there is room for.
use Rattle.std.specs.Prelude.{◌≡◌, List, ◌++◌, ℕ, ◌≤◌, length, take, drop}

-- what the front of the buffer holds when a text follows its first `at` bytes
unfoldable pub kept : ℕ → List ℕ → List ℕ → List ℕ
kept at text line = take (length line) (take at line ++ text)

-- the whole buffer then: the bytes after that stay
unfoldable pub written : ℕ → List ℕ → List ℕ → List ℕ
written at text line = kept at text line ++ drop (length (kept at text line)) line

-- that a function has so written a text into `before`: what the buffer is after it, and where the text ends, which the function answers
pub record Writes (at : ℕ) (text before after : List ℕ) (end : ℕ) : Type 0 where
  pub whole : after ≡ written at text before
  pub end_of : end ≡ length (kept at text before)

-- n counts bytes at the front of a buffer. The second part follows from the first; a proof of `&buffer[..n]` looks for both.
abbrev pub Counts : ℕ → List ℕ → Type 0
Counts n buffer = (n ≤ length buffer) × (n ≡ length (take n buffer))
