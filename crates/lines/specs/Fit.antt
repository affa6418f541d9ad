-- The answer of fitting, that is of recognising a digital straight line: the line with the least denominator that generates a code, or the number of a
-- refusal. `fit_of` computes it; `proofs/Claims.antt` says what it means over all lines.
use Rattle.std.specs.Prelude.{cond, List, ℕ, ◌≤◌, ◌<◌, ℤ, pos, negsuc, length, get_or}
use Rattle.std.proofs.Math.Option.{Option, none, some}
use Rattle.lines.specs.Line.{Line, Generates}
use Rattle.lines.specs.BandTest.{within, sum_to, offset_of, passes, first}

-- ---- the answer

-- the answer number (docs/RULES.md, "Answer numbers") and the line; a refusal has zeros in the place of the line
pub record Answer : Type 0 where
  pub number : ℕ
  pub a : ℕ
  pub b : ℕ
  pub r : ℕ

abbrev pub line : ℕ → ℕ → ℕ → Answer
line a b r = record { number = 0; a = a; b = b; r = r }

abbrev pub refused : ℕ → Answer
refused why = record { number = why; a = 0; b = 0; r = 0 }

-- ---- what an answer means

-- a code is 1 to 512 lengths, each 0 to 400
pub record Within (code : List ℕ) : Type 0 where
  pub any : 0 < length code
  pub few : length code ≤ 512
  pub small : (k : ℕ) → k < length code → get_or code k 0 ≤ 400

-- r is from 0 to b - 1
abbrev pub Below : ℤ → ℕ → Type 0
Below (pos r) b = r < b
Below (negsuc r) b = ⊥

-- the line generates the code, and every line that does has at least its denominator
pub record Best (code : List ℕ) (l : Line) : Type 0 where
  pub generates : Generates l code
  pub low : Below l.r l.b
  pub least : (m : Line) → Generates m code → l.b ≤ m.b

-- no whole a, b, r, however large, generate the code
abbrev pub NoLine : List ℕ → Type 0
NoLine code = (l : Line) → Generates l code → ⊥

-- ---- how it is computed: the first denominator, up to the number of lengths, that passes the band test (specs/BandTest.antt)

unfoldable pub answer_of : List ℕ → Option ℕ → Answer
answer_of code none = refused 7
answer_of code (some b) = line (sum_to code b) b (offset_of code b)

unfoldable pub fit_of : List ℕ → Answer
fit_of code = cond (within code) (answer_of code (first (passes code) (length code) 1)) (refused 6)
