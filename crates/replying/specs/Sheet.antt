-- What the sheet program writes (docs/RULES.md, "Sheets"). A sheet is an input of lines, each of which is to be a frame.
use Rattle.std.specs.Prelude.{List, [], ◌∷◌, ◌++◌, ℕ}
use Rattle.hex_digits.specs.Digits.{written_in}
use Rattle.streaming.specs.Lines.{newline, lines_of, Machine, replies, still}
use Rattle.verdicts.specs.Verdict.{verdict_of}

-- an answer number as two lowercase hexadecimal digits and a newline
unfoldable pub two_digits : ℕ → List ℕ
two_digits n = written_in 2 n ++ newline ∷ []

-- the reply to a line
abbrev pub reply : List ℕ → List ℕ
reply line = two_digits (verdict_of line)

-- no line has to do with another
abbrev pub judging : Machine (Unit {0})
judging = still reply

-- the whole output for a whole input
unfoldable pub sheet_of : List ℕ → List ℕ
sheet_of s = replies judging tt (lines_of s)
