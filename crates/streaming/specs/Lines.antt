-- The lines of an input (docs/RULES.md, "Sheets"), and what is written for them, over any machine that replies to lines.
use Rattle.std.specs.Prelude.{List, [], ◌∷◌, ◌++◌, cond, ℕ, eqb}

-- the byte that ends a line
abbrev pub newline : ℕ
newline = 10

-- b in front of the first line, or a line of its own where there is none
abbrev pub ahead : ℕ → List (List ℕ) → List (List ℕ)
ahead b [] = (b ∷ []) ∷ []
ahead b (line ∷ rest) = (b ∷ line) ∷ rest

-- The lines of an input, without their newlines. A newline ends a line, an empty one too; what stands after the last newline is a line if it has bytes.
unfoldable pub lines_of : List ℕ → List (List ℕ)
lines_of [] = []
lines_of (b ∷ s) = let rest = lines_of s in cond (eqb b newline) ([] ∷ rest) (ahead b rest)

-- What replies to lines, one after the other (a Mealy machine): a reply is fixed by its line and by a state, which each line moves.
pub record Machine (S : Type 0) : Type 0 where
  pub reply : S → List ℕ → List ℕ
  pub move : S → List ℕ → S

-- the replies to some lines, from a state on
unfoldable pub replies : {S : Type 0} → Machine S → S → List (List ℕ) → List ℕ
replies m s [] = []
replies m s (line ∷ rest) = m.reply s line ++ replies m (m.move s line) rest

-- the state after some lines
unfoldable pub moved : {S : Type 0} → Machine S → S → List (List ℕ) → S
moved m s [] = s
moved m s (line ∷ rest) = moved m (m.move s line) rest

-- a machine whose replies are fixed by their lines alone
abbrev pub still : (List ℕ → List ℕ) → Machine (Unit {0})
still reply = record { reply = λ s line. reply line; move = λ s line. s }
