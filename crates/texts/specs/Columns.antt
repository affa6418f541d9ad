-- Text in a column of so many bytes. A text that is wider is written whole.
use Rattle.std.specs.Prelude.{List, [], ◌∷◌, ◌++◌, ℕ, zero, suc, ◌-◌, length}

unfoldable pub blanks : ℕ → List ℕ
blanks zero = []
blanks (suc n) = blanks n ++ 32 ∷ []

-- blanks in front
unfoldable pub right_in : ℕ → List ℕ → List ℕ
right_in width text = blanks (width - length text) ++ text

-- blanks behind
unfoldable pub left_in : ℕ → List ℕ → List ℕ
left_in width text = text ++ blanks (width - length text)
