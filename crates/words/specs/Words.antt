-- Words: 1 to 12 letters or hyphens, packed into a number, 5 bits a letter.
use Rattle.std.specs.Prelude.{List, [], ◌∷◌, Bool, true, cond, ◌&&◌, ℕ, ◌+◌, ◌-◌, ◌*◌, leb, ltb, eqb, length}
use Rattle.words.specs.declared.Word.{Word}
use Rattle.words.specs.declared.Word.TheVariants.{Letters, Other}
use Rattle.words.specs.Text.{lower}

-- the letters a to z are 1 to 26, and a hyphen is 27; 0 where the byte is none of them
unfoldable pub small_letter : ℕ → ℕ
small_letter b = cond (leb 97 b && leb b 122) (b - 96) (cond (eqb b 45) 27 0)

-- capitals count as small letters
abbrev pub letter_of : ℕ → ℕ
letter_of b = small_letter (lower b)

unfoldable pub all_letters : List ℕ → Bool
all_letters [] = true
all_letters (b ∷ s) = ltb 0 (letter_of b) && all_letters s

-- letters packed after those of n, the first letter highest
unfoldable pub packed_from : ℕ → List ℕ → ℕ
packed_from n [] = n
packed_from n (b ∷ s) = packed_from (n * 32 + letter_of b) s

abbrev pub packed : List ℕ → ℕ
packed s = packed_from 0 s

-- what some bytes are: at most 12 letters, packed, which is 0 of no byte; or no word
unfoldable pub word_of : List ℕ → Word
word_of s = cond (leb (length s) 12 && all_letters s) (Letters (packed s)) Other
