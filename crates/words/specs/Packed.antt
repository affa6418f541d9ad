-- For code: how a packed word grows, and what it names. `proofs/Claims.antt` says what that is of the word's bytes, so nobody has to believe this page.
use Rattle.std.specs.Prelude.{List, [], ◌∷◌, Bool, false, cond, ◌&&◌, ℕ, ◌+◌, ◌*◌, ◌^◌, ltb, eqb, Option, Some, None}
use Prim.Native.String.{String}
use Rattle.words.specs.declared.Word.{Word}
use Rattle.words.specs.declared.Word.TheVariants.{Letters, Other}
use Rattle.words.specs.declared.Request.{Request}
use Rattle.words.specs.Text.{bytes}
use Rattle.words.specs.Names.{request_names, request_numbered}
use Rattle.words.specs.Words.{letter_of, packed}

-- with one byte more: a word that has room for it has at most 11 letters, and so fits in 55 bits
unfoldable pub pushed : Word → ℕ → Word
pushed (Letters n) b = cond (ltb n (2 ^ 55) && ltb 0 (letter_of b)) (Letters (n * 32 + letter_of b)) Other
pushed Other b = Other

-- whether a word is this text
unfoldable pub spells : Word → String → Bool
spells (Letters n) text = eqb (packed (bytes text)) n
spells Other text = false

-- the number beside the name that a word spells
unfoldable pub number_packed : List (ℕ × String) → Word → Option ℕ
number_packed [] word = None
number_packed ((number, name) ∷ rest) word = cond (spells word name) (Some number) (number_packed rest word)

-- the request beside the name that a word spells
abbrev pub request_packed : Word → Option Request
request_packed word = request_numbered (number_packed request_names word)
