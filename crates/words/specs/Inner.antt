-- For code: what the private functions answer. Nobody has to believe this page.
use Rattle.std.specs.Prelude.{List, Bool, true, false, ℕ, cond, ltb, eqb, Option, Some, None, option_map, find}
use Rattle.words.specs.declared.Word.{Word}
use Rattle.words.specs.declared.Word.TheVariants.{Letters, Other}
use Rattle.words.specs.Words.{letter_of}

-- the number of a letter, where it is one
abbrev pub letter_if_any : ℕ → Option ℕ
letter_if_any b = cond (ltb 0 (letter_of b)) (Some (letter_of b)) None

-- whether two words are the same
abbrev pub equal : Word → Word → Bool
equal (Letters m) (Letters n) = eqb m n
equal (Letters m) Other = false
equal Other (Letters n) = false
equal Other Other = true

-- what stands in a table beside a packed name
unfoldable pub packed_in : {A : Type 0} → List (A × ℕ) → ℕ → Option A
packed_in table n = option_map (λ row. row.0) (find (λ row. eqb row.1 n) table)

-- and beside the name that a word is
abbrev pub named_in : {A : Type 0} → List (A × ℕ) → Word → Option A
named_in table (Letters n) = packed_in table n
named_in table Other = None
