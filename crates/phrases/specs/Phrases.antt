-- The words of the answer numbers (docs/RULES.md, "Answer numbers"), and how a refusal is said.
use Rattle.std.specs.Prelude.{List, [], ◌∷◌, ◌++◌, ℕ}
use Prim.Native.String.{String}
use Rattle.decimal.specs.Decimal.{text}
use Rattle.words.specs.Text.{bytes}
use Rattle.words.specs.Names.{name_of}

unfoldable pub answer_words : List (ℕ × String)
answer_words =
    (0, "done") ∷ (1, "no such calendar") ∷ (2, "the year is out of range") ∷ (3, "no such month in that year") ∷ (4, "no such day in that month")
    ∷ (5, "before the calendar's first day or after 5373484") ∷ (6, "not 1 to 512 lengths of 0 to 400 days") ∷ (7, "no line gives these lengths")
    ∷ (8, "not 16 lowercase hexadecimal digits") ∷ (9, "another day than its date's") ∷ (10, "no line within the limits")
    ∷ (11, "the buffer is shorter than the count") ∷ (13, "another weekday than the day's") ∷ (17, "after the calendar's end") ∷ []

-- `refused 4: no such day in that month`
unfoldable pub refusal_text : ℕ → List ℕ
refusal_text number = bytes "refused " ++ text number ++ bytes ": " ++ name_of answer_words number
