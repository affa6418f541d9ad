-- The names of the calendars, the weekdays and the requests, each beside its number; the number that a text names, and the name of a number.
use mathlib.Core.List.{List, [], ◌∷◌}
use Rattle.std.specs.Prelude.{Bool, false, cond, ◌||◌, ℕ, eqb, get_or, Option, Some, None}
use Prim.Native.String.{String}
use Rattle.words.specs.declared.Request.{Request}
use Rattle.words.specs.declared.Request.TheVariants.{Day, Date, Months, Easter, Frame, Fit, Unfold, Calendars, Answers, Help}
use Rattle.words.specs.Text.{bytes, lowered, same}

unfoldable pub calendar_names : List (ℕ × String)
calendar_names =
    (1, "egyptian") ∷ (2, "armenian") ∷ (3, "khwarizmian") ∷ (4, "persian") ∷ (5, "ethiopian") ∷ (6, "coptic") ∷ (7, "republican") ∷ (8, "macedonian")
    ∷ (9, "syrian") ∷ (10, "julian") ∷ (11, "gregorian") ∷ (12, "islamic-a") ∷ (13, "islamic-b") ∷ (14, "bahai") ∷ (15, "saka") ∷ (18, "hebrew") ∷ []

unfoldable pub weekday_names : List (ℕ × String)
weekday_names =
    (1, "monday") ∷ (2, "tuesday") ∷ (3, "wednesday") ∷ (4, "thursday") ∷ (5, "friday") ∷ (6, "saturday") ∷ (7, "sunday") ∷ []

-- help has three names
unfoldable pub request_names : List (ℕ × String)
request_names =
    (1, "day") ∷ (2, "date") ∷ (3, "months") ∷ (4, "easter") ∷ (5, "frame") ∷ (6, "fit") ∷ (7, "unfold") ∷ (8, "calendars") ∷ (9, "answers") ∷ (10, "help")
    ∷ (10, "--help") ∷ (10, "-h") ∷ []

-- the number beside the name that a text is, its capitals made small
unfoldable pub number_named : List (ℕ × String) → List ℕ → Option ℕ
number_named [] text = None
number_named ((number, name) ∷ rest) text = cond (same (bytes name) (lowered text)) (Some number) (number_named rest text)

-- the first name beside a number, where there is one
unfoldable pub name_beside : List (ℕ × String) → ℕ → Option (List ℕ)
name_beside [] number = None
name_beside ((n, name) ∷ rest) number = cond (eqb n number) (Some (bytes name)) (name_beside rest number)

-- the same; empty where there is none
unfoldable pub name_of : List (ℕ × String) → ℕ → List ℕ
name_of [] number = []
name_of ((n, name) ∷ rest) number = cond (eqb n number) (bytes name) (name_of rest number)

-- whether a number has a name
unfoldable pub has_name : List (ℕ × String) → ℕ → Bool
has_name [] number = false
has_name ((n, name) ∷ rest) number = eqb n number || has_name rest number

-- the request of a number; 0 and numbers above 10 are of none
abbrev pub request_numbered : Option ℕ → Option Request
request_numbered None = None
request_numbered (Some n) =
    get_or
    (None ∷ Some Day ∷ Some Date ∷ Some Months ∷ Some Easter ∷ Some Frame ∷ Some Fit ∷ Some Unfold ∷ Some Calendars ∷ Some Answers ∷ Some Help ∷ [])
    n None
