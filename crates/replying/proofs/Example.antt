-- The rules' examples of sheets, computed by the definitions.
use mathlib.Core.Path.{◌≡◌, refl}
use mathlib.Core.List.{List, [], ◌∷◌, ◌++◌}
use Prim.Native.Nat.{ℕ}
use Rattle.counting.specs.Calendar.{total, start, day_of}
use Rattle.counting.specs.Answers.{years, day_for, weekday_tried}
use Rattle.calendar_rules.specs.Calendars.{lookup, calendar}
use Rattle.calendar_rules.specs.Answers.{day_answer_with}
use Rattle.hex_digits.specs.Digits.{digit_of, all_digits, sixteen_digits, number_from, field, written_in}
use Rattle.frames.specs.Frame.{fields_of}
use Rattle.streaming.specs.Lines.{lines_of, replies}
use Rattle.verdicts.specs.Verdict.{against, verdict_on, verdict_of}
use Rattle.replying.specs.Sheet.{two_digits, sheet_of}

-- 0b1a380101256859, 0b1a38010125685a, xyz
abbrev pub input : List ℕ
input =
    (48 ∷ 98 ∷ 49 ∷ 97 ∷ 51 ∷ 56 ∷ 48 ∷ 49 ∷ 48 ∷ 49 ∷ 50 ∷ 53 ∷ 54 ∷ 56 ∷ 53 ∷ 57 ∷ 10 ∷ [])
    ++ (48 ∷ 98 ∷ 49 ∷ 97 ∷ 51 ∷ 56 ∷ 48 ∷ 49 ∷ 48 ∷ 49 ∷ 50 ∷ 53 ∷ 54 ∷ 56 ∷ 53 ∷ 97 ∷ 10 ∷ [])
    ++ (120 ∷ 121 ∷ 122 ∷ [])

-- 00, 09, 08
abbrev pub output : List ℕ
output = 48 ∷ 48 ∷ 10 ∷ 48 ∷ 57 ∷ 10 ∷ 48 ∷ 56 ∷ 10 ∷ []

pub example : sheet_of input ≡ output
unfolding sheet_of lines_of replies two_digits written_in verdict_of verdict_on fields_of against sixteen_digits all_digits digit_of number_from field
    day_answer_with calendar lookup day_for weekday_tried years day_of start total
example = refl

-- 071276040a24538f, 071276040b245390, 071276040b000000: the last Republican date, and the date after it with the day after and with another
abbrev pub end_input : List ℕ
end_input =
    (48 ∷ 55 ∷ 49 ∷ 50 ∷ 55 ∷ 54 ∷ 48 ∷ 52 ∷ 48 ∷ 97 ∷ 50 ∷ 52 ∷ 53 ∷ 51 ∷ 56 ∷ 102 ∷ 10 ∷ [])
    ++ (48 ∷ 55 ∷ 49 ∷ 50 ∷ 55 ∷ 54 ∷ 48 ∷ 52 ∷ 48 ∷ 98 ∷ 50 ∷ 52 ∷ 53 ∷ 51 ∷ 57 ∷ 48 ∷ 10 ∷ [])
    ++ (48 ∷ 55 ∷ 49 ∷ 50 ∷ 55 ∷ 54 ∷ 48 ∷ 52 ∷ 48 ∷ 98 ∷ 48 ∷ 48 ∷ 48 ∷ 48 ∷ 48 ∷ 48 ∷ 10 ∷ [])

-- 00, 11, 11
abbrev pub end_output : List ℕ
end_output = 48 ∷ 48 ∷ 10 ∷ 49 ∷ 49 ∷ 10 ∷ 49 ∷ 49 ∷ 10 ∷ []

pub end_example : sheet_of end_input ≡ end_output
unfolding sheet_of lines_of replies two_digits written_in verdict_of verdict_on fields_of against sixteen_digits all_digits digit_of number_from field
    day_answer_with calendar lookup day_for weekday_tried years day_of start total
end_example = refl
