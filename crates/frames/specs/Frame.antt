-- The fields of a frame in their order: calendar 2 digits, year plus 4,712 as 4, month 2, day of month 2, day number 6 (docs/RULES.md, "Sheets").
use Rattle.std.specs.Prelude.{List, ◌++◌, Option, Some, None, cond, ℕ, ℤ, pos, ◌-ℤ◌}
use Rattle.hex_digits.specs.Digits.{sixteen_digits, field, written_in}
use Rattle.frames.specs.declared.Frame.{Frame}

-- ---- reading

unfoldable pub fields_of : List ℕ → Frame
fields_of line = record { calendar = field line 0 2; year = field line 2 4; month = field line 6 2; day = field line 8 2; number = field line 10 6 }

unfoldable pub reading_of : List ℕ → Option Frame
reading_of line = cond (sixteen_digits line) (Some (fields_of line)) None

-- the year: the field is the year plus 4,712
abbrev pub year_of : Frame → ℤ
year_of f = pos f.year -ℤ pos 4712

-- ---- writing

unfoldable pub frame_of : Frame → List ℕ
frame_of f = written_in 2 f.calendar ++ (written_in 4 f.year ++ (written_in 2 f.month ++ (written_in 2 f.day ++ written_in 6 f.number)))
