-- Dates as text.
use Rattle.std.specs.Prelude.{List, ◌++◌, ℕ, codes, decimal}
use Rattle.std.specs.Fmt.{signed_decimal}
use Rattle.calendars.specs.declared.Date.{Date}

-- year, month, day and weekday
abbrev pub date_text : Date → List ℕ
date_text d = signed_decimal d.year ++ (codes " " ++ (decimal d.month ++ (codes " " ++ (decimal d.day ++ (codes " " ++ decimal d.weekday)))))
