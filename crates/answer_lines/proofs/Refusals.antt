-- A refusal is said as such: no refusal has the number 0.
use mathlib.Core.Path.{◌≡◌, refl}
use mathlib.Core.List.{List}
use Prim.Native.Nat.{ℕ}
use Rattle.refusals.specs.declared.Refusal.{Refusal}
use Rattle.refusals.specs.declared.Refusal.TheVariants.{UnknownCalendar, YearOutOfRange, NoSuchMonth, NoSuchDay, DayOutOfRange}
use Rattle.refusals.specs.declared.Refusal.TheVariants.{CodeOutOfLimits, NoLine, MalformedFrame, WrongDay, LineOutOfLimits, BufferTooShort}
use Rattle.refusals.specs.declared.Refusal.TheVariants.{WrongWeekday, CalendarEnded}
use Rattle.refusals.specs.Number.{number_of}
use Rattle.phrases.specs.Phrases.{refusal_text}
use Rattle.answer_lines.specs.Lines.{or_refusal}

pub refused : (why : Refusal) (said : List ℕ) → or_refusal (number_of why) said ≡ refusal_text (number_of why)
unfolding or_refusal
refused UnknownCalendar said = refl
refused YearOutOfRange said = refl
refused NoSuchMonth said = refl
refused NoSuchDay said = refl
refused DayOutOfRange said = refl
refused CodeOutOfLimits said = refl
refused NoLine said = refl
refused MalformedFrame said = refl
refused WrongDay said = refl
refused LineOutOfLimits said = refl
refused BufferTooShort said = refl
refused WrongWeekday said = refl
refused CalendarEnded said = refl
