-- What is shown of the answers' words beyond the equations.
use mathlib.Core.Path.{◌≡◌, refl}
use mathlib.Core.Bool.{true}
use Prim.Native.Nat.{ℕ, ◌≤◌}
use native.Mathlib.Omega.{arith}
use lib.ListN.{length, length-append}
use mathlib.Core.List.{◌++◌}
use Rattle.refusals.specs.declared.Refusal.{Refusal}
use Rattle.refusals.specs.declared.Refusal.TheVariants.{UnknownCalendar, YearOutOfRange, NoSuchMonth, NoSuchDay, DayOutOfRange}
use Rattle.refusals.specs.declared.Refusal.TheVariants.{CodeOutOfLimits, NoLine, MalformedFrame, WrongDay, LineOutOfLimits, BufferTooShort}
use Rattle.refusals.specs.declared.Refusal.TheVariants.{WrongWeekday, CalendarEnded}
use Rattle.refusals.specs.Number.{number_of}
use Rattle.decimal.specs.Decimal.{text}
use Rattle.decimal.proofs.Claims.{text_length}
use Rattle.words.specs.Text.{bytes, lower, lowered, same}
use Rattle.words.specs.Names.{number_named, name_of, has_name}
use Rattle.words.proofs.Tables.{all_rows, own_number, name_back, name_length}
use Rattle.words.proofs.Claims.{OwnNames, LeadBack}
use Rattle.phrases.specs.Phrases.{answer_words, refusal_text}

-- every refusal has its words
pub refusal_named : (why : Refusal) → has_name answer_words (number_of why) ≡ true
unfolding has_name answer_words
refusal_named UnknownCalendar = refl
refusal_named YearOutOfRange = refl
refusal_named NoSuchMonth = refl
refusal_named NoSuchDay = refl
refusal_named DayOutOfRange = refl
refusal_named CodeOutOfLimits = refl
refusal_named NoLine = refl
refusal_named MalformedFrame = refl
refusal_named WrongDay = refl
refusal_named LineOutOfLimits = refl
refusal_named BufferTooShort = refl
refusal_named WrongWeekday = refl
refusal_named CalendarEnded = refl

-- no two numbers share their words
pub answers_apart : OwnNames answer_words × LeadBack answer_words
unfolding all_rows answer_words number_named bytes lower lowered same
answers_apart = (own_number answer_words answer_words refl, name_back answer_words answer_words refl)

-- a refusal is at most 78 bytes
pub answer_length : (n : ℕ) → length (name_of answer_words n) ≤ 48
unfolding all_rows answer_words bytes
answer_length = name_length 48 answer_words refl

pub refusal_length : (n : ℕ) → length (refusal_text n) ≤ 78
unfolding refusal_text bytes
refusal_length n =
    let before = bytes "refused " ++ text n in
    omega (
      arith,
      length-append (before ++ bytes ": ") (name_of answer_words n),
      length-append before (bytes ": "),
      length-append (bytes "refused ") (text n),
      (text_length n).1,
      answer_length n,
    )
