-- What is shown of the lines beyond the equations: a buffer of 128 bytes holds each of them whole, whatever is answered.
use mathlib.Core.Path.{◌≡◌, refl}
use mathlib.Core.List.{List, [], ◌∷◌, ◌++◌}
use Prim.Native.Nat.{ℕ, zero, suc, ◌+◌, ◌-◌, ◌≤◌, max}
use native.Mathlib.Omega.{arith}
use lib.Dec.{eqb}
use lib.IntN.{ℤ, pos, negsuc}
use lib.ListN.{length, length-append}
use Rattle.basics.proofs.Cases.{cond_elim}
use Rattle.counting.specs.Answers.{DayAnswer, DateAnswer, weekday_of}
use Rattle.counting.specs.Positions.{Kind, PositionAnswer}
use Rattle.computus.specs.Rule.{EasterAnswer}
use Rattle.decimal.specs.Decimal.{text, signed_text}
use Rattle.decimal.proofs.Claims.{text_length}
use Rattle.words.specs.Text.{bytes}
use Rattle.words.specs.Names.{name_of, weekday_names}
use Rattle.words.proofs.Claims.{calendar_length, weekday_length}
use Rattle.texts.specs.Columns.{blanks, left_in, right_in}
use Rattle.phrases.specs.Phrases.{refusal_text}
use Rattle.phrases.proofs.Claims.{answer_length, refusal_length}
use Rattle.answer_lines.specs.Lines.{or_refusal, day_text, day_line, date_text, date_line, first_day_line, heading, date_columns, calendar_row}
use Rattle.answer_lines.specs.Lines.{easter_row, first_row, kind_name, position_row, answer_row}

-- ---- parts

-- at most so many bytes
record Short (most : ℕ) (said : List ℕ) : Type 0 where
  fits : length said ≤ most

joined : {a b : ℕ} {xs ys : List ℕ} → Short a xs → Short b ys → Short (a + b) (xs ++ ys)
joined {a} {b} {xs} {ys} s t = record { fits = omega (arith, length-append xs ys, s.fits, t.fits) }

blank : Short 1 (bytes " ")
unfolding bytes
blank = record { fits = omega arith }

blanks_length : (n : ℕ) → length (blanks n) ≡ n
unfolding blanks
blanks_length zero = refl
blanks_length (suc n) = omega (arith, length-append (blanks n) (32 ∷ []), blanks_length n)

right : {a : ℕ} {said : List ℕ} (width : ℕ) → Short a said → Short (max width a) (right_in width said)
unfolding right_in
right {a} {said} width s = record { fits = omega (arith, length-append (blanks (width - length said)) said, blanks_length (width - length said), s.fits) }

left : {a : ℕ} {said : List ℕ} (width : ℕ) → Short a said → Short (max width a) (left_in width said)
unfolding left_in
left {a} {said} width s = record { fits = omega (arith, length-append said (blanks (width - length said)), blanks_length (width - length said), s.fits) }

number : (n : ℕ) → Short 20 (text n)
number n = record { fits = (text_length n).1 }

signed : (z : ℤ) → Short 21 (signed_text z)
signed (pos n) = record { fits = omega (arith, (text_length n).1) }
signed (negsuc n) = record { fits = omega (arith, (text_length (suc n)).1) }

weekday : (n : ℕ) → Short 9 (name_of weekday_names n)
weekday n = record { fits = weekday_length n }

or_refusal_lem : {a : ℕ} {said : List ℕ} (n : ℕ) → Short a said → Short (max a 78) (or_refusal n said)
unfolding or_refusal
or_refusal_lem {a} {said} n s =
    cond_elim (Short (max a 78)) (eqb n 0) said (refusal_text n)
    (λ t. record { fits = omega (arith, s.fits) })
    (λ t. record { fits = omega (arith, refusal_length n) })

calendar : (c : ℕ) → Short 33 (heading c)
unfolding heading
calendar c = joined (joined (joined (right 2 (number c)) blank) (left 11 (record { fits = calendar_length c }))) blank

columns : (year : ℤ) (month day : ℕ) → Short 63 (date_columns year month day)
unfolding date_columns
columns year month day = joined (joined (joined (joined (right 5 (signed year)) blank) (right 2 (number month))) blank) (right 2 (number day))

kind : (k : Kind) → Short 5 (kind_name k)
unfolding bytes
kind Kind.month = record { fits = omega arith }
kind Kind.strip = record { fits = omega arith }
kind Kind.none = record { fits = omega arith }

within : {a : ℕ} {said : List ℕ} → a ≤ 128 → Short a said → length said ≤ 128
within h s = omega (arith, h, s.fits)

-- ---- lines

pub day_line_lem : (a : DayAnswer) → length (day_line a) ≤ 128
unfolding day_line day_text
day_line_lem a = within (omega arith) (or_refusal_lem a.number (joined (joined (number a.day) blank) (weekday (weekday_of a.day))))

pub date_line_lem : (a : DateAnswer) → length (date_line a) ≤ 128
unfolding date_line date_text
date_line_lem a =
    within
    (omega arith)
    (or_refusal_lem a.number (joined (joined (joined (joined (joined (joined (signed a.year) blank) (number a.month)) blank) (number a.day)) blank) (weekday a.weekday)))

pub first_day_line_lem : (a : DayAnswer) → length (first_day_line a) ≤ 128
unfolding first_day_line bytes
first_day_line_lem a = within (omega arith) (joined {a = 10} {xs = bytes "first day "} (record { fits = omega arith }) (or_refusal_lem a.number (number a.day)))

-- ---- rows

pub calendar_row_lem : (c : ℕ) (a : DateAnswer) → length (calendar_row c a) ≤ 128
unfolding calendar_row
calendar_row_lem c a = within (omega arith) (joined (calendar c) (or_refusal_lem a.number (columns a.year a.month a.day)))

pub easter_row_lem : (c : ℕ) (year : ℤ) (a : EasterAnswer) (day : ℕ) → length (easter_row c year a day) ≤ 128
unfolding easter_row
easter_row_lem c year a day =
    within (omega arith) (joined (calendar c) (or_refusal_lem a.number (joined (joined (columns year a.month a.day) blank) (number day))))

pub first_row_lem : (c day : ℕ) (year : ℤ) → length (first_row c day year) ≤ 128
unfolding first_row
first_row_lem c day year = within (omega arith) (joined (joined (joined (calendar c) (right 7 (number day))) blank) (right 5 (signed year)))

pub position_row_lem : (position : ℕ) (a : PositionAnswer) → length (position_row position a) ≤ 128
unfolding position_row
position_row_lem position a =
    within (omega arith) (joined (joined (joined (joined (right 2 (number position)) blank) (left 5 (kind a.kind))) blank) (right 2 (number a.days)))

pub answer_row_lem : (n : ℕ) → length (answer_row n) ≤ 128
unfolding answer_row
answer_row_lem n = within (omega arith) (joined (joined (right 2 (number n)) blank) (record { fits = answer_length n }))
