-- The days from 22 March to 25 April in a calendar with the Julian months and the first year -4712, as 10 and 11 are: good dates, whose day
-- numbers follow that of 22 March one by one.
use mathlib.Core.Path.{◌≡◌, refl, ap, ◌∙◌}
use mathlib.Core.Bool.{Bool, true, false, cond}
use Prim.Native.Nat.{ℕ, ◌+◌, ◌-◌, ◌≤◌}
use native.Mathlib.Omega.{arith}
use lib.ListN.{take}
use lib.Dec.{leb}
use lib.IntN.{ℤ, pos, negsuc}
use borrow.Author.Tests.{le-ltb, leb-true, leb-false}
use Rattle.counting.specs.Calendar.{len, start, total, day_of}
use Rattle.counting.specs.Answers.{Calendar, years, last_day}
use Rattle.counting.proofs.Rounds.{accept}
use Rattle.counting.proofs.Signs.{year_back}
use Rattle.calendar_rules.specs.Calendars.{row, lookup, calendar, Listed, from_january, remainder, gregorian_leap}
use Rattle.calendar_rules.specs.Answers.{day_answer}
use Rattle.calendar_rules.proofs.Claims.{day_asked}
use Rattle.computus.specs.Rule.{EasterAnswer, march, april}
use Rattle.computus.proofs.Offset.{after22_march}

-- the calendar whose year -4712 begins on day `first`
abbrev pub januaries : ℕ → (ℤ → Bool) → Calendar
januaries first leap = row (negsuc 4711) first from_january leap

pub julian_listed : Listed 10 (januaries 0 (remainder 0 4))
unfolding calendar lookup
julian_listed = record { row = refl }

pub gregorian_listed : Listed 11 (januaries 38 gregorian_leap)
unfolding calendar lookup
gregorian_listed = record { row = refl }

abbrev february : (ℤ → Bool) → ℕ → ℕ
february leap A = cond (leap (pos A)) 29 28

-- the day number of 22 March of year A: after the years, January, February and 21 days
abbrev pub day22_march : ℕ → (ℤ → Bool) → ℕ → ℕ
day22_march first leap A = first + start (years (januaries first leap)) (A + 4712) + (31 + february leap A + 21)

module _ (first : ℕ) (leap : ℤ → Bool) (A : ℕ) where
  -- the lengths of year A
  pub lengths : years (januaries first leap) (A + 4712) ≡ from_january (leap (pos A))
  unfolding years
  lengths = ap (λ (z : ℤ). from_january (leap z)) (year_back (negsuc 4711) (pos A) refl)

  -- the day of a date: after the years, the positions before it and the days before it
  abbrev day : ℕ → ℕ → ℕ
  day m d = first + day_of (years (januaries first leap)) (record { year = A + 4712; month = m; day = d })

  day_is : (m d : ℕ) → day m d ≡ first + (start (years (januaries first leap)) (A + 4712) + total (take (m - 1) (from_january (leap (pos A)))) + (d - 1))
  unfolding day_of
  day_is m d = rw lengths refl

module _ (first : ℕ) (leap : ℤ → Bool) {c : ℕ} (l : Listed c (januaries first leap)) (A : ℕ) (low : A ≤ 9999) where
  -- a day within a position is a good date, if it is not late
  good : (m d : ℕ) → 1 ≤ m → 1 ≤ d → d ≤ len (from_january (leap (pos A))) m → day first leap A m d ≤ last_day →
      day_answer c (pos A) m d ≡ record { number = 0; day = day first leap A m d }
  good m d hm hd h k =
      day_asked l (pos A) m d ∙ accept (januaries first leap) (pos A) m d (day first leap A m d)
      (record {
        stands =
            record {
              from_first = refl;
              to_last = le-ltb 20000 A (omega arith);
              valid = record { month_from_1 = hm; day_from_1 = hd; day_in_month = rw (lengths first leap A) h };
              number = refl;
            };
        small = k;
      })

  -- so Easter's dates are: k days after 22 March
  pub good_after : (k : ℕ) → k ≤ 34 → day22_march first leap A + 34 ≤ last_day →
      day_answer c (pos A) (after22_march k).month (after22_march k).day ≡ record { number = 0; day = day22_march first leap A + k }
  unfolding total
  good_after k h b = go (leb (22 + k) 31) refl
    where
      go : (t : Bool) → leb (22 + k) 31 ≡ t → let D : EasterAnswer = cond t (march (22 + k)) (april (k - 9)) in
          day_answer c (pos A) D.month D.day ≡ record { number = 0; day = day22_march first leap A + k }
      go true e = let n : day first leap A 3 (22 + k) ≡ day22_march first leap A + k = omega (arith, day_is first leap A 3 (22 + k)) in
          good 3 (22 + k) (omega arith) (omega arith) (leb-true (22 + k) 31 e) (omega arith) ∙ rw n refl
      go false e =
          let x = leb-false (22 + k) 31 e in
          let n : day first leap A 4 (k - 9) ≡ day22_march first leap A + k = omega (arith, day_is first leap A 4 (k - 9)) in
          good 4 (k - 9) (omega arith) (omega arith) (omega arith) (omega arith) ∙ rw n refl
