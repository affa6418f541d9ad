-- The verdict on a line, case by case: of another length, with another byte than a digit, and a frame.
use mathlib.Core.Path.{◌≡◌, refl, sym, ap, ◌∙◌}
use mathlib.Core.List.{List}
use mathlib.Core.Bool.{Bool, true, false, ◌||◌}
use mathlib.Core.Option as listed
use Prim.Native.Nat.{ℕ, ◌-◌, ◌<◌, min}
use native.Mathlib.Decide.{dec_lt}
use native.Mathlib.Omega.{arith}
use lib.IntN.{ℤ, pos, ◌-ℤ◌}
use lib.ListN.{length}
use lib.Signed.{lt_z}
use borrow.Author.Tests.{eq-eqb, ne_eqb, lt-ltb, le-ltb}
use Rattle.std.specs.Prelude.{Option, Some, None, Result, Ok, Err}
use Rattle.std.specs.Option.{ok_or}
use Rattle.refusals.specs.Number.{number_of}
use Rattle.refusals.specs.declared.Refusal.{Refusal}
use Rattle.refusals.specs.declared.Refusal.TheVariants.{MalformedFrame}
use Rattle.refusals.proofs.Claims.{not_zero}
use Rattle.counting.specs.Answers.{Calendar, last_year, no_day_answer, day_for}
use Rattle.calendar_rules.specs.Calendars.{calendar}
use Rattle.calendar_rules.specs.Answers.{of_listed, day_answer, day_answer_with}
use Rattle.calendar_rules.proofs.Claims.{no_weekday}
use Rattle.hex_digits.specs.Digits.{sixteen_digits}
use Rattle.frames.specs.declared.Frame.{Frame}
use Rattle.frames.specs.Frame.{fields_of, reading_of}
use Rattle.frames.proofs.Claims.{is_fields, is_malformed}
use Rattle.verdicts.specs.Verdict.{against, verdict_on, verdict_of}

-- ---- a line that is no frame

pub other_length : (line : List ℕ) → (length line ≡ 16 → ⊥) → verdict_of line ≡ 8
unfolding verdict_of sixteen_digits
other_length line h = rw (ne_eqb (length line) 16 h)

pub no_frame : (line : List ℕ) → sixteen_digits line ≡ false → verdict_of line ≡ 8
unfolding verdict_of
no_frame line h = rw h

pub frame : (line : List ℕ) → sixteen_digits line ≡ true → verdict_of line ≡ verdict_on (fields_of line)
unfolding verdict_of
frame line h = rw h

-- the same by what reading a frame answers, which is refused as malformed where there is none
pub read_frame : (line : List ℕ) (o : Option Frame) (f : Frame) → o ≡ reading_of line → ◌≡◌ {A = Result Frame Refusal} (Ok f) (ok_or o MalformedFrame)
    → verdict_on f ≡ verdict_of line
read_frame line None f e r = cc
read_frame line (Some g) f e r = let h = is_fields line g e in let same : f ≡ g = cc in ap verdict_on (same ∙ h.1) ∙ sym (frame line h.0)

pub read_none : (line : List ℕ) (o : Option Frame) (why : Refusal) → o ≡ reading_of line → ◌≡◌ {A = Result Frame Refusal} (Err why) (ok_or o MalformedFrame)
    → number_of why ≡ verdict_of line
read_none line None why e r =
    let same : why ≡ MalformedFrame = cc in ap number_of same ∙ sym (no_frame line (is_malformed line e))
read_none line (Some g) why e r = cc

-- ---- what date to day answers, against the frame's day

pub same_day : (n : ℕ) → against (record { number = 0; day = n }) n ≡ 0
unfolding against
same_day n = rw (eq-eqb n n refl)

pub other_day : (m n : ℕ) → (m ≡ n → ⊥) → against (record { number = 0; day = m }) n ≡ 9
unfolding against
other_day m n h = rw (ne_eqb m n h)

pub refused : (why : Refusal) (n : ℕ) → against (record { number = number_of why; day = 0 }) n ≡ number_of why
unfolding against
refused why n = rw (not_zero why)

-- ---- a year after the last is refused alike, whichever it is

late_alike : (c : ℕ) (y z : ℤ) (m d : ℕ) → lt_z last_year y ≡ true → lt_z last_year z ≡ true → day_answer c y m d ≡ day_answer c z m d
unfolding day_answer day_for
late_alike c y z m d h k = go (calendar c)
  where
    or_true : (t : Bool) {u : Bool} → u ≡ true → (t || u) ≡ true
    or_true true e = refl
    or_true false e = e

    go : (o : listed.Option Calendar) → of_listed o (no_day_answer 1) (λ K. day_for K y m d) ≡ of_listed o (no_day_answer 1) (λ K. day_for K z m d)
    go listed.Option.none = refl
    go (listed.Option.some K) = rw (or_true (lt_z y K.first_year) h, or_true (lt_z z K.first_year) k)

late : (n : ℕ) → 65535 < n → lt_z last_year (pos n -ℤ pos 4712) ≡ true
late n h = rw (le-ltb n 4712 (omega arith)) (lt-ltb 20000 (n - 4712) (omega arith))

-- so a field of more than four digits may be read as 65536
field_held : (c n m d : ℕ) → day_answer c (pos (min n 65536) -ℤ pos 4712) m d ≡ day_answer c (pos n -ℤ pos 4712) m d
field_held c n m d = go (dec_lt n 65536)
  where
    go : Dec (n < 65536) → day_answer c (pos (min n 65536) -ℤ pos 4712) m d ≡ day_answer c (pos n -ℤ pos 4712) m d
    go (yes h) = let e : min n 65536 ≡ n = omega arith in ap (λ (k : ℕ). day_answer c (pos k -ℤ pos 4712) m d) e
    go (no h) = let e : min n 65536 ≡ 65536 = omega arith in late_alike c _ _ m d (rw e (late 65536 (omega arith))) (late n (omega arith))

-- without a weekday
pub held : (c n m d : ℕ) → day_answer_with c (pos (min n 65536) -ℤ pos 4712) m d 0 ≡ day_answer_with c (pos n -ℤ pos 4712) m d 0
held c n m d = no_weekday c _ m d ∙ field_held c n m d ∙ sym (no_weekday c _ m d)
