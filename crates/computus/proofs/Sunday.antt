-- Easter is a Sunday from 22 March to 25 April, and a good date of its calendar.
use mathlib.Core.Path.{◌≡◌, refl, ap}
use mathlib.Core.Bool.{Bool, true, false, cond, ◌&&◌}
use mathlib.Core.Logic.{inl, inr}
use Prim.Native.Nat.{ℕ, ◌+◌, ◌-◌, ◌*◌, ◌%◌, ◌≤◌}
use native.Mathlib.Omega.{arith}
use lib.Dec.{eqb, leb}
use lib.IntN.{ℤ, pos, negsuc}
use borrow.Author.Tests.{leb-true, leb-false, le-leb, eqb-true}
use Rattle.counting.specs.Answers.{last_day}
use Rattle.calendar_rules.specs.Calendars.{Listed, remainder, gregorian_leap}
use Rattle.computus.specs.Feast.{Allowed, InSpring, Feast}
use Rattle.computus.specs.Feast.Allowed.{julian, gregorian}
use Rattle.computus.specs.Rule.{EasterAnswer, refused, march, april, julian_m, julian_n, gregorian_m, gregorian_n, easter_of, julian_easter, gregorian_easter}
use Rattle.computus.specs.Rule.{in_years, easter_answer}
use Rattle.computus.proofs.Offset.{after22_march, sunday, julian_week, gregorian_week}
use Rattle.computus.proofs.GoodDates.{januaries, day22_march, good_after, julian_listed, gregorian_listed}
use Rattle.computus.proofs.March22.{julian_22, gregorian_22}

in_spring : (k : ℕ) → k ≤ 34 → ((after22_march k).number ≡ 0) × InSpring (after22_march k)
in_spring k h = go (leb (22 + k) 31) refl
  where
    go : (t : Bool) → leb (22 + k) 31 ≡ t → let D : EasterAnswer = cond t (march (22 + k)) (april (k - 9)) in (D.number ≡ 0) × InSpring D
    go true e = (refl, inl (refl, omega arith, leb-true (22 + k) 31 e))
    go false e = let l = leb-false (22 + k) 31 e in (refl, inr (refl, omega arith, omega arith))

-- over both calendars: where 22 March is not too late and its day and n agree
feast : (first : ℕ) (leap : ℤ → Bool) {c : ℕ} → Listed c (januaries first leap) → (m n A : ℕ) → A ≤ 9999 → let w = day22_march first leap A in
    w + 34 ≤ last_day → (w + 2 * (A % 4) + 4 * (A % 7) + n) % 7 ≡ 6 → Feast c (pos A) (easter_of m n A)
feast first leap f m n A h l w =
    let s = sunday m n A (day22_march first leap A) w in
    let g = good_after first leap f A h s.0 s.1 l in
    let r = in_spring s.0 s.1 in
    rw s.2 (record { done = r.0; season = r.1; good = ap (λ a. a.number) g; weekday = omega (arith, ap (λ a. a.day) g, s.3) })

-- within its years a rule is asked
pub asked : (first A : ℕ) (rule : ℕ → EasterAnswer) → first ≤ A → A ≤ 9999 → in_years first rule (pos A) ≡ rule A
unfolding in_years
asked first A rule h l = rw (le-leb first A h, le-leb A 9999 l) refl

pub easter_sunday : {c : ℕ} {year : ℤ} → Allowed c year → Feast c year (easter_answer c year)
unfolding easter_answer
easter_sunday (julian {A} h l) =
    let w = julian_22 A in
    rw (asked 1 A julian_easter h l) (feast 0 (remainder 0 4) julian_listed julian_m julian_n A l (omega arith) (julian_week A (day22_march 0 (remainder 0 4) A) w))
easter_sunday (gregorian {A} h l) =
    let w = gregorian_22 A in
    rw (asked 1583 A gregorian_easter h l)
    (feast 38 gregorian_leap gregorian_listed (gregorian_m A) (gregorian_n A) A l (omega arith) (gregorian_week A (day22_march 38 gregorian_leap A) w))

-- ---- no other year is answered for

within : (first : ℕ) (rule : ℕ → EasterAnswer) (year : ℤ) → (in_years first rule year).number ≡ 0 → (A : ℕ) × (year ≡ pos A) × (first ≤ A) × (A ≤ 9999)
unfolding in_years
within first rule (negsuc k) h = absurd (omega arith)
within first rule (pos A) h = go (leb first A) (leb A 9999) refl refl h
  where
    go : (s t : Bool) → leb first A ≡ s → leb A 9999 ≡ t → (cond (s && t) (rule A) (refused 2)).number ≡ 0
        → (B : ℕ) × (pos A ≡ pos B) × (first ≤ B) × (B ≤ 9999)
    go true true x y e = (A, refl, leb-true first A x, leb-true A 9999 y)
    go true false x y e = absurd (omega arith)
    go false t x y e = absurd (omega arith)

pub answered : (c : ℕ) (year : ℤ) → (easter_answer c year).number ≡ 0 → Allowed c year
unfolding easter_answer
answered c year = ten (eqb c 10) refl
  where
    eleven : (t : Bool) → eqb c 11 ≡ t → (cond t (in_years 1583 gregorian_easter year) (refused 1)).number ≡ 0 → Allowed c year
    eleven true e h = let r = within 1583 gregorian_easter year h in rw (eqb-true c 11 e, r.1) (gregorian r.2 r.3)
    eleven false e h = absurd (omega arith)

    ten : (t : Bool) → eqb c 10 ≡ t
        → (cond t (in_years 1 julian_easter year) (cond (eqb c 11) (in_years 1583 gregorian_easter year) (refused 1))).number ≡ 0 → Allowed c year
    ten true e h = let r = within 1 julian_easter year h in rw (eqb-true c 10 e, r.1) (julian r.2 r.3)
    ten false e h = eleven (eqb c 11) refl h
