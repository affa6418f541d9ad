-- What is shown of the refusals' numbers (`specs/Number.antt`): none is 0, and each refusal has its own.
use mathlib.Core.Path.{◌≡◌, refl, sym, ap, ◌∙◌}
use mathlib.Core.List.{List, [], ◌∷◌}
use Prim.Native.Nat.{ℕ, ◌≤◌}
use native.Mathlib.Omega.{arith}
use mathlib.Core.Bool.{false, cond}
use lib.Dec.{eqb}
use borrow.Author.Tests.{ne_eqb}
use Rattle.refusals.specs.declared.Refusal.{Refusal}
use Rattle.refusals.specs.declared.Refusal.TheVariants.{UnknownCalendar, YearOutOfRange, NoSuchMonth, NoSuchDay, DayOutOfRange}
use Rattle.refusals.specs.declared.Refusal.TheVariants.{CodeOutOfLimits, NoLine, MalformedFrame, WrongDay, LineOutOfLimits, BufferTooShort}
use Rattle.refusals.specs.declared.Refusal.TheVariants.{WrongWeekday, CalendarEnded}
use Rattle.refusals.specs.Number.{number_of}

all : List Refusal
all =
    UnknownCalendar
    ∷ YearOutOfRange
    ∷ NoSuchMonth
    ∷ NoSuchDay
    ∷ DayOutOfRange
    ∷ CodeOutOfLimits
    ∷ NoLine
    ∷ MalformedFrame
    ∷ WrongDay
    ∷ LineOutOfLimits
    ∷ BufferTooShort
    ∷ WrongWeekday
    ∷ CalendarEnded
    ∷ []

-- the refusal that a number is of
find : ℕ → List Refusal → Refusal
find n [] = UnknownCalendar
find n (why ∷ rest) = cond (eqb (number_of why) n) why (find n rest)

back : (why : Refusal) → (find (number_of why) all ≡ why) × (1 ≤ number_of why)
unfolding all find
back UnknownCalendar = (refl, omega arith)
back YearOutOfRange = (refl, omega arith)
back NoSuchMonth = (refl, omega arith)
back NoSuchDay = (refl, omega arith)
back DayOutOfRange = (refl, omega arith)
back CodeOutOfLimits = (refl, omega arith)
back NoLine = (refl, omega arith)
back MalformedFrame = (refl, omega arith)
back WrongDay = (refl, omega arith)
back LineOutOfLimits = (refl, omega arith)
back BufferTooShort = (refl, omega arith)
back WrongWeekday = (refl, omega arith)
back CalendarEnded = (refl, omega arith)

-- no refusal has the number 0, which is that of an answer
pub not_done : (why : Refusal) → 1 ≤ number_of why
not_done why = (back why).1

-- so a test for 0 tells an answer from a refusal
pub not_zero : (why : Refusal) → eqb (number_of why) 0 ≡ false
not_zero why = ne_eqb (number_of why) 0 (λ e. omega (arith, not_done why))

-- refusals with one number are one refusal
pub own_number : (x y : Refusal) → number_of x ≡ number_of y → x ≡ y
own_number x y e = sym (back x).0 ∙ ap (λ (n : ℕ). find n all) e ∙ (back y).0
