-- What is promised of `easter::easter`, on one page. Its contract, for every calendar number and year: the answer r, in the rules' words by
-- `easter_paper` (specs/Paper.antt), is `easter_answer` of crate computus, the published rule. What follows of r, by that crate's claims:
use mathlib.Core.Path.{◌≡◌}
use Prim.Native.Nat.{ℕ}
use lib.IntN.{ℤ}
use Rattle.computus.specs.Rule.{easter_answer}
use Rattle.computus.specs.Feast.{Allowed, Feast}
use Rattle.computus.proofs.Claims as E
use Rattle.easter.specs.Paper.{easter_paper}
use Rattle.std.specs.Prelude.{Result}
use Rattle.refusals.specs.declared.Refusal.{Refusal}
use Rattle.easter.specs.declared.MonthDay.{MonthDay}

module _ (r : Result MonthDay Refusal) (calendar : ℕ) (year : ℤ) (promise : easter_paper r ≡ easter_answer calendar year) where
  -- in the allowed years r is a date from 22 March to 25 April, good in its calendar, and a Sunday by the calendar's own date to day
  pub easter_sunday : Allowed calendar year → Feast calendar year (easter_paper r)
  easter_sunday a = rw promise (E.easter_sunday calendar year a)

  -- in any other case r is a refusal
  pub allowed : (easter_paper r).number ≡ 0 → Allowed calendar year
  allowed h = (E.allowed calendar year).0 (rw promise at h)
