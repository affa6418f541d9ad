-- What is shown of Easter, on one page. The definitions are those of specs/Rule.antt (`easter_answer`, the published rule with its exceptions), specs/Feast.antt
-- (`Allowed`, the rules' years; `Feast`, what an Easter is) and of the crate calendar_rules (`day_answer`, date to day in every calendar).
use mathlib.Core.Path.{◌≡◌}
use mathlib.Core.Logic.{◌↔◌}
use Prim.Native.Nat.{ℕ, ◌+◌, ◌≤◌}
use lib.IntN.{ℤ, pos}
use Rattle.computus.specs.Rule.{easter_answer}
use Rattle.computus.proofs.Sunday as S
use Rattle.computus.specs.Feast.{Allowed, Feast}
use Rattle.computus.proofs.Period as P

-- an Easter is answered for the allowed years and no others
pub allowed : (c : ℕ) (year : ℤ) → ((easter_answer c year).number ≡ 0) ↔ Allowed c year
allowed c year = (S.answered c year, λ a. (S.easter_sunday a).done)

-- there it is a date from 22 March to 25 April, a good date of its calendar, and by the calendar's own date to day a Sunday
pub easter_sunday : (c : ℕ) (year : ℤ) → Allowed c year → Feast c year (easter_answer c year)
easter_sunday c year a = S.easter_sunday a

-- the Julian Easter comes again after 532 years
pub julian_period : (A : ℕ) → 1 ≤ A → A + 532 ≤ 9999 → easter_answer 10 (pos (A + 532)) ≡ easter_answer 10 (pos A)
julian_period = P.answer_after_532
