-- The Julian date of Easter comes again after 532 years, which 19, 4 and 7 divide (the Paschal cycle, or Dionysian period).
use mathlib.Core.Path.{◌≡◌, sym, ◌∙◌}
use Prim.Native.Nat.{ℕ, ◌+◌, ◌%◌, ◌≤◌}
use native.Mathlib.Omega.{arith}
use lib.IntN.{pos}
use Rattle.computus.specs.Rule.{julian_easter, easter_answer}
use Rattle.computus.proofs.Sunday.{asked}

pub after_532 : (A : ℕ) → julian_easter (A + 532) ≡ julian_easter A
after_532 A =
    let a : (A + 532) % 19 ≡ A % 19 = omega arith in
    let b : (A + 532) % 4 ≡ A % 4 = omega arith in
    let c : (A + 532) % 7 ≡ A % 7 = omega arith in
    rw (a, b, c)

pub answer_after_532 : (A : ℕ) → 1 ≤ A → A + 532 ≤ 9999 → easter_answer 10 (pos (A + 532)) ≡ easter_answer 10 (pos A)
unfolding easter_answer
answer_after_532 A h l =
    asked 1 (A + 532) julian_easter (omega arith) l ∙ after_532 A ∙ sym (asked 1 A julian_easter h (omega arith))
