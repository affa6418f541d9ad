-- The paper's example, year 7453, step by step in both calendars: the definitions compute.
use mathlib.Core.Path.{◌≡◌, refl}
use Prim.Native.Nat.{◌%◌}
use lib.IntN.{pos}
use Rattle.computus.specs.Rule.{april, century, quotient_r, quotient_p, quotient_q, julian_m, julian_n, gregorian_m, gregorian_n, remainder_d, remainder_e, dated}
use Rattle.computus.specs.Rule.{in_years, easter_answer}

remainders : (7453 % 19 ≡ 5) × (7453 % 4 ≡ 1) × (7453 % 7 ≡ 5)
remainders = (refl, refl, refl)

century_7453 : (century 7453 ≡ 74) × (quotient_r 74 ≡ 2) × (quotient_p 74 ≡ 24) × (quotient_q 74 ≡ 18) × (gregorian_m 7453 ≡ 17) × (gregorian_n 7453 ≡ 4)
century_7453 = (refl, refl, refl, refl, refl, refl)

gregorian_7453 : (remainder_d 17 7453 ≡ 22) × (remainder_e 4 7453 22 ≡ 4) × (easter_answer 11 (pos 7453) ≡ april 17)
unfolding easter_answer in_years dated
gregorian_7453 = (refl, refl, refl)

julian_7453 : (remainder_d julian_m 7453 ≡ 20) × (remainder_e julian_n 7453 20 ≡ 1) × (easter_answer 10 (pos 7453) ≡ april 12)
unfolding easter_answer in_years dated
julian_7453 = (refl, refl, refl)
