-- Easter counted in days after 22 March, over any constants m and n: at most 34, and a Sunday wherever 22 March and n agree.
use mathlib.Core.Path.{◌≡◌, refl, sym, ◌∙◌}
use mathlib.Core.Bool.{Bool, true, false, cond, ◌&&◌}
use Prim.Native.Nat.{ℕ, ◌+◌, ◌-◌, ◌*◌, ◌/◌, ◌%◌, ◌≤◌, ◌<◌}
use native.Mathlib.Omega.{arith}
use native.Mathlib.Decide.{dec_lt}
use lib.Dec.{eqb, ltb, leb}
use borrow.Author.Tests.{eqb-true, eq-eqb}
use Rattle.basics.proofs.Cases.{both}
use Rattle.computus.specs.Rule.{EasterAnswer, march, april, remainder_d, remainder_e, exception_i, exception_ii, ordinary, dated, easter_of, gregorian_n}

-- the date that is k days after 22 March, up to the end of April
abbrev pub after22_march : ℕ → EasterAnswer
after22_march k = cond (leb (22 + k) 31) (march (22 + k)) (april (k - 9))

-- a date is at most 34 days after 22 March, so not after 25 April, and in the place of the week that is d + e days after it
pub record Offset (D : EasterAnswer) (d e : ℕ) : Type 0 where
  pub k : ℕ
  pub small : k ≤ 34
  pub week : k % 7 ≡ (d + e) % 7
  pub date : D ≡ after22_march k

-- the exceptions move Easter by a week
pub offset : (m d e : ℕ) → d < 30 → e < 7 → Offset (dated m d e) d e
unfolding dated
offset m d e hd he = first (exception_i d e) refl
  where
    same : (d + e ≤ 34) → Offset (ordinary d e) d e
    same h =
        let s : 22 + (d + e) ≡ 22 + d + e = omega arith in
        record { k = d + e; small = h; week = refl; date = rw s refl }

    second : (t : Bool) → exception_ii m d e ≡ t → d + e ≤ 34 →
        Offset (cond t (april 18) (ordinary d e)) d e
    second true h l =
        let x = both (eqb d 28) (eqb e 6 && ltb ((11 * m + 11) % 30) 19) h in
        let y = both (eqb e 6) (ltb ((11 * m + 11) % 30) 19) x.1 in
        record { k = 27; small = omega arith; week = omega (arith, eqb-true d 28 x.0, eqb-true e 6 y.0); date = refl }
    second false h l = same l

    few : exception_i d e ≡ false → Dec (34 < d + e) → d + e ≤ 34
    few h (no l) = omega arith
    few h (yes l) =
        let x : d ≡ 29 = omega arith in
        let y : e ≡ 6 = omega arith in
        let z : true ≡ false = sym (rw (eq-eqb d 29 x, eq-eqb e 6 y) refl) ∙ h in
        let w : ◌≡◌ {A = ℕ} 0 1 = cc in
        absurd (omega arith)

    first : (t : Bool) → exception_i d e ≡ t →
        Offset (cond t (april 19) (cond (exception_ii m d e) (april 18) (ordinary d e))) d e
    first true h =
        let x = both (eqb d 29) (eqb e 6) h in
        record { k = 28; small = omega arith; week = omega (arith, eqb-true d 29 x.0, eqb-true e 6 x.1); date = refl }
    first false h = second (exception_ii m d e) refl (few h (dec_lt 34 (d + e)))

-- where 22 March is day w, and w + 2b + 4c + n leaves remainder 6 by 7, Easter is a Sunday
pub sunday : (m n A w : ℕ) → (w + 2 * (A % 4) + 4 * (A % 7) + n) % 7 ≡ 6 →
    (k : ℕ) × (k ≤ 34) × (easter_of m n A ≡ after22_march k) × ((w + k) % 7 ≡ 6)
sunday m n A w h =
    let d = remainder_d m A in
    let o = offset m d (remainder_e n A d) (omega arith) (omega arith) in
    (o.k, o.small, o.date, omega (arith, o.week))

-- ---- 22 March of each calendar, as day w

leaves_6 : (x u t : ℕ) → x + 7 * u ≡ 7 * t + 6 → x % 7 ≡ 6
leaves_6 x u t h = omega arith

pub julian_week : (A w : ℕ) → w ≡ 365 * A + A / 4 + 1721139 → (w + 2 * (A % 4) + 4 * (A % 7) + 6) % 7 ≡ 6
julian_week A w h = leaves_6 (w + 2 * (A % 4) + 4 * (A % 7) + 6) (A / 4 + 4 * (A / 7)) (53 * A + 245877) (omega arith)

pub gregorian_week : (A w : ℕ) → w + A / 100 ≡ 365 * A + A / 4 + A / 100 / 4 + 1721141 → (w + 2 * (A % 4) + 4 * (A % 7) + gregorian_n A) % 7 ≡ 6
gregorian_week A w h =
    let s = A / 100 in
    let n : (4 + s - s / 4) % 7 + 7 * ((4 + s - s / 4) / 7) + s / 4 ≡ 4 + s = omega arith in
    leaves_6 (w + 2 * (A % 4) + 4 * (A % 7) + gregorian_n A) (A / 4 + 4 * (A / 7) + (4 + s - s / 4) / 7) (53 * A + 245877) (omega arith)
