-- The end of a calendar: which dates and which days are refused 17.
use mathlib.Core.Path.{◌≡◌, refl, ap, ◌∙◌}
use mathlib.Core.Bool.{Bool, true, false, cond}
use mathlib.Core.Logic.{◌↔◌}
use mathlib.Core.Option.{Option}
use Prim.Native.Nat.{ℕ, ◌≤◌, ◌<◌}
use native.Mathlib.Omega.{arith}
use lib.Dec.{ltb}
use lib.IntN.{ℤ}
use borrow.Author.Tests.{ltb-false, lt-ltb, le-ltb}
use Rattle.counting.specs.Answers.{Calendar, DayAnswer, DateAnswer, last_day, year_out, no_month, no_day, day_out, after, ended, day_number}
use Rattle.counting.specs.Answers.{no_day_answer, no_date_answer, day_for, date_for, IsDate}
use Rattle.counting.specs.Order.{Earlier}
use Rattle.basics.proofs.Cases.{neither}
use Rattle.counting.proofs.Given.{is_after, passed, chosen}
use Rattle.counting.proofs.Rounds.{date_stands, stand, accepted, ordered}

is_ended : {o : Option ℕ} {e n : ℕ} → o ≡ Option.some e → e < n → after o n ≡ true
is_ended {o} {e} {n} f h = ap (λ (x : Option ℕ). after x n) f ∙ lt-ltb e n h

-- 5 or 0 is not 17
not_17 : (t : Bool) (n : ℕ) → ¬ ((cond t (no_day_answer 5) (record { number = 0; day = n })).number ≡ 17)
not_17 true n e = omega arith
not_17 false n e = omega arith

module _ (K : Calendar) (y : ℤ) (m d : ℕ) where
  pub ended_date : ((day_for K y m d).number ≡ 17) ↔ ((e : ℕ) × (K.end ≡ Option.some e) × IsDate K y m d × (e < day_number K y m d))
  unfolding day_for
  ended_date = (to, from)
    where
      to : (day_for K y m d).number ≡ 17 → (e : ℕ) × (K.end ≡ Option.some e) × IsDate K y m d × (e < day_number K y m d)
      to f =
          let n = day_number K y m d in
          let through = passed (λ (a : DayAnswer). a.number) in
          let q = through (year_out K y) (no_day_answer 2) _ (omega arith) f in
          let r = through (no_month K y m) (no_day_answer 3) _ (omega arith) q.1 in
          let s = through (no_day K y m d) (no_day_answer 4) _ (omega arith) r.1 in
          let t = is_after K.end n (chosen (λ (a : DayAnswer). a.number) (ended K n) (no_day_answer 17) _ (not_17 (day_out K n) n) s.1) in
          (t.0, t.1, record { year_in = q.0; month_in = r.0; day_in = s.0 }, t.2)

      from : (e : ℕ) × (K.end ≡ Option.some e) × IsDate K y m d × (e < day_number K y m d) → (day_for K y m d).number ≡ 17
      from x = ap (λ (a : DayAnswer). a.number) (stand K y m d (day_number K y m d) (date_stands K y m d x.2)) ∙ rw (is_ended x.1 x.3) refl

-- the same by the date of the end
pub after_end : (K : Calendar) (e : ℕ) → K.end ≡ Option.some e
    → (y₀ : ℤ) (m₀ d₀ : ℕ) → day_for K y₀ m₀ d₀ ≡ record { number = 0; day = e }
    → (y : ℤ) (m d : ℕ) → ((day_for K y m d).number ≡ 17) ↔ (IsDate K y m d × Earlier y₀ m₀ d₀ y m d)
after_end K e f y₀ m₀ d₀ g y m d =
    let a = (accepted K y₀ m₀ d₀ (ap (λ (a : DayAnswer). a.number) g)).stands in
    let n = ap (λ (a : DayAnswer). a.day) g in
    let i = ended_date K y m d in
    let o : (x : IsDate K y m d) → Earlier y₀ m₀ d₀ y m d ↔ ((day_for K y₀ m₀ d₀).day < day_number K y m d) =
    λ x. ordered K y₀ m₀ d₀ _ y m d _ a (date_stands K y m d x) in (
      (λ h. let x = i.0 h in (x.2, (o x.2).1 (omega (arith, x.3, n, same x.1)))),
      λ x. i.1 (e, f, x.0, omega (arith, (o x.0).0 x.1, n)),
    )
  where
    same : {e' : ℕ} → K.end ≡ Option.some e' → e' ≡ e
    same h = cc

module _ (K : Calendar) (n : ℕ) where
  pub ended_day : ((date_for K n).number ≡ 17) ↔ ((e : ℕ) × (K.end ≡ Option.some e) × (e < n) × (K.first_day ≤ n) × (n ≤ last_day))
  unfolding date_for
  ended_day = (to, from)
    where
      to : (date_for K n).number ≡ 17 → (e : ℕ) × (K.end ≡ Option.some e) × (e < n) × (K.first_day ≤ n) × (n ≤ last_day)
      to f =
          let q = passed (λ (a : DateAnswer). a.number) (day_out K n) (no_date_answer 5) _ (omega arith) f in
          let t = is_after K.end n (chosen (λ (a : DateAnswer). a.number) (ended K n) (no_date_answer 17) _ (omega arith) q.1) in
          let N = neither (ltb last_day n) (ltb n K.first_day) q.0 in
          (t.0, t.1, t.2, ltb-false n K.first_day N.1, ltb-false last_day n N.0)

      from : (e : ℕ) × (K.end ≡ Option.some e) × (e < n) × (K.first_day ≤ n) × (n ≤ last_day) → (date_for K n).number ≡ 17
      from x = rw (le-ltb last_day n x.4, le-ltb n K.first_day x.3, is_ended x.1 x.2) refl
