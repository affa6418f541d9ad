-- Weekdays. What trying a weekday leaves as it was, of any answer; and the two directions with weekdays, where they undo each other without.
use mathlib.Core.Path.{◌≡◌, refl, sym, ap, ◌∙◌}
use mathlib.Core.Bool.{Bool, true, false, cond, not, ◌&&◌, ◌||◌}
use mathlib.Core.Logic.{◌⊎◌, inl, inr, ⊎_elim, ◌↔◌}
use Prim.Native.Nat.{ℕ, suc, ◌≤◌, ◌<◌}
use native.Mathlib.Decide.{dec_lt}
use native.Mathlib.Omega.{arith}
use lib.Dec.{eqb}
use lib.IntN.{ℤ}
use borrow.Author.Tests.{eqb-true, eqb-false, eq-eqb, ne_eqb}
use Rattle.counting.specs.Answers.{DayAnswer, DateAnswer, weekday_of, next_weekday, FitsDay, no_day_answer, weekday_tried, the_date}

-- from day to day they follow each other
pub weekday_next : (n : ℕ) → weekday_of (suc n) ≡ next_weekday (weekday_of n)
weekday_next n = go (dec_lt (weekday_of n) 7)
  where
    go : Dec (weekday_of n < 7) → weekday_of (suc n) ≡ next_weekday (weekday_of n)
    go (yes h) = rw (ne_eqb (weekday_of n) 7 (omega arith)) (omega arith)
    go (no h) = rw (eq-eqb (weekday_of n) 7 (omega arith)) (omega arith)

pub weekday_within : (n : ℕ) → (1 ≤ weekday_of n) × (weekday_of n ≤ 7)
weekday_within n = (omega arith, omega arith)

-- ---- a weekday that is tried

number : {a b : DayAnswer} → a ≡ b → a.number ≡ b.number
number f = ap (λ (a : DayAnswer). a.number) f

module _ (w : ℕ) (x : DayAnswer) where
  -- it does not fit, and 13 is answered, or it fits, or was not looked at, and the answer stays
  pub tried : ((weekday_tried w x ≡ no_day_answer 13) × (x.number ≡ 0) × ¬ FitsDay w x.day) ⊎ ((weekday_tried w x ≡ x) × (x.number ≡ 0 → FitsDay w x.day))
  unfolding weekday_tried
  tried = go (eqb x.number 0) refl (eqb w 0) refl (eqb w (weekday_of x.day)) refl
    where
      go : (t : Bool) → eqb x.number 0 ≡ t → (u : Bool) → eqb w 0 ≡ u → (v : Bool) → eqb w (weekday_of x.day) ≡ v
          → let a = cond (t && not (u || v)) (no_day_answer 13) x in
          ((a ≡ no_day_answer 13) × (x.number ≡ 0) × ¬ FitsDay w x.day) ⊎ ((a ≡ x) × (x.number ≡ 0 → FitsDay w x.day))
      go false e u f v g = inr (refl, λ z. absurd (eqb-false x.number 0 e z))
      go true e true f v g = inr (refl, λ z. inl (eqb-true w 0 f))
      go true e false f true g = inr (refl, λ z. inr (eqb-true w (weekday_of x.day) g))
      go true e false f false g = inl (refl, eqb-true x.number 0 e, ⊎_elim (eqb-false w 0 f) (eqb-false w (weekday_of x.day) g))

  -- a refusal stays,
  pub refused : ¬ (x.number ≡ 0) → weekday_tried w x ≡ x
  refused n = ⊎_elim (λ t. absurd (n t.1)) (λ t. t.0) tried

  -- and so does a day that the weekday fits
  pub fitting : FitsDay w x.day → weekday_tried w x ≡ x
  fitting f = ⊎_elim (λ t. absurd (t.2 f)) (λ t. t.0) tried

  -- where the answer is no refusal, it is what it was
  pub accepted : (weekday_tried w x).number ≡ 0 → (weekday_tried w x ≡ x) × (x.number ≡ 0) × FitsDay w x.day
  accepted e = ⊎_elim (λ t. absurd (omega (arith, e, number t.0))) (λ t. let z = sym (number t.0) ∙ e in (t.0, z, t.1 z)) tried

  pub accepted_exactly : ((weekday_tried w x).number ≡ 0) ↔ ((x.number ≡ 0) × FitsDay w x.day)
  accepted_exactly = ((λ e. let a = accepted e in (a.1, a.2)), λ f. number (fitting f.1) ∙ f.0)

  -- 13 exactly where the rest is accepted and the weekday does not fit
  pub refused_exactly : ¬ (x.number ≡ 13) → ((weekday_tried w x).number ≡ 13) ↔ ((x.number ≡ 0) × ¬ FitsDay w x.day)
  refused_exactly n = (⊎_elim (λ t e. (t.1, t.2)) (λ t e. absurd (n (sym (number t.0) ∙ e))) tried, back)
    where
      back : (x.number ≡ 0) × ¬ FitsDay w x.day → (weekday_tried w x).number ≡ 13
      back p = ⊎_elim (λ t. number t.0) (λ t. absurd (p.1 (t.1 p.0))) tried

  -- any other number is given where it was
  pub other_number : {k : ℕ} {P : Type 0} → ¬ (k ≡ 0) → ¬ (k ≡ 13) → (x.number ≡ k) ↔ P → ((weekday_tried w x).number ≡ k) ↔ P
  other_number {k} z n i = ((λ e. i.0 (was e)), λ p. number (refused (λ f. z (sym (i.1 p) ∙ f))) ∙ i.1 p)
    where
      was : (weekday_tried w x).number ≡ k → x.number ≡ k
      was e = ⊎_elim (λ t. absurd (n (sym e ∙ number t.0))) (λ t. sym (number t.0) ∙ e) tried

-- no weekday fits
pub no_weekday : (x : DayAnswer) → weekday_tried 0 x ≡ x
no_weekday x = fitting 0 x (inl refl)

-- ---- the two directions with weekdays

-- where each undoes the other without,
module _
    (day : ℤ → ℕ → ℕ → DayAnswer) (date : ℕ → DateAnswer)
    (there : (y : ℤ) (m d : ℕ) → (day y m d).number ≡ 0 → let n = (day y m d).day in date n ≡ the_date y m d (weekday_of n))
    (back : (n : ℕ) → (date n).number ≡ 0 → let x = date n in (day x.year x.month x.day ≡ record { number = 0; day = n }) × (x.weekday ≡ weekday_of n)) where
  -- a date that is accepted with its weekday goes to its day and back, and the weekday is filled in,
  pub there_and_back : (y : ℤ) (m d w : ℕ) → (weekday_tried w (day y m d)).number ≡ 0
      → let n = (weekday_tried w (day y m d)).day in date n ≡ the_date y m d (weekday_of n)
  there_and_back y m d w e = let a = accepted w (day y m d) e in rw a.0 (there y m d a.1)

  -- a day goes to its date and with its weekday back,
  pub back_and_there : (n : ℕ) → (date n).number ≡ 0
      → let x = date n in weekday_tried x.weekday (day x.year x.month x.day) ≡ record { number = 0; day = n }
  back_and_there n e =
      let b = back n e in
      rw b.0 (fitting (date n).weekday (record { number = 0; day = n }) (inr b.1))

  -- and a date is given a day exactly where a day is given that date and the weekday fits
  pub given_exactly : (y : ℤ) (m d w : ℕ) → ((weekday_tried w (day y m d)).number ≡ 0) ↔ ((n : ℕ) × (date n ≡ the_date y m d (weekday_of n)) × FitsDay w n)
  given_exactly y m d w = (to, from)
    where
      to : (weekday_tried w (day y m d)).number ≡ 0 → (n : ℕ) × (date n ≡ the_date y m d (weekday_of n)) × FitsDay w n
      to e = let a = accepted w (day y m d) e in ((day y m d).day, there y m d a.1, a.2)

      from : (n : ℕ) × (date n ≡ the_date y m d (weekday_of n)) × FitsDay w n → (weekday_tried w (day y m d)).number ≡ 0
      from x =
          let asked : DateAnswer → DayAnswer = λ a. day a.year a.month a.day in
          let e = sym (ap asked x.1) ∙ (back x.0 (ap (λ (a : DateAnswer). a.number) x.1)).0 in
          (accepted_exactly w (day y m d)).1 (number e, rw (ap (λ (a : DayAnswer). a.day) e) x.2)
