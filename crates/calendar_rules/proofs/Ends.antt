-- The end of the Republican calendar, the only one that ended.
use mathlib.Core.Path.{◌≡◌, refl, sym, ap, ◌∙◌}
use mathlib.Core.Bool.{Bool, true, false}
use mathlib.Core.Logic.{◌↔◌}
use mathlib.Core.Option.{Option}
use Prim.Native.Nat.{ℕ, ◌≤◌, ◌<◌}
use native.Mathlib.Omega.{arith}
use lib.Dec.{eqb}
use lib.IntN.{ℤ, pos}
use borrow.Author.Tests.{eqb-true}
use Rattle.counting.specs.Calendar.{total, start, day_of}
use Rattle.counting.specs.Answers.{Calendar, years, DayAnswer, DateAnswer, last_day, day_for, date_for, IsDate}
use Rattle.counting.specs.Order.{Earlier}
use Rattle.counting.proofs.Ends as E
use Rattle.calendar_rules.specs.Calendars.{republican, lookup, calendar, Listed}
use Rattle.calendar_rules.specs.Answers.{of_listed, day_answer, date_answer}
use Rattle.calendar_rules.proofs.Listed.{end_if, end_is}

-- a calendar that ended is calendar 7
ended_7 : {c : ℕ} {K : Calendar} {e : ℕ} → Listed c K → K.end ≡ Option.some e → c ≡ 7
ended_7 {c} {K} {e} l f = go (eqb c 7) refl (sym (end_is l) ∙ f)
  where
    go : (t : Bool) → eqb c 7 ≡ t → end_if t ≡ Option.some e → c ≡ 7
    go true h g = eqb-true c 7 h
    go false h g = let z : ◌≡◌ {A = ℕ} 0 1 = cc in absurd (omega arith)

-- what is asked of 7 is asked of the Republican calendar
pub listed_7 : Listed 7 republican
unfolding calendar lookup
listed_7 = record { row = refl }

pub day_7 : (y : ℤ) (m d : ℕ) → day_answer 7 y m d ≡ day_for republican y m d
unfolding day_answer
day_7 y m d = rw listed_7.row refl

date_7 : (n : ℕ) → date_answer 7 n ≡ date_for republican n
unfolding date_answer
date_7 n = rw listed_7.row refl

-- 17 is answered of a listed calendar that ended
module _ {A : Type 0} (number : A → ℕ) (c : ℕ) (refusal : A) (answer : Calendar → A) where
  asked_7 : (number refusal ≡ 17 → ⊥) → ((K : Calendar) → number (answer K) ≡ 17 → (e : ℕ) × (K.end ≡ Option.some e))
      → number (of_listed (calendar c) refusal answer) ≡ 17 → c ≡ 7
  asked_7 n f = go (calendar c) refl
    where
      go : (o : Option Calendar) → calendar c ≡ o → number (of_listed o refusal answer) ≡ 17 → c ≡ 7
      go Option.none e h = absurd (n h)
      go (Option.some K) e h = ended_7 {K = K} (record { row = e }) (f K h).1

-- 14/4/10 is day 2380687
pub end_date : day_for republican (pos 14) 4 10 ≡ record { number = 0; day = 2380687 }
unfolding day_for years day_of start total
end_date = refl

pub ended_date : (c : ℕ) (y : ℤ) (m d : ℕ) → ((day_answer c y m d).number ≡ 17) ↔ ((c ≡ 7) × IsDate republican y m d × Earlier (pos 14) 4 10 y m d)
unfolding day_answer
ended_date c y m d =
    let a = E.after_end republican 2380687 refl (pos 14) 4 10 end_date y m d in
    let number : DayAnswer → ℕ = λ a. a.number in
    let seven : c ≡ 7 → (day_answer c y m d).number ≡ (day_for republican y m d).number = λ e. ap number (ap (λ (k : ℕ). day_answer k y m d) e ∙ day_7 y m d) in (
      (λ h. let e = asked_7 number c _ _ (omega arith) (λ K k. let x = (E.ended_date K y m d).0 k in (x.0, x.1)) h in
          let x = a.0 (sym (seven e) ∙ h) in
          (e, x.0, x.1)),
      λ x. seven x.0 ∙ a.1 (x.1, x.2),
    )

pub ended_day : (c n : ℕ) → ((date_answer c n).number ≡ 17) ↔ ((c ≡ 7) × (2380687 < n) × (n ≤ last_day))
unfolding date_answer
ended_day c n =
    let a = E.ended_day republican n in
    let number : DateAnswer → ℕ = λ a. a.number in
    let seven : c ≡ 7 → (date_answer c n).number ≡ (date_for republican n).number = λ e. ap number (ap (λ (k : ℕ). date_answer k n) e ∙ date_7 n) in (
      (λ h. let e = asked_7 number c _ _ (omega arith) (λ K k. let x = (E.ended_day K n).0 k in (x.0, x.1)) h in
          let x = a.0 (sym (seven e) ∙ h) in
          (e, same x.1 x.2, x.4)),
      λ x. seven x.0 ∙ a.1 (2380687, refl, x.1, omega (arith, x.1), x.2),
    )
  where
    same : {e : ℕ} → Option.some 2380687 ≡ Option.some e → e < n → 2380687 < n
    same {e} f h = let g : 2380687 ≡ e = cc in omega arith
