-- The number of an answer is the one that the rules' table gives, where a calendar is asked for by its number (specs/Given.antt).
use mathlib.Core.Path.{◌≡◌, refl, sym, ap, subst}
use mathlib.Core.Bool.{Bool, true, false, cond, ◌&&◌, ◌||◌}
use mathlib.Core.Logic.{inl, inr, ⊎_elim}
use mathlib.Core.List.{List, ◌∷◌}
use mathlib.Core.Option.{Option}
use Prim.Native.Nat.{ℕ}
use native.Mathlib.Omega.{arith}
use lib.Dec.{eqb, leb}
use borrow.Author.Tests.{eqb-true, leb-true, le-leb, lt-leb, ne_eqb}
use Rattle.basics.specs.Every.{every}
use Rattle.basics.proofs.Every.{every_at}
use Rattle.basics.proofs.Order.{le_or_lt}
use Rattle.counting.specs.Answers.{Calendar}
use Rattle.counting.specs.Given.{Given}
use Rattle.counting.specs.Given.Given.{done, first, later}
use Rattle.calendar_rules.specs.Calendars.{lookup, calendar, Listed}
use Rattle.calendar_rules.specs.Answers.{of_listed}
use Rattle.calendar_rules.specs.Given.{IsListed, Asked}
use Rattle.calendar_rules.specs.Given.Asked.{not_listed, in_calendar}
use Rattle.calendar_rules.proofs.Listed as L

-- ---- the numbers that are listed

-- 1 where there is a calendar, and 1 for the numbers 1 to 15 and 18
some : Option Calendar → ℕ
some Option.none = 0
some (Option.some K) = 1

number : ℕ → ℕ
number c = cond ((leb 1 c && leb c 15) || eqb c 18) 1 0

-- the two agree: up to 18 as both are computed, and above both are 0
agree : every (λ c. eqb (some (calendar c)) (number c)) 19 ≡ true
unfolding every some calendar lookup number
agree = refl

same : (c : ℕ) → some (calendar c) ≡ number c
unfolding some number
same c =
    ⊎_elim
    (λ h. rw (L.not_listed c (omega arith), le-leb 1 c (omega arith), lt-leb c 15 (omega arith), ne_eqb c 18 (omega arith)) refl)
    (λ h. eqb-true (some (calendar c)) (number c) (every_at (λ c. eqb (some (calendar c)) (number c)) 19 agree c h))
    (le_or_lt 19 c)

is_number : (c : ℕ) → IsListed c → number c ≡ 1
unfolding number
is_number c (inl h) = rw (le-leb 1 c h.0, le-leb c 15 h.1) refl
is_number c (inr e) = rw e refl

unlisted : (c : ℕ) → calendar c ≡ Option.none → ¬ IsListed c
unfolding some
unlisted c e l = omega (arith, same c, ap some e, is_number c l)

pub is_listed : {c : ℕ} {K : Calendar} → Listed c K → IsListed c
unfolding some number
is_listed {c} l = go (leb 1 c) refl (leb c 15) refl (eqb c 18) refl (omega (arith, same c, ap some l.row))
  where
    go : (t : Bool) → leb 1 c ≡ t → (u : Bool) → leb c 15 ≡ u → (v : Bool) → eqb c 18 ≡ v → ◌≡◌ {A = ℕ} (cond ((t && u) || v) 1 0) 1 → IsListed c
    go t e u f true g h = inr (eqb-true c 18 g)
    go true e true f false g h = inl (leb-true 1 c e, leb-true c 15 f)
    go true e false f false g h = absurd (omega arith)
    go false e u f false g h = absurd (omega arith)

-- a number has one calendar
one_calendar : {c : ℕ} {K K' : Calendar} → Listed c K → Listed c K' → K ≡ K'
one_calendar l l' = let e = l.row in let f = l'.row in cc

-- ---- the number that is given

module _ {A : Type 0} (number : A → ℕ) (c : ℕ) (P : Calendar → ℕ → Type 0) (refusal : A) (answer : Calendar → A) {order : List ℕ} where
  pub asked : number refusal ≡ 1 → ((K : Calendar) → ¬ P K 1) → ((K : Calendar) → Given (P K) order (number (answer K)))
      → Given (Asked c P) (1 ∷ order) (number (of_listed (calendar c) refusal answer))
  asked one n g = go (calendar c) refl
    where
      same_calendar : {K : Calendar} → Listed c K → (k : ℕ) → Asked c P k → P K k
      same_calendar l k (not_listed n) = absurd (n (is_listed l))
      same_calendar l k (in_calendar l' a) = subst (λ (C : Calendar). P C k) (one_calendar l' l) a

      in_it : {K : Calendar} → Listed c K → {ks : List ℕ} {k : ℕ} → Given (P K) ks k → Given (Asked c P) ks k
      in_it l done = done
      in_it l (first a) = first (in_calendar l a)
      in_it l (later f h) = later (λ a. f (same_calendar l _ a)) (in_it l h)

      go : (o : Option Calendar) → calendar c ≡ o → Given (Asked c P) (1 ∷ order) (number (of_listed o refusal answer))
      go Option.none e = subst (Given (Asked c P) (1 ∷ order)) (sym one) (first (not_listed (unlisted c e)))
      go (Option.some K) e = let l : Listed c K = record { row = e } in later (λ a. n K (same_calendar l 1 a)) (in_it l (g K))
