-- The positions of the sixteen calendars: which are strips, and which are none in some year.
use mathlib.Core.Path.{◌≡◌, refl, sym, ap, subst, ◌∙◌}
use mathlib.Core.Bool.{Bool, true, false, cond, not, ◌&&◌, ◌||◌, true≢false}
use mathlib.Core.List.{List}
use mathlib.Core.Logic.{inl, inr, ◌↔◌}
use mathlib.Core.Option.{Option}
use Prim.Native.Nat.{ℕ, ◌+◌, ◌-◌, ◌≤◌}
use native.Mathlib.Omega.{arith}
use lib.Dec.{eqb, ltb}
use lib.IntN.{ℤ, pos, negsuc, nat_abs}
use lib.ListN.{length, get_or}
use lib.Signed.{lt_z}
use borrow.Author.Tests.{eqb-true, eqb-false, eq-eqb, ne_eqb, ltb-true, ltb-false, lt-ltb, le-ltb}
use Rattle.basics.proofs.Cases.{both, neither, fails}
use Rattle.counting.specs.Years.{years_from}
use Rattle.counting.specs.Answers.{Calendar, years, last_year, year_out, length_in, month_zero, above_positions, no_days_that_year, no_month}
use Rattle.counting.specs.Positions.{Kind, no_position, no_position_answer, position_for, Case, Is}
use Rattle.counting.proofs.Positions as P
use Rattle.counting.proofs.Rounds.{lengths_at}
use Rattle.counting.proofs.Signs.{year_back}
use Rattle.hebrew.specs.Hebrew.{leap}
use Rattle.hebrew.proofs.SixKinds.{row_length}
use Rattle.calendar_rules.specs.Calendars.{hebrew, lookup, calendar, Listed}
use Rattle.calendar_rules.specs.Given.{IsListed, StripAt}
use Rattle.calendar_rules.proofs.Bounds.{strip_within, gap_at, strip_at_lem}
use Rattle.calendar_rules.proofs.Given.{is_listed}
use Rattle.calendar_rules.proofs.HebrewYears.{hebrew_kind}
use Rattle.calendar_rules.proofs.Listed.{listed_sound, strip_if, strip_is}

-- ---- a year that a listed calendar has

module _ {c : ℕ} {K : Calendar} (l : Listed c K) (y : ℤ) (o : year_out K y ≡ false) where
  i : ℕ
  i = years_from K.first_year y

  same_year : K.lengths y ≡ years K i
  unfolding i
  same_year = lengths_at K y (neither (lt_z y K.first_year) (lt_z last_year y) o).0

  -- a position that it has is without days exactly as the seventh of a common Hebrew year
  pub gap : (m : ℕ) → no_position K y m ≡ false
      → no_days_that_year K y m ≡ (eqb c 18 && not (leap (years_from K.first_year y + 1)) && eqb (m - 1) 6)
  unfolding i
  gap m n =
      let q = neither (month_zero m) (above_positions K y m) n in
      let h : m ≤ length (years K i) = subst (λ (ls : List ℕ). m ≤ length ls) same_year (ltb-false (length (K.lengths y)) m q.1) in
      ap (λ (ls : List ℕ). eqb (get_or ls (m - 1) 0) 0) same_year
      ∙ gap_at _ (years K i) ((listed_sound l).gaps i) (m - 1) (omega (arith, eqb-false m 0 q.0))

  -- ---- strips

  -- the strip is one of the positions, and has days
  strip_has_days : (m : ℕ) → K.strip ≡ Option.some m → no_month K y m ≡ false
  unfolding i
  strip_has_days m e =
      let s = strip_at_lem m (years K i) (subst (λ (z : Option ℕ). strip_within z (years K i) ≡ true) e ((listed_sound l).strip_within i)) in
      let h : m ≤ length (K.lengths y) = subst (λ (ls : List ℕ). m ≤ length ls) (sym same_year) s.1 in
      let n : no_position K y m ≡ false = rw (ne_eqb m 0 (omega (arith, s.0)), le-ltb (length (K.lengths y)) m h) refl in
      rw (n, gap m n, fails (eqb c 18) (λ f. not_hebrew (eqb-true c 18 f))) refl
    where
      not_hebrew : c ≡ 18 → ⊥
      not_hebrew f = let z : Option.none ≡ Option.some m = sym (strip_is l ∙ ap strip_if f) ∙ e in let z : ◌≡◌ {A = ℕ} 0 1 = cc in omega arith

  pub strip_exactly : (m : ℕ) → Is Case.strip (position_for K y m) ↔ (K.strip ≡ Option.some m)
  strip_exactly m = ((λ i. ((P.strip_exactly K y m).0 i).2), λ e. (P.strip_exactly K y m).1 (o, strip_has_days m e, e))

-- by number
pub strip_number : (c m : ℕ) → 1 ≤ c → (strip_if c ≡ Option.some m) ↔ StripAt c m
strip_number c m h = (to (eqb c 4) refl (eqb c 14) refl (ltb c 8) refl, from)
  where
    to : (t : Bool) → eqb c 4 ≡ t → (u : Bool) → eqb c 14 ≡ u → (v : Bool) → ltb c 8 ≡ v
        → cond t (Option.some 9) (cond u (Option.some 19) (cond v (Option.some 13) Option.none)) ≡ Option.some m
        → StripAt c m
    to true e u f v g r = let k : 9 ≡ m = cc in inr (inl (eqb-true c 4 e, omega arith))
    to false e true f v g r = let k : 19 ≡ m = cc in inr (inr (eqb-true c 14 f, omega arith))
    to false e false f true g r = let k : 13 ≡ m = cc in inl (h, omega (arith, ltb-true c 8 g), eqb-false c 4 e, omega arith)
    to false e false f false g r = let z : ◌≡◌ {A = ℕ} 0 1 = cc in absurd (omega arith)

    from : StripAt c m → strip_if c ≡ Option.some m
    from (inl x) = rw (ne_eqb c 4 x.2, ne_eqb c 14 (omega (arith, x.1)), lt-ltb c 8 (omega (arith, x.1)), x.3) refl
    from (inr (inl x)) = rw (x.0, x.1) refl
    from (inr (inr x)) = rw (x.0, x.1) refl

pub strips : {c : ℕ} {K : Calendar} → Listed c K → (y : ℤ) (m : ℕ) → Is Case.strip (position_for K y m) ↔ ((year_out K y ≡ false) × StripAt c m)
strips {c} {K} l y m =
    let s = strip_number c m (from_1 (is_listed l)) in (
      (λ x. let p = (P.strip_exactly K y m).0 x in (p.0, s.0 (sym (strip_is l) ∙ p.2))),
      λ x. (strip_exactly l y x.0 m).1 (strip_is l ∙ s.1 x.1),
    )
  where
    from_1 : IsListed c → 1 ≤ c
    from_1 (inl h) = h.0
    from_1 (inr e) = omega arith

-- ---- none this year

pub is_hebrew : {c : ℕ} {K : Calendar} → Listed c K → c ≡ 18 → K ≡ hebrew
unfolding calendar lookup
is_hebrew {c} {K} l e = let f : calendar 18 ≡ Option.some K = ap calendar (sym e) ∙ l.row in cc

hebrew_length : (i : ℕ) → length (years hebrew i) ≡ 13
hebrew_length i = let k = hebrew_kind i in ap length k.2 ∙ row_length k.0 k.1

module _ {c : ℕ} {K : Calendar} (l : Listed c K) (y : ℤ) (o : year_out K y ≡ false) where
  -- position 7 is one of the thirteen of every Hebrew year
  seventh : (m : ℕ) → c ≡ 18 → m ≡ 7 → no_position K y m ≡ false
  unfolding i
  seventh m e f =
      let n : length (K.lengths y) ≡ 13 =
      ap length (same_year l y o) ∙ ap (λ (C : Calendar). length (years C (i l y o))) (is_hebrew l e) ∙ hebrew_length (i l y o) in
      rw (f, n) refl

  -- a position that has no days this year
  none_here : (m : ℕ) → no_position K y m ≡ false → no_days_that_year K y m ≡ true → (c ≡ 18) × (m ≡ 7)
  none_here m n d =
      let b = both (eqb c 18 && not (leap (years_from K.first_year y + 1))) (eqb (m - 1) 6) (sym (gap l y o m n) ∙ d) in
      let a = both (eqb c 18) (not (leap (years_from K.first_year y + 1))) b.0 in
      (eqb-true c 18 a.0, omega (arith, eqb-true (m - 1) 6 b.1, eqb-false m 0 (neither (month_zero m) (above_positions K y m) n).0))

  -- a position without days is none, or there is no such position: none at position 7 of the Hebrew calendar,
  pub absent : (m : ℕ) → no_month K y m ≡ true
      → position_for K y m ≡ cond (eqb c 18 && eqb m 7) (record { number = 0; kind = Kind.none; days = 0 }) (no_position_answer 3)
  unfolding position_for
  absent m z = go (no_position K y m) refl z
    where
      go : (t : Bool) → no_position K y m ≡ t → (t || no_days_that_year K y m) ≡ true
          → position_for K y m ≡ cond (eqb c 18 && eqb m 7) (record { number = 0; kind = Kind.none; days = 0 }) (no_position_answer 3)
      go false n d = let h = none_here m n d in P.none_answer K y m o n d ∙ rw (eq-eqb c 18 h.0, eq-eqb m 7 h.1) refl
      go true n d =
          let f : (eqb c 18 && eqb m 7) ≡ false =
          fails (eqb c 18 && eqb m 7)
          (λ t. let b = both (eqb c 18) (eqb m 7) t in true≢false (sym n ∙ seventh m (eqb-true c 18 b.0) (eqb-true m 7 b.1))) in
          rw (o, n, f) refl

pub none_of : {c : ℕ} {K : Calendar} → Listed c K → (y : ℤ) (m : ℕ) → Is Case.none (position_for K y m) → c ≡ 18
none_of {c} {K} l y m x = let p = (P.none_exactly K y m).0 x in (none_here l y p.0 m p.1 (eq-eqb (length_in K y m) 0 p.2)).0

pub listed_18 : Listed 18 hebrew
unfolding calendar lookup
listed_18 = record { row = refl }

-- and there exactly in the common years
pub hebrew_none : (y : ℤ) (m : ℕ)
    → Is Case.none (position_for hebrew y m) ↔ ((m ≡ 7) × ((n : ℕ) × (y ≡ pos n) × (1 ≤ n) × (n ≤ 20000) × (leap n ≡ false)))
hebrew_none y m = (to, from)
  where
    Common : ℤ → Type 0
    Common y = (n : ℕ) × (y ≡ pos n) × (1 ≤ n) × (n ≤ 20000) × (leap n ≡ false)

    -- its place, counted from year 1
    place : (n : ℕ) → lt_z (pos n) (pos 1) ≡ false → years_from (pos 1) (pos n) + 1 ≡ n
    place n h = omega (arith, ap nat_abs (year_back (pos 1) (pos n) h))

    in_words : (y : ℤ) → year_out hebrew y ≡ false → leap (years_from (pos 1) y + 1) ≡ false → Common y
    in_words (pos n) o e =
        let a = neither (lt_z (pos n) (pos 1)) (lt_z last_year (pos n)) o in
        (n, refl, omega (arith, ltb-false n 1 a.0), ltb-false 20000 n a.1, ap leap (sym (place n a.0)) ∙ e)
    in_words (negsuc n) o e = absurd (true≢false o)

    common : (t u : Bool) → true ≡ (not t && u) → (t ≡ false) × (u ≡ true)
    common true u e = absurd (true≢false e)
    common false u e = (refl, sym e)

    to : Is Case.none (position_for hebrew y m) → (m ≡ 7) × Common y
    to x =
        let p = (P.none_exactly hebrew y m).0 x in
        let f = leap (years_from (pos 1) y + 1) in
        let g = common f (eqb (m - 1) 6) (sym (eq-eqb (length_in hebrew y m) 0 p.2) ∙ gap listed_18 y p.0 m p.1) in
        let z = eqb-false m 0 (neither (month_zero m) (above_positions hebrew y m) p.1).0 in
        (omega (arith, eqb-true (m - 1) 6 g.1, z), in_words y p.0 g.0)

    from : (m ≡ 7) × Common y → Is Case.none (position_for hebrew y m)
    from x =
        let n = x.1.0 in
        let h : lt_z (pos n) (pos 1) ≡ false = le-ltb n 1 (omega (arith, x.1.2)) in
        let o : year_out hebrew y ≡ false = rw (x.1.1, h, le-ltb 20000 n (omega (arith, x.1.3))) refl in
        let q = seventh listed_18 y o m refl x.0 in
        (P.none_exactly hebrew y m).1
        (o, q, eqb-true (length_in hebrew y m) 0 (gap listed_18 y o m q ∙ rw (x.0, x.1.1, place n h, x.1.4) refl))
