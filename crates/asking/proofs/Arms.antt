-- The calendars by their numbers, as the matches of code meet them.
use mathlib.Core.Option.{Option}
use Rattle.std.specs.Prelude as S
use mathlib.Core.Path.{◌≡◌, refl, sym, ap, subst, ◌∙◌}
use mathlib.Core.Bool.{Bool, true, false, cond, ◌||◌, true≢false}
use Prim.Native.Nat.{ℕ, ◌-◌, ◌≤◌, ◌<◌}
use native.Mathlib.Decide.{dec_lt}
use native.Mathlib.Omega.{arith}
use borrow.Author.Tests.{lt-ltb, le-ltb, ne_eqb, eq-eqb}
use lib.Dec.{eqb}
use lib.IntN.{ℤ, pos, negsuc}
use lib.Signed.{lt_z}
use Rattle.basics.specs.Every.{All}
use Rattle.basics.proofs.Cases.{cond_elim, neither}
use Rattle.counting.specs.Years.{year_at, years_from}
use Rattle.counting.specs.Answers.{Calendar, last_year, year_out, last_of}
use Rattle.counting.proofs.Signs.{not_before, place_back}
use Rattle.calendar_rules.specs.Calendars.{table, calendar, Listed}
use Rattle.calendar_rules.specs.Answers.{of_listed}
use Rattle.calendar_rules.proofs.Claims.{last_day_lem}
use Rattle.calendar_rules.proofs.Listed.{found_row, strip_is}
use Rattle.asking.specs.Steps.{listed, OfListed, Answered, Sought, given}

-- an arm of a match: the calendar of its number
pub arm : {c : ℕ} (n : ℕ) {K' : Calendar} (P : Calendar → Type 0) → c ≡ n → calendar n ≡ Option.some K' → P K' → OfListed c P
arm n {K'} P e r p K l = let f = l.row in let g : K' ≡ K = cc in subst P g p

-- 1 where there is a calendar
some : Option Calendar → ℕ
some Option.none = 0
some (Option.some K) = 1

pub never : {A : Type 0} {K : Calendar} → Option.some K ≡ Option.none → A
unfolding some
never e = absurd (omega (arith, ap some e))

pub on_arm : {A : Type 0} {c : ℕ} (n : ℕ) {K' : Calendar} (P : Calendar → Type 0) {found : S.Option A} → c ≡ n → calendar n ≡ Option.some K' → P K'
    → Answered c P found
on_arm n P e r p = record { on = arm n P e r p; off = λ f. never (sym r ∙ ap calendar (sym e) ∙ f) }

pub off_arm : {A : Type 0} {c : ℕ} (P : Calendar → Type 0) → calendar c ≡ Option.none → Answered {A = A} c P S.None
off_arm P n = record { on = λ K l. never (sym l.row ∙ n); off = λ f. refl }

-- ---- which numbers are listed, and the first years

-- a calendar that is listed
pub listed_some : (c : ℕ) → listed c ≡ true → (K : Calendar) × Listed c K
unfolding listed
listed_some c e = go (calendar c) refl e
  where
    go : (o : Option Calendar) → calendar c ≡ o → of_listed o false (λ K. true) ≡ true → (K : Calendar) × Listed c K
    go Option.none f g = let z : ◌≡◌ {A = ℕ} 0 1 = ap (λ (t : Bool). cond t 1 0) g in absurd (omega arith)
    go (Option.some K) f g = (K, record { row = f })

pub unlisted : (c : ℕ) → listed c ≡ false → calendar c ≡ Option.none
unfolding listed
unlisted c e = go (calendar c) refl e
  where
    go : (o : Option Calendar) → calendar c ≡ o → of_listed o false (λ K. true) ≡ false → calendar c ≡ Option.none
    go Option.none f g = f
    go (Option.some K) f g = let z : ◌≡◌ {A = ℕ} 1 0 = ap (λ (t : Bool). cond t 1 0) g in absurd (omega arith)

-- the first years
abbrev first_year : ℕ → ℤ
first_year c = cond (eqb c 10 || eqb c 11) (negsuc 4711) (pos 1)

rows_first : All (λ (r : ℕ × Calendar). first_year r.0 ≡ r.1.first_year) table
rows_first =
    (refl, (refl, (refl, (refl, (refl, (refl, (refl, (refl, (refl, (refl, (refl, (refl, (refl, (refl, (refl, (refl, tt))))))))))))))))

first_is : (c : ℕ) → OfListed c (λ K. first_year c ≡ K.first_year)
first_is c K l = found_row (λ r. first_year r.0 ≡ r.1.first_year) rows_first l

pub first_early : (c : ℕ) → (eqb c 10 || eqb c 11) ≡ true → OfListed c (λ K. negsuc 4711 ≡ K.first_year)
first_early c e K l = ap (λ (t : Bool). cond t (negsuc 4711) (pos 1)) (sym e) ∙ first_is c K l

pub first_later : (c : ℕ) → (eqb c 10 || eqb c 11) ≡ false → OfListed c (λ K. pos 1 ≡ K.first_year)
first_later c e K l = ap (λ (t : Bool). cond t (negsuc 4711) (pos 1)) (sym e) ∙ first_is c K l

pub before_first : (c : ℕ) (y : ℤ) (K : Calendar) → Listed c K → lt_z y (negsuc 4711) ≡ true → lt_z y K.first_year ≡ true
before_first c y K l e = rw (← first_is c K l) (cond_elim (λ (z : ℤ). lt_z y z ≡ true) (eqb c 10 || eqb c 11) (negsuc 4711) (pos 1) (λ t. e) (λ t. below y e))
  where
    below : (y : ℤ) → lt_z y (negsuc 4711) ≡ true → lt_z y (pos 1) ≡ true
    below (pos n) e = absurd (true≢false (sym e))
    below (negsuc n) e = refl

-- the last days
module _ {c : ℕ} {K : Calendar} (l : Listed c K) where
  pub last_ended : c ≡ 7 → last_of K ≡ 2380687
  last_ended e = last_day_lem l ∙ ap {B = ℕ} (λ (t : Bool). cond t 2380687 5373484) (eq-eqb c 7 e)

  pub last_of_all : (c ≡ 7 → ⊥) → last_of K ≡ 5373484
  last_of_all n = last_day_lem l ∙ ap {B = ℕ} (λ (t : Bool). cond t 2380687 5373484) (ne_eqb c 7 n)

-- the strips: of the Persian and the Bahai calendar, of the others up to 7, and of no more
module _ {c : ℕ} {K : Calendar} (l : Listed c K) where
  pub strip_persian : c ≡ 4 → given K.strip ≡ S.Some 9
  strip_persian e = ap given (strip_is l) ∙ rw e refl

  pub strip_bahai : c ≡ 14 → given K.strip ≡ S.Some 19
  strip_bahai e = ap given (strip_is l) ∙ rw e refl

  pub strip_thirteenth : ¬ (c ≡ 4) → c < 8 → given K.strip ≡ S.Some 13
  strip_thirteenth n h = ap given (strip_is l) ∙ rw (ne_eqb c 4 n, ne_eqb c 14 (omega arith), lt-ltb c 8 h) refl

  pub strip_none : ¬ (c ≡ 14) → 8 ≤ c → given K.strip ≡ S.None
  strip_none n h = ap given (strip_is l) ∙ rw (ne_eqb c 4 (omega arith), ne_eqb c 14 n, le-ltb c 8 h) refl

-- ---- a position, or its length, that was sought of the year that is y years after -4712

module _ (y : ℕ) (h : y ≤ 24712) where
  abbrev year : ℤ
  year = year_at (negsuc 4711) y

  -- from -4712 on, and from 1 on
  in_time : lt_z last_year year ≡ false
  in_time = go (dec_lt y 4712)
    where
      go : Dec (y < 4712) → lt_z last_year year ≡ false
      go (yes l) = rw (lt-ltb y 4712 l) refl
      go (no l) = rw (le-ltb y 4712 (omega arith)) (le-ltb 20000 (y - 4712) (omega arith))

  since_1 : 4713 ≤ y → year ≡ year_at (pos 1) (y - 4713)
  since_1 l = rw (le-ltb y 4712 (omega arith)) (ap pos (omega arith))

  before_1 : y < 4713 → lt_z year (pos 1) ≡ true
  before_1 l = go (dec_lt y 4712)
    where
      go : Dec (y < 4712) → lt_z year (pos 1) ≡ true
      go (yes k) = rw (lt-ltb y 4712 k) refl
      go (no k) = rw (le-ltb y 4712 (omega arith)) (lt-ltb (y - 4712) 1 (omega arith))

  module _ {A : Type 0} {c : ℕ} {P : Calendar → ℕ → Type 0} {found : S.Option A} where
    -- an arm
    sought : (n : ℕ) (K' : Calendar) → c ≡ n → calendar n ≡ Option.some K' → year_out K' year ≡ false → P K' (years_from K'.first_year year)
        → Sought c year P found
    sought n K' e r f p =
        record {
          off = λ g. never (sym r ∙ ap calendar (sym e) ∙ g);
          out = arm n (λ K. year_out K year ≡ true → found ≡ S.None) e r (λ t. absurd (true≢false (sym t ∙ f)));
          there = arm n (λ K. year_out K year ≡ false → P K (years_from K.first_year year)) e r (λ t. p);
        }

    -- of a calendar whose first year is -4712, and of those whose first year is 1
    pub from_first : (n : ℕ) (K' : Calendar) → c ≡ n → calendar n ≡ Option.some K' → K'.first_year ≡ negsuc 4711 → P K' y → Sought c year P found
    from_first n K' e r f p =
        sought n K' e r (rw (f, not_before (negsuc 4711) y, in_time) refl)
        (subst (P K') (sym (ap (λ (z : ℤ). years_from z year) f ∙ place_back (negsuc 4711) y)) p)

    pub from_1 : (c ≡ 10 → ⊥) → (c ≡ 11 → ⊥) → 4713 ≤ y → Answered c (λ K. P K (y - 4713)) found → Sought c year P found
    from_1 a b l p =
        record {
          off = p.off;
          out = λ K k e. absurd (true≢false (sym e ∙ inside K k));
          there = λ K k e. subst (P K) (sym (years_are K k)) (p.on K k);
        }
      where
        first : (K : Calendar) → Listed c K → K.first_year ≡ pos 1
        first K k = sym (first_later c (rw (ne_eqb c 10 a, ne_eqb c 11 b) refl) K k)

        years_are : (K : Calendar) → Listed c K → years_from K.first_year year ≡ y - 4713
        years_are K k = ap (λ (z : ℤ). years_from z year) (first K k) ∙ ap (years_from (pos 1)) (since_1 l) ∙ place_back (pos 1) (y - 4713)

        inside : (K : Calendar) → Listed c K → year_out K year ≡ false
        inside K k = rw (first K k, ap (λ (z : ℤ). lt_z z (pos 1)) (since_1 l) ∙ not_before (pos 1) (y - 4713), in_time) refl

    -- before year 1 of one of the others
    pub too_early : found ≡ S.None → (c ≡ 10 → ⊥) → (c ≡ 11 → ⊥) → y < 4713 → Sought c year P found
    too_early z a b l =
        record {
          off = λ g. z;
          out = λ K k e. z;
          there = λ K k e. absurd
              (true≢false (sym (before_1 l) ∙ ap (lt_z year) (first_later c (rw (ne_eqb c 10 a, ne_eqb c 11 b) refl) K k) ∙ (neither _ _ e).0));
        }
