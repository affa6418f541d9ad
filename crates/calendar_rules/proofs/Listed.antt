-- What holds of each row of the table holds of each calendar that a number is listed for: its years are bounded, its first year and its first day are small, its
-- strip is one of its positions, and which positions have no days.
use mathlib.Core.Path.{◌≡◌, refl, sym, subst}
use mathlib.Core.Bool.{Bool, true, false, cond, not, ◌&&◌}
use mathlib.Core.List.{List, [], ◌∷◌}
use mathlib.Core.Option.{Option}
use Prim.Native.Nat.{ℕ, ◌+◌, ◌≤◌}
use native.Mathlib.Omega.{arith}
use lib.Dec.{eqb, leb, ltb}
use lib.IntN.{ℤ}
use lib.Signed.{mag}
use borrow.Author.Tests.{leb-true, eqb-true, ne_eqb}
use Rattle.counting.specs.Calendar.{total, first_from}
use Rattle.counting.specs.Answers.{Calendar, years, last_of, Proper}
use Rattle.counting.proofs.Starts.{proper}
use Rattle.basics.specs.Every.{every, All}
use Rattle.basics.proofs.Cases.{both, ◌and◌}
use Rattle.hebrew.specs.Hebrew.{leap}
use Rattle.calendar_rules.specs.Calendars.{table, lookup, calendar, Listed, none, remainder, gregorian_leap, islamic_leap, bahai_leap, saka_leap}
use Rattle.calendar_rules.specs.Calendars.{egyptian, armenian, khwarizmian, persian, ethiopian, coptic, republican, macedonian, syrian, julian}
use Rattle.calendar_rules.specs.Calendars.{gregorian, islamic_a, islamic_b, bahai, saka, hebrew}
use Rattle.calendar_rules.specs.Calendars.{thirties_and5, five_at9, thirties_and5or6, from_september, from_october, from_january, in_turn, nineteens, saka_months}
use Rattle.calendar_rules.proofs.Bounds.{Bounded, within, year_days_lem, same, gaps_are, strip_within, both_years, each_year, hebrew_within, hebrew_bounded}

-- ---- lookup

found : (P : ℕ × Calendar → Type 0) (rows : List (ℕ × Calendar)) → All P rows → (c : ℕ) (K : Calendar) → lookup c rows ≡ Option.some K → P (c, K)
unfolding lookup
found P [] a c K e = let z : ◌≡◌ {A = ℕ} 0 1 = cc in absurd (omega arith)
found P (r ∷ rest) a c K e = go (eqb c r.0) refl e (λ f. found P rest a.1 c K f)
  where
    go : (t : Bool) → eqb c r.0 ≡ t → cond t (Option.some r.1) (lookup c rest) ≡ Option.some K → (lookup c rest ≡ Option.some K → P (c, K)) → P (c, K)
    go true h e f =
        let g : r.1 ≡ K = cc in
        let k : r.0 ≡ c = sym (eqb-true c r.0 h) in
        subst P (λ i. (k i, g i)) a.0
    go false h e f = f e

-- what holds of each row holds of the calendar that is listed for a number, beside it
pub found_row : (P : ℕ × Calendar → Type 0) → All P table → {c : ℕ} {K : Calendar} → Listed c K → P (c, K)
unfolding calendar
found_row P a {c} {K} l = found P table a c K l.row

-- c is no number of the rows, nor what T says: as an arm of a match for all other numbers has it
abbrev pub NoneOf : ℕ → Type 0 → List (ℕ × Calendar) → Type 0
NoneOf c T [] = T
NoneOf c T (r ∷ rest) = NoneOf c (T × (c ≡ r.0 → ⊥)) rest

not_found : (c : ℕ) (T : Type 0) (rows : List (ℕ × Calendar)) → NoneOf c T rows → T × (lookup c rows ≡ Option.none)
unfolding lookup
not_found c T [] n = (n, refl)
not_found c T (r ∷ rest) n = let f = not_found c (T × (c ≡ r.0 → ⊥)) rest n in (f.0.0, rw (ne_eqb c r.0 f.0.1) f.1)

pub not_listed : (c : ℕ) → NoneOf c (Unit {0}) table → calendar c ≡ Option.none
unfolding calendar
not_listed c n = (not_found c (Unit {0}) table n).1

-- ---- the rows

pub record Sound (c : ℕ) (K : Calendar) : Type 0 where
  pub bounded : Bounded (years K)
  pub gaps : (i : ℕ) → gaps_are (eqb c 18 && not (leap (i + 1))) (years K i) ≡ true
  pub strip_within : (i : ℕ) → strip_within K.strip (years K i) ≡ true
  pub first_year_lem : mag K.first_year ≤ 4711
  pub first_day_lem : K.first_day ≤ 2394647
  pub to_last : K.first_day ≤ last_of K

-- its first year and its first day, in one computed test
small : Calendar → Bool
small K = leb (mag K.first_year) 4711 && leb K.first_day 2394647 && leb K.first_day (last_of K)

sound : {c : ℕ} (K : Calendar) → Bounded (years K) → ((i : ℕ) → gaps_are (eqb c 18 && not (leap (i + 1))) (years K i) ≡ true)
    → ((i : ℕ) → strip_within K.strip (years K i) ≡ true)
    → small K ≡ true
    → Sound c K
unfolding small
sound K y g s e =
    let b = both (leb (mag K.first_year) 4711 && leb K.first_day 2394647) (leb K.first_day (last_of K)) e in
    let f = both (leb (mag K.first_year) 4711) (leb K.first_day 2394647) b.0 in
    record {
      bounded = y;
      gaps = g;
      strip_within = s;
      first_year_lem = leb-true (mag K.first_year) 4711 f.0;
      first_day_lem = leb-true K.first_day 2394647 f.1;
      to_last = leb-true K.first_day (last_of K) b.1;
    }

-- a list of lengths of a row, in one computed test: every position has days
whole : Option ℕ → List ℕ → Bool
whole strip ls = within ls && gaps_are false ls && strip_within strip ls

-- a row, by its lengths in common and leap years
by_row : {c : ℕ} (K : Calendar) (positions : Bool → List ℕ) (is_leap : ℤ → Bool) → ((y : ℤ) → K.lengths y ≡ positions (is_leap y))
    → both_years (whole K.strip) positions ≡ true → small K ≡ true → eqb c 18 ≡ false
    → Sound c K
unfolding whole
by_row K positions is_leap by e f n = sound K (record { each = λ i. (tested i).0.0 }) (λ i. rw n (tested i).0.1) (λ i. (tested i).1) f
  where
    tested : (i : ℕ) → ((within (years K i) ≡ true) × (gaps_are false (years K i) ≡ true)) × (strip_within K.strip (years K i) ≡ true)
    tested i =
        let ls = years K i in
        let b = both (within ls && gaps_are false ls) (strip_within K.strip ls) (each_year (whole K.strip) K positions is_leap by e i) in
        (both (within ls) (gaps_are false ls) b.0, b.1)

rows_sound : All (λ (r : ℕ × Calendar). Sound r.0 r.1) table
unfolding both_years whole within gaps_are same every strip_within total first_from small
rows_sound =
    by_row egyptian thirties_and5 none (λ y. refl) refl refl refl
    and by_row armenian thirties_and5 none (λ y. refl) refl refl refl
    and by_row khwarizmian thirties_and5 none (λ y. refl) refl refl refl
    and by_row persian five_at9 none (λ y. refl) refl refl refl
    and by_row ethiopian thirties_and5or6 (remainder 3 4) (λ y. refl) refl refl refl
    and by_row coptic thirties_and5or6 (remainder 3 4) (λ y. refl) refl refl refl
    and by_row republican thirties_and5or6 (remainder 3 4) (λ y. refl) refl refl refl
    and by_row macedonian from_september (remainder 3 4) (λ y. refl) refl refl refl
    and by_row syrian from_october (remainder 3 4) (λ y. refl) refl refl refl
    and by_row julian from_january (remainder 0 4) (λ y. refl) refl refl refl
    and by_row gregorian from_january gregorian_leap (λ y. refl) refl refl refl
    and by_row islamic_a in_turn islamic_leap (λ y. refl) refl refl refl
    and by_row islamic_b in_turn islamic_leap (λ y. refl) refl refl refl
    and by_row bahai nineteens bahai_leap (λ y. refl) refl refl refl
    and by_row saka saka_months saka_leap (λ y. refl) refl refl refl
    and sound hebrew hebrew_bounded (λ i. (hebrew_within i).1) (λ i. refl) refl
    and tt

pub listed_sound : {c : ℕ} {K : Calendar} → Listed c K → Sound c K
listed_sound l = found_row (λ (r : ℕ × Calendar). Sound r.0 r.1) rows_sound l

-- so counting's theorems are about it
pub sound_proper : {c : ℕ} {K : Calendar} → Sound c K → Proper K
sound_proper {c} {K} s = proper K 353 385 15222 (year_days_lem s.bounded) (omega arith) (omega arith) (omega (arith, s.first_year_lem))

-- ---- the strips

abbrev pub strip_if : ℕ → Option ℕ
strip_if c = cond (eqb c 4) (Option.some 9) (cond (eqb c 14) (Option.some 19) (cond (ltb c 8) (Option.some 13) Option.none))

rows_strip : All (λ (r : ℕ × Calendar). r.1.strip ≡ strip_if r.0) table
rows_strip =
    (refl, (refl, (refl, (refl, (refl, (refl, (refl, (refl, (refl, (refl, (refl, (refl, (refl, (refl, (refl, (refl, tt))))))))))))))))

pub strip_is : {c : ℕ} {K : Calendar} → Listed c K → K.strip ≡ strip_if c
strip_is l = found_row (λ (r : ℕ × Calendar). r.1.strip ≡ strip_if r.0) rows_strip l

-- ---- the ends: calendar 7 has one, and no other

abbrev pub end_if : Bool → Option ℕ
end_if seven = cond seven (Option.some 2380687) Option.none

rows_end : All (λ (r : ℕ × Calendar). r.1.end ≡ end_if (eqb r.0 7)) table
rows_end =
    (refl, (refl, (refl, (refl, (refl, (refl, (refl, (refl, (refl, (refl, (refl, (refl, (refl, (refl, (refl, (refl, tt))))))))))))))))

pub end_is : {c : ℕ} {K : Calendar} → Listed c K → K.end ≡ end_if (eqb c 7)
end_is l = found_row (λ (r : ℕ × Calendar). r.1.end ≡ end_if (eqb r.0 7)) rows_end l
