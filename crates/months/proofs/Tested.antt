-- Years whose lengths lie on no line: formulas for a position and for the position of a day are tested at each position and each day of a year. Calendar 4.
use mathlib.Core.Path.{◌≡◌, refl, sym, ap, ◌∙◌}
use mathlib.Core.Bool.{Bool, true, false, cond, ◌&&◌}
use mathlib.Core.List.{List}
use Prim.Native.Nat.{ℕ, ◌+◌, ◌-◌, ◌*◌, ◌/◌, ◌%◌, ◌≤◌, ◌<◌}
use native.Mathlib.Omega.{arith}
use lib.Dec.{eqb, ltb}
use lib.IntN.{ℤ, pos}
use lib.ListN.{length, take, get_or}
use borrow.Author.Tests.{eqb-true, ltb-true}
use Rattle.basics.specs.Every.{every}
use Rattle.basics.proofs.Cases.{both, cond_elim}
use Rattle.basics.proofs.Every.{every_at}
use Rattle.counting.specs.Calendar.{total, start}
use Rattle.counting.specs.Years.{year_at}
use Rattle.counting.specs.Answers.{years}
use Rattle.calendar_rules.specs.Calendars.{five_at9, persian}
use Rattle.months.specs.Parts.{MonthIs, MonthOf, DateIs, length_at}
use Rattle.months.proofs.Years.{plain_start}
use Rattle.months.proofs.Rows.{persian_row}
use Rattle.months.proofs.Dates.{date_parts, by_test}

-- day e of position p is day r of the year
abbrev pub is_day : List ℕ → ℕ → ℕ → ℕ → Bool
is_day ls p e r = eqb (total (take p ls) + e) r && ltb e (get_or ls p 0)

-- f and g give the position and the day of each of the first n days
abbrev pub places_all : List ℕ → (ℕ → ℕ) → (ℕ → ℕ) → ℕ → Bool
places_all ls f g n = every (λ r. is_day ls (f r) (g r) r) n

pub tested_date : (L : ℕ → List ℕ) → ((i : ℕ) → 1 ≤ total (L i)) → (F : ℤ) (n i rest : ℕ) (ls : List ℕ) (f g : ℕ → ℕ) (k : ℕ)
    → L i ≡ ls → start L i + rest ≡ n → rest < k → places_all ls f g k ≡ true
    → (y : ℤ) (m d : ℕ) → y ≡ year_at F i → m ≡ f rest + 1 → d ≡ g rest + 1 → DateIs L F n y m d
tested_date L has F n i rest ls f g k e h l t y m d ey em ed =
    let b = both (eqb (total (take (f rest) ls) + g rest) rest) (ltb (g rest) (get_or ls (f rest) 0)) (every_at (λ r. is_day ls (f r) (g r) r) k t rest l) in
    let u : total (take (f rest) (L i)) ≡ total (take (f rest) ls) = ap (λ (x : List ℕ). total (take (f rest) x)) e in
    let v : get_or (L i) (f rest) 0 ≡ get_or ls (f rest) 0 = ap (λ (x : List ℕ). get_or x (f rest) 0) e in
    date_parts L has F n i (f rest) (g rest) y m d (omega (arith, eqb-true (total (take (f rest) ls) + g rest) rest b.0))
    (omega (arith, ltb-true (g rest) (get_or ls (f rest) 0) b.1)) ey em ed

-- the length of a position by a formula g
pub tested_length : (L : ℕ → List ℕ) (i p : ℕ) (ls : List ℕ) (g : ℕ → ℕ) (k : ℕ) → L i ≡ ls → p < k → every (λ q. eqb (g q) (get_or ls q 0)) k ≡ true
    → g p ≡ get_or (L i) p 0
tested_length L i p ls g k e h u = by_test g (λ q. get_or ls q 0) k u p h ∙ ap (λ (l : List ℕ). get_or l p 0) (sym e)

-- a position by a formula f for the days before it
pub tested_month : (L : ℕ → List ℕ) (first i p begin days : ℕ) (ls : List ℕ) (f : ℕ → ℕ) (k : ℕ) → L i ≡ ls → p < k
    → every (λ q. eqb (f q) (total (take q ls))) k ≡ true → begin ≡ first + start L i + f p → days ≡ get_or (L i) p 0 → MonthIs L first i p begin days
tested_month L first i p begin days ls f k e h t eb ed =
    let x : total (take p (L i)) ≡ total (take p ls) = ap (λ (l : List ℕ). total (take p l)) e in
    record { length_is = ed; begins = λ j. omega (arith, by_test f (λ q. total (take q ls)) k t p h) }

-- ---- 4

pub persian_positions : (i : ℕ) → length (years persian i) ≡ 13
persian_positions i = ap length (persian_row i)

persian_year : (i : ℕ) → total (years persian i) ≡ 365
unfolding total
persian_year i = ap total (persian_row i)

persian_start : (i : ℕ) → start (years persian) i ≡ 365 * i
persian_start = plain_start (years persian) persian_year

abbrev pub persian_before : ℕ → ℕ
persian_before p = 30 * p - cond (ltb 8 p) 25 0

abbrev pub persian_length : ℕ → ℕ
persian_length p = cond (eqb p 8) 5 30

persian_before_lem : every (λ q. eqb (persian_before q) (total (take q (five_at9 false)))) 13 ≡ true
unfolding every total
persian_before_lem = refl

persian_lengths : every (λ q. eqb (persian_length q) (get_or (five_at9 false) q 0)) 13 ≡ true
unfolding every
persian_lengths = refl

pub persian_length_lem : (i p : ℕ) → p ≤ 12 → persian_length p ≡ length_at persian i p
persian_length_lem i p h = tested_length (years persian) i p (five_at9 false) persian_length 13 (persian_row i) (omega arith) persian_lengths

pub persian_month : (i p begin days : ℕ) → p ≤ 12 → begin ≡ 1952063 + 365 * i + persian_before p → days ≡ length_at persian i p → MonthOf persian i p begin days
persian_month i p begin days h eb ed =
    tested_month (years persian) 1952063 i p begin days (five_at9 false) persian_before 13 (persian_row i) (omega arith) persian_before_lem
    (omega (arith, persian_start i)) ed

-- what code takes away is there
pub persian_room : (p : ℕ) → cond (ltb 8 p) 25 0 ≤ 30 * p
persian_room p = cond_elim (λ (k : ℕ). k ≤ 30 * p) (ltb 8 p) 25 0 (λ h. omega (arith, ltb-true 8 p h)) (λ h. omega arith)

-- the days after the five as if these were 30
abbrev pub persian_day : ℕ → ℕ
persian_day r = cond (ltb 244 r) (r + 25) r

persian_days : places_all (five_at9 false) (λ r. persian_day r / 30) (λ r. persian_day r % 30) 365 ≡ true
unfolding every total
persian_days = refl

pub persian_date : (n : ℕ) (y : ℤ) (m d : ℕ) → y ≡ year_at (pos 1) (n / 365) → m ≡ persian_day (n % 365) / 30 + 1 → d ≡ persian_day (n % 365) % 30 + 1
    → DateIs (years persian) (pos 1) n y m d
persian_date n y m d ey em ed =
    tested_date (years persian) (λ i. omega (arith, persian_year i)) (pos 1) n (n / 365) (n % 365) (five_at9 false)
    (λ r. persian_day r / 30) (λ r. persian_day r % 30) 365
    (persian_row (n / 365)) (omega (arith, persian_start (n / 365))) (omega arith) persian_days y m d ey em ed
