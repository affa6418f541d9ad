-- The date of a day from its year, its position and the days before it there, each counted from 0.
use mathlib.Core.Path.{◌≡◌, sym, ap, subst, ◌∙◌}
use mathlib.Core.Bool.{true}
use mathlib.Core.List.{List}
use Prim.Native.Nat.{ℕ, ◌+◌, ◌-◌, ◌≤◌, ◌<◌}
use native.Mathlib.Omega.{arith}
use lib.IntN.{ℤ}
use lib.Dec.{eqb}
use lib.ListN.{length, take, get_or, get_or-eq_default}
use borrow.Author.Tests.{eqb-true}
use Rattle.basics.specs.Every.{every}
use Rattle.basics.proofs.Every.{every_at}
use Rattle.lines.specs.Marks.{mark_at}
use Rattle.counting.specs.Calendar.{total, start, Date, Valid, day_of, date_at}
use Rattle.counting.specs.InYear.{InYear}
use Rattle.counting.specs.Years.{year_at}
use Rattle.counting.proofs.Counting.{date_is}
use Rattle.counting.proofs.Totals.{total_take_suc}
use Rattle.months.specs.Lines.{quotient}
use Rattle.months.specs.Parts.{MonthIs, DateIs}
use Rattle.months.proofs.ByLine.{OnLine, before_mark, by_line_lem}

module _ (L : ℕ → List ℕ) (has_days : (i : ℕ) → 1 ≤ total (L i)) where
  -- day e of position p of year i
  pub date_at_lem : (n i p e : ℕ) → start L i + total (take p (L i)) + e ≡ n → e < get_or (L i) p 0 → date_at L n ≡ record { year = i; month = p + 1; day = e + 1 }
  unfolding day_of
  date_at_lem n i p e h k =
      let D : Date = record { year = i; month = p + 1; day = e + 1 } in
      let f : p + 1 - 1 ≡ p = omega arith in
      let v : Valid L D = record { month_from_1 = omega arith; day_from_1 = omega arith; day_in_month = rw f (omega arith) } in
      date_is L has_days n D v (rw f (omega arith))

  pub date_parts : (F : ℤ) (n i p e : ℕ) (y : ℤ) (m d : ℕ) → start L i + total (take p (L i)) + e ≡ n → e < get_or (L i) p 0
      → y ≡ year_at F i → m ≡ p + 1 → d ≡ e + 1 → DateIs L F n y m d
  date_parts F n i p e y m d h k ey em ed =
      let t = date_at_lem n i p e h k in
      record {
        year = ey ∙ ap (λ (D : Date). year_at F D.year) (sym t);
        month = em ∙ ap (λ (D : Date). D.month) (sym t);
        day = ed ∙ ap
            (λ (D : Date). D.day) (sym t);
      }

  -- the same where the lengths before the last lie on a line: the day of the year has its position by the quotient
  pub line_date : (F : ℤ) (n i rest p : ℕ) (ls : List ℕ) {a b r : ℕ} → L i ≡ ls → OnLine a b r ls → InYear L n i → start L i + rest ≡ n
      → p ≡ quotient a b r (length ls) rest
      → (y : ℤ) (m d : ℕ) → y ≡ year_at F i → m ≡ p + 1 → d ≡ rest - mark_at a b r p + 1 → DateIs L F n y m d
  unfolding start
  line_date F n i rest p ls {a} {b} {r} e o w h q y m d ey em ed =
      let k : rest < total ls = omega (arith, w.still, ap total e) in
      let t = by_line_lem o rest k in
      let x = rw (← q) at t in
      let u = before_mark o p (omega (arith, x.inside)) in
      let v : total (take p (L i)) ≡ total (take p ls) = ap (λ (l : List ℕ). total (take p l)) e in
      let g : get_or (L i) p 0 ≡ get_or ls p 0 = ap (λ (l : List ℕ). get_or l p 0) e in
      date_parts F n i p (rest - mark_at a b r p) y m d
      (omega (arith, x.begun)) (omega (arith, x.begun, x.still, total_take_suc p ls)) ey em ed

-- a year's position that is none of the list
pub no_length : (L : ℕ → List ℕ) (i p : ℕ) → length (L i) ≤ p → get_or (L i) p 0 ≡ 0
no_length L i p h = get_or-eq_default (L i) 0 {n = p} h

-- a formula for the lengths, tested at each position
pub by_test : (f g : ℕ → ℕ) (n : ℕ) → every (λ p. eqb (f p) (g p)) n ≡ true → (p : ℕ) → p < n → f p ≡ g p
by_test f g n t p h = eqb-true (f p) (g p) (every_at (λ p. eqb (f p) (g p)) n t p h)

-- a calendar with the same years
pub same_month : {L M : ℕ → List ℕ} {first i p begin days : ℕ} → L ≡ M → MonthIs L first i p begin days → MonthIs M first i p begin days
same_month {first = first} {i = i} {p = p} {begin = begin} {days = days} e h = subst (λ (K : ℕ → List ℕ). MonthIs K first i p begin days) e h
