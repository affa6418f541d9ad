use mathlib.Core.Path.{◌≡◌, refl, sym, ◌∙◌}
use mathlib.Core.Option as maybe
use Rattle.std.specs.Prelude.{Option, None}
use mathlib.Core.Bool.{true, false, true≢false}
use Prim.Native.Nat.{ℕ, ◌+◌, ◌-◌}
use native.Mathlib.Omega.{arith}
use lib.IntN.{ℤ, pos, nat_abs, ◌-ℤ◌}
use lib.Signed.{lt_z}
use mir.Syntax.{w64}
use mir.Val.{SFits, to_z, of_z}
use mir.ValLaws.{to_z-of_z}
use Rattle.basics.proofs.Cases.{neither}
use Rattle.counting.specs.Years.{years_from}
use Rattle.counting.specs.Answers.{Calendar, last_year, year_out, no_month}
use Rattle.counting.proofs.Signs.{placed, years_small}
use Rattle.calendar_rules.specs.Calendars.{hebrew, lookup, calendar}
use Rattle.calendar_rules.specs.Answers.{day_answer}
use Rattle.parts.specs.declared.Month.{Month}
use Rattle.parts.specs.Found.{MonthAt}
use Rattle.asking.specs.Steps.{OfListed, Sought, in_range, packed_day, none_number, packed_none}
use Rattle.asking.proofs.Arms.{arm, never}
use Rattle.asking.proofs.Answers.{day_none, nowhere_0, not_there, no_such_day, found, end_of_other}
use Rattle.numbering.proofs.Years.{before, after}
use Rattle.numbering.proofs.hebrew_day.Goals as goal

-- what holds of this calendar holds of the one that is listed for 18
listed_18 : (P : Calendar → Type 0) → P hebrew → OfListed 18 P
unfolding calendar lookup
listed_18 P p = arm 18 P refl refl p

row-18 : calendar 18 ≡ maybe.some hebrew
unfolding calendar lookup
row-18 = refl

-- a year that it does not have
refused : (y : ℤ) (m d : ℕ) → year_out hebrew y ≡ true → 8589934592 ≡ packed_day (day_answer 18 y m d)
unfolding none_number calendar lookup
refused y m d t =
    let n : 8589934592 ≡ packed_none 18 y = rw t refl in
    n ∙ day_none 18 y m (listed_18 (λ K. year_out K y ≡ false → no_month K y m ≡ true) (λ f. absurd (true≢false (sym t ∙ f)))) d

-- one that it has, without such a position
no_position_lem : (y : ℤ) → lt_z y (pos 1) ≡ false → lt_z last_year y ≡ false → 12884901888 ≡ packed_none 18 y
unfolding none_number calendar lookup
no_position_lem y e l = rw (e, l) refl

-- the position that was found, or not
month : {y : ℤ} (p : ℕ) {found : Option Month} → SFits w64 y → lt_z y (pos 1) ≡ false → lt_z last_year y ≡ false
    → MonthAt hebrew (nat_abs (to_z w64 (of_z w64 (to_z w64 (of_z w64 y) -ℤ pos 1)))) p found
    → Sought 18 y (λ K i. MonthAt K i p found) found
month {y} p {found} s e l m =
    let P : Calendar → ℕ → Type 0 = λ K i. MonthAt K i p found in
    let o : year_out hebrew y ≡ false = rw (e, l) refl in
    let n = years_from (pos 1) y in
    let small : SFits w64 (pos n) = record { sfits = omega (arith, years_small (pos 1) y 1 (omega arith) e l) } in
    record {
      off = λ f. never (sym row-18 ∙ f);
      out = listed_18 (λ K. year_out K y ≡ true → found ≡ None) (λ t. absurd (true≢false (sym t ∙ o)));
      there = listed_18 (λ K. year_out K y ≡ false → P K (years_from K.first_year y))
          (λ t. rw (to_z-of_z w64 y s, (placed (pos 1) y e).0, to_z-of_z w64 (pos n) small) at m);
    }

pub returns-then-year : goal.returns-then-year
returns-then-year c =
    c.refused.ensures ∙ refused c.args.year c.args.month c.args.day (rw (to_z-of_z w64 c.args.year c.ranges.year) at c.if-year.true)

pub returns-then-month-eq0 : goal.returns-then-month-eq0
returns-then-month-eq0 c =
    let y = c.args.year in
    let f = neither _ _ c.if-year.false in
    c.refused-then-month-eq0.ensures
    ∙ no_position_lem y (before (pos 1) c.ranges.year f.0) (after last_year c.ranges.year f.1)
    ∙ day_none 18 y c.args.month (nowhere_0 18 y c.args.month c.if-month-eq0.true) c.args.day

pub returns-in_default : goal.returns-in_default
returns-in_default c =
    let f = neither _ _ c.if-year.false in
    let e = before (pos 1) c.ranges.year f.0 in
    let l = after last_year c.ranges.year f.1 in
    c.refused-in_default.ensures
    ∙ no_position_lem c.args.year e l
    ∙ not_there c.args.month c.if-month-eq0.false c.args.day (month (c.args.month - 1) c.ranges.year e l c.in_default.ensures)

pub returns-then-day-m : goal.returns-then-day-m
returns-then-day-m c =
    let f = neither _ _ c.if-year.false in
    let s = month (c.args.month - 1) c.ranges.year (before (pos 1) c.ranges.year f.0) (after last_year c.ranges.year f.1) c.in-Some.ensures in
    c.refused-then-day-m.ensures ∙ no_such_day c.args.month c.if-month-eq0.false c.args.day s c.if-day-m.true

pub overflow_add-m : goal.overflow_add-m
overflow_add-m c =
    let f = neither _ _ c.if-year.false in
    let s = month (c.args.month - 1) c.ranges.year (before (pos 1) c.ranges.year f.0) (after last_year c.ranges.year f.1) c.in-Some.ensures in
    let t = found c.args.month c.if-month-eq0.false c.args.day s c.if-day-m.false in
    omega (arith, t.0, t.1, t.2)

pub returns : goal.returns
returns c =
    let f = neither _ _ c.if-year.false in
    let s = month (c.args.month - 1) c.ranges.year (before (pos 1) c.ranges.year f.0) (after last_year c.ranges.year f.1) c.in-Some.ensures in
    let n = c.in-Some.m.start + (c.args.day - 1) in
    c.in_time.ensures ∙ end_of_other (in_range n) (omega arith) ∙ (found c.args.month c.if-month-eq0.false c.args.day s c.if-day-m.false).3
