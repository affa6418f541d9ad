use Rattle.std.proofs.Common.{◌≡◌, sym, ◌∙◌, ℕ, ◌+◌, ◌-◌, ◌*◌, ◌/◌, ◌<◌, take, arith}
use borrow.Author.Tests.{lt-ltb, le-ltb}
use Rattle.counting.specs.Calendar.{total, start}
use Rattle.counting.specs.Answers.{years}
use Rattle.calendar_rules.specs.Calendars.{gregorian}
use Rattle.months.specs.Leap.{gregorian_long, gregorian_start}
use Rattle.months.specs.Parts.{length_at, packed_in, PackedAt}
use Rattle.months.proofs.Dates.{no_length}
use Rattle.months.proofs.MarchDates.{gregorian_positions, gregorian_month, gregorian_has, length_small}
use Rattle.march.proofs.gregorian_day.Goals as goal

-- where a month from March begins
abbrev begin : ℕ → ℕ → ℕ
begin y q = gregorian_start y + (153 * q + 2) / 5 - 32044

-- a position that is there
abbrev packed : ℕ → ℕ → ℕ → ℕ
packed i p day =
    let L = years gregorian in packed_in (38 + start L i + total (take p (L i))) (length_at gregorian i p) day

there : (i p day r : ℕ) → p < 12 → r ≡ packed i p day → PackedAt gregorian i p day r
there i p day r h e = record { none = λ z. absurd (omega (arith, z, gregorian_has i p h)); there = λ z. e }

pub returns-then-p-gt11 : goal.returns-then-p-gt11
returns-then-p-gt11 c =
    record {
      none = λ h. c.refused.ensures;
      there = λ h. absurd (omega (arith, h, no_length (years gregorian) c.args.i c.args.p (omega (arith, gregorian_positions c.args.i))));
    }

pub returns-then-no_day : goal.returns-then-no_day
returns-then-no_day c =
    let m = rw (← c.month_of-at.ensures.month, ← c.month_of-at.ensures.year) at (gregorian_month c.args.i c.args.p (omega arith)) in
    there c.args.i c.args.p c.args.day _ (omega arith) (rw (← m.length_is, sym c.no_day.ensures ∙ c.if-no_day.true) c.refused-then-no_day.ensures)

pub returns-then-n-gt-LAST_DAY : goal.returns-then-n-gt-LAST_DAY
returns-then-n-gt-LAST_DAY c =
    let at = c.month_of-at.result in
    let m = rw (← c.month_of-at.ensures.month, ← c.month_of-at.ensures.year) at (gregorian_month c.args.i c.args.p (omega arith)) in
    there c.args.i c.args.p c.args.day _ (omega arith)
    (rw (
      ← m.length_is,
      sym c.no_day.ensures ∙ c.if-no_day.false,
      ← m.begins (length_small (gregorian_long at.year) at.month).0,
      lt-ltb 5373484 (begin at.year at.month + (c.args.day - 1)) (omega arith),
    ) c.refused-then-n-gt-LAST_DAY.ensures)

pub returns : goal.returns
returns c =
    let at = c.month_of-at.result in
    let m = rw (← c.month_of-at.ensures.month, ← c.month_of-at.ensures.year) at (gregorian_month c.args.i c.args.p (omega arith)) in
    there c.args.i c.args.p c.args.day _ (omega arith)
    (rw (
      ← m.length_is,
      sym c.no_day.ensures ∙ c.if-no_day.false,
      ← m.begins (length_small (gregorian_long at.year) at.month).0,
      le-ltb 5373484 (begin at.year at.month + (c.args.day - 1)) (omega arith),
    ) (omega arith))
