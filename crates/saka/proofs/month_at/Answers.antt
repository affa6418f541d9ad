use Rattle.std.proofs.Common.{refl, ◌∙◌, arith}
use Rattle.counting.specs.Answers.{years}
use Rattle.calendar_rules.specs.Calendars.{saka}
use Rattle.months.specs.Leap.{gregorian_long}
use Rattle.months.proofs.Dates.{no_length}
use Rattle.months.proofs.GregorianKind.{kind_positions, kind_month}
use Rattle.months.proofs.BahaiSaka.{saka_kind, saka_before_lem, saka_length_lem}
use Rattle.saka.proofs.month_at.Goals as goal

pub returns-then-p-gt11 : goal.returns-then-p-gt11
returns-then-p-gt11 c = no_length (years saka) c.args.i c.args.p (omega (arith, kind_positions saka_kind c.args.i))

pub returns : goal.returns
returns c =
    let z = c.counted_year-z in
    let p = c.args.p in
    let l = c.counted_length.ensures.0 ∙ saka_length_lem (gregorian_long z.result) p (omega arith) in (
      c.counted_length.ensures.1,
      rw c.from.ensures (kind_month saka_kind c.args.i p _ _ c.year_start.result _ (omega arith) refl (rw z.ensures at c.year_start.ensures)
          (omega (arith, c.pick-early.ensures.0, rw (← c.pick-m.ensures.0) at (saka_before_lem p (omega arith)))) (rw z.ensures at l)),
    )
