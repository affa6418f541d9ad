use Rattle.std.proofs.Common.{refl, ◌∙◌, arith}
use Rattle.counting.specs.Answers.{years}
use Rattle.calendar_rules.specs.Calendars.{saka}
use Rattle.months.specs.Leap.{gregorian_long}
use Rattle.months.proofs.Dates.{no_length}
use Rattle.months.proofs.GregorianKind.{kind_positions, kind_month}
use Rattle.months.proofs.BahaiSaka.{saka_kind, saka_length_lem}
use Rattle.saka.proofs.length_at.Goals as goal

pub returns-then-p-gt11 : goal.returns-then-p-gt11
returns-then-p-gt11 c = no_length (years saka) c.args.i c.args.p (omega (arith, kind_positions saka_kind c.args.i))

pub returns : goal.returns
returns c =
    let l = c.counted_length.ensures.0 ∙ saka_length_lem (gregorian_long c.counted_year.result) c.args.p (omega arith) in
    (c.counted_length.ensures.1, (kind_month saka_kind c.args.i c.args.p _ _ _ _ (omega arith) refl refl refl (rw c.counted_year.ensures at l)).length_is)
