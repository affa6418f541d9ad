use native.Mathlib.Omega.{arith}
use Rattle.counting.specs.Answers.{years}
use Rattle.months.proofs.Dates.{no_length}
use Rattle.months.proofs.MarchDates.{julian_positions, julian_month, length_small}
use Rattle.march.proofs.length_at.Goals as goal

pub returns-then-p-gt11 : goal.returns-then-p-gt11
returns-then-p-gt11 g c =
    no_length (years g.K.JulianKind.calendar) c.args.i c.args.p (omega (arith, julian_positions g.K.JulianKind.of_kind c.args.i))

pub returns : goal.returns
returns g c =
    let m = julian_month g.K.JulianKind.of_kind c.args.i c.args.p (omega arith) in
    rw (c.month_length.ensures, c.february.ensures, c.month_of-month.ensures.month, c.month_of-month.ensures.year, c.YEAR.ensures, c.TURN.ensures)
    ((length_small _ _).0, m.length_is)
