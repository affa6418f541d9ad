use Prim.Native.Nat.{◌≤◌}
use native.Mathlib.Omega.{arith}
use Rattle.std.proofs.Common.{FitsSigned, w32, rules}
use Rattle.std.proofs.Math.Facts.{to_z-of_z}
use Rattle.months.proofs.MarchDates.{julian_date}
use Rattle.march.proofs.date_on.Goals as goal

pub returns : goal.returns
returns g c =
    let x = g.K.JulianKind.of_kind in
    let h : g.K.JulianKind.calendar.first_day ≤ c.args.day = omega (arith, x.first_day, c.FIRST_DAY.ensures, c.if-day-FIRST_DAY.false) in
    let f : FitsSigned w32 c.BEFORE.result = search rules in
    let e = to_z-of_z {w = w32} f in
    (h, julian_date x c.args.day _ _ _ h (rw (c.from.ensures, c.BEFORE.ensures, c.TURN.ensures) at (rw e at c.date_in.ensures)))
