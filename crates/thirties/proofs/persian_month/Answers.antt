use native.Mathlib.Omega.{arith}
use Rattle.months.proofs.Tested.{persian_month}
use Rattle.thirties.proofs.persian_month.Goals as goal

-- `thirties::persian_month` meets its contract.
pub returns : goal.returns
returns c =
    let found = c.in_ok-days.ensures in
    let days = found.0 c.args.i in
    (days.0, persian_month c.args.i c.args.p _ _ found.1 (omega (arith, c.pick-short.ensures.0)) days.1)
