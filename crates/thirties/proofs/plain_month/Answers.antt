use Rattle.months.proofs.Thirties.{plain_month}
use Rattle.thirties.proofs.plain_month.Goals as goal

-- `thirties::plain_month` meets its contract.
pub returns : goal.returns
returns c =
    let found = c.in_ok-days.ensures in
    let days = found.0 c.args.first c.args.i in
    (days.0, rw (c.from.ensures, c.from-2.ensures) (plain_month c.args.first c.args.i c.args.p _ found.1 days.1))
