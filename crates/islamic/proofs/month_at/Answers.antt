use Rattle.months.proofs.Islamic.{islamic_month}
use Rattle.islamic.proofs.month_at.Goals as goal

-- `islamic::month_at` meets its contract.
pub returns : goal.returns
returns c =
    let found = c.in_ok-days.ensures in
    let days = found.0 c.args.first in
    (days.0, rw (c.from.ensures, c.from-2.ensures) (islamic_month c.args.first c.args.i c.args.p _ found.1 days.1))
