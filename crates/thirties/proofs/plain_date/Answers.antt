use Rattle.months.proofs.Thirties.{plain_date}
use Rattle.thirties.proofs.plain_date.Goals as goal

pub returns : goal.returns
returns c =
    let n = c.in_ok-n.ensures in
    let p = c.by_thirties.ensures in
    (n.0, rw (← n.1) (plain_date c.args.first c.in_ok-n.n _ _ _ p.0 (rw c.from.ensures at p.1) (rw c.from.ensures at p.2)))
