use Rattle.months.proofs.Thirties.{coptic_date}
use Rattle.thirties.proofs.coptic_date.Goals as goal

pub returns : goal.returns
returns c =
    let n = c.in_ok-n.ensures in
    let p = rw c.from.ensures at c.by_thirties.ensures in
    (n.0, rw (← n.1) (coptic_date c.args.first c.in_ok-n.n _ _ _ p.0 p.1 p.2))
