use Rattle.months.proofs.Tested.{persian_date}
use Rattle.thirties.proofs.persian_date.Goals as goal

pub returns : goal.returns
returns c =
    let n = c.in_ok-n.ensures in
    let q = c.pick-rest.ensures.0 in
    let p = c.by_thirties.ensures in
    (n.0, rw (← n.1) (persian_date c.in_ok-n.n _ _ _ p.0 (rw (q, c.from-left.ensures) at p.1) (rw (q, c.from-left.ensures) at p.2)))
