use Rattle.months.proofs.Islamic.{islamic_date}
use Rattle.islamic.proofs.date_on.Goals as goal

pub returns : goal.returns
returns c =
    let n = c.in_ok-n.ensures in
    let q = c.pick-p.ensures.0 in
    let f = c.from.ensures in
    let p = c.place_in.ensures in
    (n.0, rw (← n.1) (islamic_date c.args.first c.in_ok-n.n _ _ _ (rw f at p.0) (rw (q, f) at p.1) (rw (q, f) at p.2)))
