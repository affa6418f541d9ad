use Rattle.std.proofs.Common.{◌+◌, ◌-◌, ◌/◌, refl, arith, nat_eq, negsuc}
use Rattle.std.proofs.lemmas.Bool.{eqb-true, eqb-false}
use Rattle.months.specs.BahaiSaka.{saka_before, saka_of}
use Rattle.months.proofs.Gregorian.{year_small}
use Rattle.months.proofs.LeapLast.{date_in}
use Rattle.months.proofs.GregorianKind.{kind_date}
use Rattle.months.proofs.BahaiSaka.{saka_kind, saka_room}
use Rattle.saka.proofs.date_on.Goals as goal

pub returns : goal.returns
returns c =
    let y = c.year_of-year in
    let s = c.pick-scaled in
    let p = c.place_in.ensures in
    let q = s.result / 1024 - 2 in
    let r = rw (← s.ensures.0) at (saka_room y.result.rest (omega (arith, (year_small y.ensures).1))) in (
      omega arith,
      kind_date saka_kind (negsuc 4877) refl c.args.day _ _ _ _ _ (omega arith) y.ensures
          (date_in 12 saka_before saka_of (negsuc 4877) 11 _ y.result.rest q (nat_eq q 11) 1 (q + 2) _ _ _ (rw s.ensures.0 refl)
          (λ t. omega (arith, eqb-true q 11 t)) (λ t. omega (arith, eqb-false q 11 t, r.0))
          (rw c.pick-wrap.ensures.0 at p.0) (rw c.pick.ensures.0 at p.1) (rw c.pick-early.ensures.0 at p.2)),
    )
