use Rattle.std.proofs.Common.{◌*◌, ◌/◌, refl, arith, not, nat_eq, negsuc}
use Rattle.std.proofs.lemmas.Bool.Decides.{nat_tests}
use Rattle.months.specs.BahaiSaka.{bahai_before, bahai_of}
use Rattle.months.proofs.LeapLast.{date_in}
use Rattle.months.proofs.GregorianKind.{kind_date}
use Rattle.months.proofs.BahaiSaka.{bahai_kind}
use Rattle.bahai.proofs.date_on.Goals as goal

pub returns : goal.returns
returns c =
    let y = c.year_of-year in
    let p = c.place_in.ensures in
    let q = 27 * y.result.rest / 512 in (
      omega arith,
      kind_date bahai_kind (negsuc 6643) refl c.args.day _ _ _ _ _ (omega arith) y.ensures
          (date_in 20 bahai_before bahai_of (negsuc 6643) 1 _ y.result.rest q (not (nat_eq q 0)) q 20 _ _ _ refl
          (λ e. grind (arith, nat_tests)) (λ e. grind (arith, nat_tests))
          (rw c.pick-wrap.ensures.0 at p.0) (rw c.pick.ensures.0 at p.1) p.2),
    )
