use native.Mathlib.Omega.{arith}
use Rattle.printing.proofs.Pushed.{one_digit, last_digit, last_two, longer}
use Rattle.printing.proofs.push_digits.Goals as goal

pub returns-in-0-to-9-clause-bytes : goal.returns-in-0-to-9-clause-bytes
returns-in-0-to-9-clause-bytes g c = one_digit _ c.args.n _ _ (omega (arith, c.in-0-to-9)) c.push_digit.ensures

pub returns-in-0-to-9-clause-long : goal.returns-in-0-to-9-clause-long
returns-in-0-to-9-clause-long g c room = longer _ _ _ (returns-in-0-to-9-clause-bytes g c room)

pub returns-in-10-to-99-clause-bytes : goal.returns-in-10-to-99-clause-bytes
returns-in-10-to-99-clause-bytes g c =
    let ten = one_digit _ _ _ _ (omega (arith, c.in-10-to-99)) c.push_digit-in-10-to-99.ensures in
    last_digit _ c.args.n _ _ _ (omega (arith, c.in-10-to-99)) c.ranges.n.fits ten c.push_digit-in-10-to-99-2.ensures

pub returns-in-10-to-99-clause-long : goal.returns-in-10-to-99-clause-long
returns-in-10-to-99-clause-long g c room = longer _ _ _ (returns-in-10-to-99-clause-bytes g c room)

pub returns-in_default-clause-bytes : goal.returns-in_default-clause-bytes
returns-in_default-clause-bytes g c =
    let digits = last_two _ c.args.n _ _ _ _ (omega (arith, c.in_default)) c.ranges.n.fits c.push_each_digit.ensures in
    digits c.push_digit-in_default.ensures c.push_digit-in_default-2.ensures

pub returns-in_default-clause-long : goal.returns-in_default-clause-long
returns-in_default-clause-long g c room = longer _ _ _ (returns-in_default-clause-bytes g c room)
