use native.Mathlib.Omega.{arith}
use Rattle.printing.proofs.Pushed.{last_digit}
use Rattle.printing.proofs.+push_each_digit.Goals as goal

pub returns : goal.returns
returns g t c = last_digit _ c.args.n _ _ _ (omega (arith, c.if-n-lt10.false)) c.ranges.n.fits c.push_each_digit.ensures c.push_digit-2.ensures
