use native.Mathlib.Omega.{arith}
use Rattle.months.proofs.Gregorian.{long_century, long_usual}
use Rattle.gregorian_years.proofs.extra_days.Goals as goal

pub returns-then-y-century : goal.returns-then-y-century
returns-then-y-century c = (long_century c.args.z _ (omega arith) (λ e. omega arith) (λ e. omega arith), omega arith)

pub returns : goal.returns
returns c = (long_usual c.args.z _ (λ e. omega arith) (λ e. omega arith) (λ e. omega arith), omega arith)
