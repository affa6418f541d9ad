use native.Mathlib.Omega.{arith}
use Rattle.months.proofs.MarchDates.{gregorian_date}
use Rattle.march.proofs.gregorian_date.Goals as goal

pub returns : goal.returns
returns c = (omega arith, gregorian_date c.args.day _ _ _ _ _ (omega arith) c.year_of-y.ensures c.date_in.ensures)
