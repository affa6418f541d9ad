use Prim.Native.Nat.{◌+◌, ◌-◌, ◌*◌, ◌/◌}
use native.Mathlib.Omega.{arith}
use Rattle.months.proofs.Gregorian.{year_of_lem}
use Rattle.gregorian_years.proofs.year_of.Goals as goal

pub returns : goal.returns
returns c =
    let n = c.args.day + c.args.after in
    let k = (4 * n + 3) / 146097 in
    year_of_lem n k (n + k - k / 4) _ _ (omega arith) (omega arith) (omega arith) (omega arith) (omega arith) (omega arith)
