use Rattle.std.proofs.Common.{arith}
use Rattle.hebrew.specs.Hebrew.{leap}
use Rattle.months.proofs.Years.{flag}
use Rattle.months.proofs.HebrewGates.{leap_number}
use Rattle.gates.proofs.leap_of.Goals as goal

pub returns : goal.returns
returns c =
    let e = leap_number c.args.y in
    (omega (arith, e), omega (arith, e, flag (leap c.args.y)))
