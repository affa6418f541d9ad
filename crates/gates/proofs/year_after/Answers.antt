use Rattle.std.proofs.Common.{◌+◌, arith}
use Rattle.months.proofs.HebrewGates.{moon_is, year_found}
use Rattle.gates.proofs.year_after.Goals as goal

pub invariant_of-result-clause-is_year : goal.invariant_of-result-clause-is_year
invariant_of-result-clause-is_year c =
    let y = c.from-number.result + 1 in
    rw (
      c.gate_days-here.ensures.0,
      c.gate_days-there.ensures.0,
      c.months_to.ensures,
      moon_is y (omega arith),
      c.leap_of-after.ensures.0,
      c.leap_of-now.ensures.0,
      c.leap_of-before.ensures.0,
    ) (year_found y (omega arith)).1
