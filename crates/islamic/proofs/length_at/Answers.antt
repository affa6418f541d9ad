use Rattle.std.proofs.Common.{arith}
use Rattle.counting.specs.Answers.{years}
use Rattle.months.specs.Parts.{islamic_from}
use Rattle.months.proofs.Dates.{no_length}
use Rattle.months.proofs.Islamic.{islamic_positions, islamic_length}
use Rattle.islamic.proofs.length_at.Goals as goal

-- `islamic::length_at` meets its contract.
pub returns-then-p-gt11 : goal.returns-then-p-gt11
returns-then-p-gt11 c = (λ first. no_length (years (islamic_from first)) c.args.i c.args.p (omega (arith, islamic_positions first c.args.i)), tt)

pub returns : goal.returns
returns c = (
  λ first. (omega arith, rw (c.pick.ensures.0, c.pick-last.ensures.0, c.from.ensures) (islamic_length first c.args.i c.args.p (omega arith))),
  omega arith,
)
