use Rattle.std.proofs.Common.{arith}
use Rattle.counting.specs.Answers.{years}
use Rattle.months.specs.Parts.{plain_from}
use Rattle.months.proofs.Dates.{no_length}
use Rattle.months.proofs.Thirties.{plain_positions, plain_length}
use Rattle.thirties.proofs.Lengths.{is_length, early}
use Rattle.thirties.proofs.plain_length.Goals as goal

-- `thirties::plain_length` meets its contract.
pub returns : goal.returns
returns c =
    let f = c.thirty_but.ensures in
    let p = c.args.p in (
      λ first i. is_length _ _ p _ f (omega arith) (λ h. no_length (years (plain_from first)) i p (omega (arith, plain_positions first i))) (plain_length first i p),
      early 12 5 p _ f,
    )
