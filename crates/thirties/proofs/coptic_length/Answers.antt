use Rattle.std.proofs.Common.{◌+◌, arith}
use Rattle.counting.specs.Answers.{years}
use Rattle.months.specs.Leap.{fourth_leap}
use Rattle.months.specs.Parts.{coptic_from}
use Rattle.months.proofs.Years.{by_fours, one_more}
use Rattle.months.proofs.Dates.{no_length}
use Rattle.months.proofs.Thirties.{coptic_positions, coptic_length}
use Rattle.thirties.proofs.Lengths.{is_length, early}
use Rattle.thirties.proofs.coptic_length.Goals as goal

-- `thirties::coptic_length` meets its contract.
pub returns : goal.returns
returns c =
    let f = c.thirty_but.ensures in
    let i = c.args.i in
    let p = c.args.p in (
      λ first. is_length _ _ p _ f (omega arith) (λ h. no_length (years (coptic_from first)) i p (omega (arith, coptic_positions first i)))
          (λ h. rw (c.from.ensures, by_fours (i + 1), one_more (fourth_leap 1 i) 5) (coptic_length first i p h)),
      early _ _ p _ f,
    )
