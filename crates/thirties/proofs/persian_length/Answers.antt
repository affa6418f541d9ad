use Rattle.std.proofs.Common.{arith}
use Rattle.counting.specs.Answers.{years}
use Rattle.calendar_rules.specs.Calendars.{persian}
use Rattle.months.proofs.Dates.{no_length}
use Rattle.months.proofs.Tested.{persian_positions, persian_length_lem}
use Rattle.thirties.proofs.Lengths.{is_length, early}
use Rattle.thirties.proofs.persian_length.Goals as goal

-- `thirties::persian_length` meets its contract.
pub returns : goal.returns
returns c =
    let f = c.thirty_but.ensures in
    let p = c.args.p in (
      λ i. is_length _ _ p _ f (omega arith) (λ h. no_length (years persian) i p (omega (arith, persian_positions i))) (persian_length_lem i p),
      early 8 5 p _ f,
    )
