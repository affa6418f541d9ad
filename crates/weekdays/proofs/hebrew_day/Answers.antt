use mathlib.Core.Path.{◌∙◌}
use mir.Syntax.{w64}
use mir.ValLaws.{to_z-of_z}
use Rattle.asking.proofs.Answers.{packed_with}
use Rattle.weekdays.proofs.hebrew_day.Goals as goal

pub returns : goal.returns
returns c =
    c.tried.ensures
    ∙ packed_with 18 c.args.year c.args.month c.args.day c.args.weekday c.hebrew_day.result.number
    (rw (to_z-of_z w64 c.args.year c.ranges.year) at c.hebrew_day.ensures)
