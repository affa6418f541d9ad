use Rattle.counting.specs.Answers.{years}
use Rattle.numbering.proofs.month_at.Goals as goal

-- (an end does not change the years)
pub returns-in-Republican : goal.returns-in-Republican
unfolding years
returns-in-Republican c = rw c.in-Republican.is c.coptic_month-in-Republican.ensures
