use Rattle.counting.specs.Answers.{years}
use Rattle.measuring.proofs.length_of.Goals as goal

-- (an end does not change the years)
pub returns-in-Republican : goal.returns-in-Republican
unfolding years
returns-in-Republican c = rw c.in-Republican.is (c.coptic_length-in-Republican.ensures.0 2375840)
