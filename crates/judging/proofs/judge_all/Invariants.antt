use Prim.Native.Nat.{◌-◌}
use lib.ListN.{length}
use Rattle.judging.specs.Inner.{TakesFrom}
use Rattle.judging.proofs.judge_all.Given as goal

-- what was to be done with the bytes passed is done
abbrev pub invariant-loop-progress : goal.invariant-loop-progress
invariant-loop-progress l = TakesFrom l.initial.progress l.input l.initial.out l.progress l.out

abbrev pub decreases-loop-progress : goal.decreases-loop-progress
decreases-loop-progress l = length l.input - l.progress.consumed
