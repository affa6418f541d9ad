use mathlib.Core.List.{[]}
use Prim.Native.Nat.{◌-◌}
use lib.ListN.{length}
use Rattle.streaming.specs.Work.{WorkedFrom}
use Rattle.carrying.specs.Kept.{most}
use Rattle.replying.specs.Sheet.{judging}
use Rattle.judging.proofs.Progress.take_frames.Given as goal

-- what was to be done with the frames passed is done
abbrev pub invariant-loop-number : goal.invariant-loop-number
invariant-loop-number l = WorkedFrom judging most l.input l.self.consumed l.consumed tt [] l.initial.out l.self.written tt [] l.out l.written

abbrev pub decreases-loop-number : goal.decreases-loop-number
decreases-loop-number l = length l.input - l.consumed
