use mathlib.Core.List.{◌++◌}
use lib.ListN.{take}
use Rattle.streaming.proofs.Kept.{Keeping}
use Rattle.carrying.specs.Kept.{most}
use Rattle.carrying.proofs.keep.Given as goal

abbrev pub invariant-loop-b : goal.invariant-loop-b
invariant-loop-b l = Keeping most (take l.initial.count l.initial.bytes ++ l.more) l.more l.bytes l.count l.b-index
