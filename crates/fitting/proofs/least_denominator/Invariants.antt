-- At the head of the outer loop the denominators so far have failed (`Tried`), at the head of the inner one the marks so far allow the offsets from `low` to
-- `high` (`Tested`).
use Prim.Native.Nat.{◌-◌}
use Rattle.fitting.proofs.Search.{Tried, Tested}
use Rattle.fitting.proofs.least_denominator.Given as goal

abbrev pub invariant-denominators : goal.invariant-denominators
invariant-denominators l = Tried l.code l.tried l.a

abbrev pub decreases-denominators : goal.decreases-denominators
decreases-denominators l = l.n - l.tried

abbrev pub invariant-loop-k : goal.invariant-loop-k
invariant-loop-k l = Tested l.code l.b l.a l.k l.low l.high l.y l.reach

abbrev pub decreases-loop-k : goal.decreases-loop-k
decreases-loop-k l = l.n - l.k
