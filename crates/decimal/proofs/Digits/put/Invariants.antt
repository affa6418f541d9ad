use Prim.Native.Nat.{suc, ◌≤◌}
use Rattle.decimal.proofs.Loops.{Written}
use Rattle.decimal.proofs.Digits.put.Given as goal

abbrev pub invariant-loop-rest : goal.invariant-loop-rest
invariant-loop-rest l = Written l.n l.self-inside.bytes l.rest (suc l.start) × (l.start ≤ 19)

abbrev pub decreases-loop-rest : goal.decreases-loop-rest
decreases-loop-rest l = l.rest
