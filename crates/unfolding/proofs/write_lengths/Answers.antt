use native.Mathlib.Omega.{arith}
use Rattle.lines.proofs.Unfolding.{line_is}
use Rattle.unfolding.proofs.Writing.{front_at, front_start, front_end, whole_small, sum_small, front_stays, front_carries}
use Rattle.unfolding.proofs.write_lengths.Goals as goal
use Rattle.unfolding.proofs.write_lengths.Goals.{then-next-line, else-next-line}

pub nonzero_div-whole : goal.nonzero_div-whole
nonzero_div-whole c = omega (arith, (line_is _ _ _).0 c.requires)

pub nonzero_rem-part : goal.nonzero_rem-part
nonzero_rem-part c = omega (arith, (line_is _ _ _).0 c.requires)

pub loop-length-init : goal.loop-length-init
loop-length-init c = front_start ((line_is _ _ _).0 c.requires) _

pub overflow_add-next : goal.overflow_add-next
overflow_add-next c = omega (arith, sum_small ((line_is _ _ _).0 c.requires) c.loop-length.invariant)

pub overflow_add-length : goal.overflow_add-length
overflow_add-length c = omega (arith, whole_small ((line_is _ _ _).0 c.requires))

pub loop-length-preserved : goal.loop-length-preserved
loop-length-preserved c =
    let l = (line_is _ _ _).0 c.requires in
    let f = c.loop-length.invariant in
    elim c.if-next-line.branch [
      | then-next-line w ↦ front_at (front_stays l f (omega arith) (omega arith)) w.lengths-is w.rest-is
      | else-next-line w ↦ front_at (front_carries l f (omega arith) (omega arith)) w.lengths-is w.rest-is
    ]

pub returns : goal.returns
returns c = front_end c.loop-length.invariant (omega arith)
