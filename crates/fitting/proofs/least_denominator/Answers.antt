use mathlib.Core.Path.{ap, refl, ◌∙◌}
use Prim.Native.Nat.{◌<◌, max}
use native.Mathlib.Omega.{arith}
use lib.ListN.{length}
use Rattle.fitting.proofs.Search.{none_tried, begun, hit, next, fails_above, fails_below, small, slope_small, miss}
use Rattle.fitting.proofs.least_denominator.Goals as goal
use Rattle.fitting.proofs.least_denominator.Goals.{then-tried-n, else-tried-n+then-k-n}

pub denominators-init : goal.denominators-init
denominators-init c = none_tried _ (omega arith) (omega arith)

pub overflow_add-a : goal.overflow_add-a
overflow_add-a c =
    let h : c.denominators.tried < length c.args.code.now = omega arith in
    omega (arith, slope_small _ c.requires c.denominators.invariant h)

pub loop-k-init : goal.loop-k-init
loop-k-init c = begun _ c.denominators.invariant (omega arith) (omega arith) (omega arith)

pub overflow_add-y : goal.overflow_add-y
overflow_add-y c = omega (arith, small _ c.loop-k.invariant (omega arith) c.requires)

pub overflow_add-reach : goal.overflow_add-reach
overflow_add-reach c = omega (arith, small _ c.loop-k.invariant (omega arith) c.requires)

pub overflow_mul-level : goal.overflow_mul-level
overflow_mul-level c = omega (arith, small _ c.loop-k.invariant (omega arith) c.requires)

pub overflow_add-top : goal.overflow_add-top
overflow_add-top c = omega (arith, small _ c.loop-k.invariant (omega arith) c.requires)

pub overflow_add-reach-in-loop-k : goal.overflow_add-reach-in-loop-k
overflow_add-reach-in-loop-k c = omega (arith, small _ c.loop-k.invariant (omega arith) c.requires)

pub denominators-preserved-then-top-reach : goal.denominators-preserved-then-top-reach
denominators-preserved-then-top-reach c = fails_above _ c.loop-k.invariant (omega arith) (omega arith)

pub overflow_add-reach-in-loop-k-2 : goal.overflow_add-reach-in-loop-k-2
overflow_add-reach-in-loop-k-2 c = omega (arith, small _ c.loop-k.invariant (omega arith) c.requires)

pub denominators-preserved : goal.denominators-preserved
denominators-preserved c = fails_below _ c.loop-k.invariant (omega arith) (omega arith)

pub loop-k-preserved : goal.loop-k-preserved
loop-k-preserved c =
    next _ c.loop-k.invariant (omega arith) (omega arith) (omega arith) _ _
    (c.max-low.ensures ∙ ap (max c.loop-k.low) c.saturating_sub.ensures)
    c.min-high.ensures

pub returns-in_default : goal.returns-in_default
returns-in_default c =
    elim c.if-tried-n.branch [
      | then-tried-n w ↦ miss _ c.requires c.denominators.invariant (omega arith) refl
      | else-tried-n+then-k-n w ↦ absurd (c.in_default.not-Some _ w.denominator-is)
    ]

pub returns : goal.returns
returns c =
    elim c.if-tried-n.branch [
      | then-tried-n w ↦ cc
      | else-tried-n+then-k-n w ↦ hit _ w.loop-k.invariant c.requires (omega arith) w.a-is (cc) w.low-is
    ]
