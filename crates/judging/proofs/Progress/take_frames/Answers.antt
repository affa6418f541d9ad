use mathlib.Core.List.{[]}
use Prim.Native.Nat.{◌+◌, ◌≤◌, ◌<◌}
use native.Mathlib.Omega.{arith}
use lib.ListN.{length, drop, length-drop}
use borrow.Author.Rules.{rules}
use Rattle.streaming.proofs.Work.{none_from, then_from}
use Rattle.carrying.specs.Kept.{most}
use Rattle.carrying.proofs.Kept.{kept_few, none_kept}
use Rattle.replying.specs.Sheet.{judging}
use Rattle.replying.proofs.Claims.{reads, Begins}
use Rattle.judging.proofs.Piece.{room, frame_at, frame_taken}
use Rattle.judging.proofs.Progress.take_frames.Goals as goal
use Rattle.judging.proofs.Progress.take_frames.Goals.{In-Some}

pub returns-then-self-ne0 : goal.returns-then-self-ne0
returns-then-self-ne0 c = none_from judging most tt _ _ _ (omega arith) (kept_few c.args.self.state (search rules)) (omega arith)

pub loop-number-init : goal.loop-number-init
loop-number-init c = none_from judging most tt [] _ _ (omega arith) (omega arith) (omega arith)

-- the frame at the place
found : (c : In-Some) → Begins (drop c.loop-number.consumed c.args.input.now) c.in-Some.number
found c = frame_at c.args.input.now _ c.loop-number.consumed c.in-Some.number c.in-Some.ensures (omega arith)

-- where the frame ends, and room for its answer
fits : (c : In-Some) → (c.loop-number.consumed + 16 < length c.args.input.now) × (c.loop-number.written + 3 ≤ length c.loop-number.out)
fits c =
    let h = (found c).within in
    let d = length-drop c.loop-number.consumed c.args.input.now in
    (omega arith, omega (arith, room (omega arith) c.loop-number.invariant))

pub put-requires : goal.put-requires
put-requires c = omega (arith, fits (goal.at.put-requires c).In-Some)

pub loop-number-smaller : goal.loop-number-smaller
loop-number-smaller c = omega (arith, fits (goal.at.loop-number-smaller c).In-Some)

pub loop-number-preserved : goal.loop-number-preserved
loop-number-preserved c =
    let f = (goal.at.loop-number-preserved c).In-Some in
    then_from judging most (omega arith) reads (omega arith) c.loop-number.invariant
    (frame_taken (omega (arith, fits f)) (found f) c.put.ensures (omega arith) (omega arith) (omega arith))

pub returns : goal.returns
returns c = rw (none_kept c.args.self.state (omega arith)) c.loop-number.invariant
