use native.Mathlib.Omega.{arith}
use borrow.Author.Rules.{rules}
use Rattle.streaming.proofs.Work.{none_from, then_from}
use Rattle.carrying.specs.Kept.{most, kept_of}
use Rattle.carrying.proofs.Kept.{kept_few}
use Rattle.replying.specs.Sheet.{judging}
use Rattle.replying.proofs.Claims.{reads}
use Rattle.judging.specs.Inner.{TakesFrom}
use Rattle.judging.proofs.Piece.{room}
use Rattle.judging.proofs.judge_all.Goals as goal
use Rattle.judging.proofs.judge_all.Goals.{After-take_frames-progress}

pub loop-progress-init : goal.loop-progress-init
loop-progress-init c =
    none_from judging most tt (kept_of c.args.start) _ 0 (omega arith) (kept_few c.args.start (search rules)) (omega arith)

pub take_frames-progress-requires-clause-room : goal.take_frames-progress-requires-clause-room
take_frames-progress-requires-clause-room c = room (omega arith) c.loop-progress.invariant

-- the frames taken
frames : (c : After-take_frames-progress)
    → let r = c.take_frames-progress in
    TakesFrom (record { state = c.args.start; consumed = 0; written = 0 }) c.args.input.now c.args.out.now r.result r.new.out
frames c = then_from judging most (omega arith) reads (omega arith) c.loop-progress.invariant c.take_frames-progress.ensures

pub take_line-progress-requires-clause-room : goal.take_line-progress-requires-clause-room
take_line-progress-requires-clause-room c =
    room (omega arith) (frames (goal.at.take_line-progress-requires-clause-room c).After-take_frames-progress)

pub loop-progress-preserved-then-progress-input : goal.loop-progress-preserved-then-progress-input
loop-progress-preserved-then-progress-input c =
    then_from judging most (omega arith) reads (omega arith) (frames (goal.at.loop-progress-preserved-then-progress-input c).After-take_frames-progress)
    c.take_line-progress.ensures.takes_from

pub loop-progress-preserved : goal.loop-progress-preserved
loop-progress-preserved c = frames (goal.at.loop-progress-preserved c).After-take_frames-progress
