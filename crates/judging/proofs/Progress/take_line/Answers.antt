use mathlib.Core.Path.{refl}
use Prim.Native.Nat.{◌+◌, ◌<◌}
use native.Mathlib.Omega.{arith}
use lib.ListN.{length}
use Rattle.streaming.specs.Work.{WorkedFrom}
use Rattle.streaming.proofs.Work.{then_from}
use Rattle.carrying.specs.Kept.{most, kept_of}
use Rattle.replying.specs.Sheet.{judging}
use Rattle.replying.proofs.Claims.{reads}
use Rattle.judging.proofs.Piece.{line_taken, line_ends, newline_taken}
use Rattle.judging.proofs.Progress.take_line.Goals as goal
use Rattle.judging.proofs.Progress.take_line.Goals.{After-go_on-part}

-- the line as far as the input has it
line : (c : After-go_on-part)
    → let p = c.args.self in
    let r = c.go_on-part.result in
    WorkedFrom judging most c.args.input.now p.consumed (p.consumed + r.end) tt (kept_of p.state) c.args.out.now p.written tt (kept_of r.line)
    c.args.out.now p.written
line c =
    let p = c.args.self in
    line_taken p.state c.args.input.now p.consumed _ c.go_on-part.result c.go_on-part.ensures refl _ _ (omega arith) (omega arith)

pub overflow_add-end : goal.overflow_add-end
overflow_add-end c = omega (arith, (line (goal.at.overflow_add-end c).After-go_on-part).within)

pub returns-then-end-input-clause-takes_from : goal.returns-then-end-input-clause-takes_from
returns-then-end-input-clause-takes_from c = line (goal.at.returns-then-end-input-clause-takes_from c).After-go_on-part

pub overflow_add-result : goal.overflow_add-result
overflow_add-result c = omega (arith, (line (goal.at.overflow_add-result c).After-go_on-part).within)

pub returns-clause-takes_from : goal.returns-clause-takes_from
returns-clause-takes_from c =
    let a = c.args in
    let p = a.self in
    let g = c.go_on-part in
    let end = p.consumed + g.result.end in
    let l = line (goal.at.returns-clause-takes_from c).After-go_on-part in
    let h : end < length a.input.now = omega (arith, l.within) in
    then_from judging most (omega arith) reads (omega arith) l
    (rw c.new.ensures
    (newline_taken h (line_ends p.state a.input.now p.consumed end g.result g.ensures refl h) c.kept_number.ensures c.put.ensures (omega arith)
    (omega arith) (omega arith)))
