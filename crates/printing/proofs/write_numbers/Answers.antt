use Rattle.printing.proofs.Batches.{one_more, parted}
use Rattle.printing.proofs.write_numbers.Goals as goal

pub loop-rest-preserved : goal.loop-rest-preserved
loop-rest-preserved g c =
    let p = c.loop-rest.invariant in
    one_more (g.W.Write.contents c.args.out.now) (g.W.Write.contents c.loop-rest.out) (g.W.Write.contents c.write_batch.new.out) p.0 _ _ c.loop-rest.rest.now c.args.numbers.now p.1 p.2
    c.in_ok-write_batch.ensures (parted c.min-n.result c.loop-rest.rest.now)
