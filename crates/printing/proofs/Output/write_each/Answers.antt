use Rattle.std.proofs.Common.{sym, ◌∙◌}
use borrow.Author.Tests.{eqb-true}
use lib.ListN.{length}
use Rattle.printing.proofs.Claims.{all_taken}
use Rattle.printing.proofs.Output.write_each.Goals as goal

pub returns-clause-bytes : goal.returns-clause-bytes
returns-clause-bytes g c =
    all_taken c.args.self.now.waiting c.loop-rest.self.waiting c.args.bytes.now c.loop-rest.rest.now c.loop-rest.invariant.0 c.loop-rest.invariant.3
    (eqb-true (length c.loop-rest.rest.now) 0 (sym c.is_empty.ensures ∙ c.loop-rest-test.false))
