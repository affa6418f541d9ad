use Rattle.asking.proofs.Arms.{first_early, first_later}
use Rattle.listing.proofs.first_year.Goals as goal

-- `listing::first_year` meets its contract.
pub returns-then-c : goal.returns-then-c
returns-then-c c = first_early c.args.c c.if-c.true

pub returns : goal.returns
returns c = first_later c.args.c c.if-c.false
