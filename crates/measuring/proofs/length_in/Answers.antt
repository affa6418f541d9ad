use Rattle.std.proofs.Common.{refl, arith}
use Rattle.calendar_rules.specs.Calendars.{julian, gregorian, lookup, calendar}
use Rattle.asking.proofs.Arms.{from_first, from_1, too_early}
use Rattle.measuring.proofs.length_in.Goals as goal

pub returns-then-c : goal.returns-then-c
unfolding calendar lookup
returns-then-c c = from_first c.args.y c.requires 10 julian c.if-c.true refl refl c.length_of.ensures

pub returns-then-c-2 : goal.returns-then-c-2
unfolding calendar lookup
returns-then-c-2 c = from_first c.args.y c.requires 11 gregorian c.if-c-2.true refl refl c.length_of-then-c-2.ensures

pub returns-in_err-i : goal.returns-in_err-i
returns-in_err-i c = too_early c.args.y c.requires c.from_residual.ensures c.if-c.false c.if-c-2.false (omega (arith, c.in_err-i.ensures))

pub returns : goal.returns
returns c =
    let i = c.in_ok-i.ensures in
    from_1 c.args.y c.requires c.if-c.false c.if-c-2.false (omega (arith, i.0)) (rw i.1 at c.length_by_number.ensures)
