use Rattle.std.proofs.Common.{refl, arith}
use Rattle.calendar_rules.specs.Calendars.{lookup, calendar}
use Rattle.calendar_rules.proofs.Listed.{not_listed}
use Rattle.listing.proofs.CalendarTryFromU64.try_from.Goals as goal

pub returns-in-1 : goal.returns-in-1
unfolding calendar lookup
returns-in-1 c = rw c.in-1.is refl

pub returns-in-2 : goal.returns-in-2
unfolding calendar lookup
returns-in-2 c = rw c.in-2.is refl

pub returns-in-3 : goal.returns-in-3
unfolding calendar lookup
returns-in-3 c = rw c.in-3.is refl

pub returns-in-4 : goal.returns-in-4
unfolding calendar lookup
returns-in-4 c = rw c.in-4.is refl

pub returns-in-5 : goal.returns-in-5
unfolding calendar lookup
returns-in-5 c = rw c.in-5.is refl

pub returns-in-6 : goal.returns-in-6
unfolding calendar lookup
returns-in-6 c = rw c.in-6.is refl

pub returns-in-7 : goal.returns-in-7
unfolding calendar lookup
returns-in-7 c = rw c.in-7.is refl

pub returns-in-8 : goal.returns-in-8
unfolding calendar lookup
returns-in-8 c = rw c.in-8.is refl

pub returns-in-9 : goal.returns-in-9
unfolding calendar lookup
returns-in-9 c = rw c.in-9.is refl

pub returns-in-10 : goal.returns-in-10
unfolding calendar lookup
returns-in-10 c = rw c.in-10.is refl

pub returns-in-11 : goal.returns-in-11
unfolding calendar lookup
returns-in-11 c = rw c.in-11.is refl

pub returns-in-12 : goal.returns-in-12
unfolding calendar lookup
returns-in-12 c = rw c.in-12.is refl

pub returns-in-13 : goal.returns-in-13
unfolding calendar lookup
returns-in-13 c = rw c.in-13.is refl

pub returns-in-14 : goal.returns-in-14
unfolding calendar lookup
returns-in-14 c = rw c.in-14.is refl

pub returns-in-15 : goal.returns-in-15
unfolding calendar lookup
returns-in-15 c = rw c.in-15.is refl

pub returns-in-18 : goal.returns-in-18
unfolding calendar lookup
returns-in-18 c = rw c.in-18.is refl

pub returns-in_default : goal.returns-in_default
returns-in_default c = (refl, not_listed c.args.number (omega arith))
