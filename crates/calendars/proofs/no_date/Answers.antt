use Rattle.std.proofs.Common.{◌≡◌, sym, ◌∙◌, ℕ, Bool, true, arith}
use borrow.Author.Tests.{lt-ltb, le-ltb}
use Rattle.counting.specs.Answers.{Calendar, no_date_answer, last_day, last_of}
use Rattle.calendar_rules.specs.Calendars.{Listed}
use Rattle.calendar_rules.specs.Answers.{date_answer}
use Rattle.asking.specs.Steps.{listed, why_not}
use Rattle.asking.proofs.Answers.{date_refused}
use Rattle.asking.proofs.Arms.{listed_some}
use Rattle.calendars.proofs.no_date.Goals as goal

-- why there is no date in a calendar that is listed
why : (n day : ℕ) {b : Bool} → (date_answer n day).month ≡ 0 → b ≡ listed n → b ≡ true
    → (K : Calendar) × Listed n K × (no_date_answer (why_not K day) ≡ date_answer n day)
why n day z e t = let f = listed_some n (sym e ∙ t) in (f.0, f.1, (date_refused n day z).1 f.0 f.1)

pub returns-then-day-gt-LAST_DAY : goal.returns-then-day-gt-LAST_DAY
returns-then-day-gt-LAST_DAY c =
    let f = why c.args.calendar c.args.day c.requires c.is_listed.ensures c.if-not-is_listed.false in
    rw (lt-ltb last_day c.args.day c.if-day-gt-LAST_DAY.true) at f.2

pub returns-then-last_day-day : goal.returns-then-last_day-day
returns-then-last_day-day c =
    let f = why c.args.calendar c.args.day c.requires c.is_listed.ensures c.if-not-is_listed.false in
    let e = c.last_day.ensures.1 f.0 f.1 in
    rw (le-ltb last_day c.args.day c.if-day-gt-LAST_DAY.false, lt-ltb (last_of f.0) c.args.day (omega arith)) at f.2

pub returns : goal.returns
returns c =
    let f = why c.args.calendar c.args.day c.requires c.is_listed.ensures c.if-not-is_listed.false in
    let e = c.last_day.ensures.1 f.0 f.1 in
    rw (le-ltb last_day c.args.day c.if-day-gt-LAST_DAY.false, le-ltb (last_of f.0) c.args.day (omega arith)) at f.2
