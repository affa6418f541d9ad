use Rattle.std.proofs.Common.{refl, arith, None}
use Rattle.counting.specs.Answers.{last_of}
use Rattle.parts.specs.Found.{PlaceTo}
use Rattle.asking.proofs.Arms.{on_arm, off_arm}
use Rattle.asking.proofs.Answers.{late_date, date_found}
use Rattle.dating.proofs.place.Goals as goal

pub returns-then-day-gt-LAST_DAY : goal.returns-then-day-gt-LAST_DAY
returns-then-day-gt-LAST_DAY c = late_date c.args.calendar c.args.day (omega arith)

pub returns-in-Ok : goal.returns-in-Ok
returns-in-Ok c =
    let n = c.args.calendar in
    let day = c.args.day in
    date_found n day _ (on_arm n (λ K. PlaceTo K (last_of K) day _) refl c.in-Ok.ensures c.place_on.ensures)

pub returns-in-Err : goal.returns-in-Err
returns-in-Err c =
    let n = c.args.calendar in
    let day = c.args.day in
    date_found n day _ (off_arm (λ K. PlaceTo K (last_of K) day None) c.in-Err.ensures.1)
