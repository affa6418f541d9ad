use mathlib.Core.Path.{◌≡◌, refl, ◌∙◌}
use mathlib.Core.Logic.{⊎_elim}
use Prim.Native.Nat.{ℕ, ◌*◌, ◌^◌, ◌<◌}
use native.Mathlib.Omega.{arith}
use borrow.Author.Tests.{lt-ltb, le-ltb}
use Rattle.basics.proofs.Order.{le_or_lt}
use Rattle.counting.specs.Answers.{last_day}
use Rattle.calendar_rules.specs.Calendars.{republican}
use Rattle.calendar_rules.proofs.Ends.{listed_7}
use Rattle.asking.specs.Steps.{in_range, try_end, end_tried}
use Rattle.asking.proofs.Answers.{end_of_7}
use Rattle.numbering.proofs.before_end.Goals as goal

-- a day after the end, out of range or not
after_end : (n : ℕ) → 2380687 < n → 17 * 2 ^ 32 ≡ end_tried 7 (in_range n)
unfolding try_end
after_end n h =
    ⊎_elim (λ k. rw (lt-ltb last_day n k) (end_of_7 21474836480 refl))
    (λ k. rw (le-ltb last_day n (omega arith)) (rw (lt-ltb 2380687 n h, lt-ltb n 4294967296 (omega arith)) refl ∙ end_of_7 n refl))
    (le_or_lt 5373485 n)

pub returns-then-last_day-n : goal.returns-then-last_day-n
returns-then-last_day-n c =
    let e = after_end c.args.n (omega (arith, c.last_day.ensures.1 republican listed_7, c.if-last_day-n.true)) in
    omega (arith, e)

pub returns : goal.returns
unfolding try_end
returns c =
    let n = c.args.n in
    let h : n < 2380688 = omega (arith, c.last_day.ensures.1 republican listed_7, c.if-last_day-n.false) in
    rw (le-ltb last_day n (omega arith)) (rw (le-ltb 2380687 n (omega arith)) refl ∙ end_of_7 n refl)
