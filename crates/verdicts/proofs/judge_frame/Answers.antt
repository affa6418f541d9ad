use mathlib.Core.Path.{◌≡◌, sym, ap, ◌∙◌}
use Prim.Native.Nat.{ℕ, min}
use native.Mathlib.Omega.{arith}
use lib.IntN.{ℤ, pos, ◌-ℤ◌}
use mir.Syntax.{w64}
use mir.Val.{to_z, of_z}
use mir.ValLaws.{to_z-of_z}
use Rattle.counting.specs.Answers.{DayAnswer}
use Rattle.calendar_rules.specs.Answers.{day_answer_with}
use Rattle.frames.specs.declared.Frame.{Frame}
use Rattle.frames.proofs.Years.{small}
use Rattle.verdicts.specs.Verdict.{against, verdict_on}
use Rattle.verdicts.proofs.Verdicts.{same_day, other_day, refused, held}
use Rattle.verdicts.proofs.judge_frame.Goals as goal

-- the verdict, once it is known what date to day answers for the year that is handed on
answered : (f : Frame) (y : ℤ) (a : DayAnswer) → y ≡ pos (min f.year 65536) -ℤ pos 4712
    → a ≡ day_answer_with f.calendar (to_z w64 (of_z w64 y)) f.month f.day 0 → verdict_on f ≡ against a f.number
unfolding verdict_on
answered f y a e h =
    let year : to_z w64 (of_z w64 y) ≡ pos (min f.year 65536) -ℤ pos 4712 =
    rw e (to_z-of_z w64 _ (small (min f.year 65536) 4711 (omega arith) (omega arith))) in
    ap (λ (x : DayAnswer). against x f.number) (sym (held f.calendar f.year f.month f.day) ∙ sym (rw year at h))

pub returns-then-day-frame : goal.returns-then-day-frame
returns-then-day-frame c =
    let f = c.args.frame in
    sym
    (answered f _ _ c.year_of.ensures c.in-Ok.ensures
    ∙ ap (λ (n : ℕ). against (record { number = 0; day = n }) f.number) c.if-day-frame.true
    ∙ same_day f.number)

pub returns-else-day-frame : goal.returns-else-day-frame
returns-else-day-frame c = sym (answered c.args.frame _ _ c.year_of.ensures c.in-Ok.ensures ∙ other_day _ _ c.if-day-frame.false)

pub returns-in-Err : goal.returns-in-Err
returns-in-Err c = sym (answered c.args.frame _ _ c.year_of.ensures c.in-Err.ensures ∙ refused c.in-Err.why c.args.frame.number)
