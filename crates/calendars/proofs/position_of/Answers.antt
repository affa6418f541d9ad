use Rattle.std.proofs.Common.{◌≡◌, sym, ap, ℕ, true, false, nat_eq, Option, Some, None, is_some}
use Rattle.std.proofs.lemmas.Bool.{eqb-true, eqb-false}
use Rattle.std.specs.Option.{option_eq}
use Rattle.std.specs.Prelude.{unwrap_or}
use mathlib.Core.Bool.{true≢false}
use mir.Syntax.{w64}
use mir.ValLaws.{to_z-of_z}
use Rattle.asking.proofs.Answers.{strip_there, month_there}
use Rattle.calendars.proofs.position_of.Goals as goal

-- a strip that was compared
same : (strip : Option ℕ) {p : ℕ} → true ≡ option_eq nat_eq strip (Some p) → strip ≡ Some p
same None e = absurd (true≢false e)
same (Some q) {p} e = ap Some (eqb-true q p (sym e))

other : (strip : Option ℕ) {p : ℕ} → false ≡ option_eq nat_eq strip (Some p) → strip ≡ Some p → ⊥
other None e h = true≢false (sym (ap is_some h))
other (Some q) {p} e h = eqb-false q p (sym e) (ap (λ (o : Option ℕ). unwrap_or o 0) h)

pub returns-then-is_strip : goal.returns-then-is_strip
returns-then-is_strip c =
    strip_there c.args.calendar c.args.year c.args.position (rw (to_z-of_z w64 c.args.year c.ranges.year) at c.in-Some.ensures) c.strip.ensures
    (same c.strip.result c.if-is_strip.ensures)

pub returns : goal.returns
returns c =
    month_there c.args.calendar c.args.year c.args.position (rw (to_z-of_z w64 c.args.year c.ranges.year) at c.in-Some.ensures) c.strip.ensures
    (other c.strip.result c.if-is_strip.ensures)
