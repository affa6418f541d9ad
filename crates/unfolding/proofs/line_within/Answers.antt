use mathlib.Core.Path.{◌≡◌}
use mathlib.Core.Bool.{false}
use native.Mathlib.Omega.{arith}
use borrow.Author.Tests.{tests, leb-true, leb-false}
use Rattle.std.proofs.Common.{rules}
use Rattle.basics.proofs.Cases.{same_test}
use Rattle.lines.specs.Unfold.{line_within}
use Rattle.lines.proofs.Unfolding.{line_is, line_not}
use Rattle.unfolding.proofs.line_within.Goals as goal

pub returns-then-line : goal.returns-then-line
returns-then-line c =
    same_test _ _
    (λ e. (line_is _ _ _).1 (record { proper = omega arith; few = omega arith; low = omega arith; flat = omega (arith, leb-true) }))
    (λ e. (line_not _ _ _).1 (λ h. omega (arith, leb-false, h.flat)))

pub returns-else-line : goal.returns-else-line
returns-else-line c =
    let outside : line_within c.args.line.a c.args.line.b c.args.line.r ≡ false =
    (line_not _ _ _).1 (λ h. grind (arith, tests, h.proper, h.few, h.low)) in
    search (rules, tests, outside)
