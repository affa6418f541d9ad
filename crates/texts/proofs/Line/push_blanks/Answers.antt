use mathlib.Core.Path.{subst}
use Prim.Native.Nat.{ℕ}
use native.Mathlib.Numerals.{add-one}
use native.Mathlib.Omega.{arith}
use Rattle.texts.specs.Columns.{blanks}
use Rattle.texts.specs.Lines.{Adds}
use Rattle.texts.proofs.Lines.{nothing, then}
use Rattle.texts.proofs.Line.push_blanks.Goals as goal

pub loop-init : goal.loop-init
unfolding blanks
loop-init c = nothing c.min-self.ensures

pub loop-preserved : goal.loop-preserved
unfolding blanks
loop-preserved c = rw add-one (then c.loop.invariant c.push.ensures)

pub returns : goal.returns
returns c = subst (λ (n : ℕ). Adds (blanks n) c.args.self.now c.loop.self) (omega (arith, c.saturating_sub-end.ensures)) c.loop.invariant
