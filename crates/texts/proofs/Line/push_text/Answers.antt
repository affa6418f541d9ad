use native.Mathlib.Omega.{arith}
use Rattle.texts.proofs.Lines.{nothing, next, all}
use Rattle.texts.proofs.Line.push_text.Goals as goal

pub loop-byte-init : goal.loop-byte-init
loop-byte-init c = nothing c.min-self.ensures

pub loop-byte-preserved : goal.loop-byte-preserved
loop-byte-preserved c = next c.args.text.now c.loop-byte.byte-index c.loop-byte.invariant (omega arith) c.push.ensures

pub returns : goal.returns
returns c = all c.args.text.now _ c.loop-byte.invariant (omega arith)
