use mathlib.Core.Path.{refl}
use mathlib.Core.List.{[], ◌∷◌}
use native.Mathlib.Omega.{arith}
use lib.ListN.{length-set}
use Rattle.texts.proofs.Writing.{one_byte, no_room}
use Rattle.texts.proofs.Line.push.Goals as goal

pub returns-then-self : goal.returns-then-self
returns-then-self c =
    let l = c.args.self.now in
    record { same = refl; writes = one_byte l.end c.args.byte l.buffer.now (omega (arith, c.if-self.true)); fits = omega (arith, length-set l.buffer.now l.end c.args.byte, c.if-self.true) }

pub returns-else-self : goal.returns-else-self
returns-else-self c =
    let l = c.args.self.now in
    record { same = refl; writes = no_room l.end (c.args.byte ∷ []) l.buffer.now (omega (arith, c.if-self.false)); fits = omega arith }
