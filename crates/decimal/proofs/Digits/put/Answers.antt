use mathlib.Core.Path.{◌≡◌, ◌∙◌}
use Prim.Native.Nat.{suc, ◌-◌}
use native.Mathlib.Omega.{arith}
use lib.ListN.{length-set}
use Rattle.decimal.proofs.Loops.{before, shorter, last, next}
use Rattle.decimal.proofs.Digits.put.Goals as goal

pub loop-rest-preserved : goal.loop-rest-preserved
loop-rest-preserved c =
    let l = c.loop-rest in
    let bytes = l.self-inside.bytes in
    let w = l.invariant.0 in
    let many = c.loop-rest-test.true in
    let e : suc (l.start - 1) ≡ l.start = omega (arith, before l.start l.rest w.room many) in (
      rw e
          (record {
            size = length-set bytes l.start _ ∙ w.size;
            all = next l.start w (omega (arith, w.size, l.invariant.1)) (λ z. omega (arith, z, many));
            room = shorter l.start l.rest w.room;
          }),
      omega (arith, l.invariant.1),
    )

pub returns : goal.returns
returns c = let l = c.loop-rest in let w = l.invariant.0 in last l.start w (omega (arith, w.size, l.invariant.1)) (omega (arith, c.loop-rest-test.false))
