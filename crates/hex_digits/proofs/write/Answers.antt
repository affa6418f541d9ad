use mathlib.Core.Path.{◌≡◌, refl, ap, ◌∙◌, subst}
use mathlib.Core.List.{◌++◌}
use Prim.Native.Nat.{ℕ}
use native.Mathlib.Omega.{arith}
use native.Mathlib.Nat.{mod-mod}
use lib.ListN.{drop}
use Rattle.hex_digits.specs.Digits.{hex_byte, written_in}
use Rattle.hex_digits.proofs.Writing.{next}
use Rattle.hex_digits.proofs.write.Goals as goal

pub loop-k-preserved : goal.loop-k-preserved
loop-k-preserved c = next c.loop-k.invariant (omega arith) (c.byte.ensures ∙ ap hex_byte (mod-mod c.loop-k.rest 16)) refl refl

pub returns : goal.returns
unfolding written_in
returns c =
    let l = c.loop-k in
    let k : l.k ≡ 0 = omega arith in
    subst (λ (k : ℕ). written_in k l.rest ++ drop k l.out ≡ written_in 16 c.args.n) k l.invariant.all
