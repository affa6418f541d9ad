use Rattle.std.proofs.Common.{ap, ◌∙◌}
use lib.IntN.{nat_abs}
use mir.Syntax.{w64}
use mir.ValLaws.{to_z-of_z}
use Rattle.printing.proofs.Pushed.{plain, negative}
use Rattle.printing.proofs.push_sign_and_digits.Goals.{then-n-lt0, else-n-lt0}
use Rattle.printing.proofs.push_sign_and_digits.Goals as goal

pub returns-clause-bytes : goal.returns-clause-bytes
returns-clause-bytes g c =
    let same = to_z-of_z w64 c.args.n c.ranges.n in
    let put = rw (c.unsigned_abs.ensures.value ∙ ap nat_abs same) at c.push_each_digit.ensures in
    elim c.if-n-lt0.branch [
      | then-n-lt0 w ↦ negative _ c.args.n _ _ _ (rw same at w.if-n-lt0.true) w.push_byte.ensures (rw w.text-is at put)
      | else-n-lt0 w ↦ plain _ c.args.n _ _ (rw same at w.if-n-lt0.false) (rw w.text-is at put)
    ]
