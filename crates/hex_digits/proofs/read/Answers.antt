use mathlib.Core.Path.{refl, sym, ap, ◌∙◌}
use Prim.Native.Nat.{ℕ, ◌%◌}
use native.Mathlib.Omega.{arith}
use lib.ListN.{length}
use borrow.Author.Tests.{ne_eqb}
use Rattle.hex_digits.specs.Digits.{all_digits, sixteen_digits, number_from, hex_byte}
use Rattle.hex_digits.specs.Read.{digits_of}
use Rattle.hex_digits.proofs.Reading.{next, fits, whole}
use Rattle.hex_digits.proofs.read.Goals as goal

pub returns-then-line-ne16 : goal.returns-then-line-ne16
unfolding digits_of sixteen_digits
returns-then-line-ne16 c = rw (ne_eqb (length c.args.line.now) 16 c.if-line-ne16.true)

pub loop-b-init : goal.loop-b-init
unfolding all_digits number_from
loop-b-init c = record { most = omega arith; small = omega arith; digits = refl; value = λ y. refl }

pub overflow_mul-n : goal.overflow_mul-n
overflow_mul-n c = omega (arith, fits 0 c.loop-b.invariant (omega arith) (omega arith))

pub overflow_add-n : goal.overflow_add-n
overflow_add-n c = omega (arith, fits c.from.result c.loop-b.invariant (omega arith) (omega (arith, c.digit-d.ensures)))

pub loop-b-preserved : goal.loop-b-preserved
loop-b-preserved c =
    next c.if-line-ne16.false c.loop-b.invariant (omega arith) (omega (arith, c.type_inv.line c.loop-b.b-index)) (c.from.ensures ∙ c.digit-d.ensures)
    (c.byte.ensures ∙ ap (λ (x : ℕ). hex_byte (x % 16)) (sym c.from.ensures)) refl refl refl

pub returns : goal.returns
returns c = c.then_some.ensures ∙ whole c.loop-b.invariant c.if-line-ne16.false c.loop-b-test.false
