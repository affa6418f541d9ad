use mathlib.Core.Path.{◌≡◌, sym, ap, ◌∙◌}
use mathlib.Core.List.{List, ◌∷◌}
use Prim.Native.Nat.{ℕ, suc, ◌-◌, ◌^◌, ◌≤◌}
use native.Mathlib.Omega.{arith}
use lib.IntN.{nat_abs}
use lib.ListN.{length, drop, length-drop}
use borrow.Author.Rules.{rules}
use mir.Syntax.{w64}
use mir.ValLaws.{to_z-of_z}
use Rattle.decimal.specs.Decimal.{text}
use Rattle.decimal.proofs.Laws.{length_fewest, negative_text}
use Rattle.decimal.proofs.Loops.{placed}
use Rattle.decimal.proofs.Digits.put_signed.Goals as goal

-- the digits of a distance leave room for the sign
leaves_room : (bytes : List ℕ) (start distance : ℕ) → drop start bytes ≡ text distance → distance ≤ 2 ^ 63 → length bytes ≡ 20 → 1 ≤ start
leaves_room bytes start distance e most size =
    omega (arith, length_fewest 20 distance 19 (omega arith) (omega (arith, most)), ap (length {A = ℕ}) e, length-drop start bytes, size)

pub overflow_sub-self : goal.overflow_sub-self
overflow_sub-self c =
    let d = c.self.inside in
    leaves_room d.bytes d.start c.unsigned_abs.result (c.self.view_is ∙ c.put.ensures) c.unsigned_abs.ensures.bound (search rules)

pub returns-then-n-lt0 : goal.returns-then-n-lt0
returns-then-n-lt0 c =
    let n = c.args.n in
    let d = c.self.inside in
    let same = to_z-of_z w64 n c.ranges.n in
    let size : length d.bytes ≡ 20 = search rules in
    let room = leaves_room d.bytes d.start c.unsigned_abs.result (c.self.view_is ∙ c.put.ensures) c.unsigned_abs.ensures.bound size in
    let k : suc (d.start - 1) ≡ d.start = omega (arith, room) in
    placed d.bytes (d.start - 1) 45 (omega (arith, size, c.self.invariant, room))
    ∙ ap (λ (s : List ℕ). 45 ∷ s) (rw k (c.self.view_is ∙ c.put.ensures) ∙ ap text (c.unsigned_abs.ensures.value ∙ ap nat_abs same))
    ∙ sym (negative_text n (rw same at c.if-n-lt0.true))
