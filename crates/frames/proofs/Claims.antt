-- What is proved of the fields of a frame: the page to read first. It rests on specs/Frame.antt (the fields, reading, writing)
-- and `Rattle.hex_digits.specs.Digits` (digits).
use mathlib.Core.Path.{◌≡◌, refl, sym, ap, ◌∙◌, subst}
use mathlib.Core.List.{List}
use mathlib.Core.Bool.{Bool, true, false, cond}
use Prim.Native.Nat.{ℕ, ◌^◌, ◌<◌}
use native.Mathlib.Nat.{mod-eq_of_lt}
use native.Mathlib.Omega.{arith}
use Rattle.std.specs.Prelude.{Some, None}
use Rattle.hex_digits.specs.Digits.{sixteen_digits, number_in, written_in}
use Rattle.hex_digits.proofs.Claims.{sixteen_parts, written_sixteen}
use Rattle.hex_digits.proofs.Laws.{number_most, read_written, written_read, field_most}
use Rattle.frames.specs.declared.Frame.{Frame}
use Rattle.frames.specs.Frame.{fields_of, reading_of, frame_of}
use Rattle.frames.specs.Inner.{parts_of, packed}
use Rattle.frames.proofs.Numbers.{Narrow, fields_parts, packed_parts, parts_packed, frame_written, reads_frame}

-- ---- what reading answers: fields come from exactly 16 digits, and are theirs

pub is_fields : (line : List ℕ) (f : Frame) → Some f ≡ reading_of line → (sixteen_digits line ≡ true) × (f ≡ fields_of line)
unfolding reading_of
is_fields line f = go (sixteen_digits line)
  where
    go : (c : Bool) → Some f ≡ cond c (Some (fields_of line)) None → (c ≡ true) × (f ≡ fields_of line)
    go true e = (refl, cc)
    go false e = cc

pub is_malformed : (line : List ℕ) → None ≡ reading_of line → sixteen_digits line ≡ false
unfolding reading_of
is_malformed line = go (sixteen_digits line)
  where
    go : (c : Bool) → None ≡ cond c (Some (fields_of line)) None → c ≡ false
    go true e = cc
    go false e = refl

-- each has room in its digits
pub narrow : (line : List ℕ) → sixteen_digits line ≡ true → Narrow (fields_of line)
unfolding fields_of
narrow line h =
    let a = (sixteen_parts line h).1 in
    let field = field_most line in
    record { calendar = field 0 2 a; year = field 2 4 a; month = field 6 2 a; day = field 8 2 a; number = field 10 6 a }

pub read_narrow : (line : List ℕ) (f : Frame) → Some f ≡ reading_of line → Narrow f
read_narrow line f e = let r = is_fields line f e in subst Narrow (sym r.1) (narrow line r.0)

-- ---- writing

-- what is written is a frame
pub writes_a_frame : (f : Frame) → sixteen_digits (frame_of f) ≡ true
writes_a_frame f = ap sixteen_digits (frame_written f) ∙ written_sixteen (packed f)

-- reading what was written gives the fields, where each has room
pub reading_the_written : (f : Frame) → Narrow f → reading_of (frame_of f) ≡ Some f
reading_the_written f h =
    reads_frame (frame_of f) (writes_a_frame f)
    ∙ ap Some (fields_parts (frame_of f) (writes_a_frame f)
    ∙ ap parts_of (ap number_in (frame_written f) ∙ read_written 16 (packed f) ∙ mod-eq_of_lt (omega arith))
    ∙ parts_packed f h)

-- and writing what was read gives the same bytes
pub writing_the_read : (line : List ℕ) → sixteen_digits line ≡ true → frame_of (fields_of line) ≡ line
writing_the_read line h =
    let p = sixteen_parts line h in
    let small : number_in line < 16 ^ 16 = subst (λ (k : ℕ). number_in line < 16 ^ k) p.0 (number_most line p.1) in
    frame_written (fields_of line)
    ∙ ap (λ (f : Frame). written_in 16 (packed f)) (fields_parts line h)
    ∙ ap (written_in 16) (packed_parts (number_in line) small)
    ∙ ap (λ (k : ℕ). written_in k (number_in line)) (sym p.0)
    ∙ written_read line p.1
