-- A frame's fields and its digits as one number.
use mathlib.Core.Path.{◌≡◌, refl, sym, ap, ◌∙◌}
use mathlib.Core.List.{List, ◌++◌}
use mathlib.Core.Bool.{Bool, true, false, cond}
use Prim.Native.Nat.{ℕ, ◌+◌, ◌*◌, ◌/◌, ◌%◌, ◌^◌, ◌<◌}
use native.Mathlib.Nat.{div-one, div-add-mod', mod-mod, div-div-eq-div-mul}
use native.Mathlib.Omega.{arith}
use Rattle.std.specs.Prelude.{Some, None, option_map}
use Rattle.hex_digits.specs.Digits.{sixteen_digits, number_in, written_in}
use Rattle.hex_digits.specs.Read.{digits_of}
use Rattle.hex_digits.proofs.Claims.{sixteen_parts}
use Rattle.hex_digits.proofs.Laws.{part, written_join, written_low}
use Rattle.frames.specs.declared.Frame.{Frame}
use Rattle.frames.specs.Frame.{fields_of, reading_of, frame_of}
use Rattle.frames.specs.Inner.{parts_of, packed}

-- each field has room in its digits
pub record Narrow (f : Frame) : Type 0 where
  pub calendar : f.calendar < 16 ^ 2
  pub year : f.year < 16 ^ 4
  pub month : f.month < 16 ^ 2
  pub day : f.day < 16 ^ 2
  pub number : f.number < 16 ^ 6

-- a frame by its fields
abbrev frame : ℕ → ℕ → ℕ → ℕ → ℕ → Frame
frame c y m d n = record { calendar = c; year = y; month = m; day = d; number = n }

pub same_frame : {c y m d n c' y' m' d' n' : ℕ} → c ≡ c' → y ≡ y' → m ≡ m' → d ≡ d' → n ≡ n' → frame c y m d n ≡ frame c' y' m' d' n'
same_frame ec ey em ed en = cc

-- the fields of a frame, out of the number that its digits write
pub fields_parts : (line : List ℕ) → sixteen_digits line ≡ true → fields_of line ≡ parts_of (number_in line)
unfolding fields_of
fields_parts line h =
    let p = sixteen_parts line h in
    let a = p.1 in
    let l = p.0 in
    rw (part line 0 2 14 a l, part line 2 4 10 a l, part line 6 2 8 a l, part line 8 2 6 a l, part line 10 6 0 a l, div-one)

-- a number put together of its parts, from the lowest up
together : (n q6 q8 q10 q14 a b c d e : ℕ) → n ≡ q6 * 16 ^ 6 + e → q6 ≡ q8 * 16 ^ 2 + d → q8 ≡ q10 * 16 ^ 2 + c → q10 ≡ q14 * 16 ^ 4 + b → q14 ≡ a
    → a * 16 ^ 14 + b * 16 ^ 10 + c * 16 ^ 8 + d * 16 ^ 6 + e ≡ n
together n q6 q8 q10 q14 a b c d e h₁ h₂ h₃ h₄ h₅ = omega arith

pub packed_parts : (n : ℕ) → n < 2 ^ 64 → packed (parts_of n) ≡ n
packed_parts n h =
    simp mod-mod
    (together n (n / 16 ^ 6) (n / 16 ^ 8) (n / 16 ^ 10) (n / 16 ^ 14) _ _ _ _ _ (sym (div-add-mod' n (16 ^ 6))) (further n (16 ^ 6) (16 ^ 2))
    (further n (16 ^ 8) (16 ^ 2)) (further n (16 ^ 10) (16 ^ 4)) (omega arith))
  where
    further : (n p q : ℕ) → n / p ≡ n / (p * q) * q + n / p % q
    further n p q = sym (div-add-mod' (n / p) q) ∙ ap (λ (x : ℕ). x * q + n / p % q) (div-div-eq-div-mul n p q)

pub parts_packed : (f : Frame) → Narrow f → parts_of (packed f) ≡ f
parts_packed f h =
    let c : packed f / 16 ^ 14 % 16 ^ 2 ≡ f.calendar = omega arith in
    let y : packed f / 16 ^ 10 % 16 ^ 4 ≡ f.year = omega arith in
    let m : packed f / 16 ^ 8 % 16 ^ 2 ≡ f.month = omega arith in
    let d : packed f / 16 ^ 6 % 16 ^ 2 ≡ f.day = omega arith in
    let n : packed f % 16 ^ 6 ≡ f.number = omega arith in
    rw (c, y, m, d, n)

-- the digits of the fields one after the other are those of the number
pub frame_written : (f : Frame) → frame_of f ≡ written_in 16 (packed f)
unfolding frame_of
frame_written f =
    sym (ap (written_in 16) sum
    ∙ written_join 2 14 (f.calendar % 16 ^ 2) p14 (omega arith) ∙ ap (λ (x : List ℕ). x ++ written_in 14 p14) (written_low 2 f.calendar)
    ∙ ap (λ (x : List ℕ). written_in 2 f.calendar ++ x) (written_join 4 10 (f.year % 16 ^ 4) p10 (omega arith)
    ∙ ap (λ (x : List ℕ). x ++ written_in 10 p10) (written_low 4 f.year)
    ∙ ap (λ (x : List ℕ). written_in 4 f.year ++ x) (written_join 2 8 (f.month % 16 ^ 2) p8 (omega arith)
    ∙ ap (λ (x : List ℕ). x ++ written_in 8 p8) (written_low 2 f.month)
    ∙ ap (λ (x : List ℕ). written_in 2 f.month ++ x) (written_join 2 6 (f.day % 16 ^ 2) p6 (omega arith)
    ∙ ap (λ (x : List ℕ). x ++ written_in 6 p6) (written_low 2 f.day)
    ∙ ap (λ (x : List ℕ). written_in 2 f.day ++ x) (written_low 6 f.number)))))
  where
    p6 : ℕ
    p6 = f.number % 16 ^ 6

    p8 : ℕ
    p8 = f.day % 16 ^ 2 * 16 ^ 6 + p6

    p10 : ℕ
    p10 = f.month % 16 ^ 2 * 16 ^ 8 + p8

    p14 : ℕ
    p14 = f.year % 16 ^ 4 * 16 ^ 10 + p10

    sum : packed f ≡ f.calendar % 16 ^ 2 * 16 ^ 14 + p14
    sum = omega arith

-- ---- what reading answers

pub reads : (line : List ℕ) → option_map parts_of (digits_of line) ≡ reading_of line
unfolding digits_of reading_of
reads line = go (sixteen_digits line) refl
  where
    go : (c : Bool) → sixteen_digits line ≡ c → option_map parts_of (cond c (Some (number_in line)) None) ≡ cond c (Some (fields_of line)) None
    go true h = ap Some (sym (fields_parts line h))
    go false h = refl

pub reads_frame : (line : List ℕ) → sixteen_digits line ≡ true → reading_of line ≡ Some (fields_of line)
unfolding reading_of
reads_frame line h = rw h
