-- What is shown of the functions for C, on one page. Each promise in `src/lib.rt` is an equation, for every input: the fields of the struct that C gets
-- (`line_fields` of specs/Fields.antt), the number and the whole buffer are what crate lines defines (`fit_of`, `unfold_number`, `unfold_buffer`). What these
-- mean is on its claims page. Here: where the number is not 0, every other field is 0, and the lent buffer is as it was.
use mathlib.Core.Path.{◌≡◌, refl}
use mathlib.Core.List.{List}
use Prim.Native.Nat.{ℕ}
use borrow.Author.Tests.{ne_eqb}
use Rattle.refusals.specs.Number.{Refused}
use Rattle.lines.specs.Fit.{Answer, fit_of}
use Rattle.lines.specs.Unfold.{unfold_number, unfold_buffer}
use Rattle.lines.proofs.Recognition.{Fit, fit}
use Rattle.lines.proofs.Recognition.Fit.{outside, lineless, best}

pub record LineZero (x : Answer) : Type 0 where
  pub zero : Refused x.number → (x.a ≡ 0) × (x.b ≡ 0) × (x.r ≡ 0)

pub line_zero : (code : List ℕ) → LineZero (fit_of code)
line_zero code = go (fit code)
  where
    go : {x : Answer} → Fit code x → LineZero x
    go (outside e n) = rw e (record { zero = λ h. (refl, refl, refl) })
    go (lineless e w n) = rw e (record { zero = λ h. (refl, refl, refl) })
    go (best a b r e w x s) = rw e (record { zero = λ h. absurd (h refl) })

-- the whole buffer after a refusal is the buffer before
pub buffer_stays : (a b r n : ℕ) (buffer : List ℕ) → Refused (unfold_number a b r n buffer) → unfold_buffer a b r n buffer ≡ buffer
unfolding unfold_buffer
buffer_stays a b r n buffer h = rw (ne_eqb (unfold_number a b r n buffer) 0 h) refl
