-- What is proved of an output that failed: the page to read first. It rests on specs/Good.antt (whether every write succeeded, and what a failed output holds).
use mathlib.Core.Path.{◌≡◌, refl, sym}
use mathlib.Core.List.{List, [], ◌∷◌}
use mathlib.Core.Bool.{false, true≢false}
use Prim.Native.Nat.{ℕ}
use native.Mathlib.Omega.{arith}
use lib.ListN.{length}
use Rattle.std.specs.Prelude.{Option, Some, None}
use Rattle.std.specs.Io.KnownBytes.{Appends}
use Rattle.printing.specs.Good.{good, held}

-- What appends bytes to an output that failed, by what `Write` promises of an answer Ok, as `write!` and `write_numbers` do, leaves it failed, and has no bytes
-- to append: with any byte it answers an error. The methods of `Output`, by which alone it gets there, say on every answer that it stays failed.
pub stays_failed : (old new : Option ℕ) (bytes : List ℕ) → good old ≡ false → Appends (held old) (held new) bytes → (good new ≡ false) × (bytes ≡ [])
stays_failed (Some n) new bytes f a = absurd (true≢false f)
stays_failed None (Some n) bytes f a = absurd a
stays_failed None None bytes f a = (refl, sym a)

-- all bytes are taken only where none failed, or where there are none
pub all_taken : (old new : Option ℕ) (bytes rest : List ℕ) → (good old ≡ false → good new ≡ false) → (good old ≡ false → length rest ≡ length bytes)
    → length rest ≡ 0 → Appends (held old) (held new) bytes
all_taken (Some n) new bytes rest f l z = tt
all_taken None (Some n) bytes rest f l z = absurd (true≢false (f refl))
all_taken None None [] rest f l z = refl
all_taken None None (b ∷ bytes) rest f l z = absurd (omega (arith, l refl))
