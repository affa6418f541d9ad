-- A frame that stands whole in an input, so that it is judged where it stands.
use Rattle.std.specs.Prelude.{List, Option, Some, None, cond, ◌&&◌, ℕ, eqb, take, get_or}
use Rattle.hex_digits.specs.Digits.{sixteen_digits}
use Rattle.streaming.specs.Lines.{newline}
use Rattle.verdicts.specs.Verdict.{verdict_of}

-- what some bytes begin with: the frame's verdict, where they begin with a frame and a newline
unfoldable pub first_line : List ℕ → Option ℕ
first_line bytes = let line = take 16 bytes in cond (sixteen_digits line && eqb (get_or bytes 16 0) newline) (Some (verdict_of line)) None
