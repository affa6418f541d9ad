-- What is proved of lines that are cut: the page to read first. It rests on specs/Kept.antt and, for the last claim, on specs/Pieces.antt of crate streaming.
use mathlib.Core.Path.{◌≡◌, sym, ap, ◌∙◌}
use mathlib.Core.List.{List}
use Prim.Native.Nat.{ℕ, ◌≤◌, ◌<◌}
use native.Mathlib.Omega.{arith}
use lib.ListN.{length, take, get_or, length-take}
use lib.Seq.{get_or-take}
use Rattle.streaming.specs.Lines.{newline}
use Rattle.streaming.specs.Pieces.{after}
use Rattle.streaming.proofs.Newlines.{Plain, plain_after}
use Rattle.carrying.specs.declared.Unfinished.{Unfinished}
use Rattle.carrying.specs.declared.Part.{Part}
use Rattle.carrying.specs.Kept.{most, kept_of, line_end, GoneOn}
use Rattle.carrying.proofs.Ends as ends

-- ---- where the first line of some bytes ends: at a newline or at the end of the bytes, and no newline stands before

pub end_within : (s : List ℕ) → line_end s ≤ length s
end_within = ends.within

pub end_at_newline : (s : List ℕ) → line_end s < length s → get_or s (line_end s) 0 ≡ newline
end_at_newline = ends.newline_there

pub no_newline_before : (s : List ℕ) → Plain (take (line_end s) s)
no_newline_before s =
    record {
      none = λ k h e. let l : k < line_end s = omega (arith, length-take (line_end s) s) in
          ends.none_before s k l (sym (get_or-take (line_end s) s k 0 l) ∙ e);
    }

-- what is kept of a line that went on is the beginning of the unfinished line after these bytes, as it is to be kept from piece to piece
pub kept_of_unfinished : (u : Unfinished) (bytes : List ℕ) (r : Part) → GoneOn u bytes r → kept_of r.line ≡ take most (after (kept_of u) (take r.end bytes))
kept_of_unfinished u bytes r g =
    g.line ∙ ap (take most) (sym (plain_after (kept_of u) (take r.end bytes) (rw g.end (no_newline_before bytes))))
