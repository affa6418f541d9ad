-- What a function does to a line in a lent buffer.
use Rattle.std.specs.Prelude.{◌≡◌, ◌≤◌, List, ℕ, length}
use Rattle.std.specs.Borrow.{MutBor}
use Rattle.texts.specs.declared.Line.{Line}
use Rattle.texts.specs.Writing.{Writes}

-- that a line of no byte begins in a lent buffer
pub record Begins (buffer : MutBor (List ℕ)) (line : Line) : Type 0 where
  pub same : line.buffer.ghost_name ≡ buffer.ghost_name
  pub bytes : line.buffer.now ≡ buffer.now
  pub start : line.end ≡ 0

-- that a text is added to a line, in the buffer that it had
pub record Adds (text : List ℕ) (before after : Line) : Type 0 where
  pub same : after.buffer.ghost_name ≡ before.buffer.ghost_name
  pub writes : Writes before.end text before.buffer.now after.buffer.now after.end
  pub fits : after.end ≤ length after.buffer.now
