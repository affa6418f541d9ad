-- Whether every write so far succeeded, by how many bytes wait.
use Rattle.std.specs.Prelude.{Bool, true, false, List, [], ℕ, Option, None, Some}

abbrev pub good : Option ℕ → Bool
good (Some n) = true
good None = false

-- what an output holds, where that is known: nothing once a write failed, whatever is written to it after that; before, it is not said
abbrev pub held : Option ℕ → Option (List ℕ)
held (Some n) = None
held None = Some []
