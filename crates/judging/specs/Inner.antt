-- What the private functions promise to each other. Nobody has to believe these definitions: the public promises do not cite them.
use Rattle.std.specs.Prelude.{◌≡◌, List, ◌++◌, ℕ, ◌+◌, take, drop}
use Rattle.streaming.specs.Work.{WorkedFrom}
use Rattle.carrying.specs.Kept.{most, kept_of}
use Rattle.replying.specs.Sheet.{two_digits, judging}
use Rattle.judging.specs.declared.Progress.{Progress}

-- the buffer with an answer number put at a place
pub record Put (n at : ℕ) (out out' : List ℕ) : Type 0 where
  pub buffer : out' ≡ take at out ++ (two_digits n ++ drop (at + 3) out)

-- what is done with the bytes of an input from where one progress stands to where the next does
abbrev pub TakesFrom : Progress → List ℕ → List ℕ → Progress → List ℕ → Type 0
TakesFrom p input out p' out' =
    WorkedFrom judging most input p.consumed p'.consumed tt (kept_of p.state) out p.written tt (kept_of p'.state) out' p'.written
