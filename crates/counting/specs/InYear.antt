-- For code: which year a day is in. Nobody has to believe this page.
use Rattle.std.specs.Prelude.{ℕ, suc, ◌≤◌, ◌<◌, List}
use Rattle.counting.specs.Calendar.{start}

-- day n is in year i
pub record InYear (L : ℕ → List ℕ) (n i : ℕ) : Type 0 where
  pub begun : start L i ≤ n
  pub still : n < start L (suc i)
