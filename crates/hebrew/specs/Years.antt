-- For code: the years counted from 0, so that the year at i is year i + 1. Nobody has to believe this page.
use Rattle.std.specs.Prelude.{ℕ, ◌+◌, List}
use Rattle.hebrew.specs.Hebrew.{lengths}

unfoldable pub years : ℕ → List ℕ
years i = lengths (i + 1)
