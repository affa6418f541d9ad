-- What is found in a table of the code, whose names are lent texts.
use Rattle.std.specs.Prelude.{List, ℕ, eqb, Option, option_map, find}
use Rattle.std.specs.Borrow.{Bor}

-- the first name beside a number
unfoldable pub name_in : List (ℕ × Bor (List ℕ)) → ℕ → Option (List ℕ)
name_in table number = option_map (λ row. row.1.now) (find (λ row. eqb row.0 number) table)
