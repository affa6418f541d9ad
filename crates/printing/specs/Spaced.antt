-- Numbers in decimal digits.
use Rattle.std.specs.Prelude.{List, ◌++◌, ℕ, codes, decimal, flat_map}

-- with a space before each
abbrev pub spaced : List ℕ → List ℕ
spaced numbers = flat_map (λ n. codes " " ++ decimal n) numbers
