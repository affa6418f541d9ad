-- The rules' answer number of each case of the answer.
use Rattle.std.specs.Prelude.{Result, Ok, Err, ℕ}
use Rattle.refusals.specs.Number.{number_of}
use Rattle.refusals.specs.declared.Refusal.{Refusal}

abbrev pub unfold_paper : Result (Unit {0}) Refusal → ℕ
unfold_paper (Ok _) = 0
unfold_paper (Err why) = number_of why
