-- For code: a year that is answered for, or that it is not. Nobody has to believe this page.
use Rattle.std.specs.Prelude.{ℕ, cond, ◌&&◌, leb, ℤ, pos, negsuc, Result, Ok, Err}
use Rattle.refusals.specs.declared.Refusal.{Refusal}
use Rattle.refusals.specs.declared.Refusal.TheVariants.{YearOutOfRange}

-- a year from `first` to 9,999
abbrev pub year_from : ℕ → ℤ → Result ℕ Refusal
year_from first (pos A) = cond (leb first A && leb A 9999) (Ok A) (Err YearOutOfRange)
year_from first (negsuc k) = Err YearOutOfRange
