use Rattle.std.proofs.Common.{◌≡◌, ◌∙◌, refl, ℕ, Result, Ok, Err, is_ok}
use Rattle.refusals.specs.declared.Refusal.{Refusal}
use Rattle.asking.specs.Steps.{listed}
use Rattle.listing.specs.declared.Calendar.{Calendar}
use Rattle.listing.specs.Kinds.{Reads}
use Rattle.listing.proofs.is_listed.Goals as goal

-- a number that a calendar has is listed
listed_is : (number : ℕ) (found : Result Calendar Refusal) → Reads number found → is_ok found ≡ listed number
unfolding listed
listed_is number (Ok calendar) row = rw row refl
listed_is number (Err why) row = rw row.1 refl

pub returns : goal.returns
returns c = c.is_ok.ensures.value ∙ listed_is c.args.c c.try_from.result c.try_from.ensures
