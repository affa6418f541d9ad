use mathlib.Core.Path.{refl}
use Rattle.carrying.specs.Kept.{kept_of}
use Rattle.carrying.proofs.Unfinished.new.Goals as goal

-- `carrying::Unfinished::new` meets its contract.
pub returns : goal.returns
unfolding kept_of
returns c = refl
