use mathlib.Core.Path.{refl, ◌∙◌}
use Rattle.words.specs.Text.{bytes}
use Rattle.words.specs.Names.{weekday_names}
use Rattle.words.proofs.Tables.{name_found}
use Rattle.words.proofs.weekday_name.Goals as goal

pub returns : goal.returns
unfolding weekday_names bytes
returns c = c.name_at.ensures ∙ name_found _ weekday_names refl c.args.weekday
