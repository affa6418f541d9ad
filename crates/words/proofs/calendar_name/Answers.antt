use mathlib.Core.Path.{refl, ◌∙◌}
use Rattle.words.specs.Text.{bytes}
use Rattle.words.specs.Names.{calendar_names}
use Rattle.words.proofs.Tables.{name_found}
use Rattle.words.proofs.calendar_name.Goals as goal

pub returns : goal.returns
unfolding calendar_names bytes
returns c = c.name_at.ensures ∙ name_found _ calendar_names refl c.args.calendar
