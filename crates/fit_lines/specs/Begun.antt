-- Whether a line has a byte, by how far it is read.
use Rattle.std.specs.Prelude.{Bool, true, false}
use Rattle.fit_lines.specs.declared.reading.Place.{Place}
use Rattle.fit_lines.specs.declared.reading.Place.TheVariants.{Start, Word, Numbers, Wrong}

abbrev pub begun : Place → Bool
begun Start = false
begun Word = true
begun Numbers = true
begun Wrong = true
