-- Whether a line has a byte, by how far it is read.
use Rattle.std.specs.Prelude.{Bool, true, false}
use Rattle.dates.specs.declared.reading.Place.{Place}
use Rattle.dates.specs.declared.reading.Place.TheVariants.{Start, Numbers, Wrong}

abbrev pub begun : Place → Bool
begun Start = false
begun Numbers = true
begun Wrong = true
