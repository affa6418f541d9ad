use Rattle.texts.specs.Columns.{blanks}
use Rattle.texts.specs.Lines.{Adds}
use Rattle.texts.proofs.Line.push_blanks.Given as goal

abbrev pub invariant-loop : goal.invariant-loop
invariant-loop l = Adds (blanks l.counter) l.fn.self l.self
