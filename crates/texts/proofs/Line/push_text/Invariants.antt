use lib.ListN.{take}
use Rattle.texts.specs.Lines.{Adds}
use Rattle.texts.proofs.Line.push_text.Given as goal

abbrev pub invariant-loop-byte : goal.invariant-loop-byte
invariant-loop-byte l = Adds (take l.byte-index l.text) l.fn.self l.self
