use mathlib.Core.Path.{◌≡◌}
use lib.ListN.{take}
use Rattle.words.specs.Words.{word_of}
use Rattle.words.proofs.WordFromRefSliceU8.from.Given as goal

abbrev pub invariant-loop-byte : goal.invariant-loop-byte
invariant-loop-byte l = l.word ≡ word_of (take l.byte-index l.text)
