use mathlib.Core.Path.{sym, ap, ◌∙◌}
use Rattle.hex_digits.specs.Digits.{written_in}
use Rattle.frames.proofs.Numbers.{frame_written}
use Rattle.frames.proofs.write.Goals as goal

pub returns : goal.returns
returns c = c.write.ensures ∙ ap (written_in 16) c.pack.ensures ∙ sym (frame_written c.args.frame)
