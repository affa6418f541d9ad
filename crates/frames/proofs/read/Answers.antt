use mathlib.Core.Path.{◌≡◌, ap, ◌∙◌}
use Rattle.std.proofs.Common.{rules}
use Rattle.std.specs.Option.{option_map}
use Rattle.frames.specs.Inner.{parts_of}
use Rattle.frames.proofs.Numbers.{reads}
use Rattle.frames.proofs.read.Goals as goal

pub returns : goal.returns
returns c =
    let m : c.map.result ≡ option_map parts_of c.read.result = search rules in
    m ∙ ap (option_map parts_of) c.read.ensures ∙ reads c.args.line.now
