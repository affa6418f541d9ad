use mathlib.Core.Path.{◌∙◌}
use Rattle.words.specs.Text.{bytes}
use Rattle.texts.proofs.Lines.{then}
use Rattle.phrases.specs.Phrases.{refusal_text}
use Rattle.phrases.proofs.push_refusal.Goals as goal

pub returns : goal.returns
unfolding refusal_text bytes
returns c =
    let n = c.from-number.ensures in
    let digits = rw (c.as_bytes.ensures ∙ c.from.ensures, n) at c.push_text-2.ensures in
    then (then (then c.push_text.ensures digits) c.push_text-3.ensures) (rw n at c.push_answer.ensures)
