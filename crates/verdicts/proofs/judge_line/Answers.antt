use Rattle.std.proofs.Common.{◌∙◌}
use Rattle.std.proofs.lemmas.Result.{err_from_is_err_and}
use Rattle.verdicts.proofs.Verdicts.{read_frame, read_none}
use Rattle.verdicts.proofs.judge_line.Goals as goal

pub returns-in_err-frame : goal.returns-in_err-frame
returns-in_err-frame c =
    let p = err_from_is_err_and c.from_residual.result c.from_residual.ensures.1 in
    rw (p.1, p.2) (read_none c.args.line.now c.read.result c.in_err-frame.field-0.0 c.read.ensures c.in_err-frame.ensures.value)

pub returns : goal.returns
returns c = c.judge_frame.ensures ∙ read_frame c.args.line.now c.read.result c.in_ok-frame.frame c.read.ensures c.in_ok-frame.ensures.value
