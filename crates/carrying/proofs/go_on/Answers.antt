use Rattle.std.proofs.Common.{ap, ◌∙◌, rules, length}
use Rattle.std.specs.Option.{unwrap_or}
use Rattle.carrying.proofs.Ends.{positioned}
use Rattle.carrying.proofs.go_on.Goals as goal

pub returns : goal.returns
returns c =
    let bytes = c.args.bytes.now in
    record {
      end = c.unwrap_or-end.ensures ∙ ap (λ o. unwrap_or o (length bytes)) c.first_newline.ensures ∙ positioned bytes;
      line = search rules;
    }
