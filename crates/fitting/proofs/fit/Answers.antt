use mathlib.Core.Path.{sym, ◌∙◌}
use native.Mathlib.Omega.{arith}
use Rattle.lines.proofs.Tests.{within_is, within_not}
use Rattle.fitting.proofs.Search.{outside}
use Rattle.fitting.proofs.fit.Goals as goal

pub least_denominator-requires : goal.least_denominator-requires
least_denominator-requires c = (within_is _).0 (sym c.within_limits.ensures ∙ c.if-within_limits.true)

pub returns-else-within_limits : goal.returns-else-within_limits
returns-else-within_limits c = outside _ ((within_not _).0 (sym c.within_limits.ensures ∙ c.if-within_limits.false)) (omega arith)
