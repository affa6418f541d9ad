use Rattle.std.proofs.Common.{◌≡◌, refl, subst, ℕ, arith}
use lib.ListN.{get_or}
use Rattle.counting.specs.Answers.{years}
use Rattle.calendar_rules.specs.Calendars.{bahai}
use Rattle.months.specs.BahaiSaka.{from_last}
use Rattle.months.specs.Leap.{gregorian_long}
use Rattle.months.proofs.Dates.{no_length}
use Rattle.months.proofs.GregorianKind.{kind_positions, kind_month}
use Rattle.months.proofs.BahaiSaka.{bahai_kind}
use Rattle.bahai.proofs.month_at.Goals as goal

pub returns-then-p-gt19 : goal.returns-then-p-gt19
returns-then-p-gt19 c = no_length (years bahai) c.args.i c.args.p (omega (arith, kind_positions bahai_kind c.args.i))

pub returns : goal.returns
returns c =
    let at = c.counted_position-at in
    let l = c.counted_length.ensures in
    let d = subst (λ (z : ℕ). c.counted_length.result ≡ get_or (from_last (gregorian_long z)) at.result.position 0) at.ensures.year l.0 in (
      l.1,
      rw c.from.ensures (kind_month bahai_kind c.args.i c.args.p _ _ c.year_start.result _ (omega arith) refl (rw at.ensures.year at c.year_start.ensures) (omega (arith, at.ensures.position))
          (rw at.ensures.position at d)),
    )
