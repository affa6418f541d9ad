use Rattle.std.proofs.Common.{◌≡◌, ◌+◌, pos, ap, ◌∙◌, arith}
use Rattle.months.proofs.Hebrew.{rest_small, hebrew_date}
use Rattle.hebrew_days.proofs.date_in.Goals as goal

pub before-here-requires : goal.before-here-requires
before-here-requires c = omega (arith, rest_small c.args.day _ _ _ _ c.requires c.args.year.is_year)

pub before-there-requires : goal.before-there-requires
before-there-requires c = omega (arith, rest_small c.args.day _ _ _ _ c.requires c.args.year.is_year)

pub returns : goal.returns
returns c =
    let e : 0 + c.args.year.number ≡ c.args.year.number = omega arith in
    hebrew_date c.args.day c.args.year.number _ _ _ _ _ _ c.requires c.args.year.is_year
    (c.place_in.ensures.0 ∙ ap pos e)
    (rw (c.pick-late.ensures.0, c.pick-p.ensures.0, c.before-there.ensures, c.of-months.ensures) at c.place_in.ensures.1)
    (rw (c.pick-start.ensures.0, c.before-there.ensures, c.before-here.ensures, c.of-months.ensures) at c.place_in.ensures.2)
