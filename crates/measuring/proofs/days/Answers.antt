use Rattle.std.proofs.Common.{◌≡◌, ℕ, ◌-◌, true, ℤ, w64, FitsSigned, to_z, of_z, sym, subst, ◌∙◌}
use Rattle.std.proofs.lemmas.Int.{to_z-of_z}
use Rattle.months.specs.Parts.{LengthAt}
use Rattle.asking.specs.Steps.{year_inside, years_since, Sought}
use Rattle.asking.proofs.Since.{outside, Since, since}
use Rattle.asking.proofs.Answers.{nowhere_year, nowhere_0, no_days, days_found}
use Rattle.measuring.proofs.days.Goals as goal

-- the year, as it is passed, reads back
taken : {y : ℤ} {r : ℕ} → FitsSigned w64 y → true ≡ year_inside (to_z w64 (of_z w64 y)) → r ≡ years_since (to_z w64 (of_z w64 y)) → Since y r
taken {y} {r} f t e = let same = to_z-of_z w64 y f in since y r (sym (rw same at t)) (rw same at e)

pub returns-then-not-year_inside : goal.returns-then-not-year_inside
returns-then-not-year_inside c =
    let a = c.args in
    let e = rw (to_z-of_z w64 a.year c.ranges.year) at c.year_inside.ensures in
    sym (no_days a.calendar a.year a.position (nowhere_year a.calendar a.year a.position (outside a.year (sym e ∙ c.if-not-year_inside.true))))

pub returns-then-position-eq0 : goal.returns-then-position-eq0
returns-then-position-eq0 c =
    let a = c.args in
    sym (no_days a.calendar a.year a.position (nowhere_0 a.calendar a.year a.position c.if-position-eq0.true))

pub length_in-requires : goal.length_in-requires
length_in-requires c = (taken c.ranges.year (sym c.if-not-year_inside.false ∙ c.year_inside.ensures) c.since.ensures).few

pub returns : goal.returns
returns c =
    let a = c.args in
    let y = taken c.ranges.year (sym c.if-not-year_inside.false ∙ c.year_inside.ensures) c.since.ensures in
    days_found a.calendar a.year a.position _ c.if-position-eq0.false
    (subst (λ (z : ℤ). Sought a.calendar z (λ K i. LengthAt K i (a.position - 1) c.length_in.result) c.length_in.result) y.back c.length_in.ensures)
