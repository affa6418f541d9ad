use mathlib.Core.Path.{◌≡◌, refl, sym, ◌∙◌}
use mathlib.Core.Bool.{Bool}
use lib.IntN.{ℤ}
use lib.Signed.{lt_z}
use mir.Syntax.{w64}
use mir.Val.{SFits, to_z, of_z}
use mir.ValLaws.{to_z-of_z}
use Rattle.counting.specs.Answers.{last_year}
use Rattle.asking.specs.Steps.{none_number}
use Rattle.asking.proofs.Arms.{listed_some, unlisted}
use Rattle.listing.proofs.no_month.Goals as goal

-- the numbers read back
earlier : {y f F : ℤ} {b : Bool} → SFits w64 y → SFits w64 f → f ≡ F → lt_z (to_z w64 (of_z w64 y)) (to_z w64 (of_z w64 f)) ≡ b → lt_z y F ≡ b
earlier {y} {f} p q e t = rw (to_z-of_z w64 y p, to_z-of_z w64 f q, e) at t

later : (a : ℤ) {y : ℤ} {b : Bool} → SFits w64 y → lt_z a (to_z w64 (of_z w64 y)) ≡ b → lt_z a y ≡ b
later a {y} p t = rw (to_z-of_z w64 y p) at t

-- `listing::no_month` meets its contract.
pub returns-then-not-is_listed : goal.returns-then-not-is_listed
unfolding none_number
returns-then-not-is_listed c = rw (unlisted c.args.c (sym c.is_listed.ensures ∙ c.if-not-is_listed.true)) refl

pub returns-then-year-first_year : goal.returns-then-year-first_year
unfolding none_number
returns-then-year-first_year c =
    let f = listed_some c.args.c (sym c.is_listed.ensures ∙ c.if-not-is_listed.false) in
    let q : SFits w64 c.first_year.result = record { sfits = c.first_year.type_inv } in
    rw (f.1.row, earlier c.ranges.year q (c.first_year.ensures f.0 f.1) c.if-year-first_year.true) refl

pub returns-then-year-gt-LAST_YEAR : goal.returns-then-year-gt-LAST_YEAR
unfolding none_number
returns-then-year-gt-LAST_YEAR c =
    let f = listed_some c.args.c (sym c.is_listed.ensures ∙ c.if-not-is_listed.false) in
    let q : SFits w64 c.first_year.result = record { sfits = c.first_year.type_inv } in
    let early = earlier c.ranges.year q (c.first_year.ensures f.0 f.1) c.if-year-first_year.false in
    rw (f.1.row, early, later last_year c.ranges.year c.if-year-gt-LAST_YEAR.true) refl

pub returns : goal.returns
unfolding none_number
returns c =
    let f = listed_some c.args.c (sym c.is_listed.ensures ∙ c.if-not-is_listed.false) in
    let q : SFits w64 c.first_year.result = record { sfits = c.first_year.type_inv } in
    let early = earlier c.ranges.year q (c.first_year.ensures f.0 f.1) c.if-year-first_year.false in
    rw (f.1.row, early, later last_year c.ranges.year c.if-year-gt-LAST_YEAR.false) refl
