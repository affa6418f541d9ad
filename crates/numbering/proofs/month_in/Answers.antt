use mathlib.Core.Path.{◌≡◌, refl, sym, ap, ◌∙◌}
use mathlib.Core.Bool.{true, not, true≢false}
use mathlib.Core.Logic.{inl, inr}
use mathlib.Core.Option as maybe
use Prim.Native.Nat.{ℕ, ◌-◌}
use native.Mathlib.Omega.{arith}
use lib.Dec.{eqb}
use lib.IntN.{ℤ, pos, negsuc}
use lib.Signed.{lt_z}
use borrow.Author.Tests.{ne_eqb}
use Rattle.std.specs.Prelude.{None}
use Rattle.basics.specs.Every.{every}
use Rattle.basics.proofs.Every.{every_at}
use Rattle.counting.specs.Answers as A
use Rattle.calendar_rules.specs.Calendars.{julian, hebrew, Listed, lookup, calendar}
use Rattle.calendar_rules.proofs.Given.{is_listed}
use Rattle.parts.specs.Found.{MonthAt}
use Rattle.listing.specs.declared.Calendar.{Calendar}
use Rattle.listing.specs.declared.Calendar.TheVariants.{Julian, Gregorian, Hebrew}
use Rattle.listing.specs.Kinds.{row_of}
use Rattle.asking.proofs.Arms.{on_arm, off_arm, first_later, from_first, from_1, too_early}
use Rattle.numbering.proofs.month_in.Goals as goal

pub returns-then-early : goal.returns-then-early
returns-then-early c = too_early c.args.y c.requires.2 refl c.if-c-ne-JULIAN.true c.requires.0 c.if-early.true

-- a calendar whose first year is 1 is neither the Julian nor the Gregorian
begins_late : {c : ℕ} {K : A.Calendar} → ¬ (c ≡ 10) → ¬ (c ≡ 11) → calendar c ≡ maybe.some K → K.first_year ≡ negsuc 4711 → ⊥
begins_late {c} {K} n m r e =
    let l : Listed c K = record { row = r } in
    let f = first_later c (rw (ne_eqb c 10 n, ne_eqb c 11 m) refl) K l in
    true≢false (sym (ap (λ (z : ℤ). lt_z z (pos 1)) (f ∙ e)))

-- the Hebrew is the only one with its first day
abbrev first_day : maybe.Option A.Calendar → ℕ
first_day maybe.none = 0
first_day (maybe.some K) = K.first_day

first_days : every (λ c. not (eqb (first_day (calendar c)) 347998)) 16 ≡ true
unfolding every calendar lookup
first_days = refl

not_hebrew : {c : ℕ} → ¬ (c ≡ 18) → calendar c ≡ maybe.some hebrew → ⊥
not_hebrew {c} n e =
    elim (is_listed {K = hebrew} (record { row = e })) [
      | inl h ↦ true≢false (sym (rw e at (every_at (λ c. not (eqb (first_day (calendar c)) 347998)) 16 first_days c (omega arith))))
      | inr f ↦ n f
    ]

pub month_at-requires : goal.month_at-requires
month_at-requires c =
    let row = λ (K : Calendar) (e : c.in-Ok.calendar ≡ K). c.in-Ok.ensures ∙ ap (λ (K : Calendar). maybe.some (row_of K)) e in (
      λ e. begins_late c.if-c-ne-JULIAN.true c.requires.0 (row Julian e) refl,
      λ e. begins_late c.if-c-ne-JULIAN.true c.requires.0 (row Gregorian e) refl,
      λ e. not_hebrew c.requires.1 (row Hebrew e),
    )

pub returns-then-c-ne-JULIAN : goal.returns-then-c-ne-JULIAN
returns-then-c-ne-JULIAN c =
    let i = c.args.y - 4713 in
    from_1 c.args.y c.requires.2 c.if-c-ne-JULIAN.true c.requires.0 (omega (arith, c.if-early.false))
    (on_arm c.args.c (λ K. MonthAt K i c.args.p _) refl c.in-Ok.ensures c.month_at.ensures)

pub returns-in_default : goal.returns-in_default
returns-in_default c =
    let i = c.args.y - 4713 in
    from_1 c.args.y c.requires.2 c.if-c-ne-JULIAN.true c.requires.0 (omega (arith, c.if-early.false))
    (off_arm (λ K. MonthAt K i c.args.p None) c.in_default.ensures.1)

pub returns : goal.returns
unfolding calendar lookup
returns c = from_first c.args.y c.requires.2 10 julian c.if-c-ne-JULIAN.false refl refl c.month_at-2.ensures
