-- What is proved of the verdict on a line: the page to read first. It rests on specs/Digits.antt of crate hex (digits), specs/Frame.antt of crate frames
-- (the fields of a frame), specs/Answers.antt of crate calendar_rules (what date to day answers) and specs/Verdict.antt.
use mathlib.Core.Path.{◌≡◌, refl, sym, ◌∙◌}
use mathlib.Core.Logic.{inl, ◌↔◌}
use mathlib.Core.List.{List}
use mathlib.Core.Bool.{Bool, true, false, cond, ◌||◌}
use Prim.Native.Nat.{ℕ}
use native.Mathlib.Omega.{arith}
use lib.Dec.{eqb}
use lib.IntN.{pos}
use borrow.Author.Tests.{eqb-true, eqb-false, eq-eqb, ne_eqb}
use Rattle.basics.proofs.Cases.{neither}
use Rattle.counting.specs.Answers.{IsDate}
use Rattle.counting.specs.Order.{Earlier}
use Rattle.counting.proofs.Given.{one_of}
use Rattle.calendar_rules.specs.Calendars.{republican}
use Rattle.calendar_rules.proofs.Claims as R
use Rattle.hex_digits.specs.Digits.{sixteen_digits}
use Rattle.frames.specs.declared.Frame.{Frame}
use Rattle.frames.specs.Frame.{fields_of, year_of}
use Rattle.verdicts.specs.Verdict.{against, answer_for, verdict_on, verdict_of}

-- date to day answers neither 8 nor 9
others : (f : Frame) → ((answer_for f).number ≡ 8 → ⊥) × ((answer_for f).number ≡ 9 → ⊥)
others f =
    let k = (answer_for f).number in
    let e = neither (eqb k 8) (eqb k 9)
    (one_of (λ (k : ℕ). (eqb k 8 || eqb k 9) ≡ false) refl (refl, (refl, (refl, (refl, (refl, (refl, (refl, tt)))))))
    ((R.day_number_lem f.calendar (year_of f) f.month f.day 0 k).0 refl)) in
    (eqb-false k 8 e.0, eqb-false k 9 e.1)

module _ (line : List ℕ) where
  -- the frame that the line is, if it is one
  abbrev f : Frame
  f = fields_of line

  -- The four cases of a line: no frame, a date that is refused, a good date with another day, and a right frame. What holds of the number in each
  -- case holds of the verdict.
  pub cases :
      (P : ℕ → Type 0)
      → (sixteen_digits line ≡ false → P 8)
      → (sixteen_digits line ≡ true → ((answer_for f).number ≡ 0 → ⊥) → P (answer_for f).number)
      → (sixteen_digits line ≡ true → (answer_for f).number ≡ 0 → ((answer_for f).day ≡ f.number → ⊥) → P 9)
      → (sixteen_digits line ≡ true → (answer_for f).number ≡ 0 → (answer_for f).day ≡ f.number → P 0)
      → P (verdict_of line)
  unfolding verdict_of verdict_on against
  cases P none refused other right = go (sixteen_digits line) refl (eqb (answer_for f).number 0) refl (eqb (answer_for f).day f.number) refl
    where
      go : (x : Bool) → sixteen_digits line ≡ x → (g : Bool) → eqb (answer_for f).number 0 ≡ g → (s : Bool) → eqb (answer_for f).day f.number ≡ s
          → P (cond x (cond g (cond s 0 9) (answer_for f).number) 8)
      go false h g e s d = none h
      go true h false e s d = refused h (eqb-false _ _ e)
      go true h true e false d = other h (eqb-true _ _ e) (eqb-false _ _ d)
      go true h true e true d = right h (eqb-true _ _ e) (eqb-true _ _ d)

  -- 8 exactly where the line is not 16 digits
  pub no_frame : (verdict_of line ≡ 8) ↔ (sixteen_digits line ≡ false)
  unfolding verdict_of
  no_frame = (
    cases (λ v. v ≡ 8
        → sixteen_digits line ≡ false) (λ h e. h) (λ h n e. absurd ((others f).0 e)) (λ h n d e. absurd (omega arith)) (λ h n d e. absurd (omega arith)),
    λ h. rw h,
  )

  -- 0 exactly where it is a frame, its date is good and its day is the date's
  pub right : (verdict_of line ≡ 0) ↔ ((sixteen_digits line ≡ true) × ((answer_for f).number ≡ 0) × ((answer_for f).day ≡ f.number))
  unfolding verdict_of verdict_on against
  right = (
    cases (λ v. v ≡ 0
        → (sixteen_digits line ≡ true) × ((answer_for f).number ≡ 0)
        × ((answer_for f).day ≡ f.number)) (λ h e. absurd (omega arith)) (λ h n e. absurd (n e)) (λ h n d e. absurd (omega arith)) (λ h n d e. (h, n, d)),
    λ h. rw (h.0, eq-eqb (answer_for f).number 0 h.1, eq-eqb (answer_for f).day f.number h.2),
  )

  -- 9 exactly where it is a frame, its date is good and its day is another
  pub wrong_day : (verdict_of line ≡ 9) ↔ ((sixteen_digits line ≡ true) × ((answer_for f).number ≡ 0) × ((answer_for f).day ≡ f.number → ⊥))
  unfolding verdict_of verdict_on against
  wrong_day = (
    cases (λ v. v ≡ 9
        → (sixteen_digits line ≡ true) × ((answer_for f).number ≡ 0) × ((answer_for f).day ≡ f.number
        → ⊥)) (λ h e. absurd (omega arith)) (λ h n e. absurd ((others f).1 e)) (λ h n d e. (h, n, d)) (λ h n d e. absurd (omega arith)),
    λ h. rw (h.0, eq-eqb (answer_for f).number 0 h.1, ne_eqb (answer_for f).day f.number h.2),
  )

  -- any other number exactly where it is a frame and date to day refuses its date with that number, whatever its day
  pub refused : (k : ℕ) → (k ≡ 0 → ⊥) → (k ≡ 8 → ⊥) → (k ≡ 9 → ⊥) → (verdict_of line ≡ k) ↔ ((sixteen_digits line ≡ true) × ((answer_for f).number ≡ k))
  unfolding verdict_of verdict_on against
  refused k z h8 h9 = (
    cases (λ v. v ≡ k
        → (sixteen_digits line ≡ true)
        × ((answer_for f).number ≡ k)) (λ h e. absurd (h8 (sym e))) (λ h n e. (h, e)) (λ h n d e. absurd (h9 (sym e))) (λ h n d e. absurd (z (sym e))),
    λ h. rw (h.0, ne_eqb (answer_for f).number 0 (λ e. z (sym h.1 ∙ e))) h.1,
  )

  -- so 17 exactly where its date is one of the Republican calendar's, and after 14/4/10
  pub ended : (verdict_of line ≡ 17)
      ↔ ((sixteen_digits line ≡ true) × (f.calendar ≡ 7) × IsDate republican (year_of f) f.month f.day
      × Earlier (pos 14) 4 10 (year_of f) f.month f.day)
  ended =
      let r = refused 17 (omega arith) (omega arith) (omega arith) in
      let d = R.ended_date f.calendar (year_of f) f.month f.day 0 in (
        (λ e. let x = r.0 e in let y = d.0 x.1 in (x.0, y.0, y.1, y.2)),
        λ x. r.1 (x.0, d.1 (x.1, x.2, x.3)),
      )

  -- and never 13: a frame has no weekday
  pub no_weekday : ¬ (verdict_of line ≡ 13)
  no_weekday e =
      let r = (refused 13 (omega arith) (omega arith) (omega arith)).0 e in
      ((R.weekday_refused f.calendar (year_of f) f.month f.day 0).0 r.1).1 (inl refl)
