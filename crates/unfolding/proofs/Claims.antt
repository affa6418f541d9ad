-- What is shown of unfolding, on one page. The promises are the contract of `unfold` in `src/lib.rt`: equations with `unfold_number` and `unfold_buffer` of
-- crate lines, whose claims page says what those mean. `specs/Paper.antt` gives the answer number of each case. What follows holds of any answers that keep
-- these promises.
use mathlib.Core.Path.{◌≡◌, refl, sym, ap, ◌∙◌, subst}
use mathlib.Core.List.{List}
use Prim.Native.Nat.{ℕ, ◌≤◌}
use native.Mathlib.Omega.{arith}
use lib.ListN.{length, take, drop}
use lib.Seq.{take_at, drop_at}
use Rattle.std.specs.Prelude.{Result, Ok, Err}
use Rattle.refusals.specs.declared.Refusal.{Refusal}
use Rattle.refusals.proofs.Claims.{not_done}
use Rattle.lines.specs.Line.{Generates, natural}
use Rattle.lines.specs.Fit.{Answer, line, fit_of}
use Rattle.lines.specs.Unfold.{unfolded, unfold_number, unfold_buffer}
use Rattle.lines.proofs.Claims as L
use Rattle.lines.proofs.Unfolding.{LineWithin, line_is, done, unchanged}
use Rattle.codes.specs.declared.Line.{Line}
use Rattle.fitting.specs.Paper.{fit_paper}
use Rattle.fitting.proofs.Claims.{FitOf, line_of}
use Rattle.unfolding.specs.Paper.{unfold_paper}

-- u is an answer of `unfold`, which leaves the buffer as `after`
abbrev pub UnfoldOf : Line → ℕ → List ℕ → Result (Unit {0}) Refusal → List ℕ → Type 0
UnfoldOf l n before u after =
    (unfold_paper u ≡ unfold_number l.a l.b l.r n before) × (after ≡ unfold_buffer l.a l.b l.r n before)

-- a refusal changes nothing
pub refuses : (l : Line) (n : ℕ) (before after : List ℕ) (why : Refusal) → UnfoldOf l n before (Err why) after → after ≡ before
refuses l n before after why h = h.1 ∙ unchanged l.a l.b l.r n before (λ z. omega (arith, h.0, not_done why))

module _ (l : Line) (n : ℕ) (before after : List ℕ) (h : UnfoldOf l n before (Ok tt) after) where
  code : List ℕ
  code = unfolded l.a l.b l.r n

  written : LineWithin l.a l.b l.r × (take n after ≡ code) × (drop n after ≡ drop n before)
  unfolding code
  written =
      let d = done l.a l.b l.r n before (sym h.0) in
      let e = h.1 ∙ d.2 in
      let c = L.unfolds_count l.a l.b l.r n in
      ((line_is _ _ _).0 d.0, ap (take n) e ∙ take_at code (drop n before) n c, ap (drop n) e ∙ drop_at code (drop n before) n c)

  -- the line generates the n lengths at the front, and what lies past them stays
  pub writes : (length (take n after) ≡ n) × Generates (line_of l) (take n after) × (drop n after ≡ drop n before)
  unfolding code
  writes = (
    ap length written.1 ∙ L.unfolds_count l.a l.b l.r n,
    rw written.1 (L.unfolds l.a l.b l.r n written.0.proper),
    written.2,
  )

  -- fitting them gives a line of the same code whose denominator is no greater than b
  pub fits_back : (x : Result Line Refusal) → FitOf (take n after) x → (m : Line) × (x ≡ Ok m) × Generates (line_of m) (take n after) × (m.b ≤ l.b)
  unfolding code
  fits_back x e =
      let d = done l.a l.b l.r n before (sym h.0) in
      let f = L.fits_back l.a l.b l.r n d.0 d.1 in
      go x (e ∙ ap fit_of written.1 ∙ f.3) (rw written.1 f.4) f.5
    where
      go : (x : Result Line Refusal) {c d s : ℕ} → fit_paper x ≡ line c d s → Generates (natural c d s) (take n after) → d ≤ l.b
          → (m : Line) × (x ≡ Ok m) × Generates (line_of m) (take n after) × (m.b ≤ l.b)
      go (Ok m) e g k =
          (m, refl, subst (λ (o : Answer). Generates (natural o.a o.b o.r) (take n after)) (sym e) g, omega (arith, ap (λ (o : Answer). o.b) e))
      go (Err why) e g k = absurd (omega (arith, ap (λ (o : Answer). o.number) e, not_done why))
