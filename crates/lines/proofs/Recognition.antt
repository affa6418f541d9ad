-- What the answer of fitting says of a code (`fit`), and that a line with the answer's properties is the answer (`only`).
use mathlib.Core.Path.{◌≡◌, refl, sym, ap, ◌∙◌, subst, subst₂}
use mathlib.Core.Logic.{⊎_elim, ◌↔◌}
use mathlib.Core.List.{List}
use mathlib.Core.Option.{Option, none, some}
use mathlib.Core.Bool.{true, false, true≢false}
use Prim.Native.Nat.{ℕ, ◌+◌, ◌*◌, ◌≤◌, ◌<◌}
use native.Mathlib.Nat.{le_refl}
use native.Mathlib.Omega.{arith}
use borrow.Author.Tests.{ltb-true, ltb-false}
use lib.IntN.{ℤ, pos, negsuc}
use lib.ListN.{length}
use Rattle.basics.proofs.Cases.{cond_elim, holds}
use Rattle.basics.proofs.Every.{every_at, every_of}
use Rattle.basics.proofs.Order.{le_or_lt}
use Rattle.lines.specs.Line.{Line, Generates, natural}
use Rattle.lines.specs.BandTest.{within, sum_to, offset_of, passes}
use Rattle.lines.specs.Fit.{Answer, line, refused, Within, Best, NoLine, answer_of, fit_of}
use Rattle.lines.proofs.Extremes.{peak_same}
use Rattle.lines.proofs.Slope.{Band, SlopeOk, NoneBelow, offset, offset_top, slope_of_band, band_of_slope, slope_is, offset_is}
use Rattle.lines.proofs.Bound.{bound}
use Rattle.lines.proofs.Normal.{sum_mono, sum_zero, band_of_natural, natural_of_band, normalise, falling}
use Rattle.lines.proofs.Tests.{Found, first_found, within_is, within_not}

-- what an answer says of the code
pub data Fit (code : List ℕ) (o : Answer) : Type 0 where
  outside : o ≡ refused 6 → (¬ Within code) → Fit code o
  lineless : o ≡ refused 7 → Within code → NoLine code → Fit code o
  best : (a b r : ℕ) → o ≡ line a b r → Within code → Best code (natural a b r) → b ≤ length code → Fit code o

-- equal answers have equal numbers, so that a refusal is no other refusal and no line
numbers : {x y : Answer} → x ≡ y → x.number ≡ y.number
numbers e = ap (λ (o : Answer). o.number) e

module _ (code : List ℕ) where
  not_empty : Within code → 0 < length code
  not_empty w = omega (arith, w.any)

  -- ---- the denominators that pass the band test

  pub offset_of_lem : (b : ℕ) → offset_of code b ≡ offset (sum_to code) (length code) (sum_to code b) b
  unfolding offset_of offset
  offset_of_lem b = peak_same _ (length code) (λ k. omega arith) (omega arith)

  pub passes_band : (b : ℕ) → passes code b ≡ true → Band (sum_to code) (length code) (sum_to code b) b (offset_of code b)
  unfolding passes
  passes_band b t =
      record {
        above = λ k h. omega (arith, offset_of_lem b, offset_top (sum_to code) (length code) (sum_to code b) b k h);
        below = λ k h. let e = every_at _ _ t k (omega arith) in omega (arith, ltb-true);
      }

  pub band_passes : (b : ℕ) → ((k : ℕ) → k ≤ length code → sum_to code b * k + offset_of code b < b * sum_to code k + b) → passes code b ≡ true
  unfolding passes
  band_passes b h = every_of _ _ (λ k l. holds _ (λ e. omega (arith, ltb-false, h k (omega arith))))

  slope_passes : (x w : ℕ) → w ≤ length code → SlopeOk (sum_to code) (length code) x w → passes code w ≡ true
  slope_passes x w hw ok =
      let h = band_of_slope (sum_zero code) ok in
      -- the offset of a slope that fits is below the denominator, so that the slope is the one that is tried
      let low : offset (sum_to code) (length code) x w < w = omega (arith, h.below 0 (omega arith), ap (λ (z : ℕ). w * z) (sum_zero code)) in
      let tried = subst (λ (x : ℕ). SlopeOk (sum_to code) (length code) x w) (slope_is h low hw) ok in
      band_passes w (λ k l. omega (arith, offset_of_lem w, (band_of_slope (sum_zero code) tried).below k l))

  -- where a line generates the code, a denominator passes that is no greater than its own, nor than the number of lengths
  line_passes : (l : Line) → 0 < length code → Generates l code → (w : ℕ) × (0 < w) × (w ≤ length code) × (w ≤ l.b) × (passes code w ≡ true)
  line_passes l hn g =
      ⊎_elim (λ h. (l.b, omega (arith, g.proper), h, le_refl l.b, slope_passes n.0 l.b h ok))
      (λ h. (c.1, c.2, c.3, omega (arith, c.3), slope_passes c.0 c.1 c.3 c.4))
      (le_or_lt l.b (length code))
    where
      n : (a : ℕ) × (r : ℕ) × (r < l.b) × Generates (natural a l.b r) code
      n = normalise l code g

      ok : SlopeOk (sum_to code) (length code) n.0 l.b
      ok = slope_of_band (band_of_natural n.2 n.3)

      c : (x : ℕ) × (w : ℕ) × (0 < w) × (w ≤ length code) × SlopeOk (sum_to code) (length code) x w
      c = bound (sum_mono code) hn ok

  passes_generates : (b : ℕ) → 0 < b → passes code b ≡ true → Generates (natural (sum_to code b) b (offset_of code b)) code
  passes_generates b h t = natural_of_band h (passes_band b t)

  -- the least denominator is at most the number of lengths
  short : {l : Line} → Within code → Best code l → l.b ≤ length code
  short {l} w x =
      let p = line_passes l (not_empty w) x.generates in
      omega (arith, p.2, x.least _ (passes_generates p.0 p.1 p.4))

  -- ---- what the answer says

  -- no line where no denominator passes
  none_passes : 0 < length code → ((k : ℕ) → 0 < k → k ≤ length code → passes code k ≡ false) → NoLine code
  none_passes hn h l g = let p = line_passes l hn g in true≢false (sym p.4 ∙ h p.0 p.1 p.2)

  found_fit : Within code → (n : ℕ) → n ≡ length code → (o : Option ℕ) → Found (passes code) n 1 o → Fit code (answer_of code o)
  unfolding Found answer_of
  found_fit w n e none h = lineless refl w (none_passes (not_empty w) (λ k l u. h k l (omega arith)))
  found_fit w n e (some b) h = best (sum_to code b) b (offset_of code b) refl w least (omega (arith, h.1))
    where
      least : Best code (natural (sum_to code b) b (offset_of code b))
      least =
          record {
            generates = passes_generates b h.0 h.2;
            low = omega (arith, (passes_band b h.2).below 0 (omega arith), ap (λ (z : ℕ). b * z) (sum_zero code));
            least = λ l g.
                let p = line_passes l (not_empty w) g in
                ⊎_elim (λ q. omega (arith, p.3)) (λ q. absurd (true≢false (sym p.4 ∙ h.3 p.0 p.1 q))) (le_or_lt b p.0);
          }

  pub fit : Fit code (fit_of code)
  unfolding fit_of
  fit =
      cond_elim (Fit code) (within code) _ _ (λ e. found_fit ((within_is code).0 e) _ (omega arith) _ (first_found _ _ _))
      (λ e. outside refl ((within_not code).0 e))

  -- ---- only one line is best

  none_below : {l : Line} → Best code l → NoneBelow (sum_to code) (length code) l.b
  none_below x p w hw l ok =
      let h = x.least (natural p w (offset (sum_to code) (length code) p w)) (natural_of_band hw (band_of_slope (sum_zero code) ok)) in
      omega arith

  best_unique : {a b r a' b' r' : ℕ} → Within code → Best code (natural a b r) → Best code (natural a' b' r') → line a b r ≡ line a' b' r'
  best_unique {a} {b} {r} {a'} {b'} {r'} w x y =
      let hb : b ≡ b' = omega (arith, x.least _ y.generates, y.least _ x.generates) in
      let ha : a ≡ a' = slope x ∙ ap (sum_to code) hb ∙ sym (slope y) in
      let z : Best code (natural a' b' r) = subst₂ (λ (p q : ℕ). Best code (natural p q r)) ha hb x in
      let hr : r ≡ r' = offset_is (sum_mono code) (short w y) (none_below y) (omega (arith, y.generates.proper)) (band z) (band y) in
      cc
    where
      band : {a b r : ℕ} → Best code (natural a b r) → Band (sum_to code) (length code) a b r
      band x = band_of_natural (omega (arith, x.low)) x.generates

      slope : {a b r : ℕ} → Best code (natural a b r) → a ≡ sum_to code b
      slope x = slope_is (band x) (omega (arith, x.low)) (short w x)

  -- so what holds of the code leaves one answer
  one_answer : {o u : Answer} → Fit code o → Fit code u → o ≡ u
  one_answer (outside e _) (outside f _) = e ∙ sym f
  one_answer (outside _ h) (lineless _ w _) = absurd (h w)
  one_answer (outside _ h) (best _ _ _ _ w _ _) = absurd (h w)
  one_answer (lineless _ w _) (outside _ h) = absurd (h w)
  one_answer (lineless e _ _) (lineless f _ _) = e ∙ sym f
  one_answer (lineless _ _ h) (best _ _ _ _ _ x _) = absurd (h _ x.generates)
  one_answer (best _ _ _ _ w _ _) (outside _ h) = absurd (h w)
  one_answer (best _ _ _ _ _ x _) (lineless _ _ h) = absurd (h _ x.generates)
  one_answer (best _ _ _ e w x _) (best _ _ _ f _ y _) = e ∙ best_unique w x y ∙ sym f

  pub fit_best : {a b r : ℕ} → Within code → Best code (natural a b r) → fit_of code ≡ line a b r
  fit_best w x = one_answer fit (best _ _ _ refl w x (short w x))

  pub fit_none : Within code → NoLine code → fit_of code ≡ refused 7
  fit_none w h = one_answer fit (lineless refl w h)

  pub fit_outside : (¬ Within code) → fit_of code ≡ refused 6
  fit_outside h = one_answer fit (outside refl h)

  -- and what holds of the code, read off the answer

  pub refused_6 : (fit_of code ≡ refused 6) ↔ (¬ Within code)
  refused_6 = (λ e. to e fit, fit_outside)
    where
      to : fit_of code ≡ refused 6 → Fit code (fit_of code) → ¬ Within code
      to e (outside _ h) = h
      to e (lineless f _ _) = absurd (omega (arith, numbers (sym e ∙ f)))
      to e (best _ _ _ f _ _ _) = absurd (omega (arith, numbers (sym e ∙ f)))

  pub refused_7 : (fit_of code ≡ refused 7) ↔ (Within code × NoLine code)
  refused_7 = (λ e. to e fit, λ h. fit_none h.0 h.1)
    where
      to : fit_of code ≡ refused 7 → Fit code (fit_of code) → Within code × NoLine code
      to e (outside f _) = absurd (omega (arith, numbers (sym e ∙ f)))
      to e (lineless _ w h) = (w, h)
      to e (best _ _ _ f _ _ _) = absurd (omega (arith, numbers (sym e ∙ f)))

  pub fit_line : {a b r : ℕ} → fit_of code ≡ line a b r → Within code × Best code (natural a b r) × (b ≤ length code)
  fit_line {a} {b} {r} e = go fit
    where
      go : Fit code (fit_of code) → Within code × Best code (natural a b r) × (b ≤ length code)
      go (outside f _) = absurd (omega (arith, numbers (sym e ∙ f)))
      go (lineless f _ _) = absurd (omega (arith, numbers (sym e ∙ f)))
      go (best c d s f w x l) =
          subst (λ (o : Answer). Within code × Best code (natural o.a o.b o.r) × (o.b ≤ length code)) (sym f ∙ e) (w, x, l)

  -- a line of whole numbers with these properties is the answer
  pub only : (l : Line) → Within code → Best code l → (a : ℕ) × (r : ℕ) × (l ≡ natural a l.b r) × (fit_of code ≡ line a l.b r)
  only l w = go l.a l.b l.r
    where
      go : (a : ℤ) (b : ℕ) (r : ℤ) → let l : Line = record { a = a; b = b; r = r } in
          Best code l → (c : ℕ) × (d : ℕ) × (l ≡ natural c b d) × (fit_of code ≡ line c b d)
      go (pos a) b (pos r) x = (a, r, refl, fit_best w x)
      go (pos a) b (negsuc r) x = absurd x.low
      go (negsuc a) b (negsuc r) x = absurd x.low
      -- a falling line: all sums are 0, so 0, 1, 0 generates the code, and b is 1
      go (negsuc a) b (pos r) x =
          let f = falling (omega (arith, x.low)) x.generates (not_empty w) in
          let g : Band (sum_to code) (length code) 0 1 0 = record { above = λ k h. omega (arith, f.1 k h); below = λ k h. omega arith } in
          absurd (omega (arith, f.0, x.low, x.least (natural 0 1 0) (natural_of_band (omega arith) g)))

  -- ---- for code that tries the denominators in turn

  pub fit_hit : (b : ℕ) → Within code → 0 < b → b ≤ length code → passes code b ≡ true → ((k : ℕ) → 0 < k → k < b → passes code k ≡ false)
      → fit_of code ≡ line (sum_to code b) b (offset_of code b)
  unfolding Found answer_of
  fit_hit b w h l t u = one_answer fit (found_fit w (length code) refl (some b) (h, omega arith, t, u))

  pub fit_miss : Within code → ((k : ℕ) → 0 < k → k ≤ length code → passes code k ≡ false) → fit_of code ≡ refused 7
  fit_miss w u = fit_none w (none_passes (not_empty w) u)
