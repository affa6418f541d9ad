-- What holds at the heads of the two loops of `least_denominator`, and how it goes on: the denominators that have failed, and the marks that the present
-- denominator has met.
use mathlib.Core.Path.{◌≡◌, refl, sym, ap, ◌∙◌}
use mathlib.Core.Logic.{⊎_elim}
use mathlib.Core.List.{List}
use mathlib.Core.Bool.{false}
use Prim.Native.Nat.{ℕ, suc, ◌+◌, ◌*◌, ◌-◌, ◌≤◌, ◌<◌, min, max}
use native.Mathlib.Nat.{mul-le-mul}
use native.Mathlib.Numerals.{add-one}
use native.Mathlib.Omega.{arith}
use lib.ListN.{length, get_or}
use Rattle.lines.specs.BandTest.{sum_to, passes}
use Rattle.lines.specs.Fit.{Within, line, refused, fit_of}
use Rattle.basics.proofs.Order.{le_or_lt}
use Rattle.lines.proofs.Normal.{sum_zero}
use Rattle.lines.proofs.Recognition.{fit_hit, fit_miss, fit_outside}
use Rattle.lines.proofs.Search.{Open, open_start, open_next, open_end, closed_above, closed_below, sum_small}

-- how large the numbers of the band test are: an offset is below the denominator, and y and a k are a sum of lengths and its multiple
pub record Small (b low high y reach : ℕ) : Type 0 where
  pub denominator : b ≤ 512
  pub ordered : low ≤ high
  pub narrow : high < b
  pub total : y ≤ 204800
  pub far : reach ≤ 104857600
  pub level : b * y ≤ 104857600

module _ (code : List ℕ) where
  -- the denominators up to b have failed, and a is the sum of the first b lengths
  pub record Tried (b a : ℕ) : Type 0 where
    pub few : b ≤ length code
    pub slope : a ≡ sum_to code b
    pub failed : (j : ℕ) → 0 < j → j ≤ b → passes code j ≡ false

  -- those below b have failed, and the marks of b up to k allow the offsets from low to high
  pub record Tested (b a k low high y reach : ℕ) : Type 0 where
    pub proper : 0 < b
    pub few : b ≤ length code
    pub slope : a ≡ sum_to code b
    pub failed : (j : ℕ) → 0 < j → j < b → passes code j ≡ false
    pub so_far : k ≤ length code
    pub sum : y ≡ sum_to code k
    pub along : reach ≡ a * k
    pub allowed : Open code b k low high

  sum_next : (k : ℕ) → sum_to code k + get_or code k 0 ≡ sum_to code (k + 1)
  unfolding sum_to
  sum_next k = sym (ap (sum_to code) (add-one k))

  pub none_tried : {b a : ℕ} → b ≡ 0 → a ≡ 0 → Tried b a
  unfolding sum_to
  none_tried e f = record { few = omega arith; slope = f ∙ ap (sum_to code) (sym e); failed = λ j h l. absurd (omega arith) }

  pub slope_small : {b a : ℕ} → Within code → Tried b a → b < length code → a + get_or code b 0 ≤ 204800
  slope_small {b} w t h = omega (arith, t.slope, sum_small code w b t.few, w.small b h, w.few)

  -- the next denominator
  pub begun : {b a low high : ℕ} → Tried b a → b < length code → low ≡ 0 → suc high ≡ b + 1 → Tested (b + 1) (a + get_or code b 0) 0 low high 0 0
  unfolding sum_to
  begun {b} {a} {low} {high} t h l u =
      record {
        proper = omega arith;
        few = omega arith;
        slope = ap (λ (x : ℕ). x + get_or code b 0) t.slope ∙ sum_next b;
        failed = λ j p l. t.failed j p (omega arith);
        so_far = omega arith;
        sum = refl;
        along = omega arith;
        allowed = let e : high ≡ b + 1 - 1 = omega arith in rw (l, e) (open_start code (b + 1) (omega arith));
      }

  module _ {b a k low high y reach : ℕ} (t : Tested b a k low high y reach) where
    failed_too : passes code b ≡ false → Tried b a
    failed_too f =
        record {
          few = t.few;
          slope = t.slope;
          failed = λ j p l. ⊎_elim (λ m. t.failed j p m) (λ m. let e : j ≡ b = omega arith in ap (passes code) e ∙ f) (le_or_lt (suc j) b);
        }

    -- no mark is left
    pub hit : {c d s : ℕ} → Within code → k ≡ length code → c ≡ a → d ≡ b → s ≡ low → line c d s ≡ fit_of code
    hit w e p q u =
        let o = open_end code b k low high t.allowed e in
        (λ i. line ((p ∙ t.slope) i) (q i) ((u ∙ o.0) i)) ∙ sym (fit_hit code b w t.proper t.few o.1 t.failed)

    module _ (h : k < length code) where
      -- the sum, a k and b y at the next mark
      next_sum : y + get_or code k 0 ≡ sum_to code (suc k)
      next_sum = ap (λ (x : ℕ). x + get_or code k 0) t.sum ∙ sum_next k ∙ ap (sum_to code) (add-one k)

      next_reach : reach + a ≡ sum_to code b * suc k
      next_reach = omega (arith, t.along, ap (λ (x : ℕ). x * k) t.slope, t.slope)

      next_level : b * (y + get_or code k 0) ≡ b * sum_to code (suc k)
      next_level = ap (λ (x : ℕ). b * x) next_sum

      pub next : reach + a + low ≤ b * (y + get_or code k 0) + b - 1 → b * (y + get_or code k 0) ≤ reach + a + high
          → (low' high' : ℕ) → low' ≡ max low (b * (y + get_or code k 0) - (reach + a)) → high' ≡ min high (b * (y + get_or code k 0) + b - 1 - (reach + a))
          → Tested b a (k + 1) low' high' (y + get_or code k 0) (reach + a)
      next under over low' high' l u =
          record {
            proper = t.proper;
            few = t.few;
            slope = t.slope;
            failed = t.failed;
            so_far = omega arith;
            sum = next_sum ∙ ap (sum_to code) (sym (add-one k));
            along = omega (arith, t.along);
            allowed =
                rw (l, u, add-one k, next_reach, next_level)
                (open_next code b k low high t.allowed (omega (arith, next_reach, next_level, t.proper)) (omega (arith, next_reach, next_level)));
          }

      pub fails_above : b * (y + get_or code k 0) + b - 1 < reach + a + low → Tried b a
      fails_above out = failed_too (closed_above code b k low high t.allowed h (omega (arith, next_reach, next_level)))

      pub fails_below : reach + a + high < b * (y + get_or code k 0) → Tried b a
      fails_below out = failed_too (closed_below code b k low high t.allowed h (omega (arith, next_reach, next_level)))

      pub small : Within code → Small b low high (y + get_or code k 0) (reach + a)
      small w =
          let s = sum_small code w (suc k) h in
          let u = sum_small code w b t.few in
          let total : y + get_or code k 0 ≤ 204800 = omega (arith, next_sum, w.few) in
          let slope : a ≤ 204800 = omega (arith, t.slope, t.few, w.few) in
          record {
            total = total;
            far = omega (arith, next_reach, ap (λ (x : ℕ). x * suc k) t.slope, mul-le-mul {m₁ = suc k} {m₂ = 512} slope (omega (arith, w.few)));
            level = omega (arith, mul-le-mul {n₁ = b} {n₂ = 512} (omega (arith, t.few, w.few)) total);
            denominator = omega (arith, t.few, w.few);
            ordered = t.allowed.some;
            narrow = omega (arith, t.allowed.upper 0 (omega arith), ap (λ (x : ℕ). b * x) (sum_zero code));
          }

  -- no denominator is left
  pub miss : {b a k : ℕ} → Within code → Tried b a → b ≡ length code → k ≡ 7 → refused k ≡ fit_of code
  miss w t e p = ap refused p ∙ sym (fit_miss code w (λ j p l. t.failed j p (omega arith)))

  pub outside : {k : ℕ} → (¬ Within code) → k ≡ 6 → refused k ≡ fit_of code
  outside h p = ap refused p ∙ sym (fit_outside code h)
