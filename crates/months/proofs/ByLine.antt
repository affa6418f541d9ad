-- The law of months by a line: where a line yields the lengths before the last, the days before a position are the line's marks, and for each day of the year
-- the quotient, held to the last position, is the day's position.
use mathlib.Core.Path.{◌≡◌, refl, sym, ap, ◌∙◌}
use mathlib.Core.Bool.{Bool, true}
use mathlib.Core.List.{List}
use Prim.Native.Nat.{ℕ, zero, suc, ◌+◌, ◌-◌, ◌≤◌, ◌<◌}
use native.Mathlib.Decide.{dec_lt}
use native.Mathlib.Nat.{div-eq_of_lt-le, mul_comm, suc-mul}
use native.Mathlib.Omega.{arith}
use lib.Dec.{eqb}
use lib.IntN.{pos}
use lib.ListN.{length, take, get_or}
use lib.Seq.{length-take-le, take-take, take_all}
use borrow.Author.Tests.{eqb-true}
use Rattle.basics.specs.Every.{every}
use Rattle.basics.proofs.Every.{every_at}
use Rattle.lines.specs.Line.{natural, yields, Generates}
use Rattle.lines.specs.BandTest.{sum_to}
use Rattle.lines.specs.Marks.{mark_at}
use Rattle.lines.proofs.Marks.{last_at, mark_le, mark_between, yields_natural}
use Rattle.lines.proofs.Normal.{band_of_natural}
use Rattle.counting.specs.Calendar.{total}
use Rattle.counting.proofs.Totals.{total_take_suc}
use Rattle.months.specs.Lines.{but_last, quotient, InPosition}

-- the line a, b, r yields the lengths of ls before the last
pub record OnLine (a b r : ℕ) (ls : List ℕ) : Type 0 where
  pub yields : Generates (natural a b r) (but_last ls)
  pub rising : 0 < a
  pub low : r < b
  pub any : 0 < length ls

-- ---- a computed test of it: at each place before the last the mark grows by the length there

unfoldable pub grows : ℕ → ℕ → ℕ → List ℕ → Bool
grows a b r ls = every (λ k. eqb (mark_at a b r (suc k)) (get_or (but_last ls) k 0 + mark_at a b r k)) (length (but_last ls))

pub on_line : (a b r : ℕ) (ls : List ℕ) → 0 < a → r < b → 0 < length ls → grows a b r ls ≡ true → OnLine a b r ls
unfolding grows
on_line a b r ls ha hr hl t = record { yields = record { proper = omega arith; each = each }; rising = ha; low = hr; any = hl }
  where
    each : (k : ℕ) → k < length (but_last ls) → yields (natural a b r) k ≡ pos (get_or (but_last ls) k 0)
    each k h = yields_natural a b r k (get_or (but_last ls) k 0) (eqb-true _ _ (every_at _ (length (but_last ls)) t k h))

-- ---- the law

sum_is : (ls : List ℕ) (k : ℕ) → sum_to ls k ≡ total (take k ls)
unfolding sum_to total
sum_is ls zero = refl
sum_is ls (suc k) = omega (arith, sum_is ls k, total_take_suc k ls)

module _ {a b r : ℕ} {ls : List ℕ} (o : OnLine a b r ls) where
  -- the days before a position
  pub before_mark : (k : ℕ) → k ≤ length ls - 1 → total (take k ls) ≡ mark_at a b r k
  unfolding mark_at
  before_mark k h =
      let B = band_of_natural o.low o.yields in
      let l : length (but_last ls) ≡ length ls - 1 = length-take-le (length ls - 1) ls (omega arith) in
      let t : sum_to (but_last ls) k ≡ total (take k ls) = sum_is (but_last ls) k ∙ ap total (take-take k (length ls - 1) ls h) in
      let x = B.above k (omega arith) in
      let y = B.below k (omega arith) in
      let m = mul_comm b (sum_to (but_last ls) k) in
      sym t ∙ sym (div-eq_of_lt-le b (omega arith) (omega (arith, suc-mul (sum_to (but_last ls) k) b)))

  -- the day's position
  pub by_line_lem : (n : ℕ) → n < total ls → InPosition ls n (quotient a b r (length ls) n)
  unfolding last_at
  by_line_lem n h = go (dec_lt (last_at a b r n) (length ls - 1))
    where
      here : (q : ℕ) → quotient a b r (length ls) n ≡ q → InPosition ls n q → InPosition ls n (quotient a b r (length ls) n)
      here q e i = rw e i

      go : Dec (last_at a b r n < length ls - 1) → InPosition ls n (quotient a b r (length ls) n)
      go (yes l) =
          let m = mark_between a b r n o.rising o.low in
          here (last_at a b r n) (omega arith)
          (record {
            inside = omega arith;
            begun = omega (arith, before_mark (last_at a b r n) (omega arith));
            still = omega (arith, before_mark (suc (last_at a b r n)) (omega arith));
          })
      go (no l) =
          let m = (mark_le a b r n (length ls - 1) o.rising o.low).1 (omega arith) in
          let e : suc (length ls - 1) ≡ length ls = omega (arith, o.any) in
          here (length ls - 1) (omega arith)
          (record {
            inside = omega (arith, o.any);
            begun = omega (arith, before_mark (length ls - 1) (omega arith));
            still = rw e (rw (take_all (length ls) ls (omega arith)) h);
          })
