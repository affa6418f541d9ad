-- A test of each number below a bound holds exactly where it holds of each.
use mathlib.Core.Path.{◌≡◌, refl, sym, ap, ◌∙◌}
use mathlib.Core.Logic.{⊎_elim}
use mathlib.Core.Bool.{Bool, true}
use Prim.Native.Nat.{ℕ, zero, suc, ◌<◌}
use native.Mathlib.Nat.{le_refl}
use native.Mathlib.Omega.{arith}
use Rattle.basics.specs.Every.{every}
use Rattle.basics.proofs.Cases.{both}
use Rattle.basics.proofs.Order.{le_or_lt}

pub every_at : (f : ℕ → Bool) (n : ℕ) → every f n ≡ true → (k : ℕ) → k < n → f k ≡ true
unfolding every
every_at f zero t k h = absurd (omega arith)
every_at f (suc n) t k h =
    let b = both (every f n) (f n) t in
    ⊎_elim (λ l. every_at f n b.0 k l) (λ l. let e : n ≡ k = omega arith in ap f (sym e) ∙ b.1) (le_or_lt (suc k) n)

pub every_of : (f : ℕ → Bool) (n : ℕ) → ((k : ℕ) → k < n → f k ≡ true) → every f n ≡ true
unfolding every
every_of f zero h = refl
every_of f (suc n) h = rw (every_of f n (λ k l. h k (omega arith)), h n (le_refl (suc n)))
