-- Two ways to prove by cases: of a computed choice, and of each number below a bound.
use mathlib.Core.Path.{◌≡◌, refl, sym, ◌∙◌}
use mathlib.Core.Logic.{◌↔◌}
use mathlib.Core.Bool.{Bool, true, false, cond, ◌&&◌, ◌||◌, true≢false}
use Prim.Native.Nat.{ℕ, zero, suc, ◌<◌}
use native.Mathlib.Omega.{arith}
use lib.Dec.{eqb}
use borrow.Author.Tests.{eqb-true, eqb-false, eq-eqb, ne_eqb}

-- what holds of either choice, each where it is taken, holds of the choice
pub cond_elim : {A : Type 0} (P : A → Type 0) (t : Bool) (a b : A) → (t ≡ true → P a) → (t ≡ false → P b) → P (cond t a b)
cond_elim P true a b f g = f refl
cond_elim P false a b f g = g refl

-- where both are asked and hold, each holds
pub both : (t u : Bool) → (t && u) ≡ true → (t ≡ true) × (u ≡ true)
both true u e = (refl, e)
both false u e = let z : ◌≡◌ {A = ℕ} 0 1 = cc in absurd (omega arith)

pub both_hold : (t u : Bool) → t ≡ true → u ≡ true → (t && u) ≡ true
both_hold t u p q = rw (p, q)

-- where one or the other would do and does not, neither holds
pub neither : (t u : Bool) → (t || u) ≡ false → (t ≡ false) × (u ≡ false)
neither false u e = (refl, e)
neither true u e = let z : ◌≡◌ {A = ℕ} 0 1 = cc in absurd (omega arith)

-- a test that cannot fail holds, and one that cannot hold fails
pub holds : (t : Bool) → (t ≡ false → ⊥) → t ≡ true
holds true f = refl
holds false f = absurd (f refl)

pub fails : (t : Bool) → (t ≡ true → ⊥) → t ≡ false
fails true f = absurd (f refl)
fails false f = refl

-- so a test that holds just where P does fails just where P does not
pub fails_where : (t : Bool) {P : Type 0} → (t ≡ true) ↔ P → (t ≡ false) ↔ (¬ P)
fails_where t i = (λ e p. true≢false (sym (i.1 p) ∙ e), λ h. fails t (λ e. h (i.0 e)))

-- tests that come out alike
pub same_test : (t u : Bool) → (t ≡ true → u ≡ true) → (t ≡ false → u ≡ false) → t ≡ u
same_test true u f g = sym (f refl)
same_test false u f g = sym (g refl)

-- equations of numbers that hold together are one test
pub same_eqb : (a b x y : ℕ) → (a ≡ b → x ≡ y) → (x ≡ y → a ≡ b) → eqb a b ≡ eqb x y
same_eqb a b x y f g = same_test (eqb a b) (eqb x y) (λ h. eq-eqb x y (f (eqb-true a b h))) (λ h. ne_eqb x y (λ e. eqb-false a b h (g e)))

-- a fact of each number below n, from a proof for each: `p and q and .. and tt`
infixr 10 ◌and◌
abbrev pub ◌and◌ : {A B : Type 0} → A → B → A × B
◌and◌ a b = (a, b)

abbrev pub Each : ℕ → (ℕ → Type 0) → Type 0
Each zero P = Unit {0}
Each (suc n) P = P 0 × Each n (λ (k : ℕ). P (suc k))

pub each : (n : ℕ) (P : ℕ → Type 0) → Each n P → (c : ℕ) → c < n → P c
each zero P e c h = absurd (omega arith)
each (suc n) P e zero h = e.0
each (suc n) P e (suc c) h = each n (λ (k : ℕ). P (suc k)) e.1 c (omega arith)
