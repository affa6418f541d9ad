-- What the loop of `Digits::put` keeps: the digits of the rest, and then those that are written, are the text, and the rest has room. Each round keeps it.
use mathlib.Core.Path.{◌≡◌, sym, ap, ◌∙◌}
use mathlib.Core.List.{List, ◌∷◌, ◌++◌}
use Prim.Native.Nat.{ℕ, zero, suc, ◌+◌, ◌/◌, ◌%◌, ◌^◌, ◌≤◌, ◌<◌}
use native.Mathlib.Nat.{pow-suc}
use native.Mathlib.Omega.{arith}
use lib.ListN.{length, take, drop, set}
use lib.Seq.{append_snoc, set_split, drop_at, length-take-le}
use Rattle.decimal.specs.Decimal.{digits_in, text}
use Rattle.decimal.proofs.Laws.{one_digit, more_digits}

pub record Written (n : ℕ) (bytes : List ℕ) (rest start : ℕ) : Type 0 where
  pub size : length bytes ≡ 20
  pub all : digits_in start rest ++ drop start bytes ≡ text n
  pub room : rest < 10 ^ start

-- a rest of more than one digit has another place
pub before : (start rest : ℕ) → rest < 10 ^ suc start → 10 ≤ rest → 1 ≤ start
before zero rest l h = absurd (omega arith)
before (suc start) rest l h = omega arith

pub shorter : (start rest : ℕ) → rest < 10 ^ suc start → rest / 10 < 10 ^ start
shorter start rest l = omega (arith, pow-suc 10 start)

-- a byte at the place before
pub placed : (bytes : List ℕ) (at b : ℕ) → at < length bytes → drop at (set bytes at b) ≡ b ∷ drop (suc at) bytes
placed bytes at b h =
    ap (drop at) (set_split bytes at b h)
    ∙ drop_at (take at bytes) (b ∷ drop (suc at) bytes) at (length-take-le at bytes (omega (arith, h)))

module _ {n rest : ℕ} {bytes : List ℕ} (at : ℕ) (w : Written n bytes rest (suc at)) (h : at < length bytes) where
  pub last : rest / 10 ≡ 0 → drop at (set bytes at (48 + rest % 10)) ≡ text n
  last z = placed bytes at (48 + rest % 10) h ∙ ap (λ (b : ℕ). b ∷ drop (suc at) bytes) (omega (arith, z)) ∙ rw (one_digit at rest (omega (arith, z))) at w.all

  pub next : (rest / 10 ≡ 0 → ⊥) → digits_in at (rest / 10) ++ drop at (set bytes at (48 + rest % 10)) ≡ text n
  next z =
      ap (λ (x : List ℕ). digits_in at (rest / 10) ++ x) (placed bytes at (48 + rest % 10) h)
      ∙ sym (append_snoc (digits_in at (rest / 10)) (48 + rest % 10) (drop (suc at) bytes))
      ∙ rw (more_digits at rest (omega (arith, z))) at w.all
