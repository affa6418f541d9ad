-- Bytes of which none is a newline: they grow the unfinished line, and nothing else happens.
use mathlib.Core.Path.{◌≡◌, refl, sym, ap, ◌∙◌}
use mathlib.Core.List.{List, [], ◌∷◌, ◌++◌, append-nil}
use Prim.Native.Nat.{ℕ, suc, ◌<◌}
use native.Mathlib.Omega.{arith}
use lib.ListN.{length, get_or}
use lib.Seq.{append_snoc}
use Rattle.streaming.specs.Lines.{newline, Machine}
use Rattle.streaming.specs.Pieces.{grown, moved_by, after, state_after, answers}
use Rattle.streaming.proofs.Pieces.{grown_other, answered_other, moved_other}

pub record Plain (t : List ℕ) : Type 0 where
  pub none : (k : ℕ) → k < length t → get_or t k 0 ≡ newline → ⊥

pub plain_nil : Plain []
plain_nil = record { none = λ k l e. omega arith }

head : {b : ℕ} {t : List ℕ} → Plain (b ∷ t) → b ≡ newline → ⊥
head p = p.none 0 (omega arith)

tail : {b : ℕ} {t : List ℕ} → Plain (b ∷ t) → Plain t
tail p = record { none = λ k l. p.none (suc k) (omega arith) }

pub plain_after : (line t : List ℕ) → Plain t → after line t ≡ line ++ t
unfolding after
plain_after line [] p = sym (append-nil line)
plain_after line (b ∷ t) p = ap (λ (x : List ℕ). after x t) (grown_other line b (head p)) ∙ plain_after (line ++ b ∷ []) t (tail p) ∙ append_snoc line b t

module _ {S : Type 0} (m : Machine S) where
  pub plain_state : (s : S) (line t : List ℕ) → Plain t → state_after m s line t ≡ s
  unfolding state_after
  plain_state s line [] p = refl
  plain_state s line (b ∷ t) p = plain_state (moved_by m s line b) (grown line b) t (tail p) ∙ moved_other m s line b (head p)

  pub plain_answers : (s : S) (line t : List ℕ) → Plain t → answers m s line t ≡ []
  unfolding answers
  plain_answers s line [] p = refl
  plain_answers s line (b ∷ t) p =
      ap (λ (x : List ℕ). x ++ answers m (moved_by m s line b) (grown line b) t) (answered_other m s line b (head p))
      ∙ plain_answers (moved_by m s line b) (grown line b) t (tail p)
