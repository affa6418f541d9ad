-- The lines of an input: with their newlines put back they are the input, none has a newline in it, and each reply is fixed by its line.
use mathlib.Core.Path.{◌≡◌, refl, sym, ap, ◌∙◌}
use mathlib.Core.List.{List, [], ◌∷◌, ◌++◌, append_assoc, append-nil}
use mathlib.Core.Bool.{Bool, true, false, cond}
use Prim.Native.Nat.{ℕ, zero, suc, ◌+◌, ◌*◌, ◌<◌}
use native.Mathlib.Nat.{zero-mul, suc-mul}
use native.Mathlib.Omega.{arith}
use lib.Dec.{eqb}
use lib.ListN.{length, take, drop, get_or, length-append}
use lib.Seq.{append_snoc, take_at, drop-append-add}
use borrow.Author.Tests.{eqb-true, eqb-false}
use Rattle.streaming.specs.Lines.{newline, ahead, lines_of, Machine, replies, moved, still}
use Rattle.streaming.specs.Pieces.{grown, answered, moved_by, after, answers, ending}
use Rattle.streaming.proofs.Pieces.{steps}

-- ---- what the lines of an input are: with their newlines put back they are the input

-- a newline, where the input has none at its end
unfoldable pub missing : List ℕ → List ℕ
missing [] = []
missing (b ∷ line) = newline ∷ []

closed : Machine (Unit {0})
closed = still (λ line. line ++ newline ∷ [])

back : (line t : List ℕ) → answers closed tt line t ++ after line t ≡ line ++ t
unfolding answers after answered moved_by grown closed
back line [] = sym (append-nil line)
back line (b ∷ t) = go (eqb b newline) refl (back [] t) (back (line ++ b ∷ []) t)
  where
    go : (c : Bool) → eqb b newline ≡ c → answers closed tt [] t ++ after [] t ≡ t
        → answers closed tt (line ++ b ∷ []) t ++ after (line ++ b ∷ []) t ≡ (line ++ b ∷ []) ++ t
        → (cond c (line ++ newline ∷ []) [] ++ answers closed (cond c tt tt) (cond c [] (line ++ b ∷ [])) t) ++ after
        (cond c [] (line ++ b ∷ [])) t ≡ line ++ b ∷ t
    go true e h k =
        append_assoc (line ++ newline ∷ []) _ _ ∙ ap (λ (x : List ℕ). (line ++ newline ∷ []) ++ x) h ∙ append_snoc line newline t
        ∙ ap (λ (x : ℕ). line ++ x ∷ t) (sym (eqb-true b newline e))
    go false e h k = k ∙ append_snoc line b t

closed_ending : (l : List ℕ) → ending closed tt l ≡ l ++ missing l
unfolding ending missing closed
closed_ending [] = refl
closed_ending (b ∷ l) = refl

pub lines_back : (t : List ℕ) → replies (still (λ line. line ++ newline ∷ [])) tt (lines_of t) ≡ t ++ missing (after [] t)
unfolding closed
lines_back t =
    steps closed tt t ∙ ap (λ (x : List ℕ). answers closed tt [] t ++ x) (closed_ending (after [] t)) ∙ sym (append_assoc (answers closed tt [] t) _ _)
    ∙ ap (λ (x : List ℕ). x ++ missing (after [] t)) (back [] t)

-- and no line has a newline in it
pub lines_plain : (s : List ℕ) (k j : ℕ) → get_or (get_or (lines_of s) k []) j 0 ≡ newline → ⊥
unfolding lines_of
lines_plain [] k j e = omega arith
lines_plain (b ∷ s) k j e = go (eqb b newline) refl (lines_of s) (lines_plain s) k j e
  where
    go : (c : Bool) → eqb b newline ≡ c → (ls : List (List ℕ)) → ((k j : ℕ) → get_or (get_or ls k []) j 0 ≡ newline → ⊥) → (k j : ℕ)
        → get_or (get_or (cond c ([] ∷ ls) (ahead b ls)) k []) j 0 ≡ newline → ⊥
    go true t ls h zero j e = omega arith
    go true t ls h (suc k) j e = h k j e
    go false t [] h zero zero e = eqb-false b newline t e
    go false t [] h zero (suc j) e = omega arith
    go false t [] h (suc k) j e = omega arith
    go false t (l ∷ ls) h zero zero e = eqb-false b newline t e
    go false t (l ∷ ls) h zero (suc j) e = h zero j e
    go false t (l ∷ ls) h (suc k) j e = h (suc k) j e

-- ---- each reply is fixed by its line and by the state that the lines before it leave: where all replies have w bytes, the kth is the w bytes from k w on

module _ {S : Type 0} (m : Machine S) (w : ℕ) (wide : (s : S) (line : List ℕ) → length (m.reply s line) ≡ w) where
  pub replies_length : (s : S) (ls : List (List ℕ)) → length (replies m s ls) ≡ length ls * w
  unfolding replies
  replies_length s [] = sym (zero-mul w)
  replies_length s (l ∷ ls) =
      length-append (m.reply s l) (replies m (m.move s l) ls) ∙ omega (arith, wide s l, replies_length (m.move s l) ls, suc-mul (length ls) w)

  pub reply_at : (s : S) (ls : List (List ℕ)) (k : ℕ) → k < length ls → take w (drop (k * w) (replies m s ls)) ≡ m.reply (moved m s (take k ls)) (get_or ls k [])
  unfolding replies moved
  reply_at s [] k h = absurd (omega arith)
  reply_at s (l ∷ ls) zero h = rw zero-mul (take_at (m.reply s l) (replies m (m.move s l) ls) w (wide s l))
  reply_at s (l ∷ ls) (suc k) h =
      let e : suc k * w ≡ length (m.reply s l) + k * w = omega (arith, suc-mul k w, wide s l) in
      ap (λ (n : ℕ). take w (drop n (m.reply s l ++ replies m (m.move s l) ls))) e
      ∙ ap (take w) (drop-append-add (m.reply s l) (replies m (m.move s l) ls) (k * w)) ∙ reply_at (m.move s l) ls k (omega arith)
