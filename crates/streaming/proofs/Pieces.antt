-- `steps`: byte by byte the same is written as for the whole. `pieces`: so it is however the input is cut, also where only the first bytes of an
-- unfinished line are kept.
use mathlib.Core.Path.{◌≡◌, refl, sym, ap, ◌∙◌}
use mathlib.Core.List.{List, [], ◌∷◌, ◌++◌, append_assoc, append-nil}
use mathlib.Core.Bool.{Bool, true, false, cond}
use Prim.Native.Nat.{ℕ, zero, suc, ◌<◌}
use native.Mathlib.Omega.{arith}
use lib.Dec.{eqb}
use lib.ListN.{take}
use lib.Seq.{take-nil, append_snoc}
use borrow.Author.Tests.{ne_eqb}
use Rattle.streaming.specs.Lines.{newline, ahead, lines_of, Machine, replies, moved}
use Rattle.streaming.specs.Pieces.{grown, answered, moved_by, after, state_after, answers, ending, end_state, in_pieces, last_state, joined}

-- ---- a newline, and another byte

pub grown_newline : (line : List ℕ) → grown line newline ≡ []
unfolding grown
grown_newline line = refl

pub grown_other : (line : List ℕ) (b : ℕ) → (b ≡ newline → ⊥) → grown line b ≡ line ++ b ∷ []
unfolding grown
grown_other line b h = rw (ne_eqb b newline h)

module _ {S : Type 0} (m : Machine S) where
  pub answered_other : (s : S) (line : List ℕ) (b : ℕ) → (b ≡ newline → ⊥) → answered m s line b ≡ []
  unfolding answered
  answered_other s line b h = rw (ne_eqb b newline h)

  pub moved_other : (s : S) (line : List ℕ) (b : ℕ) → (b ≡ newline → ⊥) → moved_by m s line b ≡ s
  unfolding moved_by
  moved_other s line b h = rw (ne_eqb b newline h)

-- ---- two parts one after the other

pub after_append : (line s t : List ℕ) → after line (s ++ t) ≡ after (after line s) t
unfolding after
after_append line [] t = refl
after_append line (b ∷ s) t = after_append (grown line b) s t

-- lines of which the first was begun by `line`
abbrev glue : List ℕ → List (List ℕ) → List (List ℕ)
glue [] [] = []
glue (b ∷ line) [] = (b ∷ line) ∷ []
glue line (l ∷ ls) = (line ++ l) ∷ ls

glue_nil : (ls : List (List ℕ)) → glue [] ls ≡ ls
glue_nil [] = refl
glue_nil (l ∷ ls) = refl

glue_ahead : (line : List ℕ) (b : ℕ) (ls : List (List ℕ)) → glue line (ahead b ls) ≡ glue (line ++ b ∷ []) ls
glue_ahead [] b [] = refl
glue_ahead (a ∷ line) b [] = refl
glue_ahead line b (l ∷ ls) = ap (λ (x : List ℕ). x ∷ ls) (sym (append_snoc line b l))

module _ {S : Type 0} (m : Machine S) where
  pub state_append : (s : S) (line t u : List ℕ) → state_after m s line (t ++ u) ≡ state_after m (state_after m s line t) (after line t) u
  unfolding state_after after
  state_append s line [] u = refl
  state_append s line (b ∷ t) u = state_append (moved_by m s line b) (grown line b) t u

  pub answers_append : (s : S) (line t u : List ℕ) → answers m s line (t ++ u) ≡ answers m s line t ++ answers m (state_after m s line t) (after line t) u
  unfolding answers state_after after
  answers_append s line [] u = refl
  answers_append s line (b ∷ t) u =
      ap (λ (l : List ℕ). answered m s line b ++ l) (answers_append (moved_by m s line b) (grown line b) t u) ∙ sym (append_assoc (answered m s line b) _ _)

  -- what is written from a place on, where `line` was begun before it, and the state at the end
  record Written (t : List ℕ) (s : S) (line : List ℕ) : Type 0 where
    output : replies m s (glue line (lines_of t)) ≡ answers m s line t ++ ending m (state_after m s line t) (after line t)
    state : moved m s (glue line (lines_of t)) ≡ end_state m (state_after m s line t) (after line t)

  -- one byte, with the test c of whether it is a newline
  one : (s : S) (line : List ℕ) (b : ℕ) (t : List ℕ) (c : Bool) → ((s : S) (l : List ℕ) → Written t s l)
      → (replies m s (glue line (cond c ([] ∷ lines_of t) (ahead b (lines_of t))))
      ≡ (cond c (m.reply s line) [] ++ answers m (cond c (m.move s line) s) (cond c [] (line ++ b ∷ [])) t) ++ ending m
      (state_after m (cond c (m.move s line) s) (cond c [] (line ++ b ∷ [])) t) (after (cond c [] (line ++ b ∷ [])) t))
      × (moved m s (glue line (cond c ([] ∷ lines_of t) (ahead b (lines_of t)))) ≡ end_state m
      (state_after m (cond c (m.move s line) s) (cond c [] (line ++ b ∷ [])) t) (after (cond c [] (line ++ b ∷ [])) t))
  unfolding replies moved
  one s line b t true h =
      let w = h (m.move s line) [] in (
        ap (λ (l : List ℕ). m.reply s l ++ replies m (m.move s l) (lines_of t)) (append-nil line)
            ∙ ap (λ (l : List ℕ). m.reply s line ++ l) (ap (replies m (m.move s line)) (sym (glue_nil (lines_of t))) ∙ w.output)
            ∙ sym (append_assoc (m.reply s line) _ _),
        ap (λ (l : List ℕ). moved m (m.move s l) (lines_of t)) (append-nil line) ∙ ap (moved m (m.move s line)) (sym (glue_nil (lines_of t))) ∙ w.state,
      )
  one s line b t false h =
      let w = h s (line ++ b ∷ []) in (ap (replies m s) (glue_ahead line b (lines_of t)) ∙ w.output, ap (moved m s) (glue_ahead line b (lines_of t)) ∙ w.state)

  written : (t : List ℕ) (s : S) (line : List ℕ) → Written t s line
  unfolding replies moved lines_of answers state_after ending end_state after grown answered moved_by
  written [] s [] = record { output = refl; state = refl }
  written [] s (b ∷ line) = record { output = append-nil (m.reply s (b ∷ line)); state = refl }
  written (b ∷ t) s line = let w = one s line b t (eqb b newline) (written t) in record { output = w.0; state = w.1 }

  -- byte by byte the same is written as for the whole, and the state is the same
  pub steps : (s : S) (t : List ℕ) → replies m s (lines_of t) ≡ answers m s [] t ++ ending m (state_after m s [] t) (after [] t)
  steps s t = ap (replies m s) (sym (glue_nil (lines_of t))) ∙ (written t s []).output

  pub steps_state : (s : S) (t : List ℕ) → moved m s (lines_of t) ≡ end_state m (state_after m s [] t) (after [] t)
  steps_state s t = ap (moved m s) (sym (glue_nil (lines_of t))) ∙ (written t s []).state

  -- ---- two parts put together

  -- where the first part leaves no unfinished line, the output is the two outputs put together, the second from the state that the first leaves
  pub parts : (s : S) (t u : List ℕ) → after [] t ≡ []
      → replies m s (lines_of (t ++ u)) ≡ replies m s (lines_of t) ++ replies m (moved m s (lines_of t)) (lines_of u)
  unfolding ending end_state
  parts s t u e =
      let a : moved m s (lines_of t) ≡ state_after m s [] t = steps_state s t ∙ ap (end_state m (state_after m s [] t)) e in
      let w : replies m s (lines_of t) ≡ answers m s [] t = steps s t ∙ ap (λ (x : List ℕ). answers m s [] t ++ ending m (state_after m s [] t) x) e
      ∙ append-nil (answers m s [] t) in
      steps s (t ++ u)
      ∙ ap (λ (x : List ℕ). x ++ ending m (state_after m s [] (t ++ u)) (after [] (t ++ u))) (answers_append s [] t u)
      ∙ ap (λ (x : S). (answers m s [] t ++ answers m (state_after m s [] t) (after [] t) u) ++ ending m x (after [] (t ++ u))) (state_append s [] t u)
      ∙ ap (λ (x : List ℕ). (answers m s [] t ++ answers m (state_after m s [] t) (after [] t) u) ++ ending m
      (state_after m (state_after m s [] t) (after [] t) u) x) (after_append [] t u)
      ∙ ap (λ (x : List ℕ). (answers m s [] t ++ answers m (state_after m s [] t) x u) ++ ending m (state_after m (state_after m s [] t) x u) (after x u)) e
      ∙ append_assoc (answers m s [] t) _ _
      ∙ ap (λ (x : List ℕ). answers m s [] t ++ x) (sym (steps (state_after m s [] t) u))
      ∙ ap (λ (x : List ℕ). x ++ replies m (state_after m s [] t) (lines_of u)) (sym w)
      ∙ ap (λ (x : S). replies m s (lines_of t) ++ replies m x (lines_of u)) (sym a)

-- the reply to a line, and how it moves the state, are fixed by its first n bytes
pub record Reads (n : ℕ) {S : Type 0} (m : Machine S) : Type 0 where
  pub reply : (s : S) (line : List ℕ) → m.reply s (take n line) ≡ m.reply s line
  pub move : (s : S) (line : List ℕ) → m.move s (take n line) ≡ m.move s line

-- a part that ends in a newline leaves no unfinished line
pub after_newline : (line s : List ℕ) → after line (s ++ newline ∷ []) ≡ []
unfolding after
after_newline line s = after_append line s (newline ∷ []) ∙ grown_newline (after line s)

-- ---- keeping no more than the first n bytes of an unfinished line

take_take_append : (n : ℕ) (l r : List ℕ) → take n (take n l ++ r) ≡ take n (l ++ r)
take_take_append zero l r = refl
take_take_append (suc n) [] r = refl
take_take_append (suc n) (a ∷ l) r = ap (λ (x : List ℕ). a ∷ x) (take_take_append n l r)

module _ (n : ℕ) (pos : 0 < n) where
  -- two lines with the same first n bytes
  Same : List ℕ → List ℕ → Type 0
  Same l k = take n l ≡ take n k

  same_grown : (l k : List ℕ) (b : ℕ) → Same l k → Same (grown l b) (grown k b)
  unfolding Same grown
  same_grown l k b e = go (eqb b newline)
    where
      go : (c : Bool) → take n (cond c [] (l ++ b ∷ [])) ≡ take n (cond c [] (k ++ b ∷ []))
      go true = refl
      go false = sym (take_take_append n l (b ∷ [])) ∙ ap (λ (x : List ℕ). take n (x ++ b ∷ [])) e ∙ take_take_append n k (b ∷ [])

  pub same_after : (l k t : List ℕ) → take n l ≡ take n k → take n (after l t) ≡ take n (after k t)
  unfolding after Same
  same_after l k [] e = e
  same_after l k (b ∷ t) e = same_after (grown l b) (grown k b) t (same_grown l k b e)

  pub take_self : (l : List ℕ) → take n (take n l) ≡ take n l
  take_self l = ap (take n) (sym (append-nil (take n l))) ∙ take_take_append n l [] ∙ ap (take n) (append-nil l)

  module _ {S : Type 0} (m : Machine S) (reads : Reads n m) where
    same_reply : (s : S) (l k : List ℕ) → take n l ≡ take n k → m.reply s l ≡ m.reply s k
    same_reply s l k e = sym (reads.reply s l) ∙ ap (m.reply s) e ∙ reads.reply s k

    same_move : (s : S) (l k : List ℕ) → take n l ≡ take n k → m.move s l ≡ m.move s k
    same_move s l k e = sym (reads.move s l) ∙ ap (m.move s) e ∙ reads.move s k

    same_moved : (s : S) (l k : List ℕ) (b : ℕ) → take n l ≡ take n k → moved_by m s l b ≡ moved_by m s k b
    unfolding moved_by
    same_moved s l k b e = ap (λ (x : S). cond (eqb b newline) x s) (same_move s l k e)

    pub same_state : (s : S) (l k t : List ℕ) → take n l ≡ take n k → state_after m s l t ≡ state_after m s k t
    unfolding state_after Same
    same_state s l k [] e = refl
    same_state s l k (b ∷ t) e =
        ap (λ (x : S). state_after m x (grown l b) t) (same_moved s l k b e) ∙ same_state (moved_by m s k b) (grown l b) (grown k b) t (same_grown l k b e)

    pub same_answers : (s : S) (l k t : List ℕ) → take n l ≡ take n k → answers m s l t ≡ answers m s k t
    unfolding answers answered Same
    same_answers s l k [] e = refl
    same_answers s l k (b ∷ t) e =
        ap (λ (x : List ℕ). cond (eqb b newline) x [] ++ answers m (moved_by m s l b) (grown l b) t) (same_reply s l k e)
        ∙ ap (λ (x : S). cond (eqb b newline) (m.reply s k) [] ++ answers m x (grown l b) t) (same_moved s l k b e)
        ∙ ap (λ (x : List ℕ). cond (eqb b newline) (m.reply s k) [] ++ x) (same_answers (moved_by m s k b) (grown l b) (grown k b) t (same_grown l k b e))

    kept_end : (k : ℕ) → 0 < k → Reads k m → (s : S) (l : List ℕ) → (ending m s (take k l) ≡ ending m s l) × (end_state m s (take k l) ≡ end_state m s l)
    unfolding ending end_state
    kept_end zero h r s l = absurd (omega arith)
    kept_end (suc k) h r s [] = (refl, refl)
    kept_end (suc k) h r s (b ∷ l) = (r.reply s (b ∷ l), r.move s (b ∷ l))

    kept_pieces : (s : S) (l : List ℕ) (ps : List (List ℕ))
        → in_pieces m n s (take n l) ps ≡ answers m s l (joined ps) ++ ending m (state_after m s l (joined ps)) (after l (joined ps))
    unfolding in_pieces joined answers state_after after
    kept_pieces s l [] = (kept_end n pos reads s l).0
    kept_pieces s l (p ∷ ps) =
        ap (λ (x : List ℕ). x ++ in_pieces m n (state_after m s (take n l) p) (take n (after (take n l) p)) ps) (same_answers s (take n l) l p (take_self l))
        ∙ ap (λ (x : List ℕ). answers m s l p ++ in_pieces m n (state_after m s (take n l) p) x ps) (same_after (take n l) l p (take_self l))
        ∙ ap (λ (x : S). answers m s l p ++ in_pieces m n x (take n (after l p)) ps) (same_state s (take n l) l p (take_self l))
        ∙ ap (λ (x : List ℕ). answers m s l p ++ x) (kept_pieces (state_after m s l p) (after l p) ps)
        ∙ sym (append_assoc (answers m s l p) _ _)
        ∙ ap (λ (x : List ℕ). x ++ ending m (state_after m (state_after m s l p) (after l p) (joined ps)) (after (after l p) (joined ps)))
        (sym (answers_append m s l p (joined ps)))
        ∙ ap (λ (x : S). answers m s l (p ++ joined ps) ++ ending m x (after (after l p) (joined ps))) (sym (state_append m s l p (joined ps)))
        ∙ ap (λ (x : List ℕ). answers m s l (p ++ joined ps) ++ ending m (state_after m s l (p ++ joined ps)) x) (sym (after_append l p (joined ps)))

    kept_state : (s : S) (l : List ℕ) (ps : List (List ℕ)) → last_state m n s (take n l) ps ≡ end_state m (state_after m s l (joined ps)) (after l (joined ps))
    unfolding last_state joined state_after after
    kept_state s l [] = (kept_end n pos reads s l).1
    kept_state s l (p ∷ ps) =
        ap (λ (x : List ℕ). last_state m n (state_after m s (take n l) p) x ps) (same_after (take n l) l p (take_self l))
        ∙ ap (λ (x : S). last_state m n x (take n (after l p)) ps) (same_state s (take n l) l p (take_self l))
        ∙ kept_state (state_after m s l p) (after l p) ps
        ∙ ap (λ (x : S). end_state m x (after (after l p) (joined ps))) (sym (state_append m s l p (joined ps)))
        ∙ ap (λ (x : List ℕ). end_state m (state_after m s l (p ++ joined ps)) x) (sym (after_append l p (joined ps)))

    -- however the input is cut into pieces, the same is written as for the whole, and the state at the end is the same
    pub pieces : (s : S) (ps : List (List ℕ)) → in_pieces m n s [] ps ≡ replies m s (lines_of (joined ps))
    pieces s ps = ap (λ (x : List ℕ). in_pieces m n s x ps) (sym (take-nil n)) ∙ kept_pieces s [] ps ∙ sym (steps m s (joined ps))

    pub pieces_state : (s : S) (ps : List (List ℕ)) → last_state m n s [] ps ≡ moved m s (lines_of (joined ps))
    pieces_state s ps = ap (λ (x : List ℕ). last_state m n s x ps) (sym (take-nil n)) ∙ kept_state s [] ps ∙ sym (steps_state m s (joined ps))
