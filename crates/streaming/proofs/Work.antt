-- Working through some bytes and then through some more; through bytes without a newline, a newline, and a whole line.
use mathlib.Core.Path.{◌≡◌, refl, sym, ap, ◌∙◌, subst}
use mathlib.Core.List.{List, [], ◌∷◌, ◌++◌, append_assoc, append-nil}
use mathlib.Core.Bool.{Bool, true, false, cond}
use Prim.Native.Nat.{ℕ, ◌+◌, ◌-◌, ◌*◌, ◌≤◌, ◌<◌}
use native.Mathlib.Nat.{suc-mul}
use native.Mathlib.Omega.{arith}
use lib.Dec.{eqb}
use lib.ListN.{length, take, drop, length-append, length-drop, take-append-drop}
use lib.Seq.{length-take-le, take_at, drop_at, drop-drop, take_all, take-add}
use Rattle.streaming.specs.Lines.{newline, Machine}
use Rattle.streaming.specs.Pieces.{grown, moved_by, answered, after, state_after, answers}
use Rattle.streaming.specs.Work.{Worked, WorkedFrom}
use Rattle.streaming.proofs.Pieces.{Reads, take_self, after_append, state_append, answers_append, same_after, same_state, same_answers}
use Rattle.streaming.proofs.Newlines.{Plain, plain_nil, plain_after, plain_state, plain_answers}

module _ {S : Type 0} (m : Machine S) (n : ℕ) where
  -- bytes without a newline
  pub unended : {t kept kept' : List ℕ} (s : S) (out : List ℕ) (at : ℕ) → Plain t → at ≤ length out → kept' ≡ take n (kept ++ t)
      → Worked m n t s kept out at s kept' out at
  unended {t} {kept} s out at p a k =
      let none = plain_answers m s kept t p in
      record {
        state = sym (plain_state m s kept t p);
        left = k ∙ ap (take n) (sym (plain_after kept t p));
        count = omega (arith, ap length none);
        buffer = sym (take-append-drop at out) ∙ ap (λ (x : List ℕ). take at out ++ (x ++ drop at out)) (sym none);
      }

  -- no bytes at all
  pub none : (s : S) (kept out : List ℕ) (at : ℕ) → length kept ≤ n → at ≤ length out → Worked m n [] s kept out at s kept out at
  none s kept out at k a = unended s out at plain_nil a (sym (take_all n kept k) ∙ ap (take n) (sym (append-nil kept)))

  pub none_from : {input : List ℕ} {i : ℕ} (s : S) (kept out : List ℕ) (at : ℕ) → i ≤ length input → length kept ≤ n → at ≤ length out
      → WorkedFrom m n input i i s kept out at s kept out at
  none_from {input} {i} s kept out at h k a =
      let e : i - i ≡ 0 = omega arith in
      record { on = omega arith; within = h; work = rw e (none s kept out at k a) }

  -- a newline: the reply to the line that was kept
  pub ended : {s s' : S} {kept out out' : List ℕ} {at at' : ℕ} → s' ≡ m.move s kept → at' ≡ at + length (m.reply s kept)
      → out' ≡ take at out ++ (m.reply s kept ++ drop at' out)
      → Worked m n (newline ∷ []) s kept out at s' [] out' at'
  unfolding state_after moved_by after grown answers answered
  ended {s} {s'} {kept} {out} {out'} {at} {at'} i c o =
      record {
        state = i;
        left = sym (take_all n [] (omega arith));
        count = c ∙ ap (λ (x : List ℕ). at + length x) (sym (append-nil (m.reply s kept)));
        buffer = o ∙ ap (λ (x : List ℕ). take at out ++ (x ++ drop at' out)) (sym (append-nil (m.reply s kept)));
      }

module _ {S : Type 0} (m : Machine S) (n : ℕ) (h : 0 < n) (reads : Reads n m) where
  pub then : {t u : List ℕ} {s s₁ s₂ : S} {kept kept₁ kept₂ out out₁ out₂ : List ℕ} {at at₁ at₂ : ℕ} → at ≤ length out
      → Worked m n t s kept out at s₁ kept₁ out₁ at₁ → Worked m n u s₁ kept₁ out₁ at₁ s₂ kept₂ out₂ at₂ → Worked m n (t ++ u) s kept out at s₂ kept₂ out₂ at₂
  then {t} {u} {s} {s₁} {s₂} {kept} {kept₁} {kept₂} {out} {out₁} {out₂} {at} {at₁} {at₂} a w v =
      record {
        state =
            v.state ∙ ap (λ (x : S). state_after m x kept₁ u) w.state ∙ same_state n h m reads (state_after m s kept t) kept₁ (after kept t) u near
            ∙ sym (state_append m s kept t u);
        left = v.left ∙ same_after n h kept₁ (after kept t) u near ∙ ap (take n) (sym (after_append kept t u));
        count = v.count ∙ omega (arith, w.count, ap length more, ap length all, length-append first second);
        buffer =
            v.buffer
            ∙ ap (λ (x : List ℕ). x ++ (answers m s₁ kept₁ u ++ drop at₂ out₁)) (ap (take at₁) front ∙ take_at (take at out ++ first) (drop at₁ out) at₁ size)
            ∙ ap (λ (x : List ℕ). (take at out ++ first) ++ (x ++ drop at₂ out₁)) more
            ∙ ap (λ (x : List ℕ). (take at out ++ first) ++ (second ++ x)) past
            ∙ append_assoc (take at out) first (second ++ drop at₂ out)
            ∙ ap (λ (x : List ℕ). take at out ++ x) (sym (append_assoc first second (drop at₂ out)) ∙ ap (λ (x : List ℕ). x ++ drop at₂ out) (sym all));
      }
    where
      first : List ℕ
      first = answers m s kept t

      second : List ℕ
      second = answers m (state_after m s kept t) (after kept t) u

      near : take n kept₁ ≡ take n (after kept t)
      near = ap (take n) w.left ∙ take_self n h (after kept t)

      more : answers m s₁ kept₁ u ≡ second
      more = ap (λ (x : S). answers m x kept₁ u) w.state ∙ same_answers n h m reads (state_after m s kept t) kept₁ (after kept t) u near

      all : answers m s kept (t ++ u) ≡ first ++ second
      all = answers_append m s kept t u

      front : out₁ ≡ (take at out ++ first) ++ drop at₁ out
      front = w.buffer ∙ sym (append_assoc (take at out) first (drop at₁ out))

      size : length (take at out ++ first) ≡ at₁
      size = length-append (take at out) first ∙ omega (arith, length-take-le at out a, w.count)

      past : drop at₂ out₁ ≡ drop at₂ out
      past =
          let k : at₂ ≡ at₁ + (at₂ - at₁) = omega (arith, v.count) in
          ap (λ (x : ℕ). drop x out₁) k
          ∙ sym (drop-drop (at₂ - at₁) at₁ out₁)
          ∙ ap (drop (at₂ - at₁)) (ap (drop at₁) front ∙ drop_at (take at out ++ first) (drop at₁ out) at₁ size)
          ∙ drop-drop (at₂ - at₁) at₁ out
          ∙ ap (λ (x : ℕ). drop x out) (sym k)

  -- a whole line at once, where none is begun
  pub whole_line : {line : List ℕ} {s s' : S} {out out' : List ℕ} {at at' : ℕ} → Plain line → at ≤ length out → s' ≡ m.move s line
      → at' ≡ at + length (m.reply s line)
      → out' ≡ take at out ++ (m.reply s line ++ drop at' out) → Worked m n (line ++ newline ∷ []) s [] out at s' [] out' at'
  whole_line {line} {s} {s'} {out} {out'} {at} {at'} p a i c o =
      let r = reads.reply s line in
      then a (unended m n s out at p a refl)
      (ended m n (i ∙ sym (reads.move s line)) (c ∙ ap (λ (x : List ℕ). at + length x) (sym r))
      (o ∙ ap (λ (x : List ℕ). take at out ++ (x ++ drop at' out)) (sym r)))

  -- from one place of an input to another, and on to a third
  pub then_from : {input : List ℕ} {i j k : ℕ} {s s₁ s₂ : S} {kept kept₁ kept₂ out out₁ out₂ : List ℕ} {at at₁ at₂ : ℕ} → at ≤ length out
      → WorkedFrom m n input i j s kept out at s₁ kept₁ out₁ at₁ → WorkedFrom m n input j k s₁ kept₁ out₁ at₁ s₂ kept₂ out₂ at₂
      → WorkedFrom m n input i k s kept out at s₂ kept₂ out₂ at₂
  then_from {input} {i} {j} {k} {s} {s₁} {s₂} {kept} {kept₁} {kept₂} {out} {out₁} {out₂} {at} {at₁} {at₂} a w v =
      let e : (j - i) + (k - j) ≡ k - i = omega (arith, w.on, v.on) in
      let f : i + (j - i) ≡ j = omega (arith, w.on) in
      let l : take (j - i) (drop i input) ++ take (k - j) (drop j input) ≡ take (k - i) (drop i input) =
      ap (λ (x : ℕ). take (j - i) (drop i input) ++ take (k - j) (drop x input)) (sym f)
      ∙ ap (λ (x : List ℕ). take (j - i) (drop i input) ++ take (k - j) x) (sym (drop-drop (j - i) i input))
      ∙ sym (take-add (j - i) (k - j) (drop i input))
      ∙ ap (λ (x : ℕ). take x (drop i input)) e in
      record {
        on = omega (arith, w.on, v.on);
        within = v.within;
        work = subst (λ (x : List ℕ). Worked m n x s kept out at s₂ kept₂ out₂ at₂) l (then a w.work v.work);
      }

module _ {S : Type 0} {m : Machine S} {n : ℕ} {s s' : S} {kept kept' out out' : List ℕ} {at at' : ℕ} where
  -- the buffer keeps its length
  pub same_size : {t : List ℕ} → Worked m n t s kept out at s' kept' out' at' → at' ≤ length out → length out' ≡ length out
  same_size {t} w h =
      let a = answers m s kept t in
      ap length w.buffer
      ∙ length-append (take at out) (a ++ drop at' out)
      ∙ omega (arith, length-append a (drop at' out), length-take-le at out (omega (arith, w.count)), length-drop at' out, w.count)

  -- all of an input
  pub whole_input : {input : List ℕ} → WorkedFrom m n input 0 (length input) s kept out at s' kept' out' at' → Worked m n input s kept out at s' kept' out' at'
  whole_input {input} w = subst (λ (x : List ℕ). Worked m n x s kept out at s' kept' out' at') (take_all (length input - 0) input (omega arith)) w.work

-- ---- where every reply has w bytes, no byte writes more than w

module _ {S : Type 0} (m : Machine S) (w : ℕ) (wide : (s : S) (line : List ℕ) → length (m.reply s line) ≡ w) where
  answered_few : (s : S) (line : List ℕ) (b : ℕ) → length (answered m s line b) ≤ w
  unfolding answered
  answered_few s line b = go (eqb b newline)
    where
      go : (c : Bool) → length (cond c (m.reply s line) []) ≤ w
      go true = omega (arith, wide s line)
      go false = omega arith

  pub answers_few : (s : S) (line t : List ℕ) → length (answers m s line t) ≤ length t * w
  unfolding answers
  answers_few s line [] = omega arith
  answers_few s line (b ∷ t) =
      let rest = answers m (moved_by m s line b) (grown line b) t in
      omega (arith, length-append (answered m s line b) rest, answered_few s line b, answers_few (moved_by m s line b) (grown line b) t, suc-mul (length t) w)

  pub few : {n : ℕ} {input : List ℕ} {i j : ℕ} {s s' : S} {kept kept' out out' : List ℕ} {at at' : ℕ}
      → WorkedFrom m n input i j s kept out at s' kept' out' at' → at' ≤ at + (j - i) * w
  few {n} {input} {i} {j} {s} {s'} {kept} {kept'} {out} {out'} {at} {at'} f =
      let t = take (j - i) (drop i input) in
      let l : length t ≡ j - i = length-take-le (j - i) (drop i input) (omega (arith, length-drop i input, f.on, f.within)) in
      subst (λ (x : ℕ). at' ≤ at + x * w) l (omega (arith, f.work.count, answers_few s kept t))
