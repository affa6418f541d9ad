-- A text written after another is the two together, written at once: so is every line built, part by part.
use mathlib.Core.Path.{◌≡◌, refl, sym, ap, ◌∙◌}
use mathlib.Core.List.{List, [], ◌∷◌, ◌++◌, append-nil, append_assoc}
use Prim.Native.Nat.{ℕ, zero, suc, ◌+◌, ◌-◌, ◌≤◌, ◌<◌, min}
use native.Mathlib.Omega.{arith}
use native.Mathlib.Numerals.{add-one}
use lib.ListN.{length, take, drop, set, get_or, length-take, length-drop, length-append}
use lib.Seq.{length-take-le, take_all, take-append_seam, take-suc, drop-append-add, drop-drop, set_split, append_snoc, drop-length}
use Rattle.texts.specs.Writing.{kept, written, Writes}

-- what is cut off anyway may be cut off early
take_early : (n : ℕ) (xs ys : List ℕ) → take n (take n xs ++ ys) ≡ take n (xs ++ ys)
take_early zero xs ys = refl
take_early (suc n) [] ys = refl
take_early (suc n) (x ∷ xs) ys = ap {B = List ℕ} (λ r. x ∷ r) (take_early n xs ys)

drop_past : (k r : ℕ) (front line : List ℕ) → length front ≡ r → r ≤ k → drop k (front ++ drop r line) ≡ drop k line
drop_past k r front line e h =
    let s : length front + (k - r) ≡ k = omega (arith, e, h) in
    let t : r + (k - r) ≡ k = omega (arith, h) in
    ap (λ (i : ℕ). drop i (front ++ drop r line)) (sym s) ∙ drop-append-add front (drop r line) (k - r) ∙ drop-drop (k - r) r line ∙ ap (λ (i : ℕ). drop i line) t

module _ (at : ℕ) (text line : List ℕ) where
  -- the text ends within the buffer
  pub kept_short : length (kept at text line) ≤ length line
  unfolding kept
  kept_short = omega (arith, length-take (length line) (take at line ++ text))

  pub same_length : length (written at text line) ≡ length line
  unfolding written
  same_length =
      omega (
        arith,
        kept_short,
        length-append (kept at text line) (drop (length (kept at text line)) line),
        length-drop (length (kept at text line)) line,
      )

  -- what stands before its end
  pub front : take (length (kept at text line)) (written at text line) ≡ kept at text line
  unfolding written
  front = take-append_seam (kept at text line) (drop (length (kept at text line)) line)

  pub whole_text : at ≤ length line → at + length text ≤ length line → kept at text line ≡ take at line ++ text
  unfolding kept
  whole_text h k = take_all (length line) (take at line ++ text) (omega (arith, k, length-append (take at line) text, length-take-le at line h))

  kept_more : (more : List ℕ) → kept (length (kept at text line)) more (written at text line) ≡ kept at (text ++ more) line
  unfolding kept
  kept_more more =
      let n = length line in
      let all = take at line ++ text in
      ap (λ (k : ℕ). take k (take (length (take n all)) (written at text line) ++ more)) same_length
      ∙ ap (λ (x : List ℕ). take n (x ++ more)) front
      ∙ take_early n all more
      ∙ ap (take n) (append_assoc (take at line) text more)

  longer : (more : List ℕ) → length (kept at text line) ≤ length (kept at (text ++ more) line)
  unfolding kept
  longer more =
      omega (
        arith,
        length-take (length line) (take at line ++ text),
        length-take (length line) (take at line ++ (text ++ more)),
        length-append (take at line) text,
        length-append (take at line) (text ++ more),
        length-append text more,
      )

  written_more : (more : List ℕ) → written (length (kept at text line)) more (written at text line) ≡ written at (text ++ more) line
  unfolding written
  written_more more =
      let all = kept at (text ++ more) line in
      let k = length (kept at text line) in
      ap (λ (x : List ℕ). x ++ drop (length x) (written at text line)) (kept_more more)
      ∙ ap (λ (x : List ℕ). all ++ x) (drop_past (length all) k (kept at text line) line refl (longer more))

-- nothing is written where there is no room
pub no_room : (at : ℕ) (text line : List ℕ) → length line ≤ at → Writes at text line line (length line)
unfolding kept written
no_room at text line h =
    let k : kept at text line ≡ line =
    ap (λ (x : List ℕ). take (length line) (x ++ text)) (take_all at line h) ∙ take-append_seam line text in
    record {
      whole = sym (ap (λ (x : List ℕ). x ++ drop (length x) line) k ∙ ap (λ (x : List ℕ). line ++ x) (drop-length line) ∙ append-nil line);
      end_of = sym (ap length k);
    }

-- an empty text
pub nothing : (at : ℕ) (line : List ℕ) → Writes at [] line line (min at (length line))
unfolding kept written
nothing at line =
    let k : kept at [] line ≡ take at line =
    ap (take (length line)) (append-nil (take at line)) ∙ take_all (length line) (take at line) (omega (arith, length-take at line)) in
    let n : length (take at line) ≡ min at (length line) = length-take at line in
    record {
      whole = sym (ap (λ (x : List ℕ). x ++ drop (length x) line) k ∙ back at line);
      end_of = sym (ap length k ∙ n);
    }
  where
    back : (i : ℕ) (xs : List ℕ) → take i xs ++ drop (length (take i xs)) xs ≡ xs
    back zero xs = refl
    back (suc i) [] = refl
    back (suc i) (x ∷ xs) = ap {B = List ℕ} (λ r. x ∷ r) (back i xs)

-- a byte that has room
pub one_byte : (at byte : ℕ) (line : List ℕ) → at < length line → Writes at (byte ∷ []) line (set line at byte) (at + 1)
unfolding kept written
one_byte at byte line h =
    let front = take at line ++ byte ∷ [] in
    let n : length front ≡ at + 1 = length-append (take at line) (byte ∷ []) ∙ ap (λ (i : ℕ). i + 1) (length-take-le at line (omega (arith, h))) in
    let k : kept at (byte ∷ []) line ≡ front = take_all (length line) front (omega (arith, n, h)) in
    record {
      whole = set_split line at byte h
          ∙ sym (append_snoc (take at line) byte (drop (suc at) line))
          ∙ ap (λ (i : ℕ). front ++ drop i line) (sym (n ∙ add-one at))
          ∙ ap (λ (x : List ℕ). x ++ drop (length x) line) (sym k);
      end_of = sym (ap length k ∙ n);
    }

-- one text after another
pub then : {at : ℕ} {text : List ℕ} {before between : List ℕ} {end : ℕ} → Writes at text before between end
    → {more : List ℕ} {after : List ℕ} {last : ℕ} → Writes end more between after last
    → Writes at (text ++ more) before after last
then {at} {text} {before} w {more} v = record {
  whole = rw (w.whole, w.end_of) at v.whole ∙ written_more at text before more;
  end_of = rw (w.whole, w.end_of) at v.end_of ∙ ap length (kept_more at text before more);
}

-- the next byte of a text that is written byte by byte
pub next_byte : (text : List ℕ) (k : ℕ) → k < length text → take (k + 1) text ≡ take k text ++ get_or text k 0 ∷ []
next_byte text k h = ap (λ (i : ℕ). take i text) (add-one k) ∙ take-suc text k 0 h
