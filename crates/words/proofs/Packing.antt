-- Laws of letters and of packing: a word's letters come back out of its packing, so that different words are packed differently; and a word grows by one
-- letter at a time.
use mathlib.Core.Path.{◌≡◌, refl, sym, ap, ◌∙◌}
use mathlib.Core.Logic.{⊎_elim}
use mathlib.Core.List.{List, [], ◌∷◌, ◌++◌}
use mathlib.Core.Bool.{Bool, true, false, cond, ◌&&◌, and-true, and_assoc, true≢false}
use Prim.Native.Nat.{ℕ, zero, suc, ◌+◌, ◌-◌, ◌*◌, ◌/◌, ◌%◌, ◌^◌, ◌≤◌, ◌<◌}
use native.Mathlib.Nat.{add-zero, add-suc, pow-le-pow_right, mul-le-mul_right, mul-add-div_right, div-eq_of_lt}
use native.Mathlib.Omega.{arith}
use lib.Pow.{pow-add}
use lib.Dec.{leb, ltb, eqb}
use native.Mathlib.Numerals.{add-one}
use lib.ListN.{length, take, get_or, length-append}
use lib.Seq.{take-suc}
use borrow.Author.Tests.{ltb-true, lt-ltb, leb-true, le-leb, lt-leb, eqb-true, eq-eqb, ne_eqb}
use Rattle.basics.proofs.Order.{le_or_lt}
use Rattle.basics.proofs.Cases.{both, both_hold, fails, same_test}
use Rattle.words.specs.declared.Word.{Word}
use Rattle.words.specs.declared.Word.TheVariants.{Letters, Other}
use Rattle.words.specs.Text.{lower, lowered, same}
use Rattle.words.specs.Words.{small_letter, letter_of, all_letters, packed_from, packed, word_of}
use Rattle.words.specs.Packed.{pushed}

-- the byte of a letter
letter_byte : ℕ → ℕ
letter_byte n = cond (eqb n 27) 45 (96 + n % 32)

-- the letters in the lowest k places of a packed word
pub letters_in : ℕ → ℕ → List ℕ
letters_in zero n = []
letters_in (suc k) n = cond (eqb (n / 2 ^ (5 * k) % 32) 0) [] (letter_byte (n / 2 ^ (5 * k) % 32) ∷ []) ++ letters_in k n

-- ---- tests

-- tests that hold together come out alike
pub alike : (t u : Bool) → (t ≡ true → u ≡ true) → (u ≡ true → t ≡ true) → t ≡ u
alike t u f g = same_test t u f (λ e. fails u (λ h. true≢false (sym (g h) ∙ e)))

pub same_true : (s t : List ℕ) → same s t ≡ true → s ≡ t
unfolding same
same_true [] [] e = refl
same_true [] (c ∷ t) e = let z : ◌≡◌ {A = ℕ} 0 1 = cc in absurd (omega arith)
same_true (b ∷ s) [] e = let z : ◌≡◌ {A = ℕ} 0 1 = cc in absurd (omega arith)
same_true (b ∷ s) (c ∷ t) e = let p = both (eqb b c) (same s t) e in rw (eqb-true b c p.0, same_true s t p.1)

pub same_self : (s : List ℕ) → same s s ≡ true
unfolding same
same_self [] = refl
same_self (b ∷ s) = both_hold (eqb b b) (same s s) (eq-eqb b b refl) (same_self s)

-- ---- one letter

lower_twice : (b : ℕ) → lower (lower b) ≡ lower b
unfolding lower
lower_twice b = go (leb 65 b && leb b 90) refl
  where
    go : (x : Bool) → (leb 65 b && leb b 90) ≡ x → lower (cond x (b + 32) b) ≡ cond x (b + 32) b
    go true e =
        let p = both (leb 65 b) (leb b 90) e in
        let l = leb-true 65 b p.0 in
        rw (le-leb 65 (b + 32) (omega arith), lt-leb (b + 32) 90 (omega arith))
    go false e = rw e

letter_most : (b : ℕ) → small_letter b < 32
unfolding small_letter
letter_most b = go (leb 97 b && leb b 122) refl (eqb b 45)
  where
    go : (x : Bool) → (leb 97 b && leb b 122) ≡ x → (y : Bool) → cond x (b - 96) (cond y 27 0) < 32
    go true e y = let p = both (leb 97 b) (leb b 122) e in omega (arith, leb-true b 122 p.1)
    go false e true = omega arith
    go false e false = omega arith

-- the byte of a letter's number is that letter
letter_back : (b : ℕ) → 0 < small_letter b → letter_byte (small_letter b) ≡ b
unfolding small_letter letter_byte
letter_back b = go (leb 97 b && leb b 122) refl (eqb b 45) refl
  where
    go : (x : Bool) → (leb 97 b && leb b 122) ≡ x → (y : Bool) → eqb b 45 ≡ y
        → 0 < cond x (b - 96) (cond y 27 0) → letter_byte (cond x (b - 96) (cond y 27 0)) ≡ b
    go true e y f h =
        let p = both (leb 97 b) (leb b 122) e in
        let l = leb-true 97 b p.0 in
        let m = leb-true b 122 p.1 in
        rw (ne_eqb (b - 96) 27 (λ n. omega arith)) (omega arith)
    go false e true f h = sym (eqb-true b 45 f)
    go false e false f h = absurd (omega arith)

-- ---- packing

-- 5 bits more
width_suc : (k : ℕ) → 2 ^ (5 * suc k) ≡ 2 ^ (5 * k) * 32
width_suc k = let e : 5 * suc k ≡ 5 * k + 5 = omega arith in ap (λ (x : ℕ). 2 ^ x) e ∙ pow-add 2 (5 * k) 5

packed_from_lem : (n : ℕ) (s : List ℕ) → packed_from n s ≡ n * 2 ^ (5 * length s) + packed s
unfolding packed_from
packed_from_lem n [] = omega arith
packed_from_lem n (b ∷ s) =
    rw width_suc (omega (arith, packed_from_lem (n * 32 + letter_of b) s, packed_from_lem (0 + letter_of b) s))

packed_most : (s : List ℕ) → packed s < 2 ^ (5 * length s)
unfolding packed_from
packed_most [] = omega arith
packed_most (b ∷ s) =
    let l : letter_of b ≤ 31 = omega (arith, letter_most (lower b)) in
    omega (arith, width_suc (length s), packed_from_lem (0 + letter_of b) s, packed_most s, mul-le-mul_right (2 ^ (5 * length s)) l)

packed_append : (n : ℕ) (s t : List ℕ) → packed_from n (s ++ t) ≡ packed_from (packed_from n s) t
unfolding packed_from
packed_append n [] t = refl
packed_append n (b ∷ s) t = packed_append (n * 32 + letter_of b) s t

-- capitals do not matter
pub packed_lowered : (n : ℕ) (s : List ℕ) → packed_from n (lowered s) ≡ packed_from n s
unfolding packed_from lowered
packed_lowered n [] = refl
packed_lowered n (b ∷ s) =
    ap (λ (x : ℕ). packed_from (n * 32 + small_letter x) (lowered s)) (lower_twice b) ∙ packed_lowered (n * 32 + letter_of b) s

pub letters_lowered : (s : List ℕ) → all_letters (lowered s) ≡ all_letters s
unfolding all_letters lowered
letters_lowered [] = refl
letters_lowered (b ∷ s) = rw (lower_twice, letters_lowered s)

pub length_lowered : (s : List ℕ) → length (lowered s) ≡ length s
unfolding lowered
length_lowered [] = refl
length_lowered (b ∷ s) = ap suc (length_lowered s)

-- ---- unpacking

-- the letter above others
top : (m l w r : ℕ) → l < 32 → r < w → ((m * 32 + l) * w + r) / w % 32 ≡ l
top m l w r h k =
    ap (λ (x : ℕ). x % 32) (mul-add-div_right (omega arith) (m * 32 + l) r ∙ ap (λ (x : ℕ). m * 32 + l + x) (div-eq_of_lt k)) ∙ omega arith

-- a word's letters stand in its lowest places
letters_of : (m : ℕ) (s : List ℕ) → all_letters s ≡ true → letters_in (length s) (packed_from m s) ≡ lowered s
unfolding all_letters packed_from lowered letters_in
letters_of m [] a = refl
letters_of m (b ∷ s) a =
    let p = both (ltb 0 (letter_of b)) (all_letters s) a in
    let l = ltb-true 0 (letter_of b) p.0 in
    let w = 2 ^ (5 * length s) in
    let d : packed_from (m * 32 + letter_of b) s / w % 32 ≡ letter_of b = ap (λ (x : ℕ). x / w % 32) (packed_from_lem (m * 32 + letter_of b) s)
    ∙ top m (letter_of b) w (packed s) (letter_most (lower b)) (packed_most s) in
    rw (d, ne_eqb (letter_of b) 0 (λ e. omega arith), letter_back (lower b) l, letters_of (m * 32 + letter_of b) s p.1)

-- and no others in the places above
letters_above : (j k n : ℕ) → n < 2 ^ (5 * j) → letters_in (j + k) n ≡ letters_in j n
unfolding letters_in
letters_above j zero n h = rw add-zero
letters_above j (suc k) n h =
    let m : 5 * j ≤ 5 * (j + k) = omega arith in
    let z : n / 2 ^ (5 * (j + k)) ≡ 0 = div-eq_of_lt (omega (arith, pow-le-pow_right {n = 2} (omega arith) m)) in
    rw (add-suc, z) (letters_above j k n h)

pub letters_back : (s : List ℕ) → all_letters s ≡ true → length s ≤ 12 → letters_in 12 (packed s) ≡ lowered s
letters_back s a h =
    let e : 12 ≡ length s + (12 - length s) = omega arith in
    ap (λ (k : ℕ). letters_in k (packed s)) e ∙ letters_above (length s) (12 - length s) (packed s) (packed_most s) ∙ letters_of 0 s a

-- ---- one letter more

letters_append : (s t : List ℕ) → all_letters (s ++ t) ≡ (all_letters s && all_letters t)
unfolding all_letters
letters_append [] t = refl
letters_append (b ∷ s) t = rw (letters_append s t) (sym (and_assoc (ltb 0 (letter_of b)) (all_letters s) (all_letters t)))

-- a packing below 2^55 has no 12th letter
short : (l k : ℕ) → 1 ≤ l → l * 2 ^ (5 * k) < 2 ^ 55 → k ≤ 10
short l k h e =
    ⊎_elim (λ t. t) (λ t. absurd (omega (arith, pow-le-pow_right {n = 2} (omega arith) {i = 55} {j = 5 * k} (omega arith), mul-le-mul_right (2 ^ (5 * k)) h)))
    (le_or_lt k 10)

-- a word has room for a letter more where its packing fits in 55 bits
room : (s : List ℕ) → all_letters s ≡ true → length s ≤ 12 → ltb (packed s) (2 ^ 55) ≡ leb (length s + 1) 12
unfolding packed_from all_letters
room [] a h = refl
room (b ∷ s) a h =
    let p = both (ltb 0 (letter_of b)) (all_letters s) a in
    let l : 1 ≤ letter_of b = ltb-true 0 (letter_of b) p.0 in
    let w = packed_from_lem (0 + letter_of b) s in
    alike (ltb (packed (b ∷ s)) (2 ^ 55)) (leb (suc (length s) + 1) 12)
    (λ e. le-leb (suc (length s) + 1) 12 (omega (arith, short (letter_of b) (length s) l (omega (arith, ltb-true (packed (b ∷ s)) (2 ^ 55) e)))))
    (λ e.
    let few : 5 * suc (length s) ≤ 55 = omega (arith, leb-true (suc (length s) + 1) 12 e) in
    lt-ltb (packed (b ∷ s)) (2 ^ 55) (omega (arith, packed_most (b ∷ s), pow-le-pow_right {n = 2} (omega arith) {i = 5 * suc (length s)} {j = 55} few)))

pub read_on : (s : List ℕ) (b : ℕ) → word_of (s ++ b ∷ []) ≡ pushed (word_of s) b
unfolding word_of pushed all_letters packed_from
read_on s b = go (leb (length s) 12 && all_letters s) refl
  where
    next : List ℕ
    next = s ++ b ∷ []

    size : length next ≡ length s + 1
    size = length-append s (b ∷ [])

    letters : all_letters next ≡ (all_letters s && ltb 0 (letter_of b))
    letters = letters_append s (b ∷ []) ∙ rw and-true

    go : (x : Bool) → (leb (length s) 12 && all_letters s) ≡ x → word_of next ≡ pushed (cond x (Letters (packed s)) Other) b
    go true e =
        let p = both (leb (length s) 12) (all_letters s) e in
        rw (size, letters, p.1, packed_append 0 s (b ∷ []), room s p.1 (leb-true (length s) 12 p.0))
    go false e =
        let f : (leb (length next) 12 && all_letters next) ≡ false = fails (leb (length next) 12 && all_letters next) (λ t. let p = both (leb (length next) 12) (all_letters next) t in
        true≢false
        (sym
        (both_hold (leb (length s) 12) (all_letters s) (le-leb (length s) 12 (omega (arith, size, leb-true (length next) 12 p.0)))
        (both (all_letters s) (ltb 0 (letter_of b)) (sym letters ∙ p.1)).0)
        ∙ e)) in
        rw f

-- a byte more of a text
pub read_more : (s : List ℕ) (k : ℕ) → k < length s → {word : Word} → word ≡ word_of (take k s) → pushed word (get_or s k 0) ≡ word_of (take (k + 1) s)
read_more s k h e = rw (e, add-one, take-suc s k 0 h) (sym (read_on (take k s) (get_or s k 0)))
