-- Laws of digits: a number grows by one digit at a time, fits in as many bits, and has its fields as parts; reading what was
-- written, and writing what was read.
use mathlib.Core.Path.{◌≡◌, refl, sym, ap, ◌∙◌, subst}
use mathlib.Core.List.{List, [], ◌∷◌, ◌++◌, append-nil}
use mathlib.Core.Bool.{Bool, true, false, cond, ◌&&◌, and-false, not}
use Prim.Native.Nat.{ℕ, zero, suc, ◌+◌, ◌-◌, ◌*◌, ◌/◌, ◌%◌, ◌^◌, ◌≤◌, ◌<◌}
use native.Mathlib.Nat.{pow-suc, pow-le-pow_right, mul-add-div_right, div-eq_of_lt, mod-eq_of_lt, mul-add-mod_self_right, mul-le-mul_right}
use native.Mathlib.Nat.{div-add-mod', mod-lt, one-le-pow, zero-add}
use native.Mathlib.Omega.{arith}
use lib.Dec.{leb, ltb, eqb}
use lib.ListN.{length, take, drop, get_or, length-drop, length-take, take-append-drop, length-append}
use lib.Seq.{take-suc, take-add, append_snoc}
use borrow.Author.Tests.{ltb-true, lt-ltb, le-ltb, leb-true, eqb-true}
use Rattle.basics.specs.Every.{every}
use Rattle.basics.proofs.Cases.{both}
use Rattle.basics.proofs.Every.{every_at}
use Rattle.hex_digits.specs.Digits.{digit_of, is_digit, all_digits, number_from, number_in, field, hex_byte, written_in}
use Rattle.hex_digits.specs.Inner.{guess}

and_snoc : (x y z : Bool) → (x && (y && z)) ≡ ((x && y) && z)
and_snoc true y z = refl
and_snoc false y z = refl

pub number_append : (n : ℕ) (s t : List ℕ) → number_from n (s ++ t) ≡ number_from (number_from n s) t
unfolding number_from
number_append n [] t = refl
number_append n (b ∷ s) t = number_append (n * 16 + digit_of b) s t

pub all_append : (s t : List ℕ) → all_digits (s ++ t) ≡ (all_digits s && all_digits t)
unfolding all_digits
all_append [] t = refl
all_append (b ∷ s) t = ap (λ (c : Bool). is_digit b && c) (all_append s t) ∙ and_snoc (is_digit b) (all_digits s) (all_digits t)

-- one digit more
pub number_suc : (line : List ℕ) (k : ℕ) → k < length line → number_in (take (suc k) line) ≡ number_in (take k line) * 16 + digit_of (get_or line k 0)
unfolding number_from
number_suc line k h = ap number_in (take-suc line k 0 h) ∙ number_append 0 (take k line) (get_or line k 0 ∷ [])

and-true : (x : Bool) → (x && true) ≡ x
and-true true = refl
and-true false = refl

pub all_suc : (line : List ℕ) (k : ℕ) → k < length line → all_digits (take (suc k) line) ≡ (all_digits (take k line) && is_digit (get_or line k 0))
unfolding all_digits
all_suc line k h =
    ap all_digits (take-suc line k 0 h) ∙ all_append (take k line) (get_or line k 0 ∷ [])
    ∙ ap (λ (c : Bool). all_digits (take k line) && c) (and-true (is_digit (get_or line k 0)))

-- one byte that is no digit, and the line has others than digits
pub all_not : (line : List ℕ) (k : ℕ) → k < length line → is_digit (get_or line k 0) ≡ false → all_digits line ≡ false
unfolding all_digits
all_not [] k h e = absurd (omega arith)
all_not (b ∷ line) zero h e = ap (λ (c : Bool). c && all_digits line) e
all_not (b ∷ line) (suc k) h e = ap (λ (c : Bool). is_digit b && c) (all_not line k (omega arith) e) ∙ and-false (is_digit b)

spread : (n d p : ℕ) → (n * 16 + d) * p ≡ n * (p * 16) + (0 + d) * p
spread n d p = omega arith

number_from_lem : (n : ℕ) (s : List ℕ) → number_from n s ≡ n * 16 ^ length s + number_in s
unfolding number_from
number_from_lem n [] = omega arith
number_from_lem n (b ∷ s) =
    rw pow-suc
    (omega (arith, number_from_lem (n * 16 + digit_of b) s, number_from_lem (0 + digit_of b) s, spread n (digit_of b) (16 ^ length s)))

pub number_most : (s : List ℕ) → all_digits s ≡ true → number_in s < 16 ^ length s
unfolding number_from all_digits
number_most [] h = omega arith
number_most (b ∷ s) h =
    let a = both (is_digit b) (all_digits s) h in
    let d : digit_of b ≤ 15 = omega (arith, ltb-true (digit_of b) 16 a.0) in
    omega (arith, number_from_lem (0 + digit_of b) s, number_most s a.1, mul-le-mul_right (16 ^ length s) d, pow-suc 16 (length s))

-- the number of n digits after m others and before r others, out of the number of all
pub part : (line : List ℕ) (m n r : ℕ) → all_digits line ≡ true → length line ≡ m + n + r → field line m n ≡ number_in line / 16 ^ r % 16 ^ n
unfolding field
part line m n r a h = sym (low ∙ remains)
  where
    whole : line ≡ take (m + n) line ++ drop (m + n) line
    whole = sym (take-append-drop (m + n) line)

    digits : (all_digits (take (m + n) line) ≡ true) × (all_digits (drop (m + n) line) ≡ true)
    digits =
        both (all_digits (take (m + n) line)) (all_digits (drop (m + n) line)) (sym (all_append (take (m + n) line) (drop (m + n) line))
        ∙ ap all_digits (sym whole) ∙ a)

    rest : length (drop (m + n) line) ≡ r
    rest = length-drop (m + n) line ∙ omega arith

    value : number_in line ≡ number_in (take (m + n) line) * 16 ^ r + number_in (drop (m + n) line)
    value =
        ap number_in whole ∙ number_append 0 (take (m + n) line) (drop (m + n) line) ∙ number_from_lem (number_in (take (m + n) line)) (drop (m + n) line)
        ∙ ap (λ (k : ℕ). number_in (take (m + n) line) * 16 ^ k + number_in (drop (m + n) line)) rest

    below : number_in (drop (m + n) line) < 16 ^ r
    below = subst (λ (k : ℕ). number_in (drop (m + n) line) < 16 ^ k) rest (number_most (drop (m + n) line) digits.1)

    low : number_in line / 16 ^ r % 16 ^ n ≡ number_in (take (m + n) line) % 16 ^ n
    low =
        ap (λ (k : ℕ). k / 16 ^ r % 16 ^ n) value
        ∙ ap (λ (k : ℕ). k % 16 ^ n) (mul-add-div_right (omega (arith, below)) (number_in (take (m + n) line)) (number_in (drop (m + n) line))
        ∙ ap (λ (k : ℕ). number_in (take (m + n) line) + k) (div-eq_of_lt below) ∙ omega arith)

    middle : List ℕ
    middle = take n (drop m line)

    size : length middle ≡ n
    size = length-take n (drop m line) ∙ rw length-drop (omega arith)

    front : take (m + n) line ≡ take m line ++ middle
    front = take-add m n line

    high : number_in (take (m + n) line) ≡ number_in (take m line) * 16 ^ n + number_in middle
    high =
        ap number_in front ∙ number_append 0 (take m line) middle ∙ number_from_lem (number_in (take m line)) middle
        ∙ ap (λ (k : ℕ). number_in (take m line) * 16 ^ k + number_in middle) size

    small : number_in middle < 16 ^ n
    small =
        subst (λ (k : ℕ). number_in middle < 16 ^ k) size
        (number_most middle
        (both (all_digits (take m line)) (all_digits middle) (sym (all_append (take m line) middle) ∙ ap all_digits (sym front) ∙ digits.0)).1)

    remains : number_in (take (m + n) line) % 16 ^ n ≡ number_in middle
    remains = ap (λ (k : ℕ). k % 16 ^ n) high ∙ mul-add-mod_self_right (number_in (take m line)) (16 ^ n) (number_in middle) ∙ mod-eq_of_lt small

-- ---- a byte and the digit that it writes: a test of all 256 bytes, computed

-- the byte is the one that writes its guess
abbrev pub writes : ℕ → Bool
writes b = eqb (hex_byte (guess b % 16)) b

-- so it is exactly of a digit, and of a digit the guess is the value
right : ℕ → Bool
right b = cond (is_digit b) (writes b && eqb (guess b) (digit_of b)) (not (writes b))

pub guessed : (b : ℕ) → b < 256 → (writes b ≡ is_digit b) × (is_digit b ≡ true → guess b ≡ digit_of b)
unfolding digit_of every right
guessed b h = go (is_digit b) (writes b) (every_at right 256 refl b h)
  where
    go : (x y : Bool) → cond x (y && eqb (guess b) (digit_of b)) (not y) ≡ true → (y ≡ x) × (x ≡ true → guess b ≡ digit_of b)
    go true y e = let p = both y (eqb (guess b) (digit_of b)) e in (p.0, λ t. eqb-true (guess b) (digit_of b) p.1)
    go false false e = (refl, λ t. let z : ◌≡◌ {A = ℕ} 0 1 = cc in absurd (omega arith))
    go false true e = let z : ◌≡◌ {A = ℕ} 0 1 = cc in absurd (omega arith)

-- the byte of a number below 16 is a digit of that value
valued : ℕ → Bool
valued n = eqb (digit_of (hex_byte n)) n

pub byte_value : (n : ℕ) → n < 16 → digit_of (hex_byte n) ≡ n
unfolding digit_of every valued
byte_value n h = eqb-true (digit_of (hex_byte n)) n (every_at valued 16 refl n h)

-- and the byte of a digit's value is that byte
pub value_byte : (b : ℕ) → is_digit b ≡ true → hex_byte (digit_of b) ≡ b
unfolding digit_of
value_byte b = go (leb 48 b && leb b 57) refl (leb 97 b && leb b 102) refl
  where
    go : (x : Bool) → (leb 48 b && leb b 57) ≡ x → (y : Bool) → (leb 97 b && leb b 102) ≡ y → ltb (cond x (b - 48) (cond y (b - 87) 255)) 16 ≡ true
        → hex_byte (cond x (b - 48) (cond y (b - 87) 255)) ≡ b
    go true e y f h =
        let p = both (leb 48 b) (leb b 57) e in
        let l = leb-true 48 b p.0 in
        let m = leb-true b 57 p.1 in
        rw (lt-ltb (b - 48) 10 (omega arith)) (omega arith)
    go false e true f h =
        let p = both (leb 97 b) (leb b 102) f in
        let l = leb-true 97 b p.0 in
        let m = leb-true b 102 p.1 in
        rw (le-ltb (b - 87) 10 (omega arith)) (omega arith)
    go false e false f h = let z : ◌≡◌ {A = ℕ} 0 1 = cc in absurd (omega arith)

-- ---- what is written

pub written_length : (k n : ℕ) → length (written_in k n) ≡ k
unfolding written_in
written_length zero n = refl
written_length (suc k) n = length-append (written_in k (n / 16)) (hex_byte (n % 16) ∷ []) ∙ omega (arith, written_length k (n / 16))

pub written_digits : (k n : ℕ) → all_digits (written_in k n) ≡ true
unfolding written_in all_digits
written_digits zero n = refl
written_digits (suc k) n =
    let d : digit_of (hex_byte (n % 16)) < 16 = omega (arith, byte_value (n % 16) (omega arith)) in
    all_append (written_in k (n / 16)) (hex_byte (n % 16) ∷ []) ∙ rw (written_digits k (n / 16), lt-ltb (digit_of (hex_byte (n % 16))) 16 d)

low_digits_lem : (k n : ℕ) → n / 16 % 16 ^ k * 16 + n % 16 ≡ n % 16 ^ suc k
low_digits_lem k n =
    rw pow-suc (sym
    (ap (λ (x : ℕ). x % (16 ^ k * 16)) whole ∙ mul-add-mod_self_right (n / 16 / 16 ^ k) (16 ^ k * 16) (n / 16 % 16 ^ k * 16 + n % 16) ∙ mod-eq_of_lt small))
  where
    whole : n ≡ n / 16 / 16 ^ k * (16 ^ k * 16) + (n / 16 % 16 ^ k * 16 + n % 16)
    whole = omega (arith, div-add-mod' (n / 16) (16 ^ k), div-add-mod' n 16)

    small : n / 16 % 16 ^ k * 16 + n % 16 < 16 ^ k * 16
    small = omega (arith, mod-lt (n / 16) (one-le-pow k 16 (omega arith)))

-- reading what was written: the number's lowest digits
pub read_written : (k n : ℕ) → number_in (written_in k n) ≡ n % 16 ^ k
unfolding written_in number_from
read_written zero n = omega arith
read_written (suc k) n =
    number_append 0 (written_in k (n / 16)) (hex_byte (n % 16) ∷ [])
    ∙ omega (arith, read_written k (n / 16), byte_value (n % 16) (omega arith), low_digits_lem k n)

-- writing what was read
pub written_after : (k n : ℕ) (s : List ℕ) → all_digits s ≡ true → written_in (length s + k) (number_from n s) ≡ written_in k n ++ s
unfolding all_digits number_from written_in
written_after k n [] a = rw zero-add (sym (append-nil (written_in k n)))
written_after k n (b ∷ s) a =
    let p = both (is_digit b) (all_digits s) a in
    let d = ltb-true (digit_of b) 16 p.0 in
    let q : (n * 16 + digit_of b) / 16 ≡ n = omega arith in
    let r : (n * 16 + digit_of b) % 16 ≡ digit_of b = omega arith in
    let l : suc (length s) + k ≡ length s + suc k = omega arith in
    let w : written_in (suc k) (n * 16 + digit_of b) ≡ written_in k n ++ b ∷ [] = rw (q, r, value_byte b p.0) in
    rw l (written_after (suc k) (n * 16 + digit_of b) s p.1 ∙ ap (λ (x : List ℕ). x ++ s) w ∙ append_snoc (written_in k n) b s)

pub written_read : (s : List ℕ) → all_digits s ≡ true → written_in (length s) (number_in s) ≡ s
unfolding written_in
written_read s a = let l : length s ≡ length s + 0 = omega arith in ap (λ (k : ℕ). written_in k (number_in s)) l ∙ written_after 0 0 s a

-- the digits of two numbers one after the other
pub written_join : (k m a b : ℕ) → b < 16 ^ m → written_in (m + k) (a * 16 ^ m + b) ≡ written_in k a ++ written_in m b
unfolding written_in
written_join k m a b h =
    let v : number_from a (written_in m b) ≡ a * 16 ^ m + b = number_from_lem a (written_in m b) ∙ rw (written_length m b, read_written m b, mod-eq_of_lt h) in
    sym (ap (λ (x : ℕ). written_in (m + k) x) v) ∙ ap (λ (x : ℕ). written_in (x + k) (number_from a (written_in m b))) (sym (written_length m b))
    ∙ written_after k a (written_in m b) (written_digits m b)

-- digits beyond those that are written do not count
pub written_low : (k n : ℕ) → written_in k (n % 16 ^ k) ≡ written_in k n
written_low k n =
    ap (written_in k) (sym (read_written k n)) ∙ ap (λ (j : ℕ). written_in j (number_in (written_in k n))) (sym (written_length k n))
    ∙ written_read (written_in k n) (written_digits k n)

-- a field has room in its digits
pub field_most : (line : List ℕ) (at count : ℕ) → all_digits line ≡ true → field line at count < 16 ^ count
unfolding field
field_most line at count a =
    let rest = drop at line in
    let d : all_digits rest ≡ true = (both (all_digits (take at line)) (all_digits rest) (sym (all_append (take at line) rest)
    ∙ ap all_digits (take-append-drop at line) ∙ a)).1 in
    let t : all_digits (take count rest) ≡ true = (both (all_digits (take count rest)) (all_digits (drop count rest))
    (sym (all_append (take count rest) (drop count rest)) ∙ ap all_digits (take-append-drop count rest) ∙ d)).0 in
    let l : length (take count rest) ≤ count = omega (arith, length-take count rest) in
    omega (arith, number_most (take count rest) t, pow-le-pow_right {n = 16} (omega arith) l)

-- a byte that is no digit does not stand among digits
pub plain_digits : (line : List ℕ) → all_digits line ≡ true → (b : ℕ) → is_digit b ≡ false → (k : ℕ) → k < length line → get_or line k 0 ≡ b → ⊥
plain_digits line a b n k h e = let f = all_not line k h (ap is_digit e ∙ n) in let z : ◌≡◌ {A = ℕ} 0 1 = cc in omega arith
