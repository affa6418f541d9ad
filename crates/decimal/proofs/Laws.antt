-- Laws of decimal text: what bytes are with one more; how many digits a number has, that they are its lowest, and their value.
use mathlib.Core.Path.{◌≡◌, refl, sym, ap, ◌∙◌, subst}
use mathlib.Core.Logic.{⊎_elim}
use mathlib.Core.List.{List, [], ◌∷◌, ◌++◌}
use mathlib.Core.Bool.{Bool, true, false, cond, ◌&&◌}
use Prim.Native.Nat.{ℕ, zero, suc, ◌+◌, ◌-◌, ◌*◌, ◌/◌, ◌%◌, ◌^◌, ◌≤◌, ◌<◌}
use native.Mathlib.Nat.{pow-suc}
use native.Mathlib.Numerals.{add-one}
use native.Mathlib.Omega.{arith}
use lib.Dec.{leb, eqb}
use lib.IntN.{ℤ, pos, negsuc, nat_abs}
use lib.Signed.{lt_z}
use lib.Seq.{take-suc}
use lib.ListN.{length, take, get_or, length-append, get_or-append}
use borrow.Author.Tests.{ltb-true, leb-true, le-leb, lt-leb, lt-ltb, le-ltb, eq-eqb, ne_eqb}
use Rattle.std.specs.Prelude.{decimal}
use Rattle.std.proofs.lemmas.Fmt.{decimal_from_appends, length-decimal-le}
use Rattle.basics.proofs.Cases.{both}
use Rattle.basics.proofs.Order.{le_or_lt}
use Rattle.decimal.specs.declared.Number.{Number}
use Rattle.decimal.specs.declared.Number.TheVariants.{Sign, Natural, Negative, Other}
use Rattle.decimal.specs.Decimal.{is_digit, all_digits, value_from, value, capped, behind_minus, number_of, with_digit, with_minus, pushed}
use Rattle.decimal.specs.Decimal.{digits_in, text, signed_text}

-- ---- digits

pub digit_range : (b : ℕ) → is_digit b ≡ true → (48 ≤ b) × (b ≤ 57)
digit_range b h = let p = both (leb 48 b) (leb b 57) h in (leb-true 48 b p.0, leb-true b 57 p.1)

pub in_range_lem : (b : ℕ) → 48 ≤ b → b ≤ 57 → is_digit b ≡ true
in_range_lem b h k = rw (le-leb 48 b h, le-leb b 57 k)

-- a digit is no minus sign
pub no_minus : (b : ℕ) → is_digit b ≡ true → eqb b 45 ≡ false
no_minus b h = ne_eqb b 45 (λ e. omega (arith, digit_range b h))

and_assoc : (x y z : Bool) → (x && (y && z)) ≡ ((x && y) && z)
and_assoc true y z = refl
and_assoc false y z = refl

pub all_append : (s t : List ℕ) → all_digits (s ++ t) ≡ (all_digits s && all_digits t)
unfolding all_digits
all_append [] t = refl
all_append (b ∷ s) t = ap (λ (x : Bool). is_digit b && x) (all_append s t) ∙ and_assoc (is_digit b) (all_digits s) (all_digits t)

value_append : (n : ℕ) (s t : List ℕ) → value_from n (s ++ t) ≡ value_from (value_from n s) t
unfolding value_from
value_append n [] t = refl
value_append n (b ∷ s) t = value_append (n * 10 + (b - 48)) s t

-- ---- reading

same : {A : Type 0} (x : Bool) (a : A) → cond x a a ≡ a
same true a = refl
same false a = refl

-- bytes that are nothing stay so
pub stays : (b : ℕ) → pushed Other b ≡ Other
unfolding pushed
stays b = rw (same (is_digit b) Other, same (eqb b 45) Other)

-- one byte more, by what it is
pub pushed_minus : (number : Number) (b : ℕ) → b ≡ 45 → pushed number b ≡ with_minus number
unfolding pushed
pushed_minus number b e = rw (eq-eqb b 45 e)

pub pushed_digit : (number : Number) (b : ℕ) → 48 ≤ b → b ≤ 57 → pushed number b ≡ with_digit number (b - 48)
unfolding pushed
pushed_digit number b l h = rw (ne_eqb b 45 (λ e. omega arith), le-leb 48 b l, le-leb b 57 h)

pub pushed_below : (number : Number) (b : ℕ) → (b ≡ 45 → ⊥) → b < 48 → pushed number b ≡ Other
unfolding pushed
pushed_below number b n h = rw (ne_eqb b 45 n, lt-leb 48 b h)

pub pushed_above : (number : Number) (b : ℕ) → 57 < b → pushed number b ≡ Other
unfolding pushed
pushed_above number b h = rw (ne_eqb b 45 (λ e. omega arith), le-leb 48 b (omega arith), lt-leb b 57 h)

-- one byte more behind digits, of which `wrap` makes a number
module _ (wrap : ℕ → Number) where
  abbrev made : List ℕ → Number
  made s = cond (all_digits s) (wrap (capped (value s))) Other

  made_more : ((n b : ℕ) → pushed (wrap n) b ≡ cond (eqb b 45) Other (cond (is_digit b) (wrap (capped (n * 10 + (b - 48)))) Other))
      → (s : List ℕ) (b : ℕ) → made (s ++ b ∷ []) ≡ pushed (made s) b
  unfolding all_digits value_from
  made_more h s b = rw (all_append s (b ∷ []), value_append 0 s (b ∷ [])) (go (all_digits s) (is_digit b) refl)
    where
      go : (x y : Bool) → is_digit b ≡ y
          → cond (x && (y && true)) (wrap (capped (value s * 10 + (b - 48)))) Other ≡ pushed (cond x (wrap (capped (value s))) Other) b
      go false y e = sym (stays b)
      go true true e = sym (h (capped (value s)) b ∙ rw (no_minus b e, e) (ap wrap (omega arith)))
      go true false e = sym (h (capped (value s)) b ∙ rw (e, same (eqb b 45) Other))

natural_more : (s : List ℕ) (b : ℕ) → made Natural (s ++ b ∷ []) ≡ pushed (made Natural s) b
unfolding pushed
natural_more s b = made_more Natural (λ n c. refl) s b

negative_more : (s : List ℕ) (b : ℕ) → made Negative (s ++ b ∷ []) ≡ pushed (made Negative s) b
unfolding pushed
negative_more s b = made_more Negative (λ n c. refl) s b

-- the first digit
first : (wrap : ℕ → Number) (b : ℕ) → made wrap (b ∷ []) ≡ cond (is_digit b) (wrap (b - 48)) Other
unfolding all_digits value_from
first wrap b = go (is_digit b) refl
  where
    go : (y : Bool) → is_digit b ≡ y → cond (y && true) (wrap (capped (0 * 10 + (b - 48)))) Other ≡ cond y (wrap (b - 48)) Other
    go true e = ap wrap (omega (arith, digit_range b e))
    go false e = refl

behind_more : (s : List ℕ) (b : ℕ) → behind_minus (s ++ b ∷ []) ≡ pushed (behind_minus s) b
unfolding behind_minus pushed
behind_more [] b = first Negative b ∙ go (is_digit b) refl
  where
    go : (y : Bool) → is_digit b ≡ y → cond y (Negative (b - 48)) Other ≡ cond (eqb b 45) Other (cond y (Negative (b - 48)) Other)
    go true e = rw (no_minus b e)
    go false e = sym (same (eqb b 45) Other)
behind_more (x ∷ s) b = negative_more (x ∷ s) b

pub more : (s : List ℕ) (b : ℕ) → number_of (s ++ b ∷ []) ≡ pushed (number_of s) b
unfolding number_of behind_minus pushed
more [] b = ap (λ (x : Number). cond (eqb b 45) Sign x) (first Natural b)
more (x ∷ s) b = go (eqb x 45) (behind_more s b) (natural_more (x ∷ s) b)
  where
    go : (m : Bool) → behind_minus (s ++ b ∷ []) ≡ pushed (behind_minus s) b → made Natural (x ∷ s ++ b ∷ []) ≡ pushed (made Natural (x ∷ s)) b
        → cond m (behind_minus (s ++ b ∷ [])) (made Natural (x ∷ s ++ b ∷ [])) ≡ pushed (cond m (behind_minus s) (made Natural (x ∷ s))) b
    go true p q = p
    go false p q = q

-- a byte more of a text
pub more_at : (s : List ℕ) (k : ℕ) → k < length s → {number : Number} → number ≡ number_of (take k s)
    → pushed number (get_or s k 0) ≡ number_of (take (k + 1) s)
more_at s k h e = rw (e, add-one, take-suc s k 0 h) (sym (more (take k s) (get_or s k 0)))

-- what digits are, alone and behind a minus sign
pub of_digits : (s : List ℕ) → all_digits s ≡ true → 0 < length s → number_of s ≡ Natural (capped (value s))
unfolding number_of all_digits
of_digits [] a h = absurd (omega arith)
of_digits (b ∷ s) a h = rw (no_minus b (both (is_digit b) (all_digits s) a).0, a)

pub of_negative : (s : List ℕ) → all_digits s ≡ true → 0 < length s → number_of (45 ∷ s) ≡ Negative (capped (value s))
unfolding number_of behind_minus
of_negative [] a h = absurd (omega arith)
of_negative (b ∷ s) a h = rw a

-- ---- writing

-- the last digit of a number of one, and of one that has more
pub one_digit : (most n : ℕ) → n < 10 → digits_in (suc most) n ≡ (48 + n) ∷ []
unfolding digits_in
one_digit most n h = rw (lt-ltb n 10 h)

pub more_digits : (most n : ℕ) → 10 ≤ n → digits_in (suc most) n ≡ digits_in most (n / 10) ++ (48 + n % 10) ∷ []
unfolding digits_in
more_digits most n h = rw (le-ltb n 10 h)

-- a law of the digits by both
by_digits : (P : List ℕ → ℕ → ℕ → Type 0)
    → ((n : ℕ) → P [] 0 n)
    → ((most n : ℕ) → n < 10 → P ((48 + n) ∷ []) (suc most) n)
    → ((most n : ℕ) → 10 ≤ n → P (digits_in most (n / 10)) most (n / 10) → P (digits_in most (n / 10) ++ (48 + n % 10) ∷ []) (suc most) n)
    → (most n : ℕ) → P (digits_in most n) most n
unfolding digits_in
by_digits P none one many zero n = none n
by_digits P none one many (suc most) n =
    ⊎_elim
    (λ l. subst (λ (s : List ℕ). P s (suc most) n) (sym (more_digits most n l)) (many most n l (by_digits P none one many most (n / 10))))
    (λ l. subst (λ (s : List ℕ). P s (suc most) n) (sym (one_digit most n l)) (one most n l))
    (le_or_lt 10 n)

-- how many there are
pub length_most : (most n : ℕ) → length (digits_in most n) ≤ most
length_most = by_digits (λ s most n. length s ≤ most) (λ n. omega arith) (λ most n h. omega arith) (λ most n h e. rw length-append (omega arith))

pub are_digits : (most n : ℕ) → all_digits (digits_in most n) ≡ true
unfolding all_digits
are_digits =
    by_digits (λ s most n. all_digits s ≡ true) (λ n. refl) (λ most n h. rw (in_range_lem (48 + n) (omega arith) (omega arith)))
    (λ most n h e. rw (all_append, e, in_range_lem (48 + n % 10) (omega arith) (omega arith)))

-- their value, where there are enough
pub value_of : (most n : ℕ) → n < 10 ^ most → value (digits_in most n) ≡ n
unfolding value_from
value_of =
    by_digits (λ s most n. n < 10 ^ most → value s ≡ n) (λ n l. omega arith) (λ most n h l. omega arith)
    (λ most n h e l. rw value_append (omega (arith, e (omega (arith, pow-suc 10 most)))))

pub length_least : (most n : ℕ) → 0 < most → 0 < length (digits_in most n)
length_least =
    by_digits (λ s most n. 0 < most → 0 < length s) (λ n l. l) (λ most n h l. omega arith) (λ most n h e l. rw length-append (omega arith))

-- no more than the number takes, where more are allowed
pub length_fewest : (most n count : ℕ) → 0 < count → n < 10 ^ count → length (digits_in most n) ≤ count
length_fewest =
    by_digits (λ s most n. (count : ℕ) → 0 < count → n < 10 ^ count → length s ≤ count) (λ n count p l. omega arith) (λ most n h count p l. omega arith)
    (λ most n h e. go most n h e)
  where
    go : (most n : ℕ) → 10 ≤ n → ((count : ℕ) → 0 < count → n / 10 < 10 ^ count → length (digits_in most (n / 10)) ≤ count)
        → (count : ℕ) → 0 < count → n < 10 ^ count → length (digits_in most (n / 10) ++ (48 + n % 10) ∷ []) ≤ count
    go most n h e zero p l = absurd (omega arith)
    go most n h e (suc zero) p l = absurd (omega arith)
    go most n h e (suc (suc k)) p l = rw length-append (omega (arith, e (suc k) (omega arith) (omega (arith, pow-suc 10 (suc k)))))

-- the first is `0` in 0 alone
pub no_leading_zero : (most n : ℕ) → n < 10 ^ most → get_or (digits_in most n) 0 0 ≡ 48 → n ≡ 0
no_leading_zero =
    by_digits (λ s most n. n < 10 ^ most → get_or s 0 0 ≡ 48 → n ≡ 0) (λ n l z. omega arith) (λ most n h l z. omega arith)
    (λ most n h e l z. absurd (go most n h e l z))
  where
    go : (most n : ℕ) → 10 ≤ n → (n / 10 < 10 ^ most → get_or (digits_in most (n / 10)) 0 0 ≡ 48 → n / 10 ≡ 0) → n < 10 ^ suc most
        → get_or (digits_in most (n / 10) ++ (48 + n % 10) ∷ []) 0 0 ≡ 48 → ⊥
    go zero n h e l z = omega arith
    go (suc most) n h e l z =
        let p = length_least (suc most) (n / 10) (omega arith) in
        let a = get_or-append (digits_in (suc most) (n / 10)) ((48 + n % 10) ∷ []) 0 0 p in
        omega (arith, e (omega (arith, pow-suc 10 (suc most))) (sym a ∙ z))

-- it is what std writes of a number
pub shown : (n : ℕ) → n < 2 ^ 64 → text n ≡ decimal n
shown n h = decimal_from_appends digits_in (record { one = one_digit; more = more_digits }) 20 n h (length-decimal-le 20 n (omega arith) (omega arith) h)

-- the text of a signed number
pub negative_text : (z : ℤ) → lt_z z (pos 0) ≡ true → signed_text z ≡ 45 ∷ text (nat_abs z)
negative_text (pos n) h = absurd (omega (arith, ltb-true n 0 h))
negative_text (negsuc n) h = refl

pub plain_text : (z : ℤ) → lt_z z (pos 0) ≡ false → signed_text z ≡ text (nat_abs z)
plain_text (pos n) h = refl
plain_text (negsuc n) h = let z : ◌≡◌ {A = ℕ} 0 1 = cc in absurd (omega arith)
