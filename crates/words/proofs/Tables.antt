-- Laws of any table of names, each from a test that antt computes: what a word names is what its bytes name; what the code finds in its tables;
-- a name leads back to its number.
use mathlib.Core.Path.{◌≡◌, refl, sym, ap, ◌∙◌}
use mathlib.Core.List.{List, [], ◌∷◌, map}
use mathlib.Core.Bool.{Bool, true, false, cond, ◌&&◌, ◌||◌, true≢false}
use Prim.Native.Nat.{ℕ, ◌≤◌}
use Prim.Native.String.{String}
use native.Mathlib.Omega.{arith}
use lib.Dec.{leb, eqb}
use lib.ListN.{length}
use borrow.Author.Tests.{leb-true, eqb-true, eq-eqb}
use Rattle.std.specs.Prelude.{Option, Some, None, option_map, find, unwrap_or, is_some}
use Rattle.std.specs.Borrow.{Bor}
use Rattle.basics.specs.Every.{All}
use Rattle.basics.proofs.Cases.{both, both_hold, fails, cond_elim}
use Rattle.words.specs.declared.Word.{Word}
use Rattle.words.specs.declared.Word.TheVariants.{Letters, Other}
use Rattle.words.specs.Text.{bytes, lowered, same}
use Rattle.words.specs.Names.{number_named, name_beside, name_of, has_name}
use Rattle.words.specs.Words.{all_letters, packed, word_of}
use Rattle.words.specs.Packed.{spells, number_packed}
use Rattle.words.specs.Tables.{name_in}
use Rattle.words.specs.Inner.{equal, packed_in, named_in}
use Rattle.words.proofs.Packing.{letters_in, alike, same_true, same_self, packed_lowered, letters_lowered, length_lowered, letters_back}

-- a test of every row of a table
unfoldable pub all_rows : (ℕ × String → Bool) → List (ℕ × String) → Bool
all_rows f [] = true
all_rows f (row ∷ rest) = f row && all_rows f rest

-- ---- what a word names is what its bytes name

-- a text is a word in small letters
abbrev pub is_name : List ℕ → Bool
is_name t = same (lowered t) t && (leb (length t) 12 && all_letters t)

pub spelled : (s : List ℕ) (name : String) → is_name (bytes name) ≡ true → spells (word_of s) name ≡ same (bytes name) (lowered s)
unfolding word_of spells
spelled s name n = go (leb (length s) 12 && all_letters s) refl
  where
    t : List ℕ
    t = bytes name

    p : (same (lowered t) t ≡ true) × ((leb (length t) 12 && all_letters t) ≡ true)
    p = both (same (lowered t) t) (leb (length t) 12 && all_letters t) n

    q : (leb (length t) 12 ≡ true) × (all_letters t ≡ true)
    q = both (leb (length t) 12) (all_letters t) p.1

    go : (x : Bool) → (leb (length s) 12 && all_letters s) ≡ x → spells (cond x (Letters (packed s)) Other) name ≡ same t (lowered s)
    go true e =
        let w = both (leb (length s) 12) (all_letters s) e in
        alike (eqb (packed t) (packed s)) (same t (lowered s))
        (λ h. let u : t ≡ lowered s = sym (same_true (lowered t) t p.0) ∙ sym (letters_back t q.1 (leb-true (length t) 12 q.0))
        ∙ ap (letters_in 12) (eqb-true (packed t) (packed s) h) ∙ letters_back s w.1 (leb-true (length s) 12 w.0) in
        ap (λ (x : List ℕ). same x (lowered s)) u ∙ same_self (lowered s))
        (λ h. eq-eqb (packed t) (packed s) (ap packed (same_true t (lowered s) h) ∙ packed_lowered 0 s))
    go false e =
        sym
        (fails (same t (lowered s)) (λ h. let u = same_true t (lowered s) h in
        true≢false
        (sym
        (both_hold (leb (length s) 12) (all_letters s) (ap (λ (k : ℕ). leb k 12) (sym (length_lowered s) ∙ ap length (sym u)) ∙ q.0)
        (sym (letters_lowered s) ∙ ap all_letters (sym u) ∙ q.1))
        ∙ e)))

abbrev pub are_names : List (ℕ × String) → Bool
are_names = all_rows (λ row. is_name (bytes row.1))

pub named : (table : List (ℕ × String)) → are_names table ≡ true → (s : List ℕ) → number_packed table (word_of s) ≡ number_named table s
unfolding all_rows number_packed number_named
named [] t s = refl
named ((number, name) ∷ rest) t s = let p = both (is_name (bytes name)) (are_names rest) t in rw (spelled s name p.0, named rest p.1 s)

-- ---- the tables of the code, whose rows are those of the quoted ones

pub equal_name : (name : String) → is_name (bytes name) ≡ true → (word : Word) → equal (word_of (bytes name)) word ≡ spells word name
unfolding word_of spells
equal_name name n word = let t = bytes name in rw (both (same (lowered t) t) (leb (length t) 12 && all_letters t) n).1 (go word)
  where
    go : (w : Word) → equal (Letters (packed (bytes name))) w ≡ spells w name
    go (Letters n) = refl
    go Other = refl

-- the first packed name of a table that is a number, and what stands beside it
abbrev beside : {A : Type 0} → List (Option A × ℕ) → ℕ → Option A
beside [] n = None
beside ((value, name) ∷ rest) n = cond (eqb name n) value (beside rest n)

find_beside : {A : Type 0} (t : List (A × ℕ)) (n : ℕ)
    → option_map (λ row. row.0) (find (λ row. eqb row.1 n) t) ≡ beside (map (λ row. (Some row.0, row.1)) t) n
find_beside [] n = refl
find_beside ((value, name) ∷ rest) n = go (eqb name n) (find_beside rest n)
  where
    go : (x : Bool) → option_map (λ row. row.0) (find (λ row. eqb row.1 n) rest) ≡ beside (map (λ row. (Some row.0, row.1)) rest) n
        → option_map (λ row. row.0) (cond x (Some (value, name)) (find (λ row. eqb row.1 n) rest))
        ≡ cond x (Some value) (beside (map (λ row. (Some row.0, row.1)) rest) n)
    go true e = refl
    go false e = e

beside_named : {A : Type 0} (f : Option ℕ → Option A) → f None ≡ None → (table : List (ℕ × String)) (n : ℕ)
    → beside (map (λ row. (f (Some row.0), packed (bytes row.1))) table) n ≡ f (number_packed table (Letters n))
unfolding number_packed spells
beside_named f z [] n = sym z
beside_named f z ((number, name) ∷ rest) n = rw (beside_named f z rest n) (go (eqb (packed (bytes name)) n))
  where
    go : (x : Bool) → cond x (f (Some number)) (f (number_packed rest (Letters n))) ≡ f (cond x (Some number) (number_packed rest (Letters n)))
    go true = refl
    go false = refl

no_word : (table : List (ℕ × String)) → number_packed table Other ≡ None
unfolding number_packed spells
no_word [] = refl
no_word ((number, name) ∷ rest) = no_word rest

-- what stands in a table of the code; and in a quoted one, whose names are packed and where a row's number is another value
abbrev pub rows : {A : Type 0} → List (A × ℕ) → List (Option A × ℕ)
rows {A} t = map {B = Option A × ℕ} (λ row. (Some row.0, row.1)) t

abbrev pub quoted : {A : Type 0} → (Option ℕ → Option A) → List (ℕ × String) → List (Option A × ℕ)
quoted {A} f table = map {B = Option A × ℕ} (λ row. (f (Some row.0), packed (bytes row.1))) table

-- what the code finds beside a word
pub found : {A : Type 0} (f : Option ℕ → Option A) (t : List (A × ℕ)) (table : List (ℕ × String)) → f None ≡ None
    → rows t ≡ quoted f table → (word : Word) → named_in t word ≡ f (number_packed table word)
unfolding packed_in
found f t table z e (Letters n) = find_beside t n ∙ ap (λ x. beside x n) e ∙ beside_named f z table n
found f t table z e Other = sym z ∙ ap f (sym (no_word table))

-- the first name beside a number
abbrev at : List (ℕ × List ℕ) → ℕ → Option (List ℕ)
at [] number = None
at ((n, name) ∷ rest) number = cond (eqb n number) (Some name) (at rest number)

find_at : (t : List (ℕ × Bor (List ℕ))) (number : ℕ)
    → option_map (λ row. row.1.now) (find (λ row. eqb row.0 number) t) ≡ at (map (λ row. (row.0, row.1.now)) t) number
find_at [] number = refl
find_at ((n, name) ∷ rest) number = go (eqb n number) (find_at rest number)
  where
    go : (x : Bool) → option_map (λ row. row.1.now) (find (λ row. eqb row.0 number) rest) ≡ at (map (λ row. (row.0, row.1.now)) rest) number
        → option_map (λ row. row.1.now) (cond x (Some (n, name)) (find (λ row. eqb row.0 number) rest))
        ≡ cond x (Some name.now) (at (map (λ row. (row.0, row.1.now)) rest) number)
    go true e = refl
    go false e = e

at_beside : (table : List (ℕ × String)) (number : ℕ) → at (map (λ row. (row.0, bytes row.1)) table) number ≡ name_beside table number
unfolding name_beside
at_beside [] number = refl
at_beside ((n, name) ∷ rest) number = rw (at_beside rest number)

-- what the code finds beside a number
pub name_found : (t : List (ℕ × Bor (List ℕ))) (table : List (ℕ × String))
    → map {B = ℕ × List ℕ} (λ row. (row.0, row.1.now)) t ≡ map {B = ℕ × List ℕ} (λ row. (row.0, bytes row.1)) table
    → (number : ℕ) → name_in t number ≡ name_beside table number
unfolding name_in
name_found t table e number = find_at t number ∙ ap (λ x. at x number) e ∙ at_beside table number

pub name_or_none : (table : List (ℕ × String)) (n : ℕ) → name_of table n ≡ unwrap_or (name_beside table n) []
unfolding name_of name_beside
name_or_none [] n = refl
name_or_none ((number, name) ∷ rest) n = rw (name_or_none rest n) (go (eqb number n))
  where
    go : (x : Bool) → cond x (bytes name) (unwrap_or (name_beside rest n) []) ≡ unwrap_or (cond x (Some (bytes name)) (name_beside rest n)) []
    go true = refl
    go false = refl

-- the name that is shown, nothing where there is none
pub name_shown : (o : Option (Bor (List ℕ))) (none : Bor (List ℕ)) → none.now ≡ [] → (table : List (ℕ × String)) (n : ℕ)
    → option_map (λ name. name.now) o ≡ name_beside table n → (unwrap_or o none).now ≡ name_of table n
name_shown o none z table n e = go o none z ∙ ap (λ x. unwrap_or x []) e ∙ sym (name_or_none table n)
  where
    go : (o : Option (Bor (List ℕ))) (none : Bor (List ℕ)) → none.now ≡ [] → (unwrap_or o none).now ≡ unwrap_or (option_map (λ name. name.now) o) []
    go None none z = z
    go (Some name) none z = refl

pub name_where_named : (table : List (ℕ × String)) (n : ℕ) → has_name table n ≡ is_some (name_beside table n)
unfolding has_name name_beside
name_where_named [] n = refl
name_where_named ((number, name) ∷ rest) n = rw (name_where_named rest n) (go (eqb number n))
  where
    go : (x : Bool) → (x || is_some (name_beside rest n)) ≡ is_some (cond x (Some (bytes name)) (name_beside rest n))
    go true = refl
    go false = refl

-- ---- how long names are

abbrev pub no_longer : ℕ → List (ℕ × String) → Bool
no_longer k = all_rows (λ row. leb (length (bytes row.1)) k)

pub name_length : (k : ℕ) (table : List (ℕ × String)) → no_longer k table ≡ true → (n : ℕ) → length (name_of table n) ≤ k
unfolding all_rows name_of
name_length k [] t n = omega arith
name_length k ((number, name) ∷ rest) t n =
    let p = both (leb (length (bytes name)) k) (no_longer k rest) t in
    cond_elim (λ (x : List ℕ). length x ≤ k) (eqb number n) (bytes name) (name_of rest n) (λ e. leb-true (length (bytes name)) k p.0)
    (λ e. name_length k rest p.1 n)

-- ---- a name leads back to its number

abbrev is_number : Option ℕ → ℕ → Bool
is_number None n = false
is_number (Some m) n = eqb m n

number_is : (o : Option ℕ) (n : ℕ) → is_number o n ≡ true → o ≡ Some n
number_is None n e = absurd (true≢false (sym e))
number_is (Some m) n e = ap Some (eqb-true m n e)

module _ (table : List (ℕ × String)) where
  abbrev pub lead_back : List (ℕ × String) → Bool
  lead_back = all_rows (λ row. is_number (number_named table (bytes row.1)) row.0)

  pub own_number : (rows : List (ℕ × String)) → lead_back rows ≡ true → All (λ (row : ℕ × String). number_named table (bytes row.1) ≡ Some row.0) rows
  unfolding all_rows
  own_number [] t = tt
  own_number ((number, name) ∷ rest) t =
      let p = both (is_number (number_named table (bytes name)) number) (lead_back rest) t in
      (number_is (number_named table (bytes name)) number p.0, own_number rest p.1)

  pub name_back : (rows : List (ℕ × String)) → lead_back rows ≡ true → (n : ℕ) → has_name rows n ≡ true → number_named table (name_of rows n) ≡ Some n
  unfolding all_rows has_name name_of
  name_back [] t n h = absurd (true≢false (sym h))
  name_back ((number, name) ∷ rest) t n h =
      let p = both (is_number (number_named table (bytes name)) number) (lead_back rest) t in
      let here = number_is (number_named table (bytes name)) number p.0 in
      go (eqb number n) refl here (name_back rest p.1 n) h
    where
      go : (x : Bool) → eqb number n ≡ x → number_named table (bytes name) ≡ Some number
          → (has_name rest n ≡ true → number_named table (name_of rest n) ≡ Some n) → (x || has_name rest n) ≡ true
          → number_named table (cond x (bytes name) (name_of rest n)) ≡ Some n
      go true e here there h = here ∙ ap Some (eqb-true number n e)
      go false e here there h = there h
