-- What is proved of words: the page to read first. It rests on specs/Text.antt (quoted text as bytes, small letters), specs/Names.antt (the three tables of names,
-- the number that a text names, the name of a number) and specs/Words.antt (what some bytes are). What the contracts say of packed words, by specs/Packed.antt, is
-- said here of their bytes.
use mathlib.Core.Path.{◌≡◌, refl, sym, ap, ◌∙◌}
use mathlib.Core.List.{List, [], ◌∷◌, ◌++◌}
use mathlib.Core.Bool.{true}
use Prim.Native.Nat.{ℕ, ◌≤◌}
use Prim.Native.String.{String}
use lib.ListN.{length}
use Rattle.std.specs.Prelude.{Some, unwrap_or, is_some}
use Rattle.basics.specs.Every.{All}
use Rattle.words.specs.declared.Word.TheVariants.{Letters}
use Rattle.words.specs.Text.{bytes, lower, lowered, same}
use Rattle.words.specs.Names.{calendar_names, weekday_names, request_names, number_named, name_beside, name_of, has_name}
use Rattle.words.specs.Words.{small_letter, all_letters, packed_from, word_of}
use Rattle.words.specs.Packed.{pushed, spells, number_packed}
use Rattle.words.proofs.Packing as packing
use Rattle.words.proofs.Tables.{all_rows, spelled, named, own_number, name_back, name_length, name_or_none, name_where_named}

-- ---- reading

-- a text is read byte by byte
pub read_start : word_of [] ≡ Letters 0
unfolding word_of packed_from all_letters
read_start = refl

pub read_on : (s : List ℕ) (b : ℕ) → word_of (s ++ b ∷ []) ≡ pushed (word_of s) b
read_on = packing.read_on

-- what a word names is what its bytes name: packing loses nothing
pub calendar_named : (s : List ℕ) → number_packed calendar_names (word_of s) ≡ number_named calendar_names s
unfolding all_rows calendar_names bytes lower lowered same small_letter all_letters
calendar_named = named calendar_names refl

pub weekday_named : (s : List ℕ) → number_packed weekday_names (word_of s) ≡ number_named weekday_names s
unfolding all_rows weekday_names bytes lower lowered same small_letter all_letters
weekday_named = named weekday_names refl

pub request_named : (s : List ℕ) → number_packed request_names (word_of s) ≡ number_named request_names s
unfolding all_rows request_names bytes lower lowered same small_letter all_letters
request_named = named request_names refl

-- a word is `all` where its bytes are, their capitals made small
pub all_spelled : (s : List ℕ) → spells (word_of s) "all" ≡ same (bytes "all") (lowered s)
unfolding bytes lower lowered same small_letter all_letters
all_spelled s = spelled s "all" refl

-- ---- names

-- every name of a table belongs to one number
abbrev pub OwnNames : List (ℕ × String) → Type 0
OwnNames table = All (λ (row : ℕ × String). number_named table (bytes row.1) ≡ Some row.0) table

-- and the name of a number that has one leads back to it, so that no two numbers share a name
abbrev pub LeadBack : List (ℕ × String) → Type 0
LeadBack table = (n : ℕ) → has_name table n ≡ true → number_named table (name_of table n) ≡ Some n

pub no_two : (table : List (ℕ × String)) → LeadBack table → (m n : ℕ) → has_name table m ≡ true → has_name table n ≡ true → name_of table m ≡ name_of table n → m ≡ n
no_two table back m n h k e = ap (λ o. unwrap_or o 0) (sym (back m h) ∙ ap (number_named table) e ∙ back n k)

pub calendars_apart : OwnNames calendar_names × LeadBack calendar_names
unfolding all_rows calendar_names number_named bytes lower lowered same
calendars_apart = (own_number calendar_names calendar_names refl, name_back calendar_names calendar_names refl)

pub weekdays_apart : OwnNames weekday_names × LeadBack weekday_names
unfolding all_rows weekday_names number_named bytes lower lowered same
weekdays_apart = (own_number weekday_names weekday_names refl, name_back weekday_names weekday_names refl)

pub requests_apart : OwnNames request_names × LeadBack request_names
unfolding all_rows request_names number_named bytes lower lowered same
requests_apart = (own_number request_names request_names refl, name_back request_names request_names refl)

-- what stands beside a number is its name, where it has one
pub beside_where_named : (table : List (ℕ × String)) (n : ℕ) → is_some (name_beside table n) ≡ has_name table n
beside_where_named table n = sym (name_where_named table n)

pub beside_is_name : (table : List (ℕ × String)) (n : ℕ) → unwrap_or (name_beside table n) [] ≡ name_of table n
beside_is_name table n = sym (name_or_none table n)

-- no name is longer than its field
pub calendar_length : (c : ℕ) → length (name_of calendar_names c) ≤ 11
unfolding all_rows calendar_names bytes
calendar_length = name_length 11 calendar_names refl

pub weekday_length : (d : ℕ) → length (name_of weekday_names d) ≤ 9
unfolding all_rows weekday_names bytes
weekday_length = name_length 9 weekday_names refl
