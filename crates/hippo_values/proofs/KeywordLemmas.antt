-- The code's table, split by first letter, finds the same as the two lists of the definition.
use Rattle.std.proofs.Common.{◌≡◌, ℕ, ◌+◌, ◌-◌, ◌<◌, ◌≤◌, ◌==◌, Bool, true, false, ◌&&◌, List, [], ◌∷◌, ◌++◌, map, take, drop, replicate, slice_index_or, Some, None, cond, if◌then◌else◌, refl, sym, ap, ◌∙◌, inl, inr, arith, zero-add, bytes_eq, nat_le, Bor}
use Rattle.std.specs.Option.{option_or}
use Rattle.std.specs.Map.{lookup}
use Rattle.std.specs.List.{list_any, filter, range_with_len}
use Rattle.std.specs.Char.{is_ascii_alphabetic, to_ascii_lowercase}
use Rattle.std.proofs.Math.ListN.{get_or}
use Rattle.std.proofs.lemmas.Bool.{cases_Bool, leb-true, and_parts}
use Rattle.std.proofs.lemmas.Bool.Decides.{nat_tests}
use Rattle.std.proofs.lemmas.List.{get_or-replicate, take-map, drop-map}
use Rattle.std.proofs.lemmas.List.FromFn.{get_or-map-range_with_len}
use Rattle.std.proofs.lemmas.Map.Entries.{lookup-filter-keys}
use Rattle.std.proofs.lemmas.Map.Made.{lookup-map_values}
use Rattle.std.proofs.lemmas.Slice.Eq.{bytes_eq-Decides}
use Rattle.hippo_values.specs.declared.keywords.Reserved.{Reserved}
use Rattle.hippo_values.specs.declared.keywords.Reserved.TheVariants as reserved
use Rattle.hippo_values.specs.declared.keywords.TheConstants.{WORDS, STARTS}
use Rattle.hippo_values.specs.Names.{lower_case, keywords, unsupported_words, letter_of, reserved_of}

abbrev Entries : Type 0
Entries = List (List ℕ × Reserved)

-- the two lists as one
abbrev entries : Entries
entries = map (λ e. (e.0, reserved.Keyword e.1)) keywords ++ map (λ word. (word, reserved.Unsupported)) unsupported_words

-- A lookup in two lists, one after the other.
lookup-append : {X : Type 0} (test : List ℕ → Bool) (front back : List (List ℕ × X)) → lookup test (front ++ back) ≡ option_or (lookup test front) (lookup test back)
lookup-append test [] back = refl
lookup-append test (entry ∷ front) back = elim (cases_Bool (test entry.0)) [
  | inl passed ↦ rw passed refl
  | inr failed ↦ rw failed (lookup-append test front back)
]

lookup-marked : {X : Type 0} (test : List ℕ → Bool) (mark : X) (words : List (List ℕ)) → lookup test (map (λ word. (word, mark)) words) ≡ (if list_any test words then Some mark else None)
lookup-marked test mark [] = refl
lookup-marked test mark (word ∷ words) = elim (cases_Bool (test word)) [
  | inl passed ↦ rw passed refl
  | inr failed ↦ rw failed (lookup-marked test mark words)
]

lookup-entries : (word : List ℕ) → lookup (λ known. bytes_eq known (lower_case word)) entries ≡ reserved_of word
lookup-entries word =
    let test : List ℕ → Bool = λ known. bytes_eq known (lower_case word) in
    lookup-append test (map (λ e. (e.0, reserved.Keyword e.1)) keywords) (map (λ w. (w, reserved.Unsupported)) unsupported_words)
    ∙ (ap (λ o. option_or o (lookup test (map (λ w. (w, reserved.Unsupported)) unsupported_words))) (lookup-map_values reserved.Keyword test keywords)
    ∙ ap (option_or _) (lookup-marked test reserved.Unsupported unsupported_words))

-- The words that begin with a letter, by the definition and by the code.
abbrev begins : ℕ → List ℕ → Bool
begins letter [] = false
begins letter (first ∷ rest) = first == letter

abbrev of_letter : ℕ → Entries
of_letter k = filter (λ e. begins (97 + k) e.0) entries

abbrev start_of : ℕ → ℕ
start_of k = slice_index_or STARTS k 0

-- the code's table
abbrev words : Entries
words = map (λ e. (lower_case e.0.now, e.1)) WORDS

abbrev part_of : ℕ → Entries
part_of k = take (start_of (k + 1) - start_of k) (drop (start_of k) words)

parts_are : map part_of (range_with_len 0 26) ≡ map of_letter (range_with_len 0 26)
unfolding keywords unsupported_words
parts_are = refl

part_is : (k : ℕ) → k < 26 → part_of k ≡ of_letter k
part_is k small =
    sym (get_or-map-range_with_len part_of 0 26 k k [] small (zero-add k))
    ∙ (ap (λ lists. get_or lists k []) parts_are ∙ get_or-map-range_with_len of_letter 0 26 k k [] small (zero-add k))

-- The bounds of that part of the table.
abbrev is_part : ℕ → Bool
is_part k = nat_le (start_of k) (start_of (k + 1)) && nat_le (start_of (k + 1)) 80

are_parts : map is_part (range_with_len 0 26) ≡ replicate 26 true
are_parts = refl

pub bounds : (k : ℕ) → k < 26 → (start_of k ≤ start_of (k + 1)) × (start_of (k + 1) ≤ 80)
bounds k small =
    let is : is_part k ≡ true = sym (get_or-map-range_with_len is_part 0 26 k k false small (zero-add k)) ∙ (ap (λ tests. get_or tests k false) are_parts ∙ get_or-replicate 26 k true false small) in
    let both = and_parts _ _ is in
    (leb-true _ _ both.0, leb-true _ _ both.1)

-- a lookup that folds the case of the table's words
abbrev plain : List (Bor (List ℕ) × Reserved) → Entries
plain table = map (λ e. (lower_case e.0.now, e.1)) table

lookup-plain : (word : List ℕ) (table : List (Bor (List ℕ) × Reserved)) → lookup (λ known. bytes_eq (lower_case known.now) word) table ≡ lookup (λ known. bytes_eq known word) (plain table)
lookup-plain word [] = refl
lookup-plain word (entry ∷ table) = ap (cond (bytes_eq (lower_case entry.0.now) word) (Some entry.1)) (lookup-plain word table)

pub lookup-part : (word : List ℕ) (table : List (Bor (List ℕ) × Reserved)) (start count : ℕ) → lookup (λ known. bytes_eq (lower_case known.now) word) (take count (drop start table)) ≡ lookup (λ known. bytes_eq known word) (take count (drop start (plain table)))
lookup-part word table start count =
    lookup-plain word (take count (drop start table))
    ∙ ap (lookup (λ known. bytes_eq known word)) (sym (ap (take count) (drop-map _ start table) ∙ take-map _ count (drop start table)))

-- The first letter of a word selects the part of the table to search.
letter_first : (first k : ℕ) → (if is_ascii_alphabetic first then Some (to_ascii_lowercase first - 97) else None) ≡ Some k → (to_ascii_lowercase first == 97 + k) ≡ true
letter_first first k letter = elim (cases_Bool (is_ascii_alphabetic first)) [
  | inl is ↦ let same : Some (to_ascii_lowercase first - 97) ≡ Some k = rw is at letter in let k_is : to_ascii_lowercase first - 97 ≡ k = cc in grind (arith, nat_tests)
  | inr other ↦ let none : None ≡ Some k = rw other at letter in (cc)
]

begins_alike : (word : List ℕ) (k : ℕ) → letter_of word ≡ Some k → (known : List ℕ) → bytes_eq known (lower_case word) ≡ true → begins (97 + k) known ≡ true
begins_alike [] k letter known same = (cc)
begins_alike (first ∷ rest) k letter known same = rw ((bytes_eq-Decides known (lower_case (first ∷ rest))).0 same) (letter_first first k letter)

pub found_by_letter : (word : List ℕ) (k : ℕ) → letter_of word ≡ Some k → k < 26 → lookup (λ known. bytes_eq known (lower_case word)) (part_of k) ≡ reserved_of word
found_by_letter word k letter small =
    let test : List ℕ → Bool = λ known. bytes_eq known (lower_case word) in
    ap (lookup test) (part_is k small)
    ∙ (lookup-filter-keys test (begins (97 + k)) true (begins_alike word k letter) entries ∙ lookup-entries word)

-- Each reserved word begins with a letter.
abbrev begins_small : List ℕ → Bool
begins_small [] = false
begins_small (first ∷ rest) = nat_le 97 first && nat_le first 122

all_small : filter (λ e. begins_small e.0) entries ≡ entries
unfolding keywords unsupported_words
all_small = refl

no_small : (first : ℕ) → (if is_ascii_alphabetic first then Some (to_ascii_lowercase first - 97) else None) ≡ None → (nat_le 97 (to_ascii_lowercase first) && nat_le (to_ascii_lowercase first) 122) ≡ false
no_small first none = elim (cases_Bool (is_ascii_alphabetic first)) [
  | inl is ↦ let some : Some (to_ascii_lowercase first - 97) ≡ None = rw is at none in (cc)
  | inr other ↦ grind (arith, nat_tests)
]

no_letter : (word : List ℕ) → letter_of word ≡ None → (known : List ℕ) → bytes_eq known (lower_case word) ≡ true → begins_small known ≡ false
no_letter [] none known same = rw ((bytes_eq-Decides known []).0 same) refl
no_letter (first ∷ rest) none known same = rw ((bytes_eq-Decides known (lower_case (first ∷ rest))).0 same) (no_small first none)

pub none_without_letter : (word : List ℕ) → letter_of word ≡ None → reserved_of word ≡ None
none_without_letter word none =
    let test : List ℕ → Bool = λ known. bytes_eq known (lower_case word) in
    sym (lookup-entries word) ∙ (sym (ap (lookup test) all_small) ∙ lookup-filter-keys test begins_small false (no_letter word none) entries)
