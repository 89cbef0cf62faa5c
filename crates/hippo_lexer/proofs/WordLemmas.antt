-- The kind of token of each word.
use Rattle.std.proofs.Common.{◌≡◌, ℕ, ◌<◌, ◌≤◌, ◌⊎◌, Bool, true, false, not, ◌&&◌, List, [], ◌∷◌, length, Option, Some, None, is_some, option_map, refl, sym, ap, ◌∙◌, inl, inr, arith, bytes_eq}
use Rattle.std.specs.Map.{keys_of}
use Rattle.std.specs.Char.{to_ascii_lowercase}
use Rattle.std.specs.List.{list_any, list_all}
use Rattle.std.specs.Prelude.{nat_le}
use Rattle.std.proofs.lemmas.Bool.{cases_Bool, and_parts, both_ways, leb-true, leb-false, lt-leb, not-true, and_left, and_right}
use Rattle.std.proofs.lemmas.List.{length-map}
use Rattle.std.proofs.lemmas.Map.Made.{is_some-lookup}
use Rattle.std.proofs.lemmas.Slice.Eq.{bytes_eq-Decides}
use Rattle.hippo_values.specs.Names.{lower_case, keywords, unsupported_words, is_among, reserved_of, is_reserved, is_word, is_name, keyword_of}
use Rattle.hippo_values.specs.declared.keywords.Keyword.{Keyword}
use Rattle.hippo_values.specs.declared.keywords.Reserved.{Reserved}
use Rattle.hippo_values.specs.declared.keywords.Reserved.TheVariants as reserved
use Rattle.hippo_values.specs.Words.{said_by, word_of}
use Rattle.hippo_values.proofs.OptionLemmas.{none_there, some_there}
use Rattle.hippo_lexer.specs.declared.kinds.TokenKind.TheVariants as kinds
use Rattle.hippo_lexer.specs.Cutting.{kind_of_word, word_kind}

-- the keywords of the grammar
abbrev grammar_words : List (List ℕ)
grammar_words = keys_of keywords

-- a word that is among others equals one of them in lower case
among_one : (words : List (List ℕ)) (test : List ℕ → Bool) (word : List ℕ) → list_all test words ≡ true → is_among words word ≡ true → test (lower_case word) ≡ true
among_one [] test word all among = absurd (both_ways _ refl among)
among_one (known ∷ words) test word all among = elim (cases_Bool (bytes_eq known (lower_case word))) [
  | inl same ↦ rw (sym ((bytes_eq-Decides known (lower_case word)).0 same)) (and_parts _ _ all).0
  | inr other ↦ among_one words test word (and_parts _ _ all).1 (rw other at among)
]

-- a word is a keyword if it is among them
pub keyword-among : (word : List ℕ) → is_some (keyword_of word) ≡ is_among grammar_words word
keyword-among word = is_some-lookup (λ known. bytes_eq known (lower_case word)) keywords

among_short : (words : List (List ℕ)) (word : List ℕ) → list_all (λ known. nat_le (length known) 63) words ≡ true → is_among words word ≡ true → length word ≤ 63
among_short words word all among =
    rw (← length-map word to_ascii_lowercase) (leb-true (length (lower_case word)) 63 (among_one words (λ known. nat_le (length known) 63) word all among))

keywords_short : list_all (λ known. nat_le (length known) 63) grammar_words ≡ true
unfolding keywords
keywords_short = refl

refused_short : list_all (λ known. nat_le (length known) 63) unsupported_words ≡ true
unfolding unsupported_words
refused_short = refl

-- no word is in both lists
apart : list_all (λ known. not (list_any (λ other. bytes_eq other known) unsupported_words)) grammar_words ≡ true
unfolding keywords unsupported_words
apart = refl

keyword_not_refused : (word : List ℕ) → is_among grammar_words word ≡ true → is_among unsupported_words word ≡ false
keyword_not_refused word among = not-true (is_among unsupported_words word) (among_one grammar_words (λ known. not (list_any (λ other. bytes_eq other known) unsupported_words)) word apart among)

no_keyword : (word : List ℕ) → is_among grammar_words word ≡ false → keyword_of word ≡ None
no_keyword word h = none_there (keyword_of word) (keyword-among word ∙ h)

not_among : (words : List (List ℕ)) (word : List ℕ) → list_all (λ known. nat_le (length known) 63) words ≡ true → 63 < length word → is_among words word ≡ false
not_among words word short long = elim (cases_Bool (is_among words word)) [
  | inl among ↦ let within : length word ≤ 63 = among_short words word short among in absurd (omega arith)
  | inr other ↦ other
]

-- Each kind of word.
kind_by : (word : List ℕ) (why : Option Reserved) → reserved_of word ≡ why → word_kind word ≡ option_map kind_of_word (said_by word why)
unfolding word_of
kind_by word why h = ap (λ o. option_map kind_of_word (said_by word o)) h

free_word : (word : List ℕ) → is_among grammar_words word ≡ false → is_among unsupported_words word ≡ false → reserved_of word ≡ None
free_word word other free = rw (no_keyword word other, free) refl

pub kind-keyword : (word : List ℕ) (keyword : Keyword) → keyword_of word ≡ Some keyword → word_kind word ≡ Some (kinds.Keyword keyword)
kind-keyword word keyword h = kind_by word (Some (reserved.Keyword keyword)) (rw h refl)

pub kind-refused : (word : List ℕ) → is_among unsupported_words word ≡ true → word_kind word ≡ Some (kinds.Unsupported (lower_case word))
kind-refused word among = elim (cases_Bool (is_among grammar_words word)) [
  | inl keyword ↦ absurd (both_ways _ (keyword_not_refused word keyword) among)
  | inr other ↦ kind_by word (Some reserved.Unsupported) (rw (no_keyword word other, among) refl)
]

pub kind-name : (word : List ℕ) → is_name word ≡ true → word_kind word ≡ Some (kinds.Word (lower_case word))
kind-name word h =
    let parts = and_parts (is_word word && nat_le (length word) 63) (not (is_reserved word)) h in
    let free : reserved_of word ≡ None = none_there (reserved_of word) (not-true (is_reserved word) parts.1) in
    kind_by word None free ∙ rw h refl

pub kind-long : (word : List ℕ) → 63 < length word → word_kind word ≡ None
kind-long word long =
    let free = free_word word (not_among grammar_words word keywords_short long) (not_among unsupported_words word refused_short long) in
    let no_name : is_name word ≡ false = and_left _ _ (and_right (is_word word) (nat_le (length word) 63) (lt-leb (length word) 63 long)) in
    kind_by word None free ∙ rw no_name refl

-- a word is a keyword, a refused word, a name, or too long
pub word_cases : (word : List ℕ) → is_word word ≡ true → ((keyword : Keyword) × (keyword_of word ≡ Some keyword)) ⊎ ((is_among unsupported_words word ≡ true) ⊎ ((is_name word ≡ true) ⊎ (63 < length word)))
word_cases word form = elim (cases_Bool (is_among grammar_words word)) [
  | inl keyword ↦ inl (some_there (keyword_of word) (keyword-among word ∙ keyword))
  | inr other ↦ inr (elim (cases_Bool (is_among unsupported_words word)) [
    | inl refused ↦ inl refused
    | inr free ↦ inr (elim (cases_Bool (nat_le (length word) 63)) [
      | inl short ↦ inl (rw (form, short, free_word word other free) refl)
      | inr long ↦ inr (leb-false (length word) 63 long)
    ])
  ])
]
