-- The tokens of a text, piece by piece from its end.
use Rattle.std.proofs.Common.{◌≡◌, ℕ, ◌+◌, true, false, List, [], ◌∷◌, ◌++◌, length, Some, Ok, refl, ap, subst}
use Rattle.std.proofs.lemmas.Bool.{and_parts, both_ways}
use Rattle.std.proofs.lemmas.List.{append-nil}
use Rattle.std.proofs.lemmas.Slice.Eq.{bytes_eq-Decides}
use Rattle.std.specs.Prelude.{bytes_eq}
use Rattle.hippo_values.specs.Names.{lower_case, is_name, is_word, is_word_byte, keyword_of}
use Rattle.hippo_values_text.specs.Quoting.{quoted_text}
use Rattle.hippo_values.specs.Texts.{Txt}
use Rattle.hippo_values.specs.declared.keywords.Keyword as words
use Rattle.hippo_values.specs.declared.keywords.Keyword.TheVariants.{KDate}
use Rattle.hippo_lexer.specs.Cutting.{is_date}
use Rattle.hippo_lexer.specs.Grammar.{IsToken, IsCut, IsWholeWord, IsLongestSign, a_keyword, a_name, a_quoted_text, a_sign, at_end, at_blank, at_token}
use Rattle.hippo_lexer.specs.Spelling.{begins_with, is_quote, sign_of}
use Rattle.hippo_lexer.specs.declared.kinds.Symbol as signs
use Rattle.hippo_lexer.specs.declared.kinds.Token.{Token}
use Rattle.hippo_lexer.specs.declared.kinds.TokenKind.{TokenKind}
use Rattle.hippo_lexer.specs.declared.kinds.TokenKind.TheVariants.{Word, Keyword, Quoted, Symbol}
use Rattle.hippo_model.specs.Keepable.{is_folded_name}
use Rattle.hippo_spj_reader.specs.Front.{Kinds, kinds}

-- the text has tokens of these kinds, wherever it begins
abbrev pub Says : Txt → Kinds → Type 0
Says text said =
    (place : ℕ) → (tokens : List Token) × IsCut place text (Ok tokens) × (kinds tokens ≡ said)

-- what may follow a word or a number, and what may follow a quoted text
abbrev pub EndsWord : Txt → Type 0
EndsWord rest = begins_with is_word_byte rest ≡ false

pub says-nothing : Says [] []
says-nothing place = ([], at_end place, refl)

pub says-blank : (rest : Txt) (said : Kinds) → Says rest said → Says (32 ∷ rest) said
says-blank rest said more place =
    let later = more (place + 1) in
    (later.0, at_blank place 32 rest (Ok later.0) refl later.1, later.2)

pub says-token : (text rest : Txt) (kind : TokenKind) (said : Kinds) → IsToken text kind rest
    → Says rest said → Says (text ++ rest) (kind ∷ said)
says-token text rest kind said is more place =
    let later = more (place + length text) in
    let token : Token = record { kind = kind; start = place; end = place + length text } in (
      token ∷ later.0,
      at_token place (text ++ rest) text rest kind (Ok later.0)
          (Ok (token ∷ later.0)) is later.1 refl refl,
      ap (λ (k : Kinds). kind ∷ k) later.2,
    )

-- the word writes the keyword, which is not DATE
pub record Spells (word : Txt) (keyword : words.Keyword) : Type 0 where
  pub form : is_word word ≡ true
  pub written : keyword_of word ≡ Some keyword
  pub other : is_date (Keyword keyword) ≡ false

no_date : (keyword : words.Keyword) → is_date (Keyword keyword) ≡ false → keyword ≡ KDate → ⊥
no_date keyword other same =
    both_ways _ other (ap (λ (k : words.Keyword). is_date (Keyword k)) same)

pub says-keyword : (word rest : Txt) (keyword : words.Keyword) (said : Kinds) → Spells word keyword
    → EndsWord rest → Says rest said → Says (word ++ rest) (Keyword keyword ∷ said)
says-keyword word rest keyword said spells ends more =
    let whole : IsWholeWord word rest = record { form = spells.form; ends = ends } in
    says-token word rest (Keyword keyword) said
    (a_keyword word rest keyword whole spells.written
    (λ same. absurd (no_date keyword spells.other same))) more

-- a keyword and a blank
pub says-word : (word rest : Txt) (keyword : words.Keyword) (said : Kinds) → Spells word keyword
    → Says rest said → Says (word ++ 32 ∷ rest) (Keyword keyword ∷ said)
says-word word rest keyword said spells more =
    says-keyword word (32 ∷ rest) keyword said spells refl (says-blank rest said more)

-- a keyword at the end
pub says-last_word : (word : Txt) (keyword : words.Keyword) → Spells word keyword
    → Says word (Keyword keyword ∷ [])
says-last_word word keyword spells =
    subst (λ (text : Txt). Says text (Keyword keyword ∷ [])) (append-nil word)
    (says-keyword word [] keyword [] spells refl says-nothing)

-- a name in lower case
pub says-name : (name rest : Txt) (said : Kinds) → is_folded_name name ≡ true → EndsWord rest
    → Says rest said → Says (name ++ rest) (Word name ∷ said)
says-name name rest said is ends more =
    let parts = and_parts (is_name name) (bytes_eq (lower_case name) name) is in
    let form = (and_parts _ _ (and_parts _ _ parts.0).0).0 in
    let whole : IsWholeWord name rest = record { form = form; ends = ends } in
    let same : lower_case name ≡ name = (bytes_eq-Decides (lower_case name) name).0 parts.1 in
    says-token name rest (Word name) said
    (subst (λ (word : Txt). IsToken name (Word word) rest) same (a_name name rest whole parts.0))
    more

pub says-name_first : (name rest : Txt) (said : Kinds) → is_folded_name name ≡ true → Says rest said
    → Says (name ++ 32 ∷ rest) (Word name ∷ said)
says-name_first name rest said is more =
    says-name name (32 ∷ rest) said is refl (says-blank rest said more)

pub says-last_name : (name : Txt) → is_folded_name name ≡ true → Says name (Word name ∷ [])
says-last_name name is =
    subst (λ (text : Txt). Says text (Word name ∷ [])) (append-nil name)
    (says-name name [] [] is refl says-nothing)

-- a symbol that no following byte makes longer
pub says-sign : (text rest : Txt) (sign : signs.Symbol) (said : Kinds) → sign_of text ≡ Some sign
    → IsLongestSign text rest → Says rest said → Says (text ++ rest) (Symbol sign ∷ said)
says-sign text rest sign said is longest more =
    says-token text rest (Symbol sign) said (a_sign text rest sign is longest) more

-- a text between quotes
pub says-quoted_text : (text rest : Txt) (said : Kinds) → begins_with is_quote rest ≡ false
    → Says rest said → Says (quoted_text text ++ rest) (Quoted text ∷ said)
says-quoted_text text rest said ends more =
    says-token (quoted_text text) rest (Quoted text) said
    (a_quoted_text (quoted_text text) text rest refl ends) more

-- a word in any case that is not a word of the language
pub says-plain_word : (word rest : Txt) (said : Kinds) → is_name word ≡ true → EndsWord rest
    → Says rest said → Says (word ++ rest) (Word (lower_case word) ∷ said)
says-plain_word word rest said is ends more =
    let form = (and_parts _ _ (and_parts _ _ is).0).0 in
    says-token word rest (Word (lower_case word)) said
    (a_name word rest (record { form = form; ends = ends }) is) more
