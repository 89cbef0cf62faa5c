-- A text with a meaning, and with nothing to drop at its ends, is itself the question that its line
-- asks.
use Rattle.std.proofs.Common.{◌≡◌, ◌∙◌, ℕ, suc, ◌+◌, ◌-◌, Bool, true, false, not, List, [], ◌∷◌, ◌++◌, length, Option, Some, None, Result, Ok, Err, refl, sym, ap, subst, inl, inr, arith, codes, bytes_eq}
use Rattle.std.specs.Prelude.{◌||◌, slice_get}
use Rattle.std.specs.Char.{to_ascii_lowercase}
use Rattle.std.specs.List.{filter, last_or, list_all, slice_split}
use Rattle.std.specs.Map.{lookup}
use Rattle.std.specs.Option.{option_map_or}
use Rattle.std.proofs.lemmas.Bool.{and_parts, both_ways, cases_Bool, ne_eqb}
use Rattle.std.proofs.lemmas.List.{append-nil, length-append}
use Rattle.std.proofs.lemmas.Option.{same_Some}
use Rattle.std.proofs.lemmas.Slice.Eq.{bytes_eq-Decides}
use Rattle.hippo_values.specs.Names.{lower_case, keyword_of, keywords}
use Rattle.hippo_values.specs.Texts.{Txt, is_space}
use Rattle.hippo_values.specs.declared.keywords.Keyword as words
use Rattle.hippo_values.specs.declared.keywords.Keyword.TheVariants.{KSelect}
use Rattle.hippo_lexer.specs.declared.faults.LexFault.{LexFault}
use Rattle.hippo_lexer.specs.declared.kinds.Token.{Token}
use Rattle.hippo_lexer.specs.declared.kinds.TokenKind.{TokenKind}
use Rattle.hippo_lexer.specs.declared.kinds.TokenKind.TheVariants.{Keyword}
use Rattle.hippo_lexer.specs.Grammar.{IsCut, IsOutcome, IsToken, a_keyword, at_blank, at_end, at_fault, at_token, with_first_token}
use Rattle.hippo_lexer.specs.Spelling.{begins_with, is_blank}
use Rattle.hippo_lexer.specs.Words.{words_check}
use Rattle.hippo_stmt_lines.specs.Forms.{short_words}
use Rattle.hippo_stmt_lines.specs.Words.{is_filled, words_of}
use Rattle.hippo_stmt_ast.specs.declared.statement.RawSelect.{RawSelect}
use Rattle.hippo_stmt_ast.specs.declared.statement.Stmt.TheVariants as stmt
use Rattle.hippo_spj_reader.specs.Front.{Kinds, kinds, same_keyword}
use Rattle.hippo_spj_reader.specs.SelectGrammar as selects
use Rattle.hippo_spj_reader.specs.SelectGrammar.{IsSelect}
use Rattle.hippo_stmt_reader.specs.StatementGrammar as statements
use Rattle.hippo_stmt_reader.specs.StatementGrammar.{IsPlacedSelect, no_semicolon, placed}
use Rattle.hippo_typing.specs.Meanings.{IsSelectText}
use Rattle.hippo_stmt_lines.specs.Commands.{statement_in}
use Rattle.hippo_stmt_lines.proofs.StatementLemmas.{statements_are_read}
use Rattle.hippo_typing_laws.proofs.TextParts.{end_from}
use Rattle.hippo_history_laws.specs.ScriptLaws.{ends_with}
use Rattle.hippo_history_laws.proofs.LineLemmas.{Begins}

abbrev pub Outcome : Type 0
Outcome = Result (List Token) LexFault

-- the last of some tokens
abbrev pub last_token : Token → List Token → Token
last_token first [] = first
last_token first (next ∷ tokens) = last_token next tokens

pub last-at : (first : Token) (tokens : List Token) → slice_get (first ∷ tokens) (length tokens)
    ≡ Some (last_token first tokens)
last-at first [] = refl
last-at first (next ∷ tokens) = last-at next tokens

pub last-ends : (place : ℕ) (first : Token) (tokens : List Token) → end_from place (first ∷ tokens)
    ≡ (last_token first tokens).end
last-ends place first [] = refl
last-ends place first (next ∷ tokens) = last-ends first.end next tokens

-- how the last part of a text ends
pub last_or-append : (before : Option ℕ) (front rest : Txt) → last_or before (front ++ rest)
    ≡ last_or (last_or before front) rest
last_or-append before [] rest = refl
last_or-append before (byte ∷ front) rest = last_or-append (Some byte) front rest

pub rest-ends : (test : ℕ → Bool) (front rest : Txt) → ends_with test (front ++ rest) ≡ false
    → ends_with test rest ≡ false
rest-ends test front [] ends = refl
rest-ends test front (byte ∷ rest) ends =
    sym (ap (λ (last : Option ℕ). option_map_or test last false)
    (last_or-append None front (byte ∷ rest))) ∙ ends

-- a first token, and the result of the rest
abbrev pub Later : Token → Outcome → List Token → Type 0
Later token later tokens = (others : List Token) × (later ≡ Ok others) × (tokens ≡ token ∷ others)

pub later_tokens : (token : Token) (later : Outcome) (tokens : List Token)
    → with_first_token token later ≡ Ok tokens → Later token later tokens
later_tokens token (Ok others) tokens e = (others, refl, cc)
later_tokens token (Err fault) tokens e = absurd cc

pub first_is : (token first : Token) (tokens others : List Token)
    → ◌≡◌ {A = List Token} (first ∷ tokens) (token ∷ others) → first ≡ token
first_is token first tokens others e = cc

-- if no blank is at the end, the last token ends there
past_blank : (place size : ℕ) (tokens : List Token)
    → end_from (place + 1) tokens ≡ place + 1 + suc size
    → end_from place tokens ≡ place + suc (suc size)
past_blank place size [] there = absurd (omega (arith, there))
past_blank place size (first ∷ tokens) there = omega (arith, there)

ends-there : (place : ℕ) (bytes : Txt) (outcome : Outcome) (tokens : List Token)
    → IsCut place bytes outcome → outcome ≡ Ok tokens → ends_with is_blank bytes ≡ false
    → end_from place tokens ≡ place + length bytes
ends-there place bytes outcome [] (at_end _) ok ends = omega arith
ends-there place bytes outcome (first ∷ tokens) (at_end _) ok ends = absurd cc
ends-there place bytes outcome tokens (at_blank _ byte [] _ h later) ok ends =
    absurd (both_ways (is_blank byte) ends h)
ends-there place bytes outcome tokens (at_blank _ byte (next ∷ rest) _ h later) ok ends =
    past_blank place (length rest) tokens
    (ends-there (place + 1) (next ∷ rest) outcome tokens later ok ends)
ends-there place bytes outcome tokens (at_token _ _ text rest kind later _ h is_cut cut is_first) ok ends =
    let token : Token = record { kind = kind; start = place; end = place + length text } in
    let remaining = later_tokens token later tokens (sym is_first ∙ ok) in
    let plain = rest-ends is_blank text rest (sym (ap (ends_with is_blank) cut) ∙ ends) in
    let there = ends-there (place + length text) rest later remaining.0 is_cut remaining.1 plain in
    let size : length bytes ≡ length text + length rest =
    ap length cut ∙ length-append text rest in
    ap (end_from place) remaining.2 ∙ there ∙ omega (arith, size)
ends-there place bytes outcome tokens (at_fault _ _ fault h) ok ends = absurd cc

-- if no blank is at the beginning, the first token begins there
record Opens (text : Txt) (first : Token) : Type 0 where
  word : Txt
  rest : Txt
  parts : text ≡ word ++ rest
  token : IsToken word first.kind rest
  start : first.start ≡ 0

opens : (text : Txt) (outcome : Outcome) (first : Token) (tokens : List Token)
    → IsCut 0 text outcome → outcome ≡ Ok (first ∷ tokens) → begins_with is_blank text ≡ false
    → Opens text first
opens text outcome first tokens (at_end _) ok plain = absurd cc
opens text outcome first tokens (at_blank _ byte rest _ h later) ok plain =
    absurd (both_ways (is_blank byte) plain h)
opens text outcome first tokens (at_token _ _ word rest kind later _ h is_cut cut is_first) ok plain =
    let token : Token = record { kind = kind; start = 0; end = 0 + length word } in
    let remaining = later_tokens token later (first ∷ tokens) (sym is_first ∙ ok) in
    let same : first ≡ token = first_is token first tokens remaining.0 remaining.2 in
    let said : first.kind ≡ kind = ap (λ (t : Token). t.kind) same in
    record {
      word = word;
      rest = rest;
      parts = cut;
      token = subst (λ (k : TokenKind). IsToken word k rest) (sym said) h;
      start = ap (λ (t : Token). t.start) same;
    }
opens text outcome first tokens (at_fault _ _ fault h) ok plain = absurd cc

-- the first token is SELECT
select_first : (tokens : Kinds) (select : RawSelect) (rest : Kinds) → IsSelect tokens select rest
    → (remaining : Kinds) × (tokens ≡ Keyword KSelect ∷ remaining)
select_first _ select rest (selects.plain_select a b) = (_, refl)
select_first _ select rest (selects.distinct a b) = (_, refl)
select_first _ select rest (selects.grouped_select a b c) = (_, refl)

head_is : (kind other : TokenKind) (tokens remaining : Kinds)
    → ◌≡◌ {A = Kinds} (kind ∷ tokens) (other ∷ remaining) → kind ≡ other
head_is kind other tokens remaining e = cc

keyword_written : (word rest : Txt) (kind : TokenKind) (keyword : words.Keyword)
    → IsToken word kind rest → kind ≡ Keyword keyword → keyword_of word ≡ Some keyword
keyword_written word rest kind keyword (a_keyword _ _ one whole found alone) same = cc
keyword_written word rest kind keyword token same = absurd cc

-- an entry of a table under which something is found
pub record IsEntry {X : Type 0} (test : Txt → Bool) (holds : Txt × X → Bool) (found : X) : Type 0 where
  pub entry : Txt × X
  pub passes : test entry.0 ≡ true
  pub fits : holds entry ≡ true
  pub is : entry.1 ≡ found

pub looked-up : {X : Type 0} (test : Txt → Bool) (holds : Txt × X → Bool) (table : List (Txt × X))
    (found : X) → list_all holds table ≡ true → lookup test table ≡ Some found
    → IsEntry test holds found
looked-up test holds [] found all e = absurd cc
looked-up test holds (entry ∷ table) found all e =
    let parts = and_parts (holds entry) (list_all holds table) all in
    elim (cases_Bool (test entry.0)) [
      | inl passed ↦
          let same : Some entry.1 ≡ Some found = rw passed at e in
          record {
            entry = entry;
            passes = passed;
            fits = parts.0;
            is = same_Some entry.1 found same;
          }
      | inr failed ↦ looked-up test holds table found parts.1 (rw failed at e)
    ]

abbrev spells_select : Txt × words.Keyword → Bool
spells_select (word, keyword) =
    not (same_keyword keyword KSelect) || bytes_eq word (codes "select")

select-spelled : (word : Txt) → keyword_of word ≡ Some KSelect → lower_case word ≡ codes "select"
unfolding keywords
select-spelled word found =
    let there = looked-up (λ (known : Txt). bytes_eq known (lower_case word)) spells_select keywords
    KSelect refl found in
    let is_select : bytes_eq there.entry.0 (codes "select") ≡ true =
    subst (λ (k : words.Keyword). spells_select (there.entry.0, k) ≡ true) there.is there.fits in
    sym ((bytes_eq-Decides there.entry.0 (lower_case word)).0 there.passes)
    ∙ (bytes_eq-Decides there.entry.0 (codes "select")).0 is_select

-- the first word of the line's text begins with `se`, and no short word does
record Letters (word : Txt) : Type 0 where
  first : ℕ
  second : ℕ
  rest : Txt
  parts : word ≡ first ∷ second ∷ rest
  is_s : to_ascii_lowercase first ≡ 115
  is_e : to_ascii_lowercase second ≡ 101

two_heads : (one other x y : ℕ) (rest more : Txt)
    → ◌≡◌ {A = Txt} (one ∷ other ∷ rest) (x ∷ y ∷ more) → (one ≡ x) × (other ≡ y)
two_heads one other x y rest more e = (cc, cc)

letters : (word : Txt) → lower_case word ≡ codes "select" → Letters word
letters [] same = absurd cc
letters (first ∷ []) same = absurd cc
letters (first ∷ second ∷ rest) same =
    let heads =
    two_heads (to_ascii_lowercase first) (to_ascii_lowercase second) 115 101 (lower_case rest)
    (codes "lect") same in
    record {
      first = first;
      second = second;
      rest = rest;
      parts = refl;
      is_s = heads.0;
      is_e = heads.1;
    }

no-short : (first second : ℕ) (rest : Txt) → first ≡ 115 → second ≡ 101
    → lookup (λ known. bytes_eq known (first ∷ second ∷ rest)) short_words ≡ None
no-short first second rest is_s is_e =
    ap (λ (byte : ℕ). lookup (λ known. bytes_eq known (byte ∷ second ∷ rest)) short_words) is_s
    ∙ ap (λ (byte : ℕ). lookup (λ known. bytes_eq known (115 ∷ byte ∷ rest)) short_words) is_e

unspaced : (byte letter : ℕ) → to_ascii_lowercase byte ≡ letter → (letter ≡ 32 → ⊥)
    → is_space byte ≡ false
unspaced byte letter is other = ne_eqb byte 32 (λ same. other (sym is ∙ ap to_ascii_lowercase same))

record Pieces (text : Txt) : Type 0 where
  first : Txt
  later : List Txt
  are : slice_split is_space text ≡ first ∷ later

pieces : (text : Txt) → Pieces text
pieces [] = record { first = []; later = []; are = refl }
pieces (byte ∷ text) = elim (cases_Bool (is_space byte)) [
  | inl space ↦ record { first = []; later = slice_split is_space text; are = rw space refl }
  | inr other ↦
      let rest = pieces text in
      record { first = byte ∷ rest.first; later = rest.later; are = rw (other, rest.are) refl }
]

begins-select : (text : Txt) → Letters text → Begins text
unfolding words_of
begins-select text letters =
    let rest = pieces letters.rest in
    let first : is_space letters.first ≡ false =
    unspaced letters.first 115 letters.is_s (λ e. absurd (omega (arith, e))) in
    let second : is_space letters.second ≡ false =
    unspaced letters.second 101 letters.is_e (λ e. absurd (omega (arith, e))) in
    let split : slice_split is_space (letters.first ∷ letters.second ∷ letters.rest)
    ≡ (letters.first ∷ letters.second ∷ rest.first) ∷ rest.later =
    rw (first, second, rest.are) refl in
    record {
      word = letters.first ∷ letters.second ∷ rest.first;
      words = filter is_filled rest.later;
      are = ap words_of letters.parts ∙ ap (filter is_filled) split;
      plain = no-short (to_ascii_lowercase letters.first) (to_ascii_lowercase letters.second)
          (lower_case rest.first) letters.is_s letters.is_e;
    }

-- in a line, the text is a question with exactly this text
pub record AsksItself (text : Txt) (select : RawSelect) : Type 0 where
  pub begins : Begins text
  pub is : statement_in text ≡ Ok (stmt.Select select 0 (length text))

module _ (text : Txt) (select : RawSelect) (plain : begins_with is_blank text ≡ false)
    (ends : ends_with is_blank text ≡ false) where
  by_tokens : (tokens : List Token) → IsOutcome text (Ok tokens) → words_check tokens ≡ Ok tt
      → IsSelect (kinds tokens) select [] → AsksItself text select
  by_tokens [] cut words reading =
      let front = select_first [] select [] reading in
      let none : ◌≡◌ {A = Kinds} [] (Keyword KSelect ∷ front.0) = front.1 in
      absurd cc
  by_tokens (first ∷ tokens) cut words reading =
      let open_so = opens text (Ok (first ∷ tokens)) first tokens cut refl plain in
      let front = select_first (kinds (first ∷ tokens)) select [] reading in
      let is_select : first.kind ≡ Keyword KSelect =
      head_is first.kind (Keyword KSelect) (kinds tokens) front.0 front.1 in
      let written : keyword_of open_so.word ≡ Some KSelect =
      keyword_written open_so.word open_so.rest first.kind KSelect open_so.token is_select in
      let spelled = letters open_so.word (select-spelled open_so.word written) in
      let spelled_there : Letters text = record {
        first = spelled.first;
        second = spelled.second;
        rest = spelled.rest ++ open_so.rest;
        parts = open_so.parts ∙ ap (λ (word : Txt). word ++ open_so.rest) spelled.parts;
        is_s = spelled.is_s;
        is_e = spelled.is_e;
      } in
      let last : Token = last_token first tokens in
      let ended : end_from 0 (first ∷ tokens) ≡ 0 + length text =
      ends-there 0 text (Ok (first ∷ tokens)) (first ∷ tokens) cut refl ends in
      let placed_end = last-ends 0 first tokens in
      let last_end : last.end ≡ length text = omega (arith, ended, placed_end) in
      let count : length (first ∷ tokens) - 1 ≡ length tokens = omega arith in
      let last_is : slice_get (first ∷ tokens) (length (first ∷ tokens) - 1) ≡ Some last =
      subst (λ (place : ℕ). slice_get (first ∷ tokens) place ≡ Some last) (sym count)
      (last-at first tokens) in
      let is_placed : IsPlacedSelect (first ∷ tokens) select first.start last.end =
      placed (first ∷ tokens) [] (sym (append-nil (first ∷ tokens))) reading no_semicolon refl
      last_is in
      let asked : statement_in text ≡ Ok (stmt.Select select first.start last.end) =
      (statements_are_read text (stmt.Select select first.start last.end)).1
      (record {
        tokens = first ∷ tokens;
        cut = cut;
        words = words;
        reading = statements.select is_placed;
      }) in
      record {
        begins = begins-select text spelled_there;
        is = asked ∙ (λ i. Ok (stmt.Select select (open_so.start i) (last_end i)));
      }

  pub asks-itself : IsSelectText text select → AsksItself text select
  asks-itself read = by_tokens read.tokens read.cut read.words read.reading
