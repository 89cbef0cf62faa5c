-- The text of a question that a run stores is bare.
use Rattle.std.proofs.Common.{◌≡◌, ◌∙◌, ℕ, suc, ◌+◌, ◌-◌, ◌≤◌, Bool, true, false, not, List, [], ◌∷◌, ◌++◌, drop, length, Option, Some, None, Ok, refl, sym, ap, subst, inl, inr, arith, ℤ, bytes_eq}
use Rattle.std.specs.Prelude.{◌==◌, slice_get, slice_range}
use Rattle.std.specs.Char.{is_ascii_digit}
use Rattle.std.specs.List.{last_or, list_all}
use Rattle.std.specs.Option.{option_map_or}
use Rattle.std.proofs.lemmas.Bool.{and_from, and_parts, both_ways, cases_Bool, eqb-true, not-true, not_from_false, or_from}
use Rattle.std.proofs.lemmas.List.{append_assoc, drop_at, length-append, take_at}
use Rattle.std.proofs.lemmas.List.Folds.{list_all-append}
use Rattle.std.proofs.lemmas.Option.{none-some, same_Some}
use Rattle.std.proofs.lemmas.Slice.Eq.{bytes_eq-Decides}
use Rattle.hippo_values.specs.Names.{is_word, is_word_byte}
use Rattle.hippo_values.specs.Texts.{Txt}
use Rattle.hippo_lexer.specs.Cutting.{tokens_from}
use Rattle.hippo_lexer.specs.Grammar.{IsCut, IsNumber, IsOutcome, IsToken, a_day, a_keyword, a_name, a_number, a_quoted_text, a_refused_word, a_sign, at_blank, at_end, at_fault, at_token, negative, plain}
use Rattle.hippo_lexer.specs.Spelling.{begins_with, doubled_quotes, is_blank, sign_of, sign_table}
use Rattle.hippo_lexer.specs.declared.kinds.Symbol.{Symbol}
use Rattle.hippo_lexer.specs.declared.kinds.Token.{Token}
use Rattle.hippo_lexer.specs.declared.kinds.TokenKind.{TokenKind}
use Rattle.hippo_lexer.proofs.EdgeLemmas.{BeginsPlain, token_begins}
use Rattle.hippo_lexer.proofs.RunLemmas.{cut-is}
use Rattle.hippo_stmt_ast.specs.declared.statement.RawSelect.{RawSelect}
use Rattle.hippo_stmt_ast.specs.declared.statement.Stmt.{Stmt}
use Rattle.hippo_spj_reader.specs.Front.{kinds}
use Rattle.hippo_stmt_reader.specs.StatementGrammar as statements
use Rattle.hippo_stmt_reader.specs.StatementGrammar.{IsPlacedSelect, placed, IsStatement, console, open_select, extract_select}
use Rattle.hippo_typing_laws.specs.ReadingLaws.{select_place}
use Rattle.hippo_typing_laws.proofs.QuestionTheorem.{console-none}
use Rattle.hippo_typing_laws.proofs.TextParts.{end_from, end_of, front_of}
use Rattle.hippo_history_laws.specs.ScriptLaws.{QuestionsAreBare, ends_with, is_bare, is_lost, is_unfed}
use Rattle.hippo_history_laws.proofs.QuestionLemmas.{Outcome, first_is, last-at, last-ends, last_or-append, last_token, later_tokens, looked-up}

-- a text whose bytes are not dropped does not end with one that is
ends_so : (test : ℕ → Bool) → ((byte : ℕ) → test byte ≡ true → is_lost byte ≡ false)
    → (before : Option ℕ) (text : Txt) → option_map_or is_lost before false ≡ false
    → list_all test text ≡ true → option_map_or is_lost (last_or before text) false ≡ false
ends_so test stays before [] front all = front
ends_so test stays before (byte ∷ text) front all =
    let parts = and_parts (test byte) (list_all test text) all in
    ends_so test stays (Some byte) text (stays byte parts.0) parts.1

-- a byte that is one of these passes no test that they all fail
stays_by : (test : ℕ → Bool) → test 32 ≡ false → test 9 ≡ false → test 13 ≡ false → (byte : ℕ)
    → test byte ≡ true → is_lost byte ≡ false
stays_by test space tab return byte passes =
    or_from (is_blank byte) (byte == 13)
    (or_from (byte == 32) (byte == 9) (other 32 space) (other 9 tab)) (other 13 return)
  where
    other : (lost : ℕ) → test lost ≡ false → (byte == lost) ≡ false
    other lost fails = elim (cases_Bool (byte == lost)) [
      | inl same ↦
          let there : test lost ≡ true =
          subst (λ (b : ℕ). test b ≡ true) (eqb-true byte lost same) passes in
          absurd (both_ways (test lost) fails there)
      | inr differs ↦ differs
    ]

word-stays : (word : Txt) → is_word word ≡ true → ends_with is_lost word ≡ false
word-stays word is =
    ends_so is_word_byte (stays_by is_word_byte refl refl refl) None word refl
    (and_parts _ (list_all is_word_byte word) is).1

number-stays : (text : Txt) (number : ℤ) → IsNumber text number → ends_with is_lost text ≡ false
number-stays text number (plain _ _ are value) =
    ends_so is_ascii_digit (stays_by is_ascii_digit refl refl refl) None text refl are.1
number-stays text number (negative _ digits _ are spelled value) =
    ap (ends_with is_lost) spelled
    ∙ ends_so is_ascii_digit (stays_by is_ascii_digit refl refl refl) (Some 45) digits refl are.1

quote-stays : (front text : Txt) → text ≡ front ++ 39 ∷ [] → ends_with is_lost text ≡ false
quote-stays front text parts =
    ap (ends_with is_lost) parts
    ∙ ap (λ (last : Option ℕ). option_map_or is_lost last false)
    (last_or-append None front (39 ∷ []))

abbrev stays : Txt × Symbol → Bool
stays (text, sign) = not (ends_with is_lost text)

sign-stays : (text : Txt) (sign : Symbol) → sign_of text ≡ Some sign
    → ends_with is_lost text ≡ false
unfolding sign_of sign_table
sign-stays text sign found =
    let there = looked-up (λ (known : Txt). bytes_eq known text) stays sign_table sign refl found in
    ap (ends_with is_lost) (sym ((bytes_eq-Decides there.entry.0 text).0 there.passes))
    ∙ not-true (ends_with is_lost there.entry.0) there.fits

token-stays : (text rest : Txt) (kind : TokenKind) → IsToken text kind rest
    → ends_with is_lost text ≡ false
token-stays text rest kind (a_keyword _ _ keyword whole found alone) = word-stays text whole.form
token-stays text rest kind (a_refused_word _ _ whole among) = word-stays text whole.form
token-stays text rest kind (a_name _ _ whole form) = word-stays text whole.form
token-stays text rest kind (a_number _ _ number h fits ends) = number-stays text number h
token-stays text rest kind (a_quoted_text _ said _ spelled ends) =
    quote-stays (39 ∷ doubled_quotes said) text spelled
token-stays text rest kind (a_day _ word remaining blanks said _ day opens is_day spelled) =
    quote-stays (word ++ (blanks ++ 39 ∷ doubled_quotes said)) text
    (spelled
    ∙ sym (append_assoc word (blanks ++ 39 ∷ doubled_quotes said) (39 ∷ [])
    ∙ ap (λ (b : Txt). word ++ b) (append_assoc blanks (39 ∷ doubled_quotes said) (39 ∷ []))))
token-stays text rest kind (a_sign _ _ sign h longest) = sign-stays text sign h

-- a text that ends where its last token does
more-stays : (text rest : Txt) → ends_with is_lost text ≡ false → ends_with is_lost rest ≡ false
    → ends_with is_lost (text ++ rest) ≡ false
more-stays text [] one other =
    ap (λ (last : Option ℕ). option_map_or is_lost last false) (last_or-append None text []) ∙ one
more-stays text (byte ∷ rest) one other =
    ap (λ (last : Option ℕ). option_map_or is_lost last false)
    (last_or-append None text (byte ∷ rest)) ∙ other

nothing_there : (place : ℕ) (outcome : Outcome) (first : Token) (tokens : List Token)
    → IsCut place [] outcome → outcome ≡ Ok (first ∷ tokens) → ⊥
unfolding tokens_from
nothing_there place outcome first tokens is_cut ok =
    let none = cut-is place [] outcome is_cut ∙ ok in cc

end-stays : (place : ℕ) (bytes : Txt) (outcome : Outcome) (tokens : List Token)
    → IsCut place bytes outcome → outcome ≡ Ok tokens
    → place + length bytes ≡ end_from place tokens → ends_with is_lost bytes ≡ false
end-stays place bytes outcome tokens (at_end _) ok size = refl
end-stays place bytes outcome [] (at_blank _ byte rest _ h later) ok size =
    absurd (omega (arith, size))
end-stays place bytes outcome (first ∷ tokens) (at_blank _ byte [] _ h later) ok size =
    absurd (nothing_there (place + 1) outcome first tokens later ok)
end-stays place bytes outcome (first ∷ tokens) (at_blank _ byte (next ∷ rest) _ h later) ok size =
    let count : place + 1 + suc (length rest) ≡ end_from first.end tokens = omega (arith, size) in
    end-stays (place + 1) (next ∷ rest) outcome (first ∷ tokens) later ok count
end-stays place bytes outcome tokens (at_token _ _ text rest kind later _ h is_cut cut is_first) ok size =
    let token : Token = record { kind = kind; start = place; end = place + length text } in
    let remaining = later_tokens token later tokens (sym is_first ∙ ok) in
    let whole : length bytes ≡ length text + length rest = ap length cut ∙ length-append text rest in
    let ends : place + length bytes ≡ end_from (place + length text) remaining.0 =
    size ∙ ap (end_from place) remaining.2 in
    let count : place + length text + length rest ≡ end_from (place + length text) remaining.0 =
    omega (arith, whole, ends) in
    let there = end-stays (place + length text) rest later remaining.0 is_cut remaining.1 count in
    ap (ends_with is_lost) cut ∙ more-stays text rest (token-stays text rest kind h) there
end-stays place bytes outcome tokens (at_fault _ _ fault h) ok size = absurd cc

-- a text that begins where its first token does
starts-remaining : (place : ℕ) (bytes : Txt) (outcome : Outcome) (first : Token) (tokens : List Token)
    → IsCut place bytes outcome → outcome ≡ Ok (first ∷ tokens) → place ≤ first.start
starts-remaining place bytes outcome first tokens (at_end _) ok = absurd cc
starts-remaining place bytes outcome first tokens (at_blank _ byte rest _ h later) ok =
    let there = starts-remaining (place + 1) rest outcome first tokens later ok in
    omega (arith, there)
starts-remaining place bytes outcome first tokens (at_token _ _ text rest kind later _ h is_cut cut is_first) ok =
    let token : Token = record { kind = kind; start = place; end = place + length text } in
    let remaining = later_tokens token later (first ∷ tokens) (sym is_first ∙ ok) in
    let same : first.start ≡ place =
    ap (λ (t : Token). t.start) (first_is token first tokens remaining.0 remaining.2) in
    omega (arith, same)
starts-remaining place bytes outcome first tokens (at_fault _ _ fault h) ok = absurd cc

not_blank : (byte : ℕ) (rest text : Txt) → text ≡ byte ∷ rest → is_blank byte ≡ false
    → begins_with is_blank text ≡ false
not_blank byte rest text parts blank = ap (begins_with is_blank) parts ∙ blank

front-stays : (bytes : Txt) (outcome : Outcome) (first : Token) (tokens : List Token)
    → IsCut first.start bytes outcome → outcome ≡ Ok (first ∷ tokens)
    → begins_with is_blank bytes ≡ false
front-stays bytes outcome first tokens (at_end _) ok = absurd cc
front-stays bytes outcome first tokens (at_blank _ byte rest _ h later) ok =
    let there = starts-remaining (first.start + 1) rest outcome first tokens later ok in
    absurd (omega (arith, there))
front-stays bytes outcome first tokens (at_token _ _ text rest kind later _ h is_cut cut is_first) ok =
    let begins : BeginsPlain text = token_begins text rest kind h in
    not_blank begins.first (begins.tail ++ rest) bytes
    (cut ∙ ap (λ (b : Txt). b ++ rest) begins.parts) begins.blank
front-stays bytes outcome first tokens (at_fault _ _ fault h) ok = absurd cc

-- the text between the bytes before it and the bytes after it
between : (text before part remaining : Txt) (start end : ℕ) → text ≡ before ++ (part ++ remaining)
    → 0 + length before ≡ start → start + length part ≡ end → slice_range text start end ≡ part
between text before part remaining start end parts from to =
    let dropped : drop start text ≡ part ++ remaining =
    rw parts (drop_at before (part ++ remaining) start (omega (arith, from))) in
    let size : length part ≡ end - start = omega (arith, to) in
    rw dropped (take_at part remaining (end - start) size)

module _ (text : Txt) (unfed : list_all is_unfed text ≡ true) where
  part-is-bare : (skipped part rest : List Token) (first last : Token)
      → IsOutcome text (Ok (skipped ++ (part ++ rest))) → slice_get part 0 ≡ Some first
      → slice_get part (length part - 1) ≡ Some last
      → is_bare (slice_range text first.start last.end) ≡ true
  part-is-bare skipped [] rest first last cut first_is last_is = absurd (none-some first first_is)
  part-is-bare skipped (one ∷ part) rest first last cut first_at last_at =
      let count : length (one ∷ part) - 1 ≡ length part = omega arith in
      let is_first : one ≡ first = same_Some one first first_at in
      let is_last : last_token one part ≡ last =
      same_Some (last_token one part) last
      (sym (last-at one part)
      ∙ ap (λ (place : ℕ). slice_get (one ∷ part) place) (sym count) ∙ last_at) in
      let remaining =
      end_of 0 text (Ok (skipped ++ one ∷ (part ++ rest))) skipped one (part ++ rest) cut refl in
      let there =
      front_of one.start remaining.rest (Ok (one ∷ (part ++ rest))) (one ∷ part) rest remaining.cut
      refl in
      let parts : text ≡ remaining.front ++ (there.front ++ there.rest) =
      remaining.parts ∙ ap (λ (b : Txt). remaining.front ++ b) there.parts in
      let ends : one.start + length there.front ≡ (last_token one part).end =
      there.size ∙ last-ends one.start one part in
      let slice : slice_range text one.start (last_token one part).end ≡ there.front =
      between text remaining.front there.front there.rest one.start (last_token one part).end parts
      remaining.size ends in
      let front = front-stays there.front (Ok (one ∷ part)) one part there.cut refl in
      let end = end-stays one.start there.front (Ok (one ∷ part)) (one ∷ part) there.cut refl
      there.size in
      let all = sym (ap (list_all is_unfed) parts) ∙ unfed in
      let outer = and_parts (list_all is_unfed remaining.front)
      (list_all is_unfed (there.front ++ there.rest))
      (sym (list_all-append is_unfed remaining.front (there.front ++ there.rest)) ∙ all) in
      let inner = and_parts (list_all is_unfed there.front) (list_all is_unfed there.rest)
      (sym (list_all-append is_unfed there.front there.rest) ∙ outer.1) in
      let bare : is_bare there.front ≡ true =
      and_from _ _ (and_from _ _ (not_from_false _ front) (not_from_false _ end)) inner.0 in
      sym (λ i. is_bare (slice_range text (is_first i).start (is_last i).end))
      ∙ ap is_bare slice ∙ bare

  placed-is-bare : (skipped tokens : List Token) (select : RawSelect) (start end : ℕ)
      → IsOutcome text (Ok (skipped ++ tokens)) → IsPlacedSelect tokens select start end
      → is_bare (slice_range text start end) ≡ true
  placed-is-bare skipped tokens select _ _ cut (placed {first = first} {last = last} part rest is_whole reading is_end first_at last_at) =
      part-is-bare skipped part rest first last
      (subst (λ (t : List Token). IsOutcome text (Ok (skipped ++ t))) is_whole cut) first_at last_at

module _ (text : Txt) (unfed : list_all is_unfed text ≡ true) where
  abbrev Asked : Type 0
  Asked = RawSelect × ℕ × ℕ

  asked : (one other : Asked) → Some one ≡ Some other
      → is_bare (slice_range text one.1 one.2) ≡ true
      → is_bare (slice_range text other.1 other.2) ≡ true
  asked one other e bare =
      subst (λ (q : Asked). is_bare (slice_range text q.1 q.2) ≡ true) (same_Some one other e) bare

  statement-is-bare : (tokens : List Token) (s : Stmt) (question : Asked)
      → IsOutcome text (Ok tokens) → IsStatement tokens s → select_place s ≡ Some question
      → is_bare (slice_range text question.1 question.2) ≡ true
  statement-is-bare tokens s question cut (console {rest = rest} is_console is_end) asks =
      absurd (none-some question (sym (console-none (kinds tokens) s rest is_console) ∙ asks))
  statement-is-bare tokens _ question cut (statements.select {select = one} {start = from} {end = to} is_placed) asks =
      asked (one, from, to) question asks
      (placed-is-bare text unfed [] tokens one from to cut is_placed)
  statement-is-bare _ _ question cut (open_select {select = one} {start = from} {end = to} {first = first} {tokens = tokens} is_open is_placed) asks =
      asked (one, from, to) question asks
      (placed-is-bare text unfed (first ∷ []) tokens one from to cut is_placed)
  statement-is-bare _ _ question cut (extract_select {select = one} {start = from} {end = to} {first = first} {tokens = tokens} is_extract is_placed) asks =
      asked (one, from, to) question asks
      (placed-is-bare text unfed (first ∷ []) tokens one from to cut is_placed)

pub questions_are_bare : QuestionsAreBare
questions_are_bare text select start end question unfed =
    statement-is-bare text unfed question.tokens question.statement (select, start, end)
    question.cut question.reading question.asks
