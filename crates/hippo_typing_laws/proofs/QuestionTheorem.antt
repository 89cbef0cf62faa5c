-- The text of a question can be read on its own.
use Rattle.std.proofs.Common.{◌≡◌, ℕ, suc, ◌+◌, ◌-◌, ◌<◌, ◌≤◌, List, [], ◌∷◌, ◌++◌, length, get_or, drop, Option, Some, None, Ok, refl, sym, ap, subst, ◌∙◌, arith}
use Rattle.std.specs.Prelude.{count_by, slice_get, slice_range, IsUtf8, IsCharBoundary}
use Rattle.std.proofs.lemmas.List.Elements.{All-get_or}
use Rattle.std.proofs.lemmas.List.{append-nil, append_cancel_right, length-append, length-drop, length-take, get_or_at, get_or-append-add, get_or_append_left, map-append, drop_at, take_at}
use Rattle.std.proofs.lemmas.Option.{none-some, same_Some, get_or_from_slice_get}
use Rattle.hippo_values.specs.Texts.{Txt}
use Rattle.hippo_stmt_ast.specs.declared.statement.RawSelect.{RawSelect}
use Rattle.hippo_stmt_ast.specs.declared.statement.Stmt.{Stmt}
use Rattle.hippo_lexer.specs.declared.kinds.Token.{Token}
use Rattle.hippo_lexer.specs.Cutting.{tokens_from, outcome_of}
use Rattle.hippo_lexer.specs.Grammar.{IsCut, IsOutcome, IsSpan}
use Rattle.hippo_lexer.specs.Words.{is_right_paren, words_check}
use Rattle.hippo_lexer.proofs.OutcomeLemmas.{outcome-one}
use Rattle.hippo_lexer.proofs.RunLemmas.{cut-is}
use Rattle.hippo_lexer.proofs.SpanLemmas.{spans-of}
use Rattle.hippo_spj_reader.specs.Front.{Kinds, kinds}
use Rattle.hippo_spj_reader.specs.SelectGrammar.{IsSelect}
use Rattle.hippo_stmt_reader.specs.StatementGrammar.{IsConsole, create_table, create_purpose, create_recipient, create_opt_in, create_opt_out, authorize, deauthorize, allow, revoke, choice_yes, choice_no, insert, update, delete, console_explain, console_audit, console_begin_audit, console_watch, IsPlacedSelect, placed, IsStatement, console, open_select, extract_select}
use Rattle.hippo_stmt_reader.specs.StatementGrammar as statements
use Rattle.hippo_stmt_reader.proofs.StatementTheorem as statement_theorem
use Rattle.hippo_typing_catalog.specs.Catalogs.{KnownNames}
use Rattle.hippo_typing.specs.Meanings.{IsSelectText, select_in, query_in, meaning_in}
use Rattle.hippo_typing.proofs.MeaningTheorem.{found-IsSelectText}
use Rattle.hippo_typing_laws.specs.ReadingLaws.{select_place, ReadsByItself, QuestionsReadByThemselves, FoundQuestionsReadByThemselves}
use Rattle.hippo_typing_laws.proofs.TextParts.{end_from, front_of, end_of, moved}
use Rattle.hippo_typing_laws.proofs.FitWords.{AreFit, fit-words, words-fit, fit-part}
use Rattle.hippo_typing_laws.proofs.SelectFronts.{takes-select}

-- the part between two places of a text is, on its own, the text of this select
pub record HasPart (text : Txt) (select : RawSelect) (start end : ℕ) : Type 0 where
  pub some : start < end
  pub within : end ≤ length text
  pub bounds : IsUtf8 text → IsCharBoundary text start × IsCharBoundary text end
  pub tokens : List Token
  pub cut : IsOutcome (slice_range text start end) (Ok tokens)
  pub words : words_check tokens ≡ Ok tt
  pub reading : IsSelect (kinds tokens) select []

-- tokens need bytes
no_tokens : (place : ℕ) (first : Token) (tokens : List Token) → IsCut place [] (Ok (first ∷ tokens)) → ⊥
unfolding tokens_from
no_tokens place first tokens is_cut = let none = cut-is place [] (Ok (first ∷ tokens)) is_cut in cc

some_bytes : (place : ℕ) (bytes : List ℕ) (first : Token) (tokens : List Token) → IsCut place bytes (Ok (first ∷ tokens)) → 0 < length bytes
some_bytes place [] first tokens is_cut = absurd (no_tokens place first tokens is_cut)
some_bytes place (byte ∷ bytes) first tokens is_cut = omega arith

-- the last of the tokens
last_end : (place : ℕ) (first : Token) (tokens : List Token) (last : Token) → slice_get (first ∷ tokens) (length (first ∷ tokens) - 1) ≡ Some last → last.end ≡ end_from place (first ∷ tokens)
last_end place first [] last is = sym (ap (λ (t : Token). t.end) (same_Some first last is))
last_end place first (next ∷ tokens) last is =
    let count : length (first ∷ next ∷ tokens) - 1 ≡ suc (length (next ∷ tokens) - 1) = omega arith in
    last_end first.end next tokens last (rw count at is)

-- the part between the bytes before it and the bytes after it
between : (text before part remaining : List ℕ) (start end : ℕ) → text ≡ before ++ (part ++ remaining) → 0 + length before ≡ start → start + length part ≡ end → slice_range text start end ≡ part
between text before part remaining start end parts from to =
    let dropped : drop start text ≡ part ++ remaining = rw parts (drop_at before (part ++ remaining) start (omega arith)) in
    let size : length part ≡ end - start = omega arith in
    rw dropped (take_at part remaining (end - start) size)

-- the select takes all of these tokens
alone : (part rest : Kinds) (select : RawSelect) → IsSelect (part ++ rest) select rest → IsSelect part select []
alone part rest select reading =
    let taken = takes-select reading in
    let same : taken.front ≡ part = append_cancel_right taken.front part rest (sym taken.parts) in
    let again : IsSelect (taken.front ++ []) select [] = taken.again [] in
    rw (append-nil taken.front, same) at again

module _ (text : Txt) (skipped : List Token) (first : Token) (part rest : List Token) (cut : IsOutcome text (Ok (skipped ++ first ∷ (part ++ rest)))) where
  part_words : words_check (skipped ++ first ∷ (part ++ rest)) ≡ Ok tt → count_by is_right_paren (kinds skipped) ≡ 0 → AreFit (kinds (first ∷ part))
  part_words words closed =
      let whole : kinds (skipped ++ first ∷ (part ++ rest)) ≡ kinds skipped ++ (kinds (first ∷ part) ++ kinds rest) =
      map-append (λ (token : Token). token.kind) skipped (first ∷ (part ++ rest)) ∙ ap (λ (k : Kinds). kinds skipped ++ k) (map-append (λ (token : Token). token.kind) (first ∷ part) rest) in
      fit-part (kinds skipped) (kinds (first ∷ part)) (kinds rest) closed (subst AreFit whole (fit-words (skipped ++ first ∷ (part ++ rest)) words))

  part_bounds : (last : Token) → slice_get (first ∷ part) (length (first ∷ part) - 1) ≡ Some last → IsUtf8 text → IsCharBoundary text first.start × IsCharBoundary text last.end
  part_bounds last last_is utf8 =
      let tokens : List Token = skipped ++ first ∷ (part ++ rest) in
      let n : ℕ = length (first ∷ part) - 1 in
      let size : length tokens ≡ length skipped + suc (length part + length rest) = simp length-append refl in
      let spans = spans-of text tokens utf8 cut in
      let first_at : get_or tokens (length skipped) first ≡ first = get_or_at skipped first (part ++ rest) first (length skipped) refl in
      let last_at : get_or tokens (length skipped + n) last ≡ last =
      get_or-append-add skipped (first ∷ (part ++ rest)) n last ∙ (get_or_append_left (first ∷ part) rest last n (omega arith) ∙ get_or_from_slice_get (first ∷ part) n last last last_is) in
      let first_span : IsSpan text first = subst (IsSpan text) first_at (All-get_or (IsSpan text) tokens (length skipped) first (omega arith) spans) in
      let last_span : IsSpan text last = subst (IsSpan text) last_at (All-get_or (IsSpan text) tokens (length skipped + n) last (omega arith) spans) in
      (first_span.from, last_span.to)

  pub part_reads : (last : Token) (select : RawSelect) → words_check (skipped ++ first ∷ (part ++ rest)) ≡ Ok tt → count_by is_right_paren (kinds skipped) ≡ 0 →
      slice_get (first ∷ part) (length (first ∷ part) - 1) ≡ Some last → IsSelect (kinds (first ∷ (part ++ rest))) select (kinds rest) → HasPart text select first.start last.end
  part_reads last select words closed last_is reading =
      let remaining = end_of 0 text (Ok (skipped ++ first ∷ (part ++ rest))) skipped first (part ++ rest) cut refl in
      let there = front_of first.start remaining.rest (Ok (first ∷ (part ++ rest))) (first ∷ part) rest remaining.cut refl in
      let again = moved first.start 0 there.front (Ok (first ∷ part)) (first ∷ part) there.cut refl in
      let parts : text ≡ remaining.front ++ (there.front ++ there.rest) = remaining.parts ∙ ap (λ (b : List ℕ). remaining.front ++ b) there.parts in
      let ends : first.start + length there.front ≡ last.end = there.size ∙ sym (last_end first.start first part last last_is) in
      let slice : slice_range text first.start last.end ≡ there.front = between text remaining.front there.front there.rest first.start last.end parts remaining.size ends in
      let some : 0 < length there.front = some_bytes first.start there.front first part there.cut in
      let size : length text ≡ length remaining.front + (length there.front + length there.rest) = simp length-append at (ap length parts) in
      let fit : AreFit (kinds again.0) = subst AreFit (sym again.2) (part_words words closed) in
      let said : kinds (first ∷ (part ++ rest)) ≡ kinds (first ∷ part) ++ kinds rest = map-append (λ (token : Token). token.kind) (first ∷ part) rest in
      let whole : IsSelect (kinds (first ∷ part)) select [] = alone (kinds (first ∷ part)) (kinds rest) select (subst (λ (k : Kinds). IsSelect k select (kinds rest)) said reading) in
      record {
        some = omega arith;
        within = omega (arith, remaining.size);
        bounds = part_bounds last last_is;
        tokens = again.0;
        cut = subst (λ (b : List ℕ). IsOutcome b (Ok again.0)) (sym slice) again.1;
        words = words-fit again.0 fit;
        reading = subst (λ (k : Kinds). IsSelect k select []) (sym again.2) whole;
      }

placed_reads : (text : Txt) (skipped tokens : List Token) (select : RawSelect) (start end : ℕ) → IsOutcome text (Ok (skipped ++ tokens)) → words_check (skipped ++ tokens) ≡ Ok tt → count_by is_right_paren (kinds skipped) ≡ 0 →
    IsPlacedSelect tokens select start end → HasPart text select start end
placed_reads text skipped tokens select _ _ cut words closed (placed {first = first} {last = last} [] rest is_whole reading is_end first_is last_is) = absurd (none-some first first_is)
placed_reads text skipped tokens select _ _ cut words closed (placed {first = first} {last = last} (one ∷ part) rest is_whole reading is_end first_is last_is) =
    let same : one ≡ first = same_Some one first first_is in
    let cut_there : IsOutcome text (Ok (skipped ++ one ∷ (part ++ rest))) = subst (λ (t : List Token). IsOutcome text (Ok (skipped ++ t))) is_whole cut in
    let words_there : words_check (skipped ++ one ∷ (part ++ rest)) ≡ Ok tt = subst (λ (t : List Token). words_check (skipped ++ t) ≡ Ok tt) is_whole words in
    let reading_there : IsSelect (kinds (one ∷ (part ++ rest))) select (kinds rest) = subst (λ (t : List Token). IsSelect (kinds t) select (kinds rest)) is_whole reading in
    subst (λ (t : Token). HasPart text select t.start last.end) same (part_reads text skipped one part rest cut_there last select words_there closed last_is reading_there)

-- a statement of the console asks nothing
pub console-none : (tokens : Kinds) (s : Stmt) (rest : Kinds) → IsConsole tokens s rest → select_place s ≡ None
console-none _ s rest (update _ _ is) = rw is refl
console-none _ s rest (delete _ is) = rw is refl
console-none _ _ rest _ = refl

asked : (text : Txt) (select one : RawSelect) (start end from to : ℕ) → ◌≡◌ {A = Option (RawSelect × ℕ × ℕ)} (Some (one, from, to)) (Some (select, start, end)) → HasPart text one from to → HasPart text select start end
asked text select one start end from to e part = subst (λ (q : RawSelect × ℕ × ℕ). HasPart text q.0 q.1 q.2) (same_Some (one, from, to) (select, start, end) e) part

statement_reads : (text : Txt) (tokens : List Token) (s : Stmt) (select : RawSelect) (start end : ℕ) → IsOutcome text (Ok tokens) → words_check tokens ≡ Ok tt → IsStatement tokens s → select_place s ≡ Some (select, start, end) → HasPart text select start end
statement_reads text tokens s select start end cut words (console {rest = rest} is_console is_end) asks = absurd (none-some _ (sym (console-none (kinds tokens) s rest is_console) ∙ asks))
statement_reads text tokens _ select start end cut words (statements.select {select = one} {start = from} {end = to} is_placed) asks =
    asked text select one start end from to asks (placed_reads text [] tokens one from to cut words refl is_placed)
statement_reads text _ _ select start end cut words (open_select {select = one} {start = from} {end = to} {first = first} {tokens = tokens} is_open is_placed) asks =
    asked text select one start end from to asks (placed_reads text (first ∷ []) tokens one from to cut words (rw is_open refl) is_placed)
statement_reads text _ _ select start end cut words (extract_select {select = one} {start = from} {end = to} {first = first} {tokens = tokens} is_extract is_placed) asks =
    asked text select one start end from to asks (placed_reads text (first ∷ []) tokens one from to cut words (rw is_extract refl) is_placed)

-- the query that the select means is what its text means
part_means : (text : Txt) (select : RawSelect) → select_in (outcome_of text) ≡ Some select → (known : KnownNames) → meaning_in known text ≡ query_in known select
unfolding meaning_in
part_means text select found known = rw found refl

part_read : (text : Txt) (select : RawSelect) (start end : ℕ) → HasPart text select start end → ReadsByItself text select start end
part_read text select start end part =
    let reading : IsSelectText (slice_range text start end) select = record { tokens = part.tokens; cut = part.cut; words = part.words; reading = part.reading } in
    let found : select_in (outcome_of (slice_range text start end)) ≡ Some select = found-IsSelectText (slice_range text start end) select reading in
    record {
      some = part.some;
      within = part.within;
      size = simp (length-take, length-drop) (omega (arith, part.some, part.within));
      from = λ utf8. (part.bounds utf8).0;
      to = λ utf8. (part.bounds utf8).1;
      reading = reading;
      found = found;
      meant = part_means (slice_range text start end) select found;
    }

-- the text of a question can be read on its own as the question
pub read_by_themselves : QuestionsReadByThemselves
read_by_themselves text select start end question =
    part_read text select start end (statement_reads text question.tokens question.statement select start end question.cut question.words question.reading question.asks)

-- so can the text of a question that the readers find
pub found_read_by_themselves : FoundQuestionsReadByThemselves
found_read_by_themselves text tokens statement select start end cut words found asks =
    let is_cut : IsOutcome text (Ok tokens) = rw cut at (outcome-one text).0 in
    read_by_themselves text select start end (record { tokens = tokens; statement = statement; cut = is_cut; words = words; reading = statement_theorem.found tokens statement found; asks = asks })
