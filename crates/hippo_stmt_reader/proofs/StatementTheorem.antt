-- The statement that is found is the grammar's.
use Rattle.std.proofs.Common.{◌≡◌, ℕ, codes, ◌+◌, ◌-◌, List, [], ◌∷◌, ◌++◌, length, take, drop, Bool, true, false, Option, Some, None, Result, Ok, Err, refl, sym, ◌∙◌, ap, subst, arith, length-append, cond}
use Rattle.std.proofs.Math.Seq.{drop-append_seam, take-append_seam}
use Rattle.std.proofs.lemmas.List.{length-map, drop-map, take-append-drop}
use Rattle.std.proofs.lemmas.Option.{none-some, same_Some}
use Rattle.std.specs.List.{slice_get}
use Rattle.std.specs.Result.{IfOk, IfErr}
use Rattle.hippo_stmt_ast.specs.declared.statement.RawSelect.{RawSelect}
use Rattle.hippo_stmt_ast.specs.declared.statement.Stmt.{Stmt}
use Rattle.hippo_stmt_ast.specs.declared.statement.Stmt.TheVariants as stmt
use Rattle.hippo_lexer.specs.Words.{words_check, support_of}
use Rattle.hippo_lexer.specs.declared.faults.SyntaxFault.{SyntaxFault}
use Rattle.hippo_lexer.specs.declared.faults.SyntaxFault.TheVariants as fault
use Rattle.hippo_values.specs.declared.keywords.Keyword.TheVariants.{KOpen, KSelect}
use Rattle.hippo_lexer.specs.declared.kinds.Token.{Token}
use Rattle.hippo_lexer.specs.declared.kinds.TokenKind.{TokenKind}
use Rattle.hippo_lexer.specs.declared.kinds.TokenKind.TheVariants.{Word, Keyword}
use Rattle.hippo_spj_reader.specs.Promises.{Gives}
use Rattle.hippo_spj_reader.specs.Front.{kinds, after_keyword}
use Rattle.hippo_spj_reader.specs.SelectGrammar as selects
use Rattle.hippo_spj_reader.specs.SelectGrammar.{IsSelect}
use Rattle.hippo_spj_reader.specs.SelectFinder.{leading_select}
use Rattle.hippo_spj_reader.proofs.FrontTheorem.{found_then, keyword_choice, word_choice}
use Rattle.hippo_spj_reader.proofs.SelectTheorem as selecting
use Rattle.hippo_spj_reader.proofs.SuffixTheorem.{front_of, select_suffix}
use Rattle.hippo_stmt_reader.specs.StatementGrammar.{IsEnd, no_semicolon, semicolon, IsPlacedSelect, placed, IsStatement, console, select, open_select, extract_select, IsRefusal}
use Rattle.hippo_stmt_reader.specs.StatementFinder.{end_left, placed_select_of, open_of, extract_of, select_of, statement_of}
use Rattle.hippo_stmt_reader.proofs.ConsoleTheorem.{console_found, console_complete, console-no_select}
use Rattle.hippo_stmt_reader.proofs.PartTheorem.{end_found, end_complete}

-- the last tokens, whose kinds are a suffix of all kinds
rest_of : (tokens : List Token) (front rest : List TokenKind) → kinds tokens ≡ front ++ rest → kinds (drop (length tokens - length rest) tokens) ≡ rest
rest_of tokens front rest e =
    let whole : length (kinds tokens) ≡ length front + length rest = ap length e ∙ length-append front rest in
    let front_length : length tokens - length rest ≡ length front = omega (arith, length-map tokens (λ (token : Token). token.kind)) in
    rw (front_length, ← drop-map (λ (token : Token). token.kind) (length front) tokens, e) (drop-append_seam front rest)

-- the tokens before them
text_of : (tokens text rest : List Token) → tokens ≡ text ++ rest → take (length tokens - length (kinds rest)) tokens ≡ text
text_of tokens text rest e =
    let whole : length tokens ≡ length text + length rest = ap length e ∙ length-append text rest in
    let text_length : length tokens - length (kinds rest) ≡ length text = omega (arith, length-map rest (λ (token : Token). token.kind)) in
    rw (text_length, e) (take-append_seam text rest)

placed_select_found : (tokens : List Token) (s : RawSelect) (start end : ℕ) → placed_select_of tokens ≡ Some (s, start, end) → IsPlacedSelect tokens s start end
unfolding placed_select_of
placed_select_found tokens s start end e =
    found_then (leading_select (kinds tokens)) _ _ e (λ found found_is e.
    let text = take (length tokens - length found.1) tokens in
    let rest = drop (length tokens - length found.1) tokens in
    found_then (slice_get text 0) _ _ e (λ first first_is e.
    found_then (slice_get text (length text - 1)) _ _ e (λ last last_is e.
    found_then (end_left found.1) _ _ e (λ u is_end e.
    let is_select : IsSelect (kinds tokens) found.0 found.1 = selecting.found (kinds tokens) found.0 found.1 found_is in
    let front = front_of (select_suffix is_select) in
    let rest_is : kinds rest ≡ found.1 = rest_of tokens front.0 found.1 front.1 in
    let select_to : IsSelect (kinds tokens) found.0 (kinds rest) = rw rest_is is_select in
    let ends : IsEnd (kinds rest) = rw rest_is (end_found found.1 u is_end) in
    let Reads : RawSelect × ℕ × ℕ → Type 0 = λ q. IsPlacedSelect tokens q.0 q.1 q.2 in
    subst Reads (same_Some (found.0, first.start, last.end) (s, start, end) e)
    (placed text rest (sym (take-append-drop (length tokens - length found.1) tokens)) select_to ends first_is last_is)))))

select_ends : (rest : List TokenKind) → IsEnd rest → selecting.SelectEnds rest
select_ends rest no_semicolon = selecting.ends-nothing
select_ends rest semicolon = selecting.ends-semicolon []

placed_select_complete : (tokens : List Token) (s : RawSelect) (start end : ℕ) → IsPlacedSelect tokens s start end → placed_select_of tokens ≡ Some (s, start, end)
unfolding placed_select_of
placed_select_complete tokens s _ _ (placed text rest is_whole is_select is_end first_is last_is) =
    rw (selecting.complete (kinds tokens) s (kinds rest) is_select (select_ends (kinds rest) is_end), text_of tokens text rest is_whole, first_is, last_is, end_complete (kinds rest) is_end) refl

select_first : (tokens : List TokenKind) (s : RawSelect) (rest : List TokenKind) → IsSelect tokens s rest → (after_keyword KOpen tokens ≡ None) × ((remaining : List TokenKind) × (after_keyword KSelect tokens ≡ Some remaining))
select_first _ s rest (selects.plain_select a b) = (refl, (_, refl))
select_first _ s rest (selects.distinct a b) = (refl, (_, refl))
select_first _ s rest (selects.grouped_select a b c) = (refl, (_, refl))

placed_select_first : (tokens : List Token) (s : RawSelect) (start end : ℕ) → IsPlacedSelect tokens s start end → (after_keyword KOpen (kinds tokens) ≡ None) × ((remaining : List TokenKind) × (after_keyword KSelect (kinds tokens) ≡ Some remaining))
placed_select_first tokens s _ _ (placed text rest is_whole is_select is_end first_is last_is) = select_first (kinds tokens) s (kinds rest) is_select

-- what is found is a statement of the grammar
pub found : (tokens : List Token) (s : Stmt) → statement_of tokens ≡ Some s → IsStatement tokens s
unfolding statement_of open_of select_of extract_of
found [] s e = let read = console_found [] s e in console read.1 read.2
found (first ∷ tokens) s e =
    keyword_choice KOpen (kinds (first ∷ tokens)) _ _ _ e
    (λ remaining is_open e. found_then (placed_select_of tokens) _ _ e (λ q q_is e.
    let is_kind : first.kind ≡ Keyword KOpen = cc in
    rw (← same_Some (stmt.Ask q.0 q.1 q.2) s e) (open_select is_kind (placed_select_found tokens q.0 q.1 q.2 q_is))))
    (λ _ e. keyword_choice KSelect (kinds (first ∷ tokens)) _ _ _ e
    (λ _ _ e. found_then (placed_select_of (first ∷ tokens)) _ _ e (λ q q_is e.
    rw (← same_Some (stmt.Select q.0 q.1 q.2) s e) (select (placed_select_found (first ∷ tokens) q.0 q.1 q.2 q_is))))
    (λ _ e. word_choice (codes "extract") (kinds (first ∷ tokens)) _ _ _ e
    (λ remaining is_extract e. found_then (placed_select_of tokens) _ _ e (λ q q_is e.
    let is_kind : first.kind ≡ Word (codes "extract") = cc in
    rw (← same_Some (stmt.Extract q.0 q.1 q.2) s e) (extract_select is_kind (placed_select_found tokens q.0 q.1 q.2 q_is))))
    (λ _ e. let read = console_found (kinds (first ∷ tokens)) s e in console read.1 read.2)))

-- each statement of the grammar is found
pub complete : (tokens : List Token) (s : Stmt) → IsStatement tokens s → statement_of tokens ≡ Some s
unfolding statement_of open_of select_of extract_of
complete tokens s (console {rest = rest} is_console is_end) =
    let begins = console-no_select (kinds tokens) s rest is_console in
    rw (begins.no_open, begins.no_select, begins.no_extract) (console_complete (kinds tokens) s rest is_console is_end)
complete tokens _ (select {select = q} {start = start} {end = end} is_placed) =
    let first = placed_select_first tokens q start end is_placed in
    rw (first.0, first.1.1, placed_select_complete tokens q start end is_placed) refl
complete _ _ (open_select {select = q} {start = start} {end = end} {first = first} {tokens = tokens} is_open is_placed) =
    rw (is_open, placed_select_complete tokens q start end is_placed) refl
complete _ _ (extract_select {select = q} {start = start} {end = end} {first = first} {tokens = tokens} is_extract is_placed) =
    rw (is_extract, placed_select_complete tokens q start end is_placed) refl

-- tokens that are refused for their words are too deep or unsupported
words_by : (deep : Bool) (place : Option ℕ) (tokens : List Token) (e : SyntaxFault) → words_check tokens ≡ Err e → cond deep (Err fault.TooDeep) (support_of place) ≡ Err e → IsRefusal tokens e
words_by true place tokens fault.TooDeep words is = words
words_by deep place tokens (fault.Unsupported at_place) words is = words
words_by deep place tokens fault.TooDeep words is = words
words_by true place tokens fault.BadSyntax words is = cc
words_by false None tokens fault.BadSyntax words is = cc
words_by false (Some at_place) tokens fault.BadSyntax words is = cc
words_by true place tokens fault.Memory words is = cc
words_by false None tokens fault.Memory words is = cc
words_by false (Some at_place) tokens fault.Memory words is = cc

pub words_refused : (tokens : List Token) (e : SyntaxFault) → words_check tokens ≡ Err e → IsRefusal tokens e
unfolding words_check
words_refused tokens e words = words_by _ _ tokens e words words

module _ (tokens : List Token) (fit : words_check tokens ≡ Ok tt) where
  pub read_found : (result : Result Stmt SyntaxFault) → Gives (λ s. s) result (statement_of tokens) → IfOk result (IsStatement tokens)
  read_found (Ok s) gives = found tokens s gives
  read_found (Err e) gives = tt

  pub read_only : (result : Result Stmt SyntaxFault) → Gives (λ s. s) result (statement_of tokens) → IfOk result (λ s. (other : Stmt) → IsStatement tokens other → other ≡ s)
  read_only (Ok s) gives = λ other is_statement. same_Some other s (sym (complete tokens other is_statement) ∙ gives)
  read_only (Err e) gives = tt

  pub read_errors : (result : Result Stmt SyntaxFault) → Gives (λ s. s) result (statement_of tokens) → IfErr result (IsRefusal tokens)
  read_errors (Ok s) gives = tt
  read_errors (Err fault.TooDeep) gives = absurd gives
  read_errors (Err (fault.Unsupported place)) gives = absurd gives
  read_errors (Err fault.BadSyntax) gives = (fit, λ s is_statement. none-some s (sym gives ∙ complete tokens s is_statement))
  read_errors (Err fault.Memory) gives = fit
