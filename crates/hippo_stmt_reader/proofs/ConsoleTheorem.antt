-- The statement of the console that is found is the grammar's.
use Rattle.std.proofs.Common.{◌≡◌, codes, List, [], ◌∷◌, true, false, Option, Some, None, refl, sym}
use Rattle.std.proofs.lemmas.Option.{none-some, same_Some, some_pair_parts}
use Rattle.hippo_model.specs.declared.entry.ItemKind.TheVariants.{OptIn, OptOut}
use Rattle.hippo_stmt_ast.specs.declared.statement.RawAudit.{RawAudit}
use Rattle.hippo_stmt_ast.specs.declared.statement.Stmt.{Stmt}
use Rattle.hippo_values.specs.declared.keywords.Keyword as words
use Rattle.hippo_values.specs.declared.keywords.Keyword.TheVariants.{KAllow, KAnd, KAudit, KAuthorize, KBegin, KChoice, KCreate, KDeauthorize, KDelete, KDuring, KExplain, KFrom, KIn, KInsert, KInto, KIs, KItem, KKey, KNo, KOn, KOpen, KOpt, KOut, KPrimary, KPurpose, KRecipient, KRevoke, KSelect, KSet, KTable, KUpdate, KValues, KWhere, KWith, KYes}
use Rattle.hippo_values.specs.Options.{◌>>=◌}
use Rattle.hippo_lexer.specs.declared.kinds.Symbol.TheVariants.{Comma, LeftParen, RightParen}
use Rattle.hippo_lexer.specs.declared.kinds.TokenKind.{TokenKind}
use Rattle.hippo_lexer.specs.declared.kinds.TokenKind.TheVariants.{Word, Keyword, Symbol}
use Rattle.hippo_spj_reader.specs.ConditionGrammar.{IsLiteral}
use Rattle.hippo_spj_reader.specs.Front.{after_keyword, after_symbol, after_word, leading_literal}
use Rattle.hippo_spj_reader.specs.Promises.{either}
use Rattle.hippo_spj_reader.specs.ListFinder.{leading_list}
use Rattle.hippo_spj_reader.specs.ListGrammar.{IsListOf}
use Rattle.hippo_spj_reader.proofs.FrontTheorem.{found_then, keyword_then, symbol_then, name_then, keyword_choice, word_choice}
use Rattle.hippo_audit_reader.specs.AuditGrammar as audits
use Rattle.hippo_audit_reader.specs.AuditGrammar.{IsAudit}
use Rattle.hippo_audit_reader.specs.AuditFinder.{leading_audit}
use Rattle.hippo_audit_reader.proofs.AuditTheorem as auditing
use Rattle.hippo_stmt_reader.specs.StatementGrammar.{IsColumnDef, IsSubject, AreSettings, IsConsole, create_table, create_purpose, create_recipient, create_opt_in, create_opt_out, authorize, deauthorize, allow, revoke, choice_yes, choice_no, insert, update, delete, console_explain, console_audit, console_begin_audit, console_watch, IsEnd, no_semicolon, semicolon}
use Rattle.hippo_stmt_reader.specs.StatementFinder.{end_left, leading_column_def, after_column, leading_names, leading_subject, leading_with_item, leading_retention, leading_number, leading_grant, leading_disclosure, create_table_of, create_purpose_of, create_recipient_of, one_of, create_item_of, create_of, authorization_of, allow_of, revoke_of, choice_of, insert_of, update_of, delete_of, explain_of, audit_statement_of, begin_audit_of, watch_of, console_after, console_by_keyword, console_of}
use Rattle.hippo_stmt_reader.proofs.PartTheorem.{end_found, end_complete, number_found, column_defs_found, column_defs_complete, names_then, names_whole, subject_found, subject_complete, with_found, with_complete, retention_found, retention_complete, retention-no_with, settings_found, settings_complete, keys_found, keys_complete, literals_found, literals_complete, name_after_then, assigned_then, grant_then, disclosure_then}

-- the tokens form a statement of the console up to the end
abbrev pub IsRead : List TokenKind → Stmt → Type 0
IsRead tokens s = (rest : List TokenKind) × IsConsole tokens s rest × IsEnd rest

create_table_found : (tokens : List TokenKind) (s : Stmt) → create_table_of tokens ≡ Some s → IsRead (Keyword KCreate ∷ Keyword KTable ∷ tokens) s
unfolding create_table_of
create_table_found tokens s e =
    name_then tokens _ _ e (λ table a is_table e.
    symbol_then LeftParen a _ _ e (λ defs is_open e.
    found_then (leading_list leading_column_def after_column defs) _ _ e (λ columns columns_is e.
    symbol_then Comma columns.1 _ _ e (λ b is_comma e.
    keyword_then KPrimary b _ _ e (λ c is_primary e.
    keyword_then KKey c _ _ e (λ d is_key e.
    found_then (leading_names d) _ _ e (λ key key_is e.
    found_then (leading_subject key.1) _ _ e (λ subject subject_is e.
    symbol_then RightParen subject.1 _ _ e (λ rest is_close e.
    found_then (end_left rest) _ _ e (λ end is_end e.
    names_then d key.0 key.1 key_is (λ keys is_inside are_names.
    let are_defs : IsListOf IsColumnDef (Symbol Comma) defs columns.0 (Symbol Comma ∷ Keyword KPrimary ∷ Keyword KKey ∷ Symbol LeftParen ∷ keys) =
    rw (is_comma, is_primary, is_key, is_inside) at (column_defs_found defs columns.0 columns.1 columns_is) in
    let is_subject : IsSubject key.1 subject.0 (Symbol RightParen ∷ rest) = rw is_close at (subject_found key.1 subject.0 subject.1 subject_is) in
    rw (is_table, is_open, ← same_Some _ s e) (rest, create_table are_defs are_names is_subject, end_found rest end is_end))))))))))))

-- the value of whichever of two keywords comes first
either_keyword_then : {X P : Type 0} (one other : words.Keyword) (a b : X) (tokens : List TokenKind) (x : X) (rest : List TokenKind) →
    either {B = Option (X × List TokenKind)} (after_keyword one tokens) (λ left. Some (a, left)) (after_keyword other tokens >>= λ left. Some (b, left)) ≡ Some (x, rest) →
    (tokens ≡ Keyword one ∷ rest → x ≡ a → P) → (tokens ≡ Keyword other ∷ rest → x ≡ b → P) → P
either_keyword_then one other a b tokens x rest e first second =
    keyword_choice one tokens _ _ _ e
    (λ left is_one e. let whole = some_pair_parts a x left rest e in first (rw (is_one, whole.1) refl) (sym whole.0))
    (λ _ e. keyword_then other tokens _ _ e (λ left is_other e. let whole = some_pair_parts b x left rest e in second (rw (is_other, whole.1) refl) (sym whole.0)))

create_item_found : (tokens : List TokenKind) (s : Stmt) → create_item_of tokens ≡ Some s → IsRead (Keyword KCreate ∷ Keyword KItem ∷ tokens) s
unfolding create_item_of
create_item_found tokens s e =
    name_then tokens _ _ e (λ item a is_item e.
    keyword_then KOpt a _ _ e (λ b is_opt e.
    found_then (one_of KIn OptIn KOut OptOut b) _ _ e (λ k k_is e.
    found_then (end_left k.1) _ _ e (λ end is_end e.
    either_keyword_then KIn KOut OptIn OptOut b k.0 k.1 k_is
    (λ is_in is_kind. rw (is_item, is_opt, is_in, ← same_Some _ s e, is_kind) (k.1, create_opt_in, end_found k.1 end is_end))
    (λ is_out is_kind. rw (is_item, is_opt, is_out, ← same_Some _ s e, is_kind) (k.1, create_opt_out, end_found k.1 end is_end))))))

create_found : (tokens : List TokenKind) (s : Stmt) → create_of tokens ≡ Some s → IsRead (Keyword KCreate ∷ tokens) s
unfolding create_of create_purpose_of create_recipient_of
create_found tokens s e =
    keyword_choice KTable tokens _ _ _ e (λ remaining is_table e. rw is_table (create_table_found remaining s e))
    (λ _ e. keyword_choice KPurpose tokens _ _ _ e
    (λ remaining is_purpose e. name_then remaining _ _ e (λ purpose rest is_name e. found_then (end_left rest) _ _ e (λ end is_end e.
    rw (is_purpose, is_name, ← same_Some _ s e) (rest, create_purpose, end_found rest end is_end))))
    (λ _ e. keyword_choice KRecipient tokens _ _ _ e
    (λ remaining is_recipient e. name_then remaining _ _ e (λ recipient rest is_name e. found_then (end_left rest) _ _ e (λ end is_end e.
    rw (is_recipient, is_name, ← same_Some _ s e) (rest, create_recipient, end_found rest end is_end))))
    (λ _ e. keyword_then KItem tokens _ _ e (λ remaining is_item e. rw is_item (create_item_found remaining s e)))))

authorize_found : (tokens : List TokenKind) (s : Stmt) → authorization_of true tokens ≡ Some s → IsRead (Keyword KAuthorize ∷ tokens) s
unfolding authorization_of
authorize_found tokens s e =
    found_then (leading_grant tokens) _ _ e (λ grant grant_is e. found_then (end_left grant.1) _ _ e (λ end is_end e.
    grant_then tokens grant.0 grant.1 grant_is (λ is_grant. rw (is_grant, ← same_Some _ s e) (grant.1, authorize, end_found grant.1 end is_end))))

deauthorize_found : (tokens : List TokenKind) (s : Stmt) → authorization_of false tokens ≡ Some s → IsRead (Keyword KDeauthorize ∷ tokens) s
unfolding authorization_of
deauthorize_found tokens s e =
    found_then (leading_grant tokens) _ _ e (λ grant grant_is e. found_then (end_left grant.1) _ _ e (λ end is_end e.
    grant_then tokens grant.0 grant.1 grant_is (λ is_grant. rw (is_grant, ← same_Some _ s e) (grant.1, deauthorize, end_found grant.1 end is_end))))

allow_found : (tokens : List TokenKind) (s : Stmt) → allow_of tokens ≡ Some s → IsRead (Keyword KAllow ∷ tokens) s
unfolding allow_of
allow_found tokens s e =
    found_then (leading_disclosure tokens) _ _ e (λ rule rule_is e. found_then (leading_with_item rule.1) _ _ e (λ item item_is e.
    found_then (leading_retention item.1) _ _ e (λ days days_is e. found_then (end_left days.1) _ _ e (λ end is_end e.
    disclosure_then tokens rule.0 rule.1 rule_is (λ named is_rule are_names.
    rw (is_rule, ← same_Some _ s e) (days.1, allow are_names (with_found rule.1 item.0 item.1 item_is) (retention_found item.1 days.0 days.1 days_is), end_found days.1 end is_end))))))

revoke_found : (tokens : List TokenKind) (s : Stmt) → revoke_of tokens ≡ Some s → IsRead (Keyword KRevoke ∷ tokens) s
unfolding revoke_of
revoke_found tokens s e =
    found_then (leading_disclosure tokens) _ _ e (λ rule rule_is e. found_then (end_left rule.1) _ _ e (λ end is_end e.
    disclosure_then tokens rule.0 rule.1 rule_is (λ named is_rule are_names.
    rw (is_rule, ← same_Some _ s e) (rule.1, revoke are_names, end_found rule.1 end is_end))))

choice_found : (tokens : List TokenKind) (s : Stmt) → choice_of tokens ≡ Some s → IsRead (Keyword KChoice ∷ tokens) s
unfolding choice_of
choice_found tokens s e =
    found_then (leading_number tokens) _ _ e (λ n n_is e.
    keyword_then KOn n.1 _ _ e (λ a is_on e.
    name_then a _ _ e (λ item b is_item e.
    keyword_then KIs b _ _ e (λ c is_is e.
    found_then (one_of KYes true KNo false c) _ _ e (λ answer answer_is e.
    found_then (end_left answer.1) _ _ e (λ end is_end e.
    let is_number = number_found tokens n.0 n.1 n_is in
    either_keyword_then KYes KNo true false c answer.0 answer.1 answer_is
    (λ is_yes is_true. rw (is_number, is_on, is_item, is_is, is_yes, ← same_Some _ s e, is_true) (answer.1, choice_yes, end_found answer.1 end is_end))
    (λ is_no is_false. rw (is_number, is_on, is_item, is_is, is_no, ← same_Some _ s e, is_false) (answer.1, choice_no, end_found answer.1 end is_end))))))))

insert_found : (tokens : List TokenKind) (s : Stmt) → insert_of tokens ≡ Some s → IsRead (Keyword KInsert ∷ tokens) s
unfolding insert_of
insert_found tokens s e =
    keyword_then KInto tokens _ _ e (λ a is_into e.
    name_then a _ _ e (λ table b is_table e.
    keyword_then KValues b _ _ e (λ c is_values e.
    symbol_then LeftParen c _ _ e (λ inside is_open e.
    found_then (leading_list leading_literal (after_symbol Comma) inside) _ _ e (λ values values_is e.
    symbol_then RightParen values.1 _ _ e (λ rest is_close e.
    found_then (end_left rest) _ _ e (λ end is_end e.
    let are_values : IsListOf IsLiteral (Symbol Comma) inside values.0 (Symbol RightParen ∷ rest) = rw is_close at (literals_found inside values.0 values.1 values_is) in
    rw (is_into, is_table, is_values, is_open, ← same_Some _ s e) (rest, insert are_values, end_found rest end is_end))))))))

update_found : (tokens : List TokenKind) (s : Stmt) → update_of tokens ≡ Some s → IsRead (Keyword KUpdate ∷ tokens) s
unfolding update_of
update_found tokens s e =
    name_then tokens _ _ e (λ table a is_table e.
    assigned_then KSet (after_symbol Comma) a _ _ e (λ b settings c is_set settings_is e.
    assigned_then KWhere (after_keyword KAnd) c _ _ e (λ d keys rest is_where keys_is e.
    found_then (end_left rest) _ _ e (λ end is_end e.
    let are_settings : AreSettings b settings (Keyword KWhere ∷ d) = rw is_where at (settings_found b settings c settings_is) in
    rw (is_table, is_set) (rest, update are_settings (keys_found d keys rest keys_is) (sym (same_Some _ s e)), end_found rest end is_end)))))

delete_found : (tokens : List TokenKind) (s : Stmt) → delete_of tokens ≡ Some s → IsRead (Keyword KDelete ∷ tokens) s
unfolding delete_of
delete_found tokens s e =
    name_after_then KFrom tokens _ _ e (λ table a is_table e.
    assigned_then KWhere (after_keyword KAnd) a _ _ e (λ b keys rest is_where keys_is e.
    found_then (end_left rest) _ _ e (λ end is_end e.
    rw (is_table, is_where) (rest, delete (keys_found b keys rest keys_is) (sym (same_Some _ s e)), end_found rest end is_end))))

explain_found : (tokens : List TokenKind) (s : Stmt) → explain_of tokens ≡ Some s → IsRead (Keyword KExplain ∷ tokens) s
unfolding explain_of
explain_found tokens s e =
    found_then (leading_number tokens) _ _ e (λ n n_is e. found_then (end_left n.1) _ _ e (λ end is_end e.
    rw (number_found tokens n.0 n.1 n_is, ← same_Some _ s e) (n.1, console_explain, end_found n.1 end is_end)))

begin_audit_found : (tokens : List TokenKind) (s : Stmt) → begin_audit_of tokens ≡ Some s → IsRead (Keyword KBegin ∷ tokens) s
unfolding begin_audit_of
begin_audit_found tokens s e =
    keyword_then KAudit tokens _ _ e (λ remaining is_audit e.
    found_then (leading_audit remaining) _ _ e (λ a a_is e.
    found_then (end_left a.1) _ _ e (λ end is_end e.
    rw (is_audit, ← same_Some _ s e) (a.1, console_begin_audit (auditing.found remaining a.0 a.1 a_is), end_found a.1 end is_end))))

watch_found : (tokens : List TokenKind) (s : Stmt) → watch_of tokens ≡ Some s → IsRead (Word (codes "watch") ∷ tokens) s
unfolding watch_of
watch_found tokens s e =
    found_then (leading_audit tokens) _ _ e (λ a a_is e. found_then (end_left a.1) _ _ e (λ end is_end e.
    rw (← same_Some _ s e) (a.1, console_watch (auditing.found tokens a.0 a.1 a_is), end_found a.1 end is_end)))

console_after_found : (word : words.Keyword) (tokens : List TokenKind) (s : Stmt) → console_after word tokens ≡ Some s → IsRead (Keyword word ∷ tokens) s
unfolding console_after
console_after_found KCreate tokens s e = create_found tokens s e
console_after_found KAuthorize tokens s e = authorize_found tokens s e
console_after_found KDeauthorize tokens s e = deauthorize_found tokens s e
console_after_found KAllow tokens s e = allow_found tokens s e
console_after_found KRevoke tokens s e = revoke_found tokens s e
console_after_found KChoice tokens s e = choice_found tokens s e
console_after_found KInsert tokens s e = insert_found tokens s e
console_after_found KUpdate tokens s e = update_found tokens s e
console_after_found KDelete tokens s e = delete_found tokens s e
console_after_found KExplain tokens s e = explain_found tokens s e
console_after_found KBegin tokens s e = begin_audit_found tokens s e
console_after_found _ tokens s e = absurd (none-some s e)

console_by_keyword_found : (tokens : List TokenKind) (s : Stmt) → console_by_keyword tokens ≡ Some s → IsRead tokens s
console_by_keyword_found (Keyword word ∷ remaining) s e = console_after_found word remaining s e
console_by_keyword_found _ s e = absurd (none-some s e)

-- what is found is a statement of the console
pub console_found : (tokens : List TokenKind) (s : Stmt) → console_of tokens ≡ Some s → IsRead tokens s
unfolding console_of audit_statement_of
console_found tokens s e =
    keyword_choice KDuring tokens _ _ _ e
    (λ _ _ e. found_then (leading_audit tokens) _ _ e (λ a a_is e. found_then (end_left a.1) _ _ e (λ end is_end e.
    rw (← same_Some _ s e) (a.1, console_audit (auditing.found tokens a.0 a.1 a_is), end_found a.1 end is_end))))
    (λ _ e. word_choice (codes "watch") tokens _ _ _ e
    (λ remaining is_watch e. rw is_watch (watch_found remaining s e))
    (λ _ e. console_by_keyword_found tokens s e))

-- what the end of a statement does not begin with
pub record Follows (rest : List TokenKind) : Type 0 where
  pub audit_ends : auditing.AuditEnds rest
  pub no_and : after_keyword KAnd rest ≡ None
  pub no_with : after_keyword KWith rest ≡ None
  pub no_retain : after_word (codes "retain") rest ≡ None

pub end_follows : (rest : List TokenKind) → IsEnd rest → Follows rest
end_follows rest no_semicolon = record { audit_ends = auditing.ends-nothing; no_and = refl; no_with = refl; no_retain = refl }
end_follows rest semicolon = record { audit_ends = auditing.ends-semicolon []; no_and = refl; no_with = refl; no_retain = refl }

audit_during : (tokens : List TokenKind) (a : RawAudit) (rest : List TokenKind) → IsAudit tokens a rest → (remaining : List TokenKind) × (after_keyword KDuring tokens ≡ Some remaining)
audit_during _ a rest (audits.audit_expression e s cs ts w is) = (_, refl)

-- each statement of the console is found
pub console_complete : (tokens : List TokenKind) (s : Stmt) (rest : List TokenKind) → IsConsole tokens s rest → IsEnd rest → console_of tokens ≡ Some s
unfolding console_of console_after create_of create_table_of create_purpose_of create_recipient_of create_item_of authorization_of leading_grant allow_of revoke_of leading_disclosure choice_of insert_of update_of delete_of explain_of audit_statement_of begin_audit_of watch_of
console_complete _ _ rest (create_table {columns = columns} {key = key} {subject = subject} {defs = defs} {keys = keys} {remaining = remaining} are_defs are_names is_subject) end =
    rw (column_defs_complete defs columns _ are_defs refl refl, names_whole keys key remaining are_names, subject_complete remaining subject (Symbol RightParen ∷ rest) is_subject refl, end_complete rest end) refl
console_complete _ _ rest create_purpose end = rw (end_complete rest end) refl
console_complete _ _ rest create_recipient end = rw (end_complete rest end) refl
console_complete _ _ rest create_opt_in end = rw (end_complete rest end) refl
console_complete _ _ rest create_opt_out end = rw (end_complete rest end) refl
console_complete _ _ rest authorize end = rw (end_complete rest end) refl
console_complete _ _ rest deauthorize end = rw (end_complete rest end) refl
console_complete _ _ rest (allow {columns = columns} {item = item} {days = days} {named = named} {remaining = remaining} {kept = kept} are_names is_with is_retention) end =
    let follows = end_follows rest end in
    rw (names_whole named columns remaining are_names, with_complete remaining item kept is_with (retention-no_with kept days rest is_retention follows.no_with), retention_complete kept days rest is_retention follows.no_retain, end_complete rest end) refl
console_complete _ _ rest (revoke {columns = columns} {named = named} are_names) end = rw (names_whole named columns rest are_names, end_complete rest end) refl
console_complete _ _ rest choice_yes end = rw (end_complete rest end) refl
console_complete _ _ rest choice_no end = rw (end_complete rest end) refl
console_complete _ _ rest (insert {values = values} {tokens = tokens} are_values) end = rw (literals_complete tokens values (Symbol RightParen ∷ rest) are_values refl, end_complete rest end) refl
console_complete _ _ rest (update {settings = settings} {keys = keys} {tokens = tokens} {remaining = remaining} are_settings are_keys is) end =
    rw (settings_complete tokens settings (Keyword KWhere ∷ remaining) are_settings refl, keys_complete remaining keys rest are_keys (end_follows rest end).no_and, end_complete rest end, is) refl
console_complete _ _ rest (delete {keys = keys} {tokens = tokens} are_keys is) end =
    rw (keys_complete tokens keys rest are_keys (end_follows rest end).no_and, end_complete rest end, is) refl
console_complete _ _ rest console_explain end = rw (end_complete rest end) refl
console_complete tokens _ rest (console_audit {a = a} is_audit) end =
    let during = audit_during tokens a rest is_audit in
    rw (during.1, auditing.complete tokens a rest is_audit (end_follows rest end).audit_ends, end_complete rest end) refl
console_complete _ _ rest (console_begin_audit {a = a} {tokens = tokens} is_audit) end =
    rw (auditing.complete tokens a rest is_audit (end_follows rest end).audit_ends, end_complete rest end) refl
console_complete _ _ rest (console_watch {a = a} {tokens = tokens} is_audit) end =
    rw (auditing.complete tokens a rest is_audit (end_follows rest end).audit_ends, end_complete rest end) refl

-- the tokens begin with none of OPEN, SELECT and EXTRACT
pub record NoSelect (tokens : List TokenKind) : Type 0 where
  pub no_open : after_keyword KOpen tokens ≡ None
  pub no_select : after_keyword KSelect tokens ≡ None
  pub no_extract : after_word (codes "extract") tokens ≡ None

console_audit-no_select : (tokens : List TokenKind) (a : RawAudit) (rest : List TokenKind) → IsAudit tokens a rest → NoSelect tokens
console_audit-no_select _ a rest (audits.audit_expression e s cs ts w is) = record { no_open = refl; no_select = refl; no_extract = refl }

-- no statement of the console begins with one of these
pub console-no_select : (tokens : List TokenKind) (s : Stmt) (rest : List TokenKind) → IsConsole tokens s rest → NoSelect tokens
console-no_select _ s rest (create_table a b c) = record { no_open = refl; no_select = refl; no_extract = refl }
console-no_select _ s rest create_purpose = record { no_open = refl; no_select = refl; no_extract = refl }
console-no_select _ s rest create_recipient = record { no_open = refl; no_select = refl; no_extract = refl }
console-no_select _ s rest create_opt_in = record { no_open = refl; no_select = refl; no_extract = refl }
console-no_select _ s rest create_opt_out = record { no_open = refl; no_select = refl; no_extract = refl }
console-no_select _ s rest authorize = record { no_open = refl; no_select = refl; no_extract = refl }
console-no_select _ s rest deauthorize = record { no_open = refl; no_select = refl; no_extract = refl }
console-no_select _ s rest (allow a b c) = record { no_open = refl; no_select = refl; no_extract = refl }
console-no_select _ s rest (revoke a) = record { no_open = refl; no_select = refl; no_extract = refl }
console-no_select _ s rest choice_yes = record { no_open = refl; no_select = refl; no_extract = refl }
console-no_select _ s rest choice_no = record { no_open = refl; no_select = refl; no_extract = refl }
console-no_select _ s rest (insert a) = record { no_open = refl; no_select = refl; no_extract = refl }
console-no_select _ s rest (update a b e) = record { no_open = refl; no_select = refl; no_extract = refl }
console-no_select _ s rest (delete a e) = record { no_open = refl; no_select = refl; no_extract = refl }
console-no_select _ s rest console_explain = record { no_open = refl; no_select = refl; no_extract = refl }
console-no_select tokens s rest (console_audit {a = a} is_audit) = console_audit-no_select tokens a rest is_audit
console-no_select _ s rest (console_begin_audit is_audit) = record { no_open = refl; no_select = refl; no_extract = refl }
console-no_select _ s rest (console_watch is_audit) = record { no_open = refl; no_select = refl; no_extract = refl }
