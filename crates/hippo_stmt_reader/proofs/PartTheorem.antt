-- The parts of statements that are found are the grammar's.
use Rattle.std.proofs.Common.{◌≡◌, ℕ, ℤ, pos, suc, ◌<◌, ◌≤◌, nat_lt, nat_le, ◌&&◌, codes, List, [], ◌∷◌, length, Bool, true, false, if◌then◌else◌, Option, Some, None, refl, ap, arith}
use Rattle.std.proofs.lemmas.Bool.{and_parts, ltb-true, lt-ltb, leb-true, le-leb}
use Rattle.std.proofs.lemmas.Option.{none-some, same_Some, some_pair_parts, cond_some}
use Rattle.hippo_values.specs.Limits.{retention_limit}
use Rattle.hippo_values.specs.declared.values.Value.{Value}
use Rattle.hippo_model.specs.declared.schema.Column.{Column}
use Rattle.hippo_model.specs.declared.schema.ColumnKind.{ColumnKind}
use Rattle.hippo_values.specs.Options.{◌>>=◌}
use Rattle.hippo_values.specs.declared.keywords.Keyword as words
use Rattle.hippo_values.specs.declared.keywords.Keyword.TheVariants.{KAnd, KDate, KFor, KInteger, KNot, KNull, KOn, KSubject, KText, KTo, KWith}
use Rattle.hippo_lexer.specs.declared.kinds.Symbol.TheVariants.{Comma, Equal, LeftParen, RightParen, Semicolon}
use Rattle.hippo_lexer.specs.declared.kinds.TokenKind.{TokenKind}
use Rattle.hippo_lexer.specs.declared.kinds.TokenKind.TheVariants.{Word, Keyword, Number, Symbol}
use Rattle.hippo_spj_reader.specs.ConditionGrammar.{IsLiteral}
use Rattle.hippo_spj_reader.specs.ConditionFinder.{begins_with_name}
use Rattle.hippo_spj_reader.specs.Front.{after_keyword, after_symbol, after_word, leading_name, leading_literal}
use Rattle.hippo_spj_reader.specs.ListFinder.{leading_list}
use Rattle.hippo_spj_reader.specs.ListGrammar.{IsListOf, last_part, more_parts}
use Rattle.hippo_spj_reader.proofs.FrontTheorem.{found_then, keyword_then, symbol_then, word_then, name_then, keyword_choice, symbol_choice, word_choice, after_keyword-some, after_symbol-some, leading_name-some, read_as}
use Rattle.hippo_spj_reader.proofs.ListTheorem.{parts_found, list_complete}
use Rattle.hippo_spj_reader.proofs.NameTheorem.{names_found, names_complete}
use Rattle.hippo_spj_reader.proofs.OperandTheorem.{literal_found, literal_complete, literal_shorter}
use Rattle.hippo_stmt_reader.specs.declared.policies.Disclosure.{Disclosure}
use Rattle.hippo_stmt_reader.specs.declared.changes.Assignments.{Assignments}
use Rattle.hippo_stmt_reader.specs.declared.policies.Grantee.{Grantee}
use Rattle.hippo_stmt_reader.specs.StatementGrammar.{IsColumnKind, integer, text, date, IsColumnDef, nullable, not_null, IsSubject, no_subject, subject, IsWith, no_item, with_item, IsRetention, no_retention, retain, IsAssignment, assignment, AreKeys, AreSettings, AreNames, IsEnd, no_semicolon, semicolon}
use Rattle.hippo_stmt_reader.specs.StatementFinder.{nothing_left, end_left, column_kind_of, leading_column_kind, leading_column_def, after_column, leading_names, leading_subject, leading_with_item, leading_number, days_of, leading_retention, leading_name_after, leading_assignment, leading_assigned, assignments_of, leading_grant, leading_disclosure}

-- a list that is found is the grammar's, if its parts are and its separator is
list_found : {X : Type 0} (leading : List TokenKind → Option (X × List TokenKind)) (after : List TokenKind → Option (List TokenKind)) (IsPart : List TokenKind → X → List TokenKind → Type 0) (separator : TokenKind) →
    ((tokens : List TokenKind) (part : X) (rest : List TokenKind) → leading tokens ≡ Some (part, rest) → IsPart tokens part rest) →
    ((tokens remaining : List TokenKind) → after tokens ≡ Some remaining → tokens ≡ separator ∷ remaining) →
    (tokens : List TokenKind) (list : List X) (rest : List TokenKind) → leading_list leading after tokens ≡ Some (list, rest) → IsListOf IsPart separator tokens list rest
list_found leading after IsPart separator part_found next_found tokens list rest e =
    parts_found leading after IsPart separator (IsListOf IsPart separator) part_found next_found
    (λ _ _ _ d. last_part d) (λ _ _ _ _ _ d ds. more_parts d ds) (suc (length tokens)) tokens list rest e

nothing_found : (tokens : List TokenKind) (u : Unit {0}) → nothing_left tokens ≡ Some u → tokens ≡ []
nothing_found [] u e = refl
nothing_found (first ∷ rest) u e = absurd (none-some u e)

pub end_found : (tokens : List TokenKind) (u : Unit {0}) → end_left tokens ≡ Some u → IsEnd tokens
end_found tokens u e =
    symbol_choice Semicolon tokens _ _ _ e
    (λ rest is_semicolon e. rw (is_semicolon, nothing_found rest u e) semicolon)
    (λ _ e. rw (nothing_found tokens u e) no_semicolon)

pub end_complete : (tokens : List TokenKind) → IsEnd tokens → end_left tokens ≡ Some tt
end_complete tokens no_semicolon = refl
end_complete tokens semicolon = refl

pub number_found : (tokens : List TokenKind) (n : ℤ) (rest : List TokenKind) → leading_number tokens ≡ Some (n, rest) → tokens ≡ Number n ∷ rest
number_found (Number first ∷ remaining) n rest e = let p = some_pair_parts first n remaining rest e in rw (p.0, p.1) refl
number_found _ n rest e = absurd (none-some _ e)

column_kind_of-found : (word : words.Keyword) (k : ColumnKind) → column_kind_of word ≡ Some k → IsColumnKind word k
column_kind_of-found KInteger k e = rw (← same_Some _ k e) integer
column_kind_of-found KText k e = rw (← same_Some _ k e) text
column_kind_of-found KDate k e = rw (← same_Some _ k e) date
column_kind_of-found _ k e = absurd (none-some k e)

column_kind_of-complete : (word : words.Keyword) (k : ColumnKind) → IsColumnKind word k → column_kind_of word ≡ Some k
column_kind_of-complete word k integer = refl
column_kind_of-complete word k text = refl
column_kind_of-complete word k date = refl

column_kind_then : {P : Type 0} (tokens : List TokenKind) (k : ColumnKind) (rest : List TokenKind) → leading_column_kind tokens ≡ Some (k, rest) →
    ((word : words.Keyword) → tokens ≡ Keyword word ∷ rest → IsColumnKind word k → P) → P
column_kind_then (Keyword word ∷ remaining) k rest e next = found_then (column_kind_of word) _ _ e (λ found is e.
    let whole = some_pair_parts found k remaining rest e in
    next word (ap (λ (left : List TokenKind). Keyword word ∷ left) whole.1) (rw whole.0 at (column_kind_of-found word found is)))
column_kind_then _ k rest e next = absurd (none-some _ e)

column_def_found : (tokens : List TokenKind) (c : Column) (rest : List TokenKind) → leading_column_def tokens ≡ Some (c, rest) → IsColumnDef tokens c rest
unfolding leading_column_def
column_def_found tokens c rest e =
    name_then tokens _ _ e (λ name typed is_name e.
    found_then (leading_column_kind typed) _ _ e (λ k k_is e.
    column_kind_then typed k.0 k.1 k_is (λ word is_word is_kind.
    keyword_choice KNot k.1 _ _ _ e
    (λ remaining is_not e. keyword_then KNull remaining _ _ e (λ left is_null e.
    rw (is_name, is_word, is_not, is_null) (read_as IsColumnDef _ _ _ _ _ e (not_null is_kind))))
    (λ _ e. rw (is_name, is_word) (read_as IsColumnDef _ _ _ _ _ e (nullable is_kind))))))

column_def_complete : (tokens : List TokenKind) (c : Column) (rest : List TokenKind) → IsColumnDef tokens c rest → after_keyword KNot rest ≡ None → leading_column_def tokens ≡ Some (c, rest)
unfolding leading_column_def
column_def_complete tokens c rest (nullable {word = word} is_kind) no_not = rw (column_kind_of-complete word _ is_kind, no_not) refl
column_def_complete tokens c rest (not_null {word = word} is_kind) no_not = rw (column_kind_of-complete word _ is_kind) refl

column_def_shorter : (tokens : List TokenKind) (c : Column) (rest : List TokenKind) → IsColumnDef tokens c rest → length rest < length tokens
column_def_shorter tokens c rest (nullable is_kind) = omega arith
column_def_shorter tokens c rest (not_null is_kind) = omega arith

after_column_by : (begins : Bool) (remaining rest : List TokenKind) → (if begins then Some remaining else None) ≡ Some rest → remaining ≡ rest
after_column_by true remaining rest e = same_Some remaining rest e
after_column_by false remaining rest e = absurd (none-some rest e)

after_column_found : (tokens remaining : List TokenKind) → after_column tokens ≡ Some remaining → tokens ≡ Symbol Comma ∷ remaining
after_column_found tokens remaining e =
    symbol_then Comma tokens _ _ e (λ rest is_comma e. rw (is_comma, after_column_by (begins_with_name rest) rest remaining e) refl)

after_column_complete : (tokens : List TokenKind) (c : Column) (rest : List TokenKind) → IsColumnDef tokens c rest → after_column (Symbol Comma ∷ tokens) ≡ Some tokens
after_column_complete tokens c rest (nullable is_kind) = refl
after_column_complete tokens c rest (not_null is_kind) = refl

pub column_defs_found : (tokens : List TokenKind) (cs : List Column) (rest : List TokenKind) → leading_list leading_column_def after_column tokens ≡ Some (cs, rest) → IsListOf IsColumnDef (Symbol Comma) tokens cs rest
column_defs_found tokens cs rest e =
    list_found leading_column_def after_column IsColumnDef (Symbol Comma) column_def_found after_column_found tokens cs rest e

pub column_defs_complete : (tokens : List TokenKind) (cs : List Column) (rest : List TokenKind) → IsListOf IsColumnDef (Symbol Comma) tokens cs rest → after_keyword KNot rest ≡ None → after_column rest ≡ None →
    leading_list leading_column_def after_column tokens ≡ Some (cs, rest)
column_defs_complete tokens cs rest ds no_not no_next =
    list_complete leading_column_def after_column IsColumnDef (Symbol Comma) (λ rest. after_keyword KNot rest ≡ None) column_def_complete (λ _. refl) after_column_complete column_def_shorter tokens cs rest ds no_not no_next

pub names_then : {P : Type 0} (tokens : List TokenKind) (names : List (List ℕ)) (rest : List TokenKind) → leading_names tokens ≡ Some (names, rest) →
    ((inside : List TokenKind) → tokens ≡ Symbol LeftParen ∷ inside → AreNames inside names (Symbol RightParen ∷ rest) → P) → P
unfolding leading_names
names_then tokens names rest e next =
    symbol_then LeftParen tokens _ _ e (λ inside is_open e.
    found_then (leading_list leading_name (after_symbol Comma) inside) _ _ e (λ found found_is e.
    symbol_then RightParen found.1 _ _ e (λ left is_close e.
    let whole = some_pair_parts found.0 names left rest e in
    next inside is_open (rw (is_close, whole.0, whole.1) at (names_found inside found.0 found.1 found_is)))))

pub names_whole : (inside : List TokenKind) (names : List (List ℕ)) (rest : List TokenKind) → AreNames inside names (Symbol RightParen ∷ rest) → leading_names (Symbol LeftParen ∷ inside) ≡ Some (names, rest)
unfolding leading_names
names_whole inside names rest d = rw (names_complete inside names (Symbol RightParen ∷ rest) d refl) refl

pub subject_found : (tokens : List TokenKind) (s : Option (List ℕ)) (rest : List TokenKind) → leading_subject tokens ≡ Some (s, rest) → IsSubject tokens s rest
unfolding leading_subject
subject_found tokens s rest e =
    symbol_choice Comma tokens _ _ _ e
    (λ remaining is_comma e. keyword_then KSubject remaining _ _ e (λ named is_subject e. name_then named _ _ e (λ c left is_name e.
    rw (is_comma, is_subject, is_name) (read_as IsSubject _ _ _ _ _ e subject))))
    (λ _ e. read_as IsSubject tokens _ _ _ _ e no_subject)

pub subject_complete : (tokens : List TokenKind) (s : Option (List ℕ)) (rest : List TokenKind) → IsSubject tokens s rest → after_symbol Comma rest ≡ None → leading_subject tokens ≡ Some (s, rest)
unfolding leading_subject
subject_complete tokens s rest no_subject no_comma = rw no_comma refl
subject_complete tokens s rest subject no_comma = refl

pub with_found : (tokens : List TokenKind) (i : Option (List ℕ)) (rest : List TokenKind) → leading_with_item tokens ≡ Some (i, rest) → IsWith tokens i rest
unfolding leading_with_item
with_found tokens i rest e =
    keyword_choice KWith tokens _ _ _ e
    (λ remaining is_with e. name_then remaining _ _ e (λ item left is_name e. rw (is_with, is_name) (read_as IsWith _ _ _ _ _ e with_item)))
    (λ _ e. read_as IsWith tokens _ _ _ _ e no_item)

pub with_complete : (tokens : List TokenKind) (i : Option (List ℕ)) (rest : List TokenKind) → IsWith tokens i rest → after_keyword KWith rest ≡ None → leading_with_item tokens ≡ Some (i, rest)
unfolding leading_with_item
with_complete tokens i rest no_item no_with = rw no_with refl
with_complete tokens i rest with_item no_with = refl

days_of-found : (number : ℤ) (days : ℕ) → days_of number ≡ Some days → (number ≡ pos days) × (0 < days) × (days ≤ retention_limit)
days_of-found (pos n) days e =
    let p = cond_some (nat_lt 0 n && nat_le n retention_limit) n days e in
    let bounds = and_parts (nat_lt 0 n) (nat_le n retention_limit) p.0 in
    rw (← p.1) (refl, ltb-true 0 n bounds.0, leb-true n retention_limit bounds.1)
days_of-found _ days e = absurd (none-some days e)

days_of-complete : (days : ℕ) → 0 < days → days ≤ retention_limit → days_of (pos days) ≡ Some days
days_of-complete days some most = rw (lt-ltb 0 days some, le-leb days retention_limit most) refl

pub retention_found : (tokens : List TokenKind) (days : Option ℕ) (rest : List TokenKind) → leading_retention tokens ≡ Some (days, rest) → IsRetention tokens days rest
unfolding leading_retention
retention_found tokens days rest e =
    word_choice (codes "retain") tokens _ _ _ e
    (λ remaining is_retain e. found_then (leading_number remaining) _ _ e (λ number number_is e.
    found_then (days_of number.0) _ _ e (λ n n_is e.
    word_then (codes "days") number.1 _ _ e (λ left is_days e.
    let bounds = days_of-found number.0 n n_is in
    rw (is_retain, number_found remaining number.0 number.1 number_is, bounds.0, is_days) (read_as IsRetention _ _ _ _ _ e (retain bounds.1 bounds.2))))))
    (λ _ e. read_as IsRetention tokens _ _ _ _ e no_retention)

pub retention_complete : (tokens : List TokenKind) (days : Option ℕ) (rest : List TokenKind) → IsRetention tokens days rest → after_word (codes "retain") rest ≡ None → leading_retention tokens ≡ Some (days, rest)
unfolding leading_retention
retention_complete tokens days rest no_retention no_retain = rw no_retain refl
retention_complete tokens _ rest (retain {days = days} some most) no_retain = rw (days_of-complete days some most) refl

-- WITH comes before RETAIN
pub retention-no_with : (tokens : List TokenKind) (days : Option ℕ) (rest : List TokenKind) → IsRetention tokens days rest → after_keyword KWith rest ≡ None → after_keyword KWith tokens ≡ None
retention-no_with tokens days rest no_retention no_with = no_with
retention-no_with _ _ rest (retain some most) no_with = refl

assignment_found : (tokens : List TokenKind) (a : List ℕ × Value) (rest : List TokenKind) → leading_assignment tokens ≡ Some (a, rest) → IsAssignment tokens a rest
unfolding leading_assignment
assignment_found tokens a rest e =
    name_then tokens _ _ e (λ c remaining is_name e.
    symbol_then Equal remaining _ _ e (λ after is_equal e.
    found_then (leading_literal after) _ _ e (λ v v_is e.
    rw (is_name, is_equal) (read_as IsAssignment _ _ _ _ _ e (assignment (literal_found after v.0 v.1 v_is))))))

assignment_complete : (tokens : List TokenKind) (a : List ℕ × Value) (rest : List TokenKind) → IsAssignment tokens a rest → Unit {0} → leading_assignment tokens ≡ Some (a, rest)
unfolding leading_assignment
assignment_complete _ _ rest (assignment {v = v} {tokens = tokens} l) follows = rw (literal_complete tokens v rest l) refl

assignment_shorter : (tokens : List TokenKind) (a : List ℕ × Value) (rest : List TokenKind) → IsAssignment tokens a rest → length rest < length tokens
assignment_shorter _ _ rest (assignment {v = v} {tokens = tokens} l) = omega (arith, literal_shorter tokens v rest l)

-- assignments with a separator between them
module _ (after : List TokenKind → Option (List TokenKind)) (separator : TokenKind) where
  assignments_found : ((tokens remaining : List TokenKind) → after tokens ≡ Some remaining → tokens ≡ separator ∷ remaining) →
      (tokens : List TokenKind) (list : List (List ℕ × Value)) (rest : List TokenKind) → leading_list leading_assignment after tokens ≡ Some (list, rest) → IsListOf IsAssignment separator tokens list rest
  assignments_found next_found tokens list rest e = list_found leading_assignment after IsAssignment separator assignment_found next_found tokens list rest e

  assignments_complete : ((remaining : List TokenKind) → after (separator ∷ remaining) ≡ Some remaining) →
      (tokens : List TokenKind) (list : List (List ℕ × Value)) (rest : List TokenKind) → IsListOf IsAssignment separator tokens list rest → after rest ≡ None → leading_list leading_assignment after tokens ≡ Some (list, rest)
  assignments_complete passes tokens list rest ds no_more =
      list_complete leading_assignment after IsAssignment separator (λ _. Unit {0}) assignment_complete (λ _. tt) (λ remaining _ _ _. passes remaining) assignment_shorter tokens list rest ds tt no_more

pub settings_found : (tokens : List TokenKind) (list : List (List ℕ × Value)) (rest : List TokenKind) → leading_list leading_assignment (after_symbol Comma) tokens ≡ Some (list, rest) → AreSettings tokens list rest
settings_found tokens list rest e = assignments_found (after_symbol Comma) (Symbol Comma) (after_symbol-some Comma) tokens list rest e

pub settings_complete : (tokens : List TokenKind) (list : List (List ℕ × Value)) (rest : List TokenKind) → AreSettings tokens list rest → after_symbol Comma rest ≡ None → leading_list leading_assignment (after_symbol Comma) tokens ≡ Some (list, rest)
settings_complete tokens list rest ds no_comma = assignments_complete (after_symbol Comma) (Symbol Comma) (λ _. refl) tokens list rest ds no_comma

pub keys_found : (tokens : List TokenKind) (list : List (List ℕ × Value)) (rest : List TokenKind) → leading_list leading_assignment (after_keyword KAnd) tokens ≡ Some (list, rest) → AreKeys tokens list rest
keys_found tokens list rest e = assignments_found (after_keyword KAnd) (Keyword KAnd) (after_keyword-some KAnd) tokens list rest e

pub keys_complete : (tokens : List TokenKind) (list : List (List ℕ × Value)) (rest : List TokenKind) → AreKeys tokens list rest → after_keyword KAnd rest ≡ None → leading_list leading_assignment (after_keyword KAnd) tokens ≡ Some (list, rest)
keys_complete tokens list rest ds no_and = assignments_complete (after_keyword KAnd) (Keyword KAnd) (λ _. refl) tokens list rest ds no_and

pub literals_found : (tokens : List TokenKind) (list : List Value) (rest : List TokenKind) → leading_list leading_literal (after_symbol Comma) tokens ≡ Some (list, rest) → IsListOf IsLiteral (Symbol Comma) tokens list rest
literals_found tokens list rest e =
    list_found leading_literal (after_symbol Comma) IsLiteral (Symbol Comma) literal_found (after_symbol-some Comma) tokens list rest e

pub literals_complete : (tokens : List TokenKind) (list : List Value) (rest : List TokenKind) → IsListOf IsLiteral (Symbol Comma) tokens list rest → after_symbol Comma rest ≡ None → leading_list leading_literal (after_symbol Comma) tokens ≡ Some (list, rest)
literals_complete tokens list rest ds no_comma =
    list_complete leading_literal (after_symbol Comma) IsLiteral (Symbol Comma) (λ _. Unit {0}) (λ tokens v rest l _. literal_complete tokens v rest l) (λ _. tt) (λ _ _ _ _. refl) literal_shorter tokens list rest ds tt no_comma

-- what follows a keyword and a name
pub name_after_then : {B P : Type 0} (keyword : words.Keyword) (tokens : List TokenKind) (next : List ℕ × List TokenKind → Option B) (y : B) → (leading_name_after keyword tokens >>= next) ≡ Some y →
    ((name : List ℕ) (rest : List TokenKind) → tokens ≡ Keyword keyword ∷ Word name ∷ rest → next (name, rest) ≡ Some y → P) → P
name_after_then keyword tokens next y e follow =
    found_then (leading_name_after keyword tokens) next y e (λ named named_is e.
    keyword_then keyword tokens leading_name named named_is (λ remaining is_keyword is_name.
    follow named.0 named.1 (rw (is_keyword, leading_name-some remaining named.1 named.0 is_name) refl) e))

-- what follows a keyword and assignments
pub assigned_then : {B P : Type 0} (keyword : words.Keyword) (after : List TokenKind → Option (List TokenKind)) (tokens : List TokenKind) (next : Assignments × List TokenKind → Option B) (y : B) → (leading_assigned keyword after tokens >>= next) ≡ Some y →
    ((remaining : List TokenKind) (list : List (List ℕ × Value)) (rest : List TokenKind) → tokens ≡ Keyword keyword ∷ remaining → leading_list leading_assignment after remaining ≡ Some (list, rest) → next (assignments_of list, rest) ≡ Some y → P) → P
assigned_then keyword after tokens next y e follow =
    found_then (leading_assigned keyword after tokens) next y e (λ assigned assigned_is e.
    keyword_then keyword tokens _ _ assigned_is (λ remaining is_keyword assigned_is.
    found_then (leading_list leading_assignment after remaining) _ _ assigned_is (λ found found_is assigned_is.
    follow remaining found.0 found.1 is_keyword found_is (rw (same_Some _ assigned assigned_is) e))))

-- u FOR p "," r
pub grant_then : {P : Type 0} (tokens : List TokenKind) (g : Grantee) (rest : List TokenKind) → leading_grant tokens ≡ Some (g, rest) →
    (tokens ≡ Word g.user ∷ Keyword KFor ∷ Word g.purpose ∷ Symbol Comma ∷ Word g.recipient ∷ rest → P) → P
unfolding leading_grant
grant_then tokens g rest e next =
    name_then tokens _ _ e (λ user a is_user e.
    name_after_then KFor a _ _ e (λ purpose b is_purpose e.
    symbol_then Comma b _ _ e (λ c is_comma e.
    name_then c _ _ e (λ recipient left is_recipient e.
    let whole = some_pair_parts (record { user = user; purpose = purpose; recipient = recipient }) g left rest e in
    next (rw (← whole.0, ← whole.1, is_user, is_purpose, is_comma, is_recipient) refl)))))

-- p TO r ON t "(" c {"," c} ")"
pub disclosure_then : {P : Type 0} (tokens : List TokenKind) (d : Disclosure) (rest : List TokenKind) → leading_disclosure tokens ≡ Some (d, rest) →
    ((named : List TokenKind) → tokens ≡ Word d.purpose ∷ Keyword KTo ∷ Word d.recipient ∷ Keyword KOn ∷ Word d.table ∷ Symbol LeftParen ∷ named → AreNames named d.columns (Symbol RightParen ∷ rest) → P) → P
unfolding leading_disclosure
disclosure_then tokens d rest e next =
    name_then tokens _ _ e (λ purpose a is_purpose e.
    name_after_then KTo a _ _ e (λ recipient b is_recipient e.
    name_after_then KOn b _ _ e (λ table listed is_table e.
    found_then (leading_names listed) _ _ e (λ columns columns_is e.
    names_then listed columns.0 columns.1 columns_is (λ named is_open are_names.
    let whole = some_pair_parts (record { purpose = purpose; recipient = recipient; table = table; columns = columns.0 }) d columns.1 rest e in
    next named (rw (← whole.0, is_purpose, is_recipient, is_table, is_open) refl) (rw (← whole.0, ← whole.1) are_names))))))
