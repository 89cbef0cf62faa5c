-- What the grammar finds in tokens that fit their types is well formed.
use Rattle.std.proofs.Common.{◌≡◌, ℕ, Bool, true, false, ◌&&◌, List, [], ◌∷◌, length, Option, refl, sym, subst, arith}
use Rattle.std.specs.List.{list_all}
use Rattle.std.proofs.lemmas.Bool.{and_parts, and_from, le-leb}
use Rattle.hippo_values.specs.Limits.{retention_limit}
use Rattle.hippo_values.specs.Moments.{is_signed_number}
use Rattle.hippo_values.specs.declared.names.Name.{Name}
use Rattle.hippo_values.specs.declared.values.Value.{Value}
use Rattle.hippo_lexer.specs.declared.kinds.Symbol.TheVariants.{Comma}
use Rattle.hippo_lexer.specs.declared.kinds.Token.{Token}
use Rattle.hippo_lexer.specs.declared.kinds.TokenKind.{TokenKind}
use Rattle.hippo_lexer.specs.declared.kinds.TokenKind.TheVariants.{Symbol}
use Rattle.hippo_model.specs.declared.schema.Column.{Column}
use Rattle.hippo_stmt_ast.specs.declared.statement.Stmt.{Stmt}
use Rattle.hippo_model.specs.Keepable.{is_folded_name, item_is_keepable}
use Rattle.hippo_model.specs.Validity.{days_fit}
use Rattle.hippo_spj_reader.specs.ConditionGrammar.{IsLiteral, number, quoted_literal, day, null}
use Rattle.hippo_spj_reader.specs.Front.{Kinds, kinds}
use Rattle.hippo_spj_reader.specs.ListGrammar.{IsName, name, IsListOf, last_part, more_parts}
use Rattle.hippo_stmt_reader.specs.StatementGrammar.{IsColumnDef, nullable, not_null, IsWith, no_item, with_item, IsRetention, no_retention, retain, IsAssignment, assignment, AreNames, assigned_values, IsConsole, create_table, create_purpose, create_recipient, create_opt_in, create_opt_out, authorize, deauthorize, allow, revoke, choice_yes, choice_no, insert, update, delete, console_explain, console_audit, console_begin_audit, console_watch, IsStatement, console, open_select, extract_select}
use Rattle.hippo_stmt_reader.specs.StatementGrammar as statements
use Rattle.hippo_stmt_reader.proofs.StatementTheorem as statement_theorem
use Rattle.hippo_typing_laws.specs.Written.{is_typed, has_members, kind_is_typed, is_written}
use Rattle.hippo_typing_laws.specs.WrittenLaws.{StatementsAreWritten}

abbrev are_typed : Kinds → Bool
are_typed tokens = list_all kind_is_typed tokens

-- the members of a list fit, there is at least one, and the tokens after it fit their types
record IsFitList {X : Type 0} (fit : X → Bool) (members : List X) (rest : Kinds) : Type 0 where
  fits : list_all fit members ≡ true
  some : has_members members ≡ true
  remaining : are_typed rest ≡ true

module _ {X : Type 0} (IsPart : Kinds → X → Kinds → Type 0) (separator : TokenKind) (fit : X → Bool)
    (one : (tokens : Kinds) (member : X) (rest : Kinds) → are_typed tokens ≡ true → IsPart tokens member rest → (fit member ≡ true) × (are_typed rest ≡ true)) where
  listed : (tokens : Kinds) (members : List X) (rest : Kinds) → are_typed tokens ≡ true → IsListOf IsPart separator tokens members rest → IsFitList fit members rest
  listed tokens _ rest typed (last_part {part = member} is) =
      let both = one tokens member rest typed is in
      record { fits = and_from _ _ both.0 refl; some = le-leb 1 (length (member ∷ [])) (omega arith); remaining = both.1 }
  listed tokens _ rest typed (more_parts {part = member} {parts = members} {others = others} is more) =
      let both = one tokens member (separator ∷ others) typed is in
      let later = listed others members rest (and_parts (kind_is_typed separator) (are_typed others) both.1).1 more in
      record { fits = and_from _ _ both.0 later.fits; some = le-leb 1 (length (member ∷ members)) (omega arith); remaining = later.remaining }

a_name : (tokens : Kinds) (n : Name) (rest : Kinds) → are_typed tokens ≡ true → IsName tokens n rest → (is_folded_name n ≡ true) × (are_typed rest ≡ true)
a_name _ n rest typed name = and_parts (is_folded_name n) (are_typed rest) typed

a_literal : (tokens : Kinds) (v : Value) (rest : Kinds) → are_typed tokens ≡ true → IsLiteral tokens v rest → (is_typed v ≡ true) × (are_typed rest ≡ true)
a_literal _ _ rest typed number = and_parts _ (are_typed rest) typed
a_literal _ _ rest typed quoted_literal = and_parts _ (are_typed rest) typed
a_literal _ _ rest typed day = and_parts _ (are_typed rest) typed
a_literal _ _ rest typed null = (refl, typed)

a_column : (tokens : Kinds) (c : Column) (rest : Kinds) → are_typed tokens ≡ true → IsColumnDef tokens c rest → (is_folded_name c.name ≡ true) × (are_typed rest ≡ true)
a_column _ _ rest typed (nullable _) = and_parts _ (are_typed rest) typed
a_column _ _ rest typed (not_null _) = and_parts _ (are_typed rest) typed

an_assignment : (tokens : Kinds) (a : Name × Value) (rest : Kinds) → are_typed tokens ≡ true → IsAssignment tokens a rest → (is_typed a.1 ≡ true) × (are_typed rest ≡ true)
an_assignment _ _ rest typed (assignment {v = v} {tokens = tokens} is) = a_literal tokens v rest (and_parts _ (are_typed tokens) typed).1 is

an_item : (tokens : Kinds) (item : Option Name) (rest : Kinds) → are_typed tokens ≡ true → IsWith tokens item rest → (item_is_keepable item ≡ true) × (are_typed rest ≡ true)
an_item _ _ rest typed no_item = (refl, typed)
an_item _ _ rest typed with_item = and_parts _ (are_typed rest) typed

days_so : (tokens : Kinds) (days : Option ℕ) (rest : Kinds) → IsRetention tokens days rest → days_fit days ≡ true
days_so _ _ rest no_retention = refl
days_so _ _ rest (retain {days = days} least most) = and_from _ _ (le-leb 1 days (omega arith)) (le-leb days retention_limit most)

values_typed : (assigned : List (Name × Value)) → list_all (λ (a : Name × Value). is_typed a.1) assigned ≡ true → list_all is_typed (assigned_values assigned) ≡ true
values_typed [] all = refl
values_typed (a ∷ rest) all =
    let both = and_parts (is_typed a.1) (list_all (λ (a : Name × Value). is_typed a.1) rest) all in
    and_from _ _ both.0 (values_typed rest both.1)

-- three names, each with what follows it
three : (a b c rest : Bool) → (a && (b && (c && rest))) ≡ true → ((a && b && c) ≡ true) × (rest ≡ true)
three true true true rest all = (refl, all)
three true true false rest all = absurd cc
three true false c rest all = absurd cc
three false b c rest all = absurd cc

two : (a b rest : Bool) → (a && (b && rest)) ≡ true → (a && b) ≡ true
two true true rest all = refl
two true false rest all = absurd cc
two false b rest all = absurd cc

one_of : (a rest : Bool) → (a && rest) ≡ true → a ≡ true
one_of a rest all = (and_parts a rest all).0

columns_listed : (named : Kinds) (columns : List Name) (rest : Kinds) → are_typed named ≡ true → AreNames named columns rest → IsFitList is_folded_name columns rest
columns_listed = listed IsName (Symbol Comma) is_folded_name a_name

console_written : (tokens : Kinds) (s : Stmt) (rest : Kinds) → are_typed tokens ≡ true → IsConsole tokens s rest → is_written s ≡ true
console_written _ _ rest typed (create_table {table = table} {columns = columns} {key = key} {defs = defs} {keys = keys} {remaining = remaining} are_columns are_keys _) =
    let first = and_parts (is_folded_name table) (are_typed defs) typed in
    let made = listed IsColumnDef (Symbol Comma) (λ column. is_folded_name column.name) a_column defs columns _ first.1 are_columns in
    let named = columns_listed keys key _ made.remaining are_keys in
    and_from _ _ (and_from _ _ first.0 (and_from _ _ made.some made.fits)) named.some
console_written _ _ rest typed (create_purpose {purpose = p}) = one_of (is_folded_name p) (are_typed rest) typed
console_written _ _ rest typed (create_recipient {recipient = r}) = one_of (is_folded_name r) (are_typed rest) typed
console_written _ _ rest typed (create_opt_in {item = i}) = one_of (is_folded_name i) (are_typed rest) typed
console_written _ _ rest typed (create_opt_out {item = i}) = one_of (is_folded_name i) (are_typed rest) typed
console_written _ _ rest typed (authorize {user = u} {purpose = p} {recipient = r}) = (three (is_folded_name u) (is_folded_name p) (is_folded_name r) (are_typed rest) typed).0
console_written _ _ rest typed (deauthorize {user = u} {purpose = p} {recipient = r}) = (three (is_folded_name u) (is_folded_name p) (is_folded_name r) (are_typed rest) typed).0
console_written _ _ rest typed (allow {purpose = p} {recipient = r} {table = t} {columns = columns} {item = item} {days = days} {named = named} {remaining = remaining} {kept = kept} are_columns with_an with_days) =
    let first = three (is_folded_name p) (is_folded_name r) (is_folded_name t) (are_typed named) typed in
    let list = columns_listed named columns _ first.1 are_columns in
    let an = an_item remaining item kept list.remaining with_an in
    and_from _ _ (and_from _ _ (and_from _ _ first.0 list.some) an.0) (days_so kept days rest with_days)
console_written _ _ rest typed (revoke {purpose = p} {recipient = r} {table = t} {columns = columns} {named = named} are_columns) =
    let first = three (is_folded_name p) (is_folded_name r) (is_folded_name t) (are_typed named) typed in
    and_from _ _ first.0 (columns_listed named columns _ first.1 are_columns).some
console_written _ _ rest typed (choice_yes {n = n} {item = i}) = two (is_signed_number n) (is_folded_name i) (are_typed rest) typed
console_written _ _ rest typed (choice_no {n = n} {item = i}) = two (is_signed_number n) (is_folded_name i) (are_typed rest) typed
console_written _ _ rest typed (insert {table = t} {values = values} {tokens = tokens} are_values) =
    let first = and_parts (is_folded_name t) (are_typed tokens) typed in
    and_from _ _ first.0 (listed IsLiteral (Symbol Comma) is_typed a_literal tokens values _ first.1 are_values).fits
console_written _ s rest typed (update {table = t} {settings = settings} {keys = keys} {tokens = tokens} are_settings are_keys is) =
    let first = and_parts (is_folded_name t) (are_typed tokens) typed in
    let list = listed IsAssignment (Symbol Comma) (λ a. is_typed a.1) an_assignment tokens settings _ first.1 are_settings in
    subst (λ (s : Stmt). is_written s ≡ true) (sym is) (and_from _ _ first.0 (values_typed settings list.fits))
console_written _ s rest typed (delete {table = t} {tokens = tokens} are_keys is) =
    subst (λ (s : Stmt). is_written s ≡ true) (sym is) (one_of (is_folded_name t) (are_typed tokens) typed)
console_written _ _ rest typed console_explain = refl
console_written _ _ rest typed (console_audit _) = refl
console_written _ _ rest typed (console_begin_audit _) = refl
console_written _ _ rest typed (console_watch _) = refl

statement_written : (tokens : List Token) (s : Stmt) → are_typed (kinds tokens) ≡ true → IsStatement tokens s → is_written s ≡ true
statement_written tokens s typed (console {rest = rest} is_console is_end) = console_written (kinds tokens) s rest typed is_console
statement_written tokens _ typed (statements.select is_placed) = refl
statement_written _ _ typed (open_select is_open is_placed) = refl
statement_written _ _ typed (extract_select is_extract is_placed) = refl

-- what the grammar finds in tokens that fit their types is well formed
pub statements_are_written : StatementsAreWritten
statements_are_written tokens statement typed found = statement_written tokens statement typed (statement_theorem.found tokens statement found)
