-- The text of a table that is created reads back.
use Rattle.std.proofs.Common.{◌≡◌, ◌∙◌, ℕ, zero, suc, ◌+◌, ◌<◌, ◌≤◌, Bool, true, false, ◌&&◌, ◌||◌, List, [], ◌∷◌, ◌++◌, length, map, Option, Some, None, refl, sym, ap, subst, inl, inr, arith, codes}
use Rattle.std.specs.Prelude.{nat_le, nat_eq, bytes_eq, slice_get, unwrap_or, option_map, option_and_then}
use Rattle.std.specs.List.{list_any, list_all}
use Rattle.std.specs.Option.{option_map_or}
use Rattle.std.proofs.lemmas.Bool.{and_parts, and_from, or_from, both_ways, cases_Bool, lt-ltb, leb-true}
use Rattle.std.proofs.lemmas.List.{append_assoc}
use Rattle.std.proofs.lemmas.Slice.Eq.{bytes_eq-Decides}
use Rattle.hippo_values.specs.Limits.{column_limit}
use Rattle.hippo_values_text.specs.Quoting.{is_quote}
use Rattle.hippo_values.specs.Texts.{Txt}
use Rattle.hippo_values.specs.Names.{keywords}
use Rattle.hippo_values.specs.declared.names.Name.{Name}
use Rattle.hippo_values.specs.declared.keywords.Keyword as words
use Rattle.hippo_values.specs.declared.keywords.Keyword.TheVariants.{KCreate, KDate, KInteger, KKey, KNot, KNull, KPrimary, KSubject, KTable, KText}
use Rattle.hippo_lexer.specs.Grammar.{IsQuotedAfter, IsWholeWord, a_keyword}
use Rattle.hippo_lexer.specs.Spelling.{is_blank}
use Rattle.hippo_lexer.specs.declared.kinds.Symbol.TheVariants.{Comma, LeftParen, RightParen}
use Rattle.hippo_lexer.specs.declared.kinds.TokenKind.TheVariants.{Word, Keyword, Symbol}
use Rattle.hippo_model.specs.declared.entry.Act.TheVariants.{Create}
use Rattle.hippo_model.specs.declared.schema.Column.{Column}
use Rattle.hippo_model.specs.declared.schema.ColumnKind.{ColumnKind}
use Rattle.hippo_model.specs.declared.schema.ColumnKind.TheVariants as kinds
use Rattle.hippo_model.specs.declared.schema.Schema.{Schema}
use Rattle.hippo_stmt_ast.specs.declared.statement.Stmt.TheVariants as stmt
use Rattle.hippo_model.specs.declared.wanted.Wanted.TheVariants.{Ready}
use Rattle.hippo_model.specs.Keepable.{is_folded_name, is_short, is_place, columns_are_keepable, key_is_keepable, subject_is_keepable, schema_is_keepable}
use Rattle.hippo_model.specs.Terms.{Place}
use Rattle.hippo_model.specs.Validity.{all_differ, column_passes, key_column_fits, subject_column_fits, is_well_formed}
use Rattle.hippo_spj_reader.specs.Front.{Kinds}
use Rattle.hippo_spj_reader.specs.ListGrammar.{IsListOf}
use Rattle.hippo_stmt_reader.specs.StatementGrammar.{IsColumnKind, IsColumnDef, IsSubject, nullable, not_null, no_subject, subject, create_table}
use Rattle.hippo_stmt_reader.specs.StatementGrammar as grammar
use Rattle.hippo_typing_catalog.specs.ChangesRefused.{keyless_table, places_named}
use Rattle.hippo_typing_catalog.specs.ChangesWanted.{with_not_null, table_made}
use Rattle.hippo_typing_catalog.specs.WrittenColumns.{place_of}
use Rattle.hippo_report.specs.Cells.{separated_text, comma}
use Rattle.hippo_history_statements.specs.Telling.{kind_text, not_null_text, column_definition, name_at, names_text, subject_text, create_text}
use Rattle.hippo_history_laws.specs.TellingLaws.{ReadsAs, CreatesReadBack}
use Rattle.hippo_history_laws.proofs.SayingLemmas.{Says, EndsWord, says-blank, says-token, says-keyword, says-word, says-name, says-name_first, says-nothing}
use Rattle.hippo_history_laws.proofs.SpellingLemmas.{says-comma, says-opening, says-closing, create-word, integer-word, key-word, not-word, null-word, primary-word, subject-word, table-word, text-word}
use Rattle.hippo_history_laws.proofs.ListLemmas.{SaysList, later_said, says-separated_text, list-read}
use Rattle.hippo_history_laws.proofs.WeightLemmas.{Weighs, weighs-calm, weighs-opening, weighs-not, weighs-more, weighs-front, weighs-fit}
use Rattle.hippo_history_laws.proofs.FitLemmas.{is_calm}
use Rattle.hippo_history_laws.proofs.NamePlaces.{column_names, all_within, place_at, places_again, names_folded, name_folded}
use Rattle.hippo_history_laws.proofs.ReadingTheorem.{console-reads}
use Rattle.hippo_history_laws.proofs.RuleTheorem.{name_said, names_later, names-say, names-read, names-calm}

-- DATE is not followed by a quoted text if the next byte, or the byte after one blank, is neither a
-- blank nor a quote
abbrev Unquoted : Txt → Type 0
Unquoted remaining = (blanks text more : Txt) → IsQuotedAfter remaining blanks text more → ⊥

abbrev first_of : Txt → ℕ
first_of [] = 0
first_of (byte ∷ rest) = byte

abbrev rest_of : Txt → Txt
rest_of [] = []
rest_of (byte ∷ rest) = rest

unquoted-here : (byte : ℕ) (rest : Txt) → is_blank byte ≡ false → is_quote byte ≡ false
    → Unquoted (byte ∷ rest)
unquoted-here byte rest plain other [] text more quotation =
    let same : byte ≡ 39 = ap first_of quotation.parts in
    both_ways (is_quote byte) other (subst (λ (b : ℕ). is_quote b ≡ true) (sym same) refl)
unquoted-here byte rest plain other (blank ∷ blanks) text more quotation =
    let same : byte ≡ blank = ap first_of quotation.parts in
    let first = (and_parts (is_blank blank) (list_all is_blank blanks) quotation.gap).0 in
    both_ways (is_blank byte) plain (subst (λ (b : ℕ). is_blank b ≡ true) (sym same) first)

unquoted-remaining : (byte : ℕ) (rest : Txt) → is_blank byte ≡ false → is_quote byte ≡ false
    → Unquoted (32 ∷ byte ∷ rest)
unquoted-remaining byte rest plain other [] text more quotation =
    let same : 32 ≡ 39 = ap first_of quotation.parts in absurd (omega (arith, same))
unquoted-remaining byte rest plain other (blank ∷ blanks) text more quotation =
    let later : IsQuotedAfter (byte ∷ rest) blanks text more = record {
      gap = (and_parts (is_blank blank) (list_all is_blank blanks) quotation.gap).1;
      parts = ap rest_of quotation.parts;
      ends = quotation.ends;
    } in
    unquoted-here byte rest plain other blanks text more later

says-date : (rest : Txt) (said : Kinds) → EndsWord rest → Unquoted rest → Says rest said
    → Says (codes "DATE" ++ rest) (Keyword KDate ∷ said)
unfolding keywords
says-date rest said ends unquoted more =
    let whole : IsWholeWord (codes "DATE") rest = record { form = refl; ends = ends } in
    says-token (codes "DATE") rest (Keyword KDate) said
    (a_keyword (codes "DATE") rest KDate whole refl (λ same. unquoted)) more

-- the tokens of a column, and what may follow them
abbrev kind_word : ColumnKind → words.Keyword
kind_word kinds.Integer = KInteger
kind_word kinds.Text = KText
kind_word kinds.Date = KDate

abbrev not_null_said : Bool → Kinds
not_null_said true = Keyword KNot ∷ Keyword KNull ∷ []
not_null_said false = []

abbrev column_said : Column → Kinds
column_said column =
    Word column.name ∷ Keyword (kind_word column.kind) ∷ not_null_said column.not_null

abbrev pub column_named : Column → Bool
column_named column = is_folded_name column.name

abbrev same_column : Column → Column
same_column column = column

abbrev EndsColumn : Txt → Type 0
EndsColumn rest = EndsWord rest × Unquoted rest

ends-comma : (rest : Txt) → EndsColumn (44 ∷ rest)
ends-comma rest = (refl, unquoted-here 44 rest refl refl)

ends-not_null : (rest : Txt) → EndsColumn (codes " NOT NULL" ++ rest)
ends-not_null rest = (refl, unquoted-remaining 78 (codes "OT NULL" ++ rest) refl refl)

not_null-says : (rest : Txt) (said : Kinds) → EndsColumn rest → Says rest said
    → Says (codes " NOT NULL" ++ rest) (Keyword KNot ∷ Keyword KNull ∷ said)
not_null-says rest said ends more =
    says-blank (codes "NOT NULL" ++ rest) _
    (says-word (codes "NOT") (codes "NULL" ++ rest) KNot _ not-word
    (says-keyword (codes "NULL") rest KNull said null-word ends.0 more))

kind-says : (kind : ColumnKind) (rest : Txt) (said : Kinds) → EndsColumn rest → Says rest said
    → Says (kind_text kind ++ rest) (Keyword (kind_word kind) ∷ said)
kind-says kinds.Integer rest said ends more =
    says-blank (codes "INTEGER" ++ rest) _
    (says-keyword (codes "INTEGER") rest KInteger said integer-word ends.0 more)
kind-says kinds.Text rest said ends more =
    says-blank (codes "TEXT" ++ rest) _
    (says-keyword (codes "TEXT") rest KText said text-word ends.0 more)
kind-says kinds.Date rest said ends more =
    says-blank (codes "DATE" ++ rest) _ (says-date rest said ends.0 ends.1 more)

ends-kind : (kind : ColumnKind) (rest : Txt) → EndsWord (kind_text kind ++ rest)
ends-kind kinds.Integer rest = refl
ends-kind kinds.Text rest = refl
ends-kind kinds.Date rest = refl

form-says : (kind : ColumnKind) (required : Bool) (rest : Txt) (said : Kinds) → EndsColumn rest
    → Says rest said →
    Says (kind_text kind ++ (not_null_text required ++ rest))
    (Keyword (kind_word kind) ∷ (not_null_said required ++ said))
form-says kind true rest said ends more =
    kind-says kind (codes " NOT NULL" ++ rest) _ (ends-not_null rest)
    (not_null-says rest said ends more)
form-says kind false rest said ends more = kind-says kind rest said ends more

column-says : (column : Column) (rest : Txt) (said : Kinds) → column_named column ≡ true
    → EndsColumn rest → Says rest said
    → Says (column_definition column ++ rest) (column_said column ++ said)
column-says column rest said named ends more =
    let form : Txt = kind_text column.kind ++ not_null_text column.not_null in
    let remaining : Txt = kind_text column.kind ++ (not_null_text column.not_null ++ rest) in
    let grouped : column_definition column ++ rest ≡ column.name ++ remaining =
    append_assoc column.name form rest
    ∙ ap (λ (t : Txt). column.name ++ t)
    (append_assoc (kind_text column.kind) (not_null_text column.not_null) rest) in
    subst (λ (t : Txt). Says t (column_said column ++ said)) (sym grouped)
    (says-name column.name remaining _ named
    (ends-kind column.kind (not_null_text column.not_null ++ rest))
    (form-says column.kind column.not_null rest said ends more))

kind-is : (kind : ColumnKind) → IsColumnKind (kind_word kind) kind
kind-is kinds.Integer = grammar.integer
kind-is kinds.Text = grammar.text
kind-is kinds.Date = grammar.date

form-is : (name : Name) (kind : ColumnKind) (required : Bool) (rest : Kinds) →
    IsColumnDef (Word name ∷ Keyword (kind_word kind) ∷ (not_null_said required ++ rest))
    (record { name = name; kind = kind; not_null = required }) rest
form-is name kind true rest = not_null (kind-is kind)
form-is name kind false rest = nullable (kind-is kind)

column-is : (column : Column) (rest : Kinds)
    → IsColumnDef (column_said column ++ rest) (same_column column) rest
column-is column rest = form-is column.name column.kind column.not_null rest

-- columns, one after another
abbrev columns_later : List Column → Kinds → Kinds
columns_later columns said =
    later_said column_definition column_said same_column column_named EndsColumn comma
    (Symbol Comma) columns said

columns-say : SaysList column_definition column_said same_column column_named EndsColumn comma
    (Symbol Comma)
columns-say column columns rest said fit ends more =
    says-separated_text column_definition column_said same_column column_named EndsColumn comma
    (Symbol Comma) column-says
    (λ remaining said more. says-comma (32 ∷ remaining) said (says-blank remaining said more))
    (λ remaining. ends-comma (32 ∷ remaining))
    column columns rest said fit ends more

map-same : (columns : List Column) → map same_column columns ≡ columns
map-same [] = refl
map-same (column ∷ columns) = ap (λ (rest : List Column). column ∷ rest) (map-same columns)

columns-read : (column : Column) (columns : List Column) (rest : Kinds)
    → IsListOf IsColumnDef (Symbol Comma) (column_said column ++ columns_later columns rest)
    (column ∷ columns) rest
columns-read column columns rest =
    subst (λ (c : List Column). IsListOf IsColumnDef (Symbol Comma)
    (column_said column ++ columns_later columns rest) c rest) (map-same (column ∷ columns))
    (list-read column_definition column_said same_column column_named EndsColumn comma
    (Symbol Comma) IsColumnDef column-is column columns rest)

kind-calm : (kind : ColumnKind) → is_calm (Keyword (kind_word kind)) ≡ true
kind-calm kinds.Integer = refl
kind-calm kinds.Text = refl
kind-calm kinds.Date = refl

required-weighs : (required : Bool) (said : Kinds) (opened negated : ℕ) → Weighs said opened negated
    → Weighs (not_null_said required ++ said) opened (negated + 1)
required-weighs true said opened negated light =
    weighs-not (Keyword KNull ∷ said) opened negated
    (weighs-calm (Keyword KNull) said opened negated refl light)
required-weighs false said opened negated light = weighs-more said opened negated light

column-weighs : (column : Column) (said : Kinds) (opened negated : ℕ) → Weighs said opened negated
    → Weighs (column_said column ++ said) opened (negated + 1)
column-weighs column said opened negated light =
    weighs-calm (Word column.name) _ opened (negated + 1) refl
    (weighs-calm (Keyword (kind_word column.kind)) _ opened (negated + 1) (kind-calm column.kind)
    (required-weighs column.not_null said opened negated light))

columns-weigh : (columns : List Column) (said : Kinds) (opened negated : ℕ)
    → Weighs said opened negated
    → Weighs (columns_later columns said) opened (negated + length columns)
columns-weigh [] said opened negated light =
    let same : negated ≡ negated + 0 = omega arith in
    subst (λ (n : ℕ). Weighs said opened n) same light
columns-weigh (column ∷ columns) said opened negated light =
    let same : negated + length columns + 1 ≡ negated + suc (length columns) = omega arith in
    subst (λ (n : ℕ). Weighs (columns_later (column ∷ columns) said) opened n) same
    (weighs-calm (Symbol Comma) _ opened (negated + length columns + 1) refl
    (column-weighs column (columns_later columns said) opened (negated + length columns)
    (columns-weigh columns said opened negated light)))

-- the SUBJECT, and what follows it
module _ (columns : List Column) where
  abbrev subject_said : Option Place → Kinds
  subject_said None = Symbol RightParen ∷ []
  subject_said (Some place) =
      Symbol Comma ∷ Keyword KSubject ∷ Word (name_at columns place) ∷ Symbol RightParen ∷ []

  abbrev pub subject_named : Option Place → Bool
  subject_named place =
      option_map_or (λ (place : Place). is_folded_name (name_at columns place)) place true

  subject-says : (place : Option Place) → subject_named place ≡ true
      → Says (subject_text columns place ++ codes ")") (subject_said place)
  subject-says None named = says-closing [] [] says-nothing
  subject-says (Some place) named =
      let remaining : Txt = name_at columns place ++ codes ")" in
      says-comma (codes " SUBJECT " ++ remaining) _ (says-blank (codes "SUBJECT " ++ remaining) _
      (says-word (codes "SUBJECT") remaining KSubject _ subject-word
      (says-name (name_at columns place) (codes ")") _ named refl
      (says-closing [] [] says-nothing))))

  subject-is : (place : Option Place)
      → IsSubject (subject_said place) (option_map (name_at columns) place) (Symbol RightParen ∷ [])
  subject-is None = no_subject
  subject-is (Some place) = subject

  subject-calm : (place : Option Place) → list_all is_calm (subject_said place) ≡ true
  subject-calm None = refl
  subject-calm (Some place) = refl

-- the parts of a table's statement
pub record HasNames (name : Name) (columns : List Column) (key : List Place)
    (place : Option Place) : Type 0 where
  pub name_fits : is_folded_name name ≡ true
  pub columns_fit : list_all column_named columns ≡ true
  pub key_fits : list_all (λ (place : Place). is_folded_name (name_at columns place)) key ≡ true
  pub subject_fits : subject_named columns place ≡ true
  pub some : 0 < length columns
  pub few : length columns ≤ 64
  pub some_key : 0 < length key

pub table-reads : (name : Name) (columns : List Column) (key : List Place) (place : Option Place)
    → HasNames name columns key place →
    ReadsAs (create_text (record { name = name; columns = columns; key = key; subject = place }))
    (stmt.CreateTable name columns (map (name_at columns) key)
    (option_map (name_at columns) place))
table-reads name [] key place has = absurd (let some = has.some in omega (arith, some))
table-reads name (column ∷ others) [] place has =
    absurd (let some = has.some_key in omega (arith, some))
table-reads name (column ∷ others) (first ∷ key) place has =
    let columns : List Column = column ∷ others in
    let end : Txt = codes ")" ++ (subject_text columns place ++ codes ")") in
    let keys : Txt = names_text columns (first ∷ key) ++ end in
    let defs : Txt = separated_text column_definition comma columns ++ (codes ", PRIMARY KEY (" ++ keys) in
    let end_said : Kinds = Symbol RightParen ∷ subject_said columns place in
    let keys_said : Kinds = name_said columns first ++ names_later columns key end_said in
    let primary : Kinds =
    Symbol Comma ∷ Keyword KPrimary ∷ Keyword KKey ∷ Symbol LeftParen ∷ keys_said in
    let defs_said : Kinds = column_said column ++ columns_later others primary in
    let said : Kinds =
    Keyword KCreate ∷ Keyword KTable ∷ Word name ∷ Symbol LeftParen ∷ defs_said in
    let says_end : Says end end_said =
    says-closing (subject_text columns place ++ codes ")") _
    (subject-says columns place has.subject_fits) in
    let says_keys : Says keys keys_said =
    names-say columns first key end end_said has.key_fits refl says_end in
    let says_primary : Says (codes ", PRIMARY KEY (" ++ keys) primary =
    says-comma (codes " PRIMARY KEY (" ++ keys) _ (says-blank (codes "PRIMARY KEY (" ++ keys) _
    (says-word (codes "PRIMARY") (codes "KEY (" ++ keys) KPrimary _ primary-word
    (says-word (codes "KEY") (codes "(" ++ keys) KKey _ key-word
    (says-opening keys keys_said says_keys)))) in
    let says_defs : Says defs defs_said =
    columns-say column others (codes ", PRIMARY KEY (" ++ keys) primary has.columns_fit
    (ends-comma (codes " PRIMARY KEY (" ++ keys)) says_primary in
    let says : Says (codes "CREATE TABLE " ++ (name ++ (codes " (" ++ defs))) said =
    says-word (codes "CREATE") (codes "TABLE " ++ (name ++ (codes " (" ++ defs))) KCreate _
    create-word
    (says-word (codes "TABLE") (name ++ (codes " (" ++ defs)) KTable _ table-word
    (says-name_first name (codes "(" ++ defs) _ has.name_fits
    (says-opening defs defs_said says_defs))) in
    let keys_weigh : Weighs keys_said 0 0 =
    weighs-front keys_said (names-calm columns key end_said (subject-calm columns place)) in
    let primary_weighs : Weighs primary 1 0 =
    weighs-calm (Symbol Comma) _ 1 0 refl
    (weighs-calm (Keyword KPrimary) _ 1 0 refl
    (weighs-calm (Keyword KKey) _ 1 0 refl (weighs-opening keys_said 0 0 keys_weigh))) in
    let defs_weigh : Weighs defs_said 1 (0 + length others + 1) =
    column-weighs column _ 1 (0 + length others)
    (columns-weigh others primary 1 0 primary_weighs) in
    let few : 0 + length others + 1 ≤ 64 = (let most = has.few in omega (arith, most)) in
    let all_weigh : Weighs said 2 (0 + length others + 1) =
    weighs-calm (Keyword KCreate) _ 2 _ refl
    (weighs-calm (Keyword KTable) _ 2 _ refl
    (weighs-calm (Word name) _ 2 _ refl (weighs-opening defs_said 1 _ defs_weigh))) in
    console-reads _ said _ says (weighs-fit said 2 _ all_weigh (omega arith) few)
    (create_table (columns-read column others primary) (names-read columns first key end_said)
    (subject-is columns place))

-- columns at places
pub there : (test : Column → Bool) (columns : List Column) (place : Place)
    → option_map_or test (slice_get columns place) false ≡ true → place < length columns
there test [] place passes = absurd cc
there test (column ∷ columns) zero passes = omega arith
there test (column ∷ columns) (suc place) passes = let more = there test columns place passes in
    omega (arith, more)

pub all_there : (test : Column → Bool) (schema : Schema) (places : List Place)
    → list_all (column_passes test schema) places ≡ true → all_within schema.columns places ≡ true
all_there test schema [] pass = refl
all_there test schema (place ∷ places) pass =
    let parts =
    and_parts (column_passes test schema place) (list_all (column_passes test schema) places)
    pass in
    and_from _ _ (lt-ltb _ _ (there test schema.columns place parts.0))
    (all_there test schema places parts.1)

-- if one column passes a test and another does not, their names differ
apart : (test : Column → Bool) (schema : Schema) (place other : Place) (column : Column)
    → all_differ bytes_eq (column_names schema.columns) ≡ true →
    column_passes test schema place ≡ true → slice_get schema.columns other ≡ Some column
    → test column ≡ false → bytes_eq (name_at schema.columns place) column.name ≡ false
apart test schema place other column differ passes at fails =
    elim (cases_Bool (bytes_eq (name_at schema.columns place) column.name)) [
      | inl is ↦
          let small : other < length schema.columns =
          there (λ (c : Column). true) schema.columns other
          (ap (λ (found : Option Column). option_map_or (λ (c : Column). true) found false) at) in
          let named : name_at schema.columns other ≡ column.name =
          ap (λ (found : Option Column). option_map_or (λ (c : Column). c.name) found []) at in
          let names : name_at schema.columns place ≡ name_at schema.columns other =
          (bytes_eq-Decides (name_at schema.columns place) column.name).0 is ∙ sym named in
          let found : Some place ≡ Some other =
          sym (place_at schema place differ (there test schema.columns place passes))
          ∙ ap (place_of schema) names ∙ place_at schema other differ small in
          let same : place ≡ other = ap (λ (p : Option Place). unwrap_or p 0) found in
          let passed : column_passes test schema other ≡ true =
          subst (λ (p : Place). column_passes test schema p ≡ true) same passes in
          absurd (both_ways (test column) fails
          (sym (ap (λ (found : Option Column). option_map_or test found false) at) ∙ passed))
      | inr is ↦ is
    ]

all_apart : (test : Column → Bool) (schema : Schema) (places : List Place) (other : Place)
    (column : Column) → all_differ bytes_eq (column_names schema.columns) ≡ true →
    list_all (column_passes test schema) places ≡ true → slice_get schema.columns other
    ≡ Some column → test column ≡ false
    → list_any (λ (name : Name). bytes_eq name column.name) (map (name_at schema.columns) places)
    ≡ false
all_apart test schema [] other column differ pass at fails = refl
all_apart test schema (place ∷ places) other column differ pass at fails =
    let parts =
    and_parts (column_passes test schema place) (list_all (column_passes test schema) places)
    pass in
    or_from _ _ (apart test schema place other column differ parts.0 at fails)
    (all_apart test schema places other column differ parts.1 at fails)

-- a column of the key, and the SUBJECT, is NOT NULL already
as_it_is : (required of_key of_subject : Bool) → (required ≡ false → of_key ≡ false)
    → (required ≡ false → of_subject ≡ false) → (required || of_key || of_subject) ≡ required
as_it_is true of_key of_subject none neither = refl
as_it_is false of_key of_subject none neither = or_from _ _ (none refl) (neither refl)

each-same : (columns : List Column) (change : Column → Column)
    → ((place : Place) (column : Column) → slice_get columns place ≡ Some column → change column
    ≡ column) → map change columns ≡ columns
each-same [] change same = refl
each-same (column ∷ columns) change same =
    let here : change column ≡ column = same 0 column refl in
    let later : map change columns ≡ columns =
    each-same columns change (λ place one at. same (suc place) one at) in
    λ i. here i ∷ later i

-- the conditions under which a schema is well formed
pub record IsTable (schema : Schema) : Type 0 where
  pub differ : all_differ bytes_eq (column_names schema.columns) ≡ true
  pub key_differ : all_differ nat_eq schema.key ≡ true
  pub key_fits : list_all (column_passes key_column_fits schema) schema.key ≡ true
  pub subject_fits : option_map_or (column_passes subject_column_fits schema) schema.subject true
      ≡ true

module _ (schema : Schema) (is : IsTable schema) where
  abbrev pub key_names : List Name
  key_names = map (name_at schema.columns) schema.key

  abbrev pub subject_name : Option Name
  subject_name = option_map (name_at schema.columns) schema.subject

  subject-apart : (place : Option Place) (other : Place) (column : Column)
      → option_map_or (column_passes subject_column_fits schema) place true ≡ true
      → slice_get schema.columns other ≡ Some column →
      column.not_null ≡ false → option_map_or (λ (name : Name). bytes_eq name column.name)
      (option_map (name_at schema.columns) place) false ≡ false
  subject-apart None other column fits at fails = refl
  subject-apart (Some place) other column fits at fails =
      apart subject_column_fits schema place other column is.differ fits at (rw fails refl)

  columns-stay : map (with_not_null key_names subject_name) schema.columns ≡ schema.columns
  columns-stay = each-same schema.columns (with_not_null key_names subject_name) (λ place column at.
      let required : (column.not_null || list_any (λ (name : Name). bytes_eq name column.name)
      key_names || option_map_or (λ (name : Name). bytes_eq name column.name) subject_name false)
      ≡ column.not_null =
      as_it_is column.not_null _ _
      (λ fails. all_apart key_column_fits schema schema.key place column is.differ is.key_fits
      at fails)
      (λ fails. subject-apart schema.subject place column is.subject_fits at fails) in
      λ i. record column { not_null = required i })

  abbrev pub draft : Schema
  draft = keyless_table schema.name schema.columns

  key-stays : places_named draft key_names ≡ schema.key
  key-stays =
      places_again draft schema.key is.differ
      (all_there key_column_fits schema schema.key is.key_fits)

  subject-again : (place : Option Place)
      → option_map_or (column_passes subject_column_fits schema) place true ≡ true
      → option_and_then (place_of draft) (option_map (name_at schema.columns) place) ≡ place
  subject-again None fits = refl
  subject-again (Some place) fits =
      place_at draft place is.differ (there subject_column_fits schema.columns place fits)

  subject-stays : option_and_then (place_of draft) subject_name ≡ schema.subject
  subject-stays = subject-again schema.subject is.subject_fits

  pub made : table_made schema.name schema.columns key_names subject_name ≡ schema
  made = λ i. record {
    name = schema.name;
    columns = columns-stay i;
    key = key-stays i;
    subject = subject-stays i;
  }

  has-subject : (place : Option Place) → list_all column_named schema.columns ≡ true
      → option_map_or (column_passes subject_column_fits schema) place true ≡ true
      → subject_named schema.columns place ≡ true
  has-subject None named fits = refl
  has-subject (Some place) named fits =
      name_folded schema.columns place named (there subject_column_fits schema.columns place fits)

  pub has-names : schema_is_keepable schema ≡ true
      → HasNames schema.name schema.columns schema.key schema.subject
  has-names kept =
      let outer =
      and_parts (is_folded_name schema.name && columns_are_keepable schema.columns
      && key_is_keepable schema.key) (subject_is_keepable schema.subject) kept in
      let inner =
      and_parts (is_folded_name schema.name && columns_are_keepable schema.columns)
      (key_is_keepable schema.key) outer.0 in
      let first =
      and_parts (is_folded_name schema.name) (columns_are_keepable schema.columns) inner.0 in
      let columns =
      and_parts (is_short schema.columns) (list_all column_named schema.columns) first.1 in
      let sizes =
      and_parts (nat_le 1 (length schema.columns)) (nat_le (length schema.columns) column_limit)
      columns.0 in
      let key = and_parts (is_short schema.key) (list_all is_place schema.key) inner.1 in
      let key_sizes =
      and_parts (nat_le 1 (length schema.key)) (nat_le (length schema.key) column_limit) key.0 in
      let one = leb-true 1 (length schema.columns) sizes.0 in
      let one_key = leb-true 1 (length schema.key) key_sizes.0 in
      record {
        name_fits = first.0;
        columns_fit = columns.1;
        key_fits = names_folded schema.columns schema.key columns.1
            (all_there key_column_fits schema schema.key is.key_fits);
        subject_fits = has-subject schema.subject columns.1 is.subject_fits;
        some = omega (arith, one);
        few = leb-true (length schema.columns) column_limit sizes.1;
        some_key = omega (arith, one_key);
      }

pub is_table : (schema : Schema) → is_well_formed schema ≡ true → IsTable schema
is_table schema formed =
    let outer =
    and_parts (all_differ bytes_eq (column_names schema.columns) && all_differ nat_eq
    schema.key && list_all (column_passes key_column_fits schema) schema.key)
    (option_map_or (column_passes subject_column_fits schema) schema.subject true) formed in
    let inner =
    and_parts (all_differ bytes_eq (column_names schema.columns) && all_differ nat_eq schema.key)
    (list_all (column_passes key_column_fits schema) schema.key) outer.0 in
    let first =
    and_parts (all_differ bytes_eq (column_names schema.columns)) (all_differ nat_eq schema.key)
    inner.0 in
    record { differ = first.0; key_differ = first.1; key_fits = inner.1; subject_fits = outer.1 }

abbrev pub creates_read_back : CreatesReadBack
creates_read_back history known schema kept formed =
    let is : IsTable schema = is_table schema formed in
    record {
      statement =
          stmt.CreateTable schema.name schema.columns (key_names schema is)
          (subject_name schema is);
      reads = table-reads schema.name schema.columns schema.key schema.subject
          (has-names schema is kept);
      wanted = Ready (Create schema);
      wants = ap (λ (s : Schema). Some (Ready (Create s))) (made schema is);
      comes = refl;
    }
