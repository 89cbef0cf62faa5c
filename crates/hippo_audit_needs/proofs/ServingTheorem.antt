-- The first tuple that the query needs and the audit has is the first that serves.
use Rattle.std.proofs.Common.{◌≡◌, Bool, true, false, not, ◌&&◌, ◌||◌, cond, List, [], ◌∷◌, ◌++◌, map, length, get_or, refl, sym, ap, ◌∙◌, Option, Some, None, if◌then◌else◌}
use Rattle.std.specs.Prelude.{find, bytes_eq}
use Rattle.std.specs.List.{AllByRecursion, flat_map, list_all, list_any}
use Rattle.std.specs.Option.{option_map_or}
use Rattle.std.proofs.lemmas.Bool.{and_parts}
use Rattle.std.proofs.lemmas.Option.{slice_get-get_or}
use Rattle.std.proofs.Math.Bool.{and-true}
use Rattle.hippo_values.specs.declared.names.Name.{Name}
use Rattle.hippo_model.specs.declared.audit.Audit.{Audit}
use Rattle.hippo_model.specs.declared.audit.SharedRow.{SharedRow}
use Rattle.hippo_model.specs.declared.born_row.BornRow.{BornRow}
use Rattle.hippo_model.specs.declared.query.Expr.{Expr}
use Rattle.hippo_model.specs.declared.query.Query.{Query}
use Rattle.hippo_model.specs.declared.query.Ref.{Ref}
use Rattle.hippo_model.specs.declared.schema.Schema.{Schema}
use Rattle.hippo_model.specs.Terms.{History, Combination, Place}
use Rattle.hippo_model.specs.Histories.{schema_at}
use Rattle.hippo_model.specs.Rows.{key_of, table_rows}
use Rattle.hippo_tables_keyed.specs.RowSets.{KeyedRows}
use Rattle.hippo_model.specs.Masking.{masked_cell, is_shown_cell, is_guarded, masked_passes}
use Rattle.hippo_model.specs.Rules.{choice_at}
use Rattle.hippo_model.specs.Verdicts.{Context}
use Rattle.hippo_model.specs.Answers.{product}
use Rattle.hippo_model.specs.Audits.{common, shared_rows as rows_at_history, virtual_tuples as tuples_at, query_needs, audit_needs, is_seen, serves}
use Rattle.hippo_rewrite.specs.Rewriting.{masked_column, rewritten_query}
use Rattle.hippo_rewrite.specs.RewritingLaws.{rules_at, ColumnsShowVerdicts}
use Rattle.hippo_eval.specs.Walks.{rows_of}
use Rattle.hippo_join_lookups.specs.Places.{chosen_rows, in_range}
use Rattle.hippo_join.specs.Existence.{are_shown}
use Rattle.hippo_audit_common.specs.Commons.{common_tables, place_in}
use Rattle.hippo_audit_search.specs.Sharing.{has_tuple_in, query_has, audit_has}
use Rattle.hippo_audit_search.specs.Needs.{needs_by}
use Rattle.hippo_audit_search.specs.HistoryLaws.{sets_at, TuplesAreThoseOfHistory, AuditNeedsWhatItHas}
use Rattle.hippo_audit_search.proofs.CommonLemmas.{same_as_itself, common-in-query, common-in-audit}
use Rattle.hippo_audit_search.proofs.SideLemmas.{one-of-product, any-of-product}
use Rattle.hippo_audit_needs.specs.Seen.{column_in_query, required_shown, IsCommon}
use Rattle.hippo_audit_needs.specs.SharedLaws.{QueryNeedsOverRows, NeededServesFirst}
use Rattle.hippo_audit_needs.proofs.PlainTheorem.{needed-had}
use Rattle.hippo_audit_needs.proofs.SeenTheorem.{stands-at, in-common, product-has, seen-column}

-- the elements of a product's combinations are those of the lists
module _ {X : Type 0} (P : X → Type 0) where
  abbrev Each : List X → Type 0
  Each xs = AllByRecursion P xs

  joined : (some others : List (List X)) → AllByRecursion Each some → AllByRecursion Each others → AllByRecursion Each (some ++ others)
  joined [] others a b = b
  joined (xs ∷ some) others a b = (a.0, joined some others a.1 b)

  remaining : (x : X) (some : List (List X)) → P x → AllByRecursion Each some → AllByRecursion Each (map (λ others. x ∷ others) some)
  remaining x [] here all = tt
  remaining x (xs ∷ some) here all = ((here, all.0), remaining x some here all.1)

  after_each : (firsts : List X) (some : List (List X)) → Each firsts → AllByRecursion Each some → AllByRecursion Each (flat_map (λ x. map (λ others. x ∷ others) some) firsts)
  after_each [] some firsts_are all = tt
  after_each (x ∷ firsts) some firsts_are all =
      joined (map (λ others. x ∷ others) some) (flat_map (λ y. map (λ others. y ∷ others) some) firsts) (remaining x some firsts_are.0 all) (after_each firsts some firsts_are.1 all)

  product_each : (lists : List (List X)) → AllByRecursion Each lists → AllByRecursion Each (product lists)
  product_each [] all = (tt, tt)
  product_each (xs ∷ lists) all = after_each xs (product lists) all.0 (product_each lists all.1)

find_same : {X : Type 0} (p q : X → Bool) (xs : List X) → AllByRecursion (λ x. p x ≡ q x) xs → find p xs ≡ find q xs
find_same p q [] all = refl
find_same p q (x ∷ xs) all = λ i. cond (all.0 i) (Some x) (find_same p q xs all.1 i)

all_from : {X : Type 0} (P Q : X → Type 0) → ((x : X) → P x → Q x) → (xs : List X) → AllByRecursion P xs → AllByRecursion Q xs
all_from P Q stage [] all = tt
all_from P Q stage (x ∷ xs) all = (stage x all.0, all_from P Q stage xs all.1)

both_all : {X : Type 0} (P Q : X → Type 0) (xs : List X) → AllByRecursion P xs → AllByRecursion Q xs → AllByRecursion (λ x. P x × Q x) xs
both_all P Q [] a b = tt
both_all P Q (x ∷ xs) a b = ((a.0, b.0), both_all P Q xs a.1 b.1)

same_tests : (a b : Bool) → (a ≡ true → b ≡ true) → (b ≡ true → a ≡ true) → a ≡ b
same_tests true b there back = sym (there refl)
same_tests false true there back = back refl
same_tests false false there back = refl

-- a test that depends on the tuple alone
any_and : (sets : List KeyedRows) (has counts shows : Combination → Bool) (seen : Bool) → ((places : List Place) → in_range sets places ≡ true → has (chosen_rows sets places) ≡ true → shows (chosen_rows sets places) ≡ seen)
    → list_any (λ rows. has rows && (counts rows && shows rows)) (product (rows_of sets)) ≡ (list_any (λ rows. has rows && (counts rows && true)) (product (rows_of sets)) && seen)
any_and sets has counts shows seen same =
    same_tests (list_any (λ rows. has rows && (counts rows && shows rows)) (product (rows_of sets))) (list_any (λ rows. has rows && (counts rows && true)) (product (rows_of sets)) && seen)
    (λ passed.
    let found = one-of-product sets (λ rows. has rows && (counts rows && shows rows)) passed in
    let both = and_parts (has (chosen_rows sets found.0)) (counts (chosen_rows sets found.0) && shows (chosen_rows sets found.0)) found.2 in
    let parts = and_parts (counts (chosen_rows sets found.0)) (shows (chosen_rows sets found.0)) both.1 in
    let one = any-of-product sets (λ rows. has rows && (counts rows && true)) found.0 found.1 (λ i. both.0 i && (parts.0 i && true)) in
    let is_seen_here = sym (same found.0 found.1 both.0) ∙ parts.1 in
    λ i. one i && is_seen_here i)
    (λ passed.
    let outer = and_parts (list_any (λ rows. has rows && (counts rows && true)) (product (rows_of sets))) seen passed in
    let found = one-of-product sets (λ rows. has rows && (counts rows && true)) outer.0 in
    let both = and_parts (has (chosen_rows sets found.0)) (counts (chosen_rows sets found.0) && true) found.2 in
    let parts = and_parts (counts (chosen_rows sets found.0)) true both.1 in
    let shown = same found.0 found.1 both.0 ∙ outer.1 in
    any-of-product sets (λ rows. has rows && (counts rows && shows rows)) found.0 found.1 (λ i. both.0 i && (parts.0 i && shown i)))

module _ (history : History) (query : Query) (audit : Audit) where
  abbrev Stands : Name → Type 0
  Stands table = (list_any (bytes_eq table) query.tables ≡ true) × (list_any (bytes_eq table) audit.tables ≡ true)

  abbrev StandsRow : SharedRow → Type 0
  StandsRow shared = Stands shared.table

  rows_stand : (table : Name) → Stands table → AllByRecursion StandsRow (rows_at_history history table)
  rows_stand table stands = by (schema_at history table)
    where
      each : (schema : Schema) (rows : List BornRow) → AllByRecursion StandsRow (map (λ (kept : BornRow). record { table = table; key = key_of schema.key kept.row }) rows)
      each schema [] = tt
      each schema (kept ∷ rows) = (stands, each schema rows)

      by : (schema : Option Schema) → AllByRecursion StandsRow (option_map_or (λ made. map (λ (kept : BornRow). record { table = table; key = key_of made.key kept.row }) (table_rows made history)) schema [])
      by None = tt
      by (Some schema) = each schema (table_rows schema history)

  lists_stand : (tables : List Name) → AllByRecursion Stands tables → AllByRecursion (AllByRecursion StandsRow) (map (rows_at_history history) tables)
  lists_stand [] all = tt
  lists_stand (table ∷ tables) all = (rows_stand table all.0, lists_stand tables all.1)

  tuples_stand : AllByRecursion (AllByRecursion StandsRow) (tuples_at history (common query audit))
  tuples_stand =
      product_each StandsRow (map (rows_at_history history) (common_tables query.tables audit.tables))
      (lists_stand (common_tables query.tables audit.tables)
      (both_all (λ table. list_any (bytes_eq table) query.tables ≡ true) (λ table. list_any (bytes_eq table) audit.tables ≡ true) (common_tables query.tables audit.tables)
      (common-in-query query.tables audit.tables) (common-in-audit query.tables audit.tables)))

  -- a virtual tuple has a row of the table of each audited column
  named_rows : (table : Name) → AllByRecursion (λ (shared : SharedRow). bytes_eq shared.table table ≡ true) (rows_at_history history table)
  named_rows table = by (schema_at history table)
    where
      each : (schema : Schema) (rows : List BornRow) → AllByRecursion (λ (shared : SharedRow). bytes_eq shared.table table ≡ true) (map (λ (kept : BornRow). record { table = table; key = key_of schema.key kept.row }) rows)
      each schema [] = tt
      each schema (kept ∷ rows) = (same_as_itself table, each schema rows)

      by : (schema : Option Schema) → AllByRecursion (λ (shared : SharedRow). bytes_eq shared.table table ≡ true) (option_map_or (λ made. map (λ (kept : BornRow). record { table = table; key = key_of made.key kept.row }) (table_rows made history)) schema [])
      by None = tt
      by (Some schema) = each schema (table_rows schema history)

  abbrev name_of : Ref → Name
  name_of column = get_or audit.tables column.table []

  abbrev HasColumns : List Ref → List SharedRow → Type 0
  HasColumns columns tuple = AllByRecursion (λ (column : Ref). list_any (λ (shared : SharedRow). bytes_eq shared.table (name_of column)) tuple ≡ true) columns

  nothing_asked : (tuples : List (List SharedRow)) → AllByRecursion (HasColumns []) tuples
  nothing_asked [] = tt
  nothing_asked (tuple ∷ tuples) = (tt, nothing_asked tuples)

  tuples_have : (columns : List Ref) → AllByRecursion (IsCommon history query audit) columns → AllByRecursion (HasColumns columns) (tuples_at history (common query audit))
  tuples_have [] all = nothing_asked (tuples_at history (common query audit))
  tuples_have (column ∷ columns) all =
      both_all (λ (tuple : List SharedRow). list_any (λ (shared : SharedRow). bytes_eq shared.table (name_of column)) tuple ≡ true) (HasColumns columns) (tuples_at history (common query audit))
      (product-has (rows_at_history history) named_rows (name_of column) (common_tables query.tables audit.tables) (in-common query.tables audit.tables (name_of column) all.0.1 (stands-at audit.tables column.table all.0.0)))
      (tuples_have columns all.1)

  -- the wanted cells, in a combination that has a tuple
  seen_columns : ColumnsShowVerdicts → (context : Context) (schemas : List Schema) → map (schema_at history) query.tables ≡ map Some schemas → (tuple : List SharedRow) (places : List Place)
      → in_range (sets_at history query.tables) places ≡ true → has_tuple_in query.tables (sets_at history query.tables) tuple (chosen_rows (sets_at history query.tables) places) ≡ true
      → (columns : List Ref) → AllByRecursion (IsCommon history query audit) columns → HasColumns columns tuple
      → are_shown (choice_at history) (map (masked_column (rules_at history context schemas)) (map (column_in_query query.tables audit.tables) columns)) (chosen_rows (sets_at history query.tables) places)
      ≡ list_all (is_seen history context audit.tables tuple) columns
  seen_columns shows context schemas are tuple places within has [] all members = refl
  seen_columns shows context schemas are tuple places within has (column ∷ columns) all members = λ i.
      (ap (λ (table : Option Name). shown_at (record { table = option_map_or (place_in query.tables) table (length query.tables); column = column.column })) (slice_get-get_or audit.tables column.table [] all.0.0)
      ∙ seen-column shows history context query.tables audit.tables schemas tuple places column are within has members.0 all.0.1 all.0.2) i
      && seen_columns shows context schemas are tuple places within has columns all.1 members.1 i
    where
      shown_at : Ref → Bool
      shown_at column = is_shown_cell (masked_cell (choice_at history) (chosen_rows (sets_at history query.tables) places) (masked_column (rules_at history context schemas) column))

pub needed-serves : QueryNeedsOverRows → AuditNeedsWhatItHas → TuplesAreThoseOfHistory → ColumnsShowVerdicts → NeededServesFirst
needed-serves of_query of_audit of_tuples shows = λ meaning history context query schemas audit has columns.
    let rules = rules_at history context schemas in
    let sets = sets_at history query.tables in
    let exprs : List Expr = map (masked_column rules) (map (column_in_query query.tables audit.tables) audit.columns) in
    let needed : List SharedRow → Bool = needs_by (choice_at history) (rewritten_query rules query) query.form sets in
    let had : List Expr → List SharedRow → Bool = λ seen. query_has (choice_at history) (rewritten_query rules query) seen sets in
    let here : List SharedRow → Bool = λ tuple. needed tuple && had (required_shown rules query audit) tuple && audit_has audit (sets_at history audit.tables) tuple in
    ap (find here) (of_tuples history query audit)
    ∙ find_same here (serves history context query audit) (tuples_at history (common query audit))
    (all_from (λ tuple. AllByRecursion (StandsRow history query audit) tuple × HasColumns history query audit audit.columns tuple) (λ tuple. here tuple ≡ serves history context query audit tuple)
    (λ tuple known.
    let asks = of_query meaning history context query schemas tuple has (all_from (StandsRow history query audit) (λ shared. list_any (bytes_eq shared.table) query.tables ≡ true) (λ shared s. s.0) tuple known.0) in
    let audits = of_audit history audit tuple (all_from (StandsRow history query audit) (λ shared. list_any (bytes_eq shared.table) audit.tables ≡ true) (λ shared s. s.1) tuple known.0) in
    let all_seen : Bool = list_all (is_seen history context audit.tables tuple) audit.columns in
    let with_seen : had exprs tuple ≡ (had [] tuple && all_seen) =
    any_and sets (has_tuple_in query.tables sets tuple) (λ rows. is_guarded (choice_at history) (rewritten_query rules query) rows && masked_passes (choice_at history) (rewritten_query rules query) rows)
    (are_shown (choice_at history) exprs) all_seen
    (λ places within tupled. seen_columns history query audit shows context schemas has.schemas_are tuple places within tupled audit.columns columns known.1) in
    (λ i. sym asks i && had (required_shown rules query audit) tuple && sym audits i)
    ∙ by_need (query_needs history context query tuple) (audit_needs history audit tuple) all_seen (λ seen. had seen tuple) exprs
    (λ needs. needed-had (choice_at history) (rewritten_query rules query) sets tuple query.form (sym asks ∙ needs)) with_seen audit.shown)
    (tuples_at history (common query audit))
    (both_all (AllByRecursion (StandsRow history query audit)) (HasColumns history query audit audit.columns) (tuples_at history (common query audit)) (tuples_stand history query audit) (tuples_have history query audit audit.columns columns)))
  where
    turned : (a b : Bool) → (a && b) ≡ (b && a)
    turned true true = refl
    turned true false = refl
    turned false true = refl
    turned false false = refl

    by_need : (needs audits all_seen : Bool) (had : List Expr → Bool) (exprs : List Expr) → (needs ≡ true → had [] ≡ true) → had exprs ≡ (had [] && all_seen) → (shown : Bool)
        → (needs && had (if shown then exprs else []) && audits) ≡ (needs && audits && (not shown || all_seen))
    by_need true audits all_seen had exprs has with_seen true = (λ i. (with_seen ∙ ap (λ (b : Bool). b && all_seen) (has refl)) i && audits) ∙ turned all_seen audits
    by_need true audits all_seen had exprs has with_seen false = ap (λ (b : Bool). b && audits) (has refl) ∙ sym (and-true audits)
    by_need false audits all_seen had exprs has with_seen true = refl
    by_need false audits all_seen had exprs has with_seen false = refl
