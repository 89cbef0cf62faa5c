-- What a query needs over its views is what the rewritten query needs over the unmasked rows.
use Rattle.std.proofs.Common.{◌≡◌, ℕ, zero, suc, ◌+◌, ◌<◌, Bool, true, false, not, ◌&&◌, cond, List, [], ◌∷◌, ◌++◌, map, length, get_or, refl, sym, ap, subst, ◌∙◌, Option, Some, None, option_map, arith}
use Rattle.std.specs.Prelude.{filter, slice_get, bytes_eq}
use Rattle.std.specs.List.{AllByRecursion, list_all, list_any}
use Rattle.std.specs.Option.{option_map_or}
use Rattle.std.proofs.lemmas.Bool.{and_parts, false≢true}
use Rattle.std.proofs.lemmas.List.Folds.{list_all-append}
use Rattle.std.proofs.lemmas.Option.{slice_get-map}
use Rattle.hippo_values.specs.declared.names.Name.{Name}
use Rattle.hippo_values.specs.declared.values.Value.{Value}
use Rattle.hippo_values.specs.Order.{same_cells}
use Rattle.hippo_model.specs.declared.audit.SharedRow.{SharedRow}
use Rattle.hippo_model.specs.declared.born_row.BornRow.{BornRow}
use Rattle.hippo_model.specs.declared.cells.Cell.{Cell}
use Rattle.hippo_model.specs.declared.policy.Gate.{Gate}
use Rattle.hippo_model.specs.declared.policy.Gate.TheVariants.{Always, Never, Aged, With}
use Rattle.hippo_model.specs.declared.policy.TableRules.{TableRules}
use Rattle.hippo_model.specs.declared.query.Expr.TheVariants.{Null as NullExpr}
use Rattle.hippo_model.specs.declared.query.Query.{Query}
use Rattle.hippo_model.specs.declared.query.Ref.{Ref}
use Rattle.hippo_model.specs.declared.schema.Schema.{Schema}
use Rattle.hippo_model.specs.Terms.{History, Meaning, Combination, ShownRow, Place}
use Rattle.hippo_model.specs.Histories.{schema_at}
use Rattle.hippo_model.specs.Rules.{choice_at}
use Rattle.hippo_model.specs.Verdicts.{Context}
use Rattle.hippo_model.specs.Bags.{same_bag}
use Rattle.hippo_model.specs.Forms.{value_in, rows_by_form}
use Rattle.hippo_model.specs.Answers.{product, cell_in, passes, selected_cells, answer_of, seen_combinations}
use Rattle.hippo_model.specs.Audits.{key_at as key_at_history, has_tuple as has_tuple_at, query_needs}
use Rattle.hippo_model.specs.Masking.{Choices, raw_value, shown_if, masked_cell, is_shown_cell, is_guarded, masked_passes, masked_items}
use Rattle.hippo_policy.specs.Gates.{gate_in, table_rules}
use Rattle.hippo_rewrite.specs.Rewriting.{expr_by, column_expr, masked_column, key_guard, table_guards, guards_from, rewritten_query}
use Rattle.hippo_rewrite.specs.RewritingLaws.{rules_at, tables_at, HasTables, RewritingAnswers}
use Rattle.hippo_rewrite.proofs.RulesInForce.{table_by_table}
use Rattle.hippo_eval.specs.Answering.{masked_rows}
use Rattle.hippo_eval.specs.Walks.{rows_of}
use Rattle.hippo_audit_common.specs.Commons.{place_in}
use Rattle.hippo_audit_search.specs.Sharing.{shared_key_in, has_tuple_in}
use Rattle.hippo_audit_search.specs.Needs.{needs_by}
use Rattle.hippo_audit_search.specs.HistoryLaws.{sets_at}
use Rattle.hippo_audit_search.proofs.CommonLemmas.{place-found}
use Rattle.hippo_audit_search.proofs.HistoryLemmas.{rows_by}
use Rattle.hippo_audit_needs.specs.SharedLaws.{QueryNeedsOverRows}
use Rattle.hippo_audit_needs.proofs.KeyColumns.{at, key_by, key_columns, tuple_columns, key-seen, key-raw}

-- ---- a shown column has the row's value
shown_test : (test : Bool) (value : Value) (rule : ℕ) → is_shown_cell (shown_if test value rule) ≡ true → value_in (shown_if test value rule) ≡ value
shown_test true value rule shown = refl
shown_test false value rule shown = absurd (false≢true shown)

shown_value : (choices : Choices) (rows : Combination) (subject : Option Place) (column : Ref) (gate : Gate) → is_shown_cell (masked_cell choices rows (expr_by subject column gate)) ≡ true → value_in (masked_cell choices rows (expr_by subject column gate)) ≡ raw_value rows column
shown_value choices rows subject column Always shown = refl
shown_value choices rows subject column (Never rule) shown = absurd (false≢true shown)
shown_value choices rows subject column (Aged rule after) shown = shown_test _ (raw_value rows column) rule shown
shown_value choices rows None column (With rule item opt_in after) shown = absurd (false≢true shown)
shown_value choices rows (Some place) column (With rule item opt_in after) shown = shown_test _ (raw_value rows column) rule shown

-- the guards of a table's key
module _ (choices : Choices) (rows : Combination) where
  abbrev ShownKey : Place → TableRules → List Place → Type 0
  ShownKey place table key = AllByRecursion (λ column. is_shown_cell (masked_cell choices rows (column_expr table (at place column))) ≡ true) key

  key_shown : (place : Place) (table : TableRules) (key : List Place) → list_all (λ guard. is_shown_cell (masked_cell choices rows guard.expr)) (map (key_guard place table) key) ≡ true → ShownKey place table key
  key_shown place table [] all = tt
  key_shown place table (column ∷ key) all =
      let both = and_parts (is_shown_cell (masked_cell choices rows (column_expr table (at place column)))) (list_all (λ guard. is_shown_cell (masked_cell choices rows guard.expr)) (map (key_guard place table) key)) all in
      (both.0, key_shown place table key both.1)

  guards_shown : (rules : List TableRules) (first place : Place) (table : TableRules) → list_all (λ guard. is_shown_cell (masked_cell choices rows guard.expr)) (guards_from first rules) ≡ true → slice_get rules place ≡ Some table
      → ShownKey (first + place) table table.key
  guards_shown [] first place table all found = absurd cc
  guards_shown (own ∷ rules) first place table all found =
      by place found (and_parts (list_all (λ guard. is_shown_cell (masked_cell choices rows guard.expr)) (table_guards first own)) (list_all (λ guard. is_shown_cell (masked_cell choices rows guard.expr)) (guards_from (first + 1) rules))
      (sym (list_all-append (λ guard. is_shown_cell (masked_cell choices rows guard.expr)) (table_guards first own) (guards_from (first + 1) rules)) ∙ all))
      (guards_shown rules (first + 1))
    where
      some_is : {A : Type 0} {a b : A} → Some a ≡ Some b → a ≡ b
      some_is e = cc

      by : (place : Place) → slice_get (own ∷ rules) place ≡ Some table
          → (list_all (λ guard. is_shown_cell (masked_cell choices rows guard.expr)) (table_guards first own) ≡ true) × (list_all (λ guard. is_shown_cell (masked_cell choices rows guard.expr)) (guards_from (first + 1) rules) ≡ true)
          → ((place : Place) (table : TableRules) → list_all (λ guard. is_shown_cell (masked_cell choices rows guard.expr)) (guards_from (first + 1) rules) ≡ true → slice_get rules place ≡ Some table → ShownKey (first + 1 + place) table table.key)
          → ShownKey (first + place) table table.key
      by zero found both later =
          let same : first ≡ first + 0 = omega arith in
          subst (λ (p : Place). ShownKey p table table.key) same (subst (λ (t : TableRules). ShownKey first t t.key) (some_is found) (key_shown first own own.key both.0))
      by (suc place) found both later =
          let same : first + 1 + place ≡ first + suc place = omega arith in
          subst (λ (p : Place). ShownKey p table table.key) same (later place table both.1 found)

-- ---- the schemas of a query's tables
module _ (history : History) where
  pub schema_found : (tables : List Name) (schemas : List Schema) (place : Place) → map (schema_at history) tables ≡ map Some schemas → place < length tables
      → (schema : Schema) × (slice_get schemas place ≡ Some schema) × (schema_at history (get_or tables place []) ≡ Some schema)
  schema_found [] schemas place are within = absurd (omega arith)
  schema_found (table ∷ tables) [] place are within = absurd cc
  schema_found (table ∷ tables) (schema ∷ schemas) zero are within = let first : schema_at history table ≡ Some schema = cc in (schema, refl, first)
  schema_found (table ∷ tables) (schema ∷ schemas) (suc place) are within =
      let rest : map (schema_at history) tables ≡ map Some schemas = cc in schema_found tables schemas place rest (omega arith)

  rows_are : (tables : List Name) (schemas : List Schema) → map (schema_at history) tables ≡ map Some schemas → tables_at history schemas ≡ rows_of (sets_at history tables)
  rows_are =
      table_by_table history (λ tables schemas. tables_at history schemas ≡ rows_of (sets_at history tables)) refl (λ table schema tables schemas first later.
      λ i. (ap (λ (o : Option Schema). (rows_by history o).rows) (sym first)) i ∷ later i)

-- ---- lists whose elements agree
filter-turned : {X : Type 0} (p q : X → Bool) (xs : List X) → filter p (filter q xs) ≡ filter q (filter p xs)
filter-turned p q [] = refl
filter-turned {X} p q (x ∷ xs) = by (p x) refl (q x) refl (filter-turned p q xs)
  where
    by : (passes : Bool) → p x ≡ passes → (also : Bool) → q x ≡ also → filter p (filter q xs) ≡ filter q (filter p xs)
        → filter p (cond also (x ∷ filter q xs) (filter q xs)) ≡ filter q (cond passes (x ∷ filter p xs) (filter p xs))
    by true is true also later = (λ i. cond (is i) (x ∷ later i) (later i)) ∙ sym (ap (λ (test : Bool). cond test (x ∷ filter q (filter p xs)) (filter q (filter p xs))) also)
    by true is false also later = later ∙ sym (ap (λ (test : Bool). cond test (x ∷ filter q (filter p xs)) (filter q (filter p xs))) also)
    by false is true also later = ap (λ (test : Bool). cond test (x ∷ filter p (filter q xs)) (filter p (filter q xs))) is ∙ later
    by false is false also later = later

kept_pass : {X : Type 0} (test : X → Bool) (xs : List X) → AllByRecursion (λ x. test x ≡ true) (filter test xs)
kept_pass test [] = tt
kept_pass {X} test (x ∷ xs) = by (test x) refl (kept_pass test xs)
  where
    by : (passes : Bool) → test x ≡ passes → AllByRecursion (λ x. test x ≡ true) (filter test xs) → AllByRecursion (λ x. test x ≡ true) (cond passes (x ∷ filter test xs) (filter test xs))
    by true is all = (is, all)
    by false is all = all

both_parts : {X : Type 0} (P : X → Type 0) (front back : List X) → AllByRecursion P (front ++ back) → AllByRecursion P front × AllByRecursion P back
both_parts P [] back all = (tt, all)
both_parts P (x ∷ front) back all = let parts = both_parts P front back all.1 in ((all.0, parts.0), parts.1)

-- elements with equal images are kept alike, and have equal images under another function too
module _ {X Y Z W : Type 0} (f : X → Z) (g : Y → Z) (p : X → Bool) (q : Y → Bool) (left : X → W) (right : Y → W) (Counts : Y → Type 0)
    (agree : (x : X) (y : Y) → Counts y → f x ≡ g y → (p x ≡ q y) × (left x ≡ right y)) where
  left-same : (xs : List X) (ys : List Y) → AllByRecursion Counts ys → map f xs ≡ map g ys → map left (filter p xs) ≡ map right (filter q ys)
  left-same [] [] all same = refl
  left-same [] (y ∷ ys) all same = absurd cc
  left-same (x ∷ xs) [] all same = absurd cc
  left-same (x ∷ xs) (y ∷ ys) all same =
      let first : f x ≡ g y = cc in
      let rest : map f xs ≡ map g ys = cc in
      let here = agree x y all.0 first in
      let later = left-same xs ys all.1 rest in
      one left (p x) x (filter p xs) ∙ (λ i. cond (here.0 i) (here.1 i ∷ later i) (later i)) ∙ sym (one right (q y) y (filter q ys))
    where
      one : {V : Type 0} (change : V → W) (test : Bool) (v : V) (vs : List V) → map change (cond test (v ∷ vs) vs) ≡ cond test (change v ∷ map change vs) (map change vs)
      one change true v vs = refl
      one change false v vs = refl

module _ (meaning : Meaning) (history : History) (context : Context) (query : Query) (schemas : List Schema) (tuple : List SharedRow) (has : HasTables meaning history query schemas)
    (stand : AllByRecursion (λ shared. list_any (bytes_eq shared.table) query.tables ≡ true) tuple) where
  abbrev rules : List TableRules
  rules = rules_at history context schemas

  abbrev choices : Choices
  choices = choice_at history

  abbrev cell : Combination → Ref → Cell
  cell rows column = masked_cell choices rows (masked_column rules column)

  -- if the guards are shown, the key columns have the rows' values
  raw_key : (rows : Combination) → is_guarded choices (rewritten_query rules query) rows ≡ true → (table : Name) → list_any (bytes_eq table) query.tables ≡ true
      → AllByRecursion (λ column. value_in (cell rows (at (place_in query.tables table) column)) ≡ raw_value rows (at (place_in query.tables table) column)) (key_by history query.tables (schema_at history table))
  raw_key rows guarded table stands =
      let place = place_in query.tables table in
      let found = place-found query.tables table stands in
      let schema = schema_found history query.tables schemas place has.schemas_are found.0 in
      let made : schema_at history table ≡ Some schema.0 = ap (schema_at history) (sym found.1) ∙ schema.2 in
      let rules_are : slice_get rules place ≡ Some (table_rules history context schema.0) = slice_get-map (table_rules history context) schemas place ∙ ap (option_map (table_rules history context)) schema.1 in
      let shown = guards_shown choices rows rules 0 place (table_rules history context schema.0) guarded rules_are in
      let same : 0 + place ≡ place = omega arith in
      let here = subst (λ (p : Place). ShownKey choices rows p (table_rules history context schema.0) schema.0.key) same shown in
      subst (λ (o : Option Schema). AllByRecursion (λ column. value_in (cell rows (at place column)) ≡ raw_value rows (at place column)) (key_by history query.tables o)) (sym made)
      (each (table_rules history context schema.0) place rules_are schema.0.key here)
    where
      each : (table : TableRules) (place : Place) → slice_get rules place ≡ Some table → (key : List Place) → ShownKey choices rows place table key → AllByRecursion (λ column. value_in (cell rows (at place column)) ≡ raw_value rows (at place column)) key
      each table place is [] shown = tt
      each table place is (column ∷ key) shown = (
        ap (λ (o : Option TableRules). value_in (masked_cell choices rows (option_map_or (λ t. column_expr t (at place column)) o (NullExpr 0)))) is
            ∙ shown_value choices rows table.subject (at place column) (gate_in table column) shown.0,
        each table place is key shown.1,
      )

  -- a combination in the view and the unmasked one, whose cells agree in some columns
  module _ (seen : List ShownRow) (rows : Combination) where
    abbrev Agree : List Ref → Type 0
    Agree columns = AllByRecursion (λ column. cell_in seen column ≡ cell rows column) columns

    cells_agree : (columns : List Ref) → selected_cells columns seen ≡ map (masked_cell choices rows) (map (masked_column rules) columns) → Agree columns
    cells_agree [] same = tt
    cells_agree (column ∷ columns) same =
        let first : cell_in seen column ≡ cell rows column = cc in
        let rest : selected_cells columns seen ≡ map (masked_cell choices rows) (map (masked_column rules) columns) = cc in
        (first, cells_agree columns rest)

    agreed_cells : (columns : List Ref) → Agree columns → selected_cells columns seen ≡ map (masked_cell choices rows) (map (masked_column rules) columns)
    agreed_cells [] all = refl
    agreed_cells (column ∷ columns) all = λ i. all.0 i ∷ agreed_cells columns all.1 i

    keys_agree : (place : Place) (key : List Place) → Agree (map (at place) key) → AllByRecursion (λ column. value_in (cell rows (at place column)) ≡ raw_value rows (at place column)) key
        → map (λ column. value_in (cell_in seen (at place column))) key ≡ map (λ column. raw_value rows (at place column)) key
    keys_agree place [] all raw = refl
    keys_agree place (column ∷ key) all raw = λ i. (ap value_in all.0 ∙ raw.0) i ∷ keys_agree place key all.1 raw.1 i

    module _ (guarded : is_guarded choices (rewritten_query rules query) rows ≡ true) where
      key_agrees : (table : Name) → list_any (bytes_eq table) query.tables ≡ true → Agree (key_columns history query.tables table)
          → key_at_history history query.tables seen table ≡ shared_key_in query.tables (sets_at history query.tables) rows table
      key_agrees table stands all =
          key-seen history query.tables seen table
          ∙ keys_agree (place_in query.tables table) (key_by history query.tables (schema_at history table)) all (raw_key rows guarded table stands)
          ∙ key-raw history query.tables rows table stands

      tuple_agrees : (some : List SharedRow) → AllByRecursion (λ shared. list_any (bytes_eq shared.table) query.tables ≡ true) some → Agree (tuple_columns history query.tables some)
          → has_tuple_at history query.tables some seen ≡ has_tuple_in query.tables (sets_at history query.tables) some rows
      tuple_agrees [] all agree = refl
      tuple_agrees (shared ∷ some) all agree =
          let parts = both_parts (λ column. cell_in seen column ≡ cell rows column) (key_columns history query.tables shared.table) (tuple_columns history query.tables some) agree in
          λ i. same_cells (key_agrees shared.table all.0 parts.0 i) shared.key && tuple_agrees some all.1 parts.1 i

  -- the query with the key columns of the tuple added to its select list
  abbrev keyed : Query
  keyed = record { items = tuple_columns history query.tables tuple ++ query.items; tables = query.tables; cond = query.cond; form = query.form }

  abbrev counts : Combination → Bool
  counts rows = is_guarded choices (rewritten_query rules query) rows && masked_passes choices (rewritten_query rules query) rows

  abbrev is_left : Combination → Bool
  is_left rows = not (has_tuple_in query.tables (sets_at history query.tables) tuple rows)

  abbrev is_left_seen : List ShownRow → Bool
  is_left_seen seen = not (has_tuple_at history query.tables tuple seen)

  agreed : (seen : List ShownRow) (rows : Combination) → counts rows ≡ true → selected_cells keyed.items seen ≡ masked_items choices (rewritten_query rules keyed) rows
      → (is_left_seen seen ≡ is_left rows) × (selected_cells query.items seen ≡ masked_items choices (rewritten_query rules query) rows)
  agreed seen rows counted same =
      let guarded = (and_parts (is_guarded choices (rewritten_query rules query) rows) (masked_passes choices (rewritten_query rules query) rows) counted).0 in
      let parts = both_parts (λ column. cell_in seen column ≡ cell rows column) (tuple_columns history query.tables tuple) query.items (cells_agree seen rows keyed.items same) in
      (ap not (tuple_agrees seen rows guarded tuple stand parts.0), agreed_cells seen rows query.items parts.1)

  -- the rewritten query over the remaining combinations gives what the query gives over those
  -- remaining in the views
  rows_left : RewritingAnswers → answer_of query.items query.cond (filter is_left_seen (seen_combinations history context query)) ≡ masked_rows choices (rewritten_query rules query) (filter is_left (product (tables_at history schemas)))
  rows_left rewriting =
      let combinations = product (tables_at history schemas) in
      let views = seen_combinations history context query in
      let law = (rewriting meaning history context keyed schemas (record { valid = has.valid; schemas_are = has.schemas_are })).0 in
      ap (map (selected_cells query.items)) (filter-turned (passes query.cond) is_left_seen views)
      ∙ left-same (selected_cells keyed.items) (masked_items choices (rewritten_query rules keyed)) is_left_seen is_left (selected_cells query.items) (masked_items choices (rewritten_query rules query)) (λ rows. counts rows ≡ true) agreed
      (filter (passes query.cond) views) (filter counts combinations) (kept_pass counts combinations) (sym law)
      ∙ ap (map (masked_items choices (rewritten_query rules query))) (filter-turned is_left counts combinations)

  needs_same : RewritingAnswers → query_needs history context query tuple ≡ needs_by choices (rewritten_query rules query) query.form (sets_at history query.tables) tuple
  needs_same rewriting =
      let whole = sym (rewriting meaning history context query schemas has).0 in
      (λ i. not (same_bag (rows_by_form query.form (rows_left rewriting i)) (rows_by_form query.form (whole i))))
      ∙ ap (λ (tables : List (List BornRow)). not (same_bag (rows_by_form query.form (masked_rows choices (rewritten_query rules query) (filter is_left (product tables)))) (rows_by_form query.form (masked_rows choices (rewritten_query rules query) (product tables)))))
      (rows_are history query.tables schemas has.schemas_are)

pub query-needs-over-rows : RewritingAnswers → QueryNeedsOverRows
query-needs-over-rows rewriting = λ meaning history context query schemas tuple has stand. needs_same meaning history context query schemas tuple has stand rewriting
