-- An access has a column exactly where the query names the column and is shown the cell.
use Rattle.std.proofs.Common.{◌≡◌, ◌∙◌, sym, ap, refl, ℕ, ◌+◌, zero, suc, Bool, true, false, List, [], ◌∷◌, ◌++◌, map, Option, None, Some, arith}
use Rattle.std.specs.Prelude.{◌&&◌, ◌||◌, not, nat_eq, slice_get, bytes_eq, filter_map, if◌then◌else◌}
use Rattle.std.specs.List.{list_any, list_all, cons_option, enumerate_from}
use Rattle.std.specs.Option.{option_map_or}
use Rattle.std.proofs.lemmas.Bool.{and_parts, false≢true}
use Rattle.std.proofs.lemmas.List.Folds.{list_any-append}
use Rattle.std.proofs.lemmas.Option.{none-some, same_Some}
use Rattle.std.proofs.lemmas.Slice.Eq.{bytes_eq-Decides}
use Rattle.hippo_values.specs.declared.names.Name.{Name}
use Rattle.hippo_model.specs.declared.policy.Verdict.{Verdict}
use Rattle.hippo_model.specs.declared.policy.Verdict.TheVariants.{Shown, Denied}
use Rattle.hippo_model.specs.declared.query.Ref.{Ref}
use Rattle.hippo_model.specs.declared.schema.Column.{Column}
use Rattle.hippo_model.specs.declared.schema.Schema.{Schema}
use Rattle.hippo_model.specs.Columns.{named_column, same_column, condition_columns}
use Rattle.hippo_model.specs.Rows.{cell_at}
use Rattle.hippo_model.specs.Terms.{Row, Place}
use Rattle.hippo_model.specs.Validity.{all_differ, column_passes, key_column_fits, subject_column_fits, is_well_formed}
use Rattle.hippo_model.specs.Verdicts.{verdict}
use Rattle.hippo_model.specs.Views.{is_shown}
use Rattle.hippo_history_formats.specs.declared.access.SeenCell.{SeenCell}
use Rattle.hippo_history_uses.specs.Accesses.{asker_context}
use Rattle.hippo_history_uses.specs.Cells.{seen_by, seen_cells, answers_column, tests_column, names_column}
use Rattle.hippo_history_uses.specs.UseLaws.{ColumnsAreThoseSeen}

abbrev names_of : List Column → List Name
names_of columns = map (λ column. column.name) columns

abbrev has_name : Name → List SeenCell → Bool
has_name name cells = list_any (λ cell. bytes_eq name cell.column) cells

not_true : (b : Bool) → not b ≡ true → b ≡ false
not_true true is = absurd (false≢true is)
not_true false is = refl

or_none : (a b : Bool) → (a || b) ≡ false → (a ≡ false) × (b ≡ false)
or_none true b none = absurd (false≢true (sym none))
or_none false b none = (refl, none)

same_name : (a b : Name) → bytes_eq a b ≡ bytes_eq b a
same_name a b =
    elim (bytes_eq a b) as (λ first. bytes_eq a b ≡ first → first ≡ bytes_eq b a) [
      | true ↦ λ is. sym ((bytes_eq-Decides b a).1 (sym ((bytes_eq-Decides a b).0 is)))
      | false ↦ λ is. other is (bytes_eq b a) refl
    ] refl
  where
    other : bytes_eq a b ≡ false → (second : Bool) → bytes_eq b a ≡ second → false ≡ second
    other is true swapped = sym is ∙ (bytes_eq-Decides a b).1 (sym ((bytes_eq-Decides b a).0 swapped))
    other is false swapped = refl

module _ (test : Place → Bool) (verdicts : Place → Verdict) (row : Row) where
  abbrev cell_of : Place × Column → Option SeenCell
  cell_of (place, column) = if test place then seen_by column.name (cell_at row place) (verdicts place) else None

  abbrev cells_from : ℕ → List Column → List SeenCell
  cells_from first columns = filter_map cell_of (enumerate_from first columns)

  one_more : (name own : Name) (place : Place) (passes : Bool) (found : Verdict) (cells : List SeenCell)
      → has_name name (cons_option (if passes then seen_by own (cell_at row place) found else None) cells) ≡ ((bytes_eq name own && (passes && is_shown found)) || has_name name cells)
  one_more name own place true Shown cells = and_true (bytes_eq name own) (has_name name cells)
    where
      and_true : (a b : Bool) → (a || b) ≡ ((a && true) || b)
      and_true true b = refl
      and_true false b = refl
  one_more name own place true (Denied rule) cells = and_false (bytes_eq name own) (has_name name cells)
    where
      and_false : (a b : Bool) → b ≡ ((a && false) || b)
      and_false true b = refl
      and_false false b = refl
  one_more name own place false found cells = and_false (bytes_eq name own) (has_name name cells)
    where
      and_false : (a b : Bool) → b ≡ ((a && false) || b)
      and_false true b = refl
      and_false false b = refl

  absent : (name : Name) (first : ℕ) (columns : List Column) → list_any (bytes_eq name) (names_of columns) ≡ false → has_name name (cells_from first columns) ≡ false
  absent name first [] none = refl
  absent name first (column ∷ columns) none =
      let both = or_none (bytes_eq name column.name) (list_any (bytes_eq name) (names_of columns)) none in
      one_more name column.name first (test first) (verdicts first) (cells_from (first + 1) columns)
      ∙ (λ i. (both.0 i && (test first && is_shown (verdicts first))) || absent name (first + 1) columns both.1 i)

  none_equal : (own : Name) (columns : List Column) → list_any (bytes_eq own) (names_of columns) ≡ false → (place : Place) (column : Column) → slice_get columns place ≡ Some column → bytes_eq own column.name ≡ false
  none_equal own [] none place column there = absurd (none-some column there)
  none_equal own (first ∷ columns) none zero column there =
      ap (λ (c : Column). bytes_eq own c.name) (sym (same_Some first column there))
      ∙ (or_none (bytes_eq own first.name) (list_any (bytes_eq own) (names_of columns)) none).0
  none_equal own (first ∷ columns) none (suc place) column there =
      none_equal own columns (or_none (bytes_eq own first.name) (list_any (bytes_eq own) (names_of columns)) none).1 place column there

  or_false : (a : Bool) → (a || false) ≡ a
  or_false true = refl
  or_false false = refl

  -- a column of these is among the cells exactly where it passes the test and is shown
  present : (first : ℕ) (columns : List Column) → all_differ bytes_eq (names_of columns) ≡ true → (place : Place) (column : Column) → slice_get columns place ≡ Some column
      → has_name column.name (cells_from first columns) ≡ (test (first + place) && is_shown (verdicts (first + place)))
  present first [] differ place column there = absurd (none-some column there)
  present first (own ∷ columns) differ zero column there =
      let both = and_parts (not (list_any (bytes_eq own.name) (names_of columns))) (all_differ bytes_eq (names_of columns)) differ in
      let same : own ≡ column = same_Some own column there in
      let none : list_any (bytes_eq column.name) (names_of columns) ≡ false = ap (λ (c : Column). list_any (bytes_eq c.name) (names_of columns)) (sym same) ∙ not_true _ both.0 in
      let equal : bytes_eq column.name own.name ≡ true = (bytes_eq-Decides column.name own.name).1 (ap (λ (c : Column). c.name) (sym same)) in
      let here : first ≡ first + zero = omega arith in
      one_more column.name own.name first (test first) (verdicts first) (cells_from (first + 1) columns)
      ∙ (λ i. (equal i && (test first && is_shown (verdicts first))) || absent column.name (first + 1) columns none i)
      ∙ or_false (test first && is_shown (verdicts first))
      ∙ ap (λ (n : ℕ). test n && is_shown (verdicts n)) here
  present first (own ∷ columns) differ (suc place) column there =
      let both = and_parts (not (list_any (bytes_eq own.name) (names_of columns))) (all_differ bytes_eq (names_of columns)) differ in
      let unequal : bytes_eq column.name own.name ≡ false = same_name column.name own.name ∙ none_equal own.name columns (not_true _ both.0) place column there in
      let here : first + 1 + place ≡ first + suc place = omega arith in
      one_more column.name own.name first (test first) (verdicts first) (cells_from (first + 1) columns)
      ∙ (λ i. (unequal i && (test first && is_shown (verdicts first))) || has_name column.name (cells_from (first + 1) columns))
      ∙ present (first + 1) columns both.1 place column there
      ∙ ap (λ (n : ℕ). test n && is_shown (verdicts n)) here

  present_at : (columns : List Column) → all_differ bytes_eq (names_of columns) ≡ true → (place : Place) (column : Column) → slice_get columns place ≡ Some column
      → has_name column.name (cells_from 0 columns) ≡ (test place && is_shown (verdicts place))
  present_at columns differ place column there =
      let here : 0 + place ≡ place = omega arith in
      present 0 columns differ place column there ∙ ap (λ (n : ℕ). test n && is_shown (verdicts n)) here

names_differ : (schema : Schema) → is_well_formed schema ≡ true → all_differ bytes_eq (names_of schema.columns) ≡ true
names_differ schema formed =
    let keyed = (and_parts _ (option_map_or (column_passes subject_column_fits schema) schema.subject true) formed).0 in
    let both = (and_parts _ (list_all (column_passes key_column_fits schema) schema.key) keyed).0 in
    (and_parts (all_differ bytes_eq (names_of schema.columns)) (all_differ nat_eq schema.key) both).0

-- ---- both parts
map-append : (tables : List Name) (first rest : List Ref) (test : Name × Place → Bool)
    → list_any test (map (named_column tables) (first ++ rest)) ≡ (list_any test (map (named_column tables) first) || list_any test (map (named_column tables) rest))
map-append tables [] rest test = refl
map-append tables (column ∷ first) rest test =
    ap (λ b. test (named_column tables column) || b) (map-append tables first rest test) ∙ or_or (test (named_column tables column)) _ _
  where
    or_or : (a b c : Bool) → (a || (b || c)) ≡ ((a || b) || c)
    or_or true b c = refl
    or_or false b c = refl

parts : (answers others shown : Bool) → ((answers && shown) || ((not answers && (answers || others)) && shown)) ≡ ((answers || others) && shown)
parts true others true = refl
parts true others false = refl
parts false others shown = refl

pub columns_are : ColumnsAreThoseSeen
columns_are history asker query schema kept formed place column there =
    let verdicts : Place → Verdict = verdict history (asker_context asker) schema kept in
    let differ : all_differ bytes_eq (names_of schema.columns) ≡ true = names_differ schema formed in
    let answers : Place → Bool = answers_column query schema.name in
    let tests : Place → Bool = tests_column query schema.name in
    let others : Bool = list_any (same_column (schema.name, place)) (map (named_column query.tables) (condition_columns query.cond)) in
    let named : names_column query schema.name place ≡ (answers place || others) = map-append query.tables query.items (condition_columns query.cond) (same_column (schema.name, place)) in
    let shown : Bool = is_shown (verdicts place) in
    list_any-append (λ cell. bytes_eq column.name cell.column) (seen_cells answers verdicts schema kept.row) (seen_cells tests verdicts schema kept.row)
    ∙ (λ i. present_at answers verdicts kept.row schema.columns differ place column there i || present_at tests verdicts kept.row schema.columns differ place column there i)
    ∙ (λ i. (answers place && shown) || ((not (answers place) && named i) && shown))
    ∙ parts (answers place) others shown
    ∙ (λ i. sym named i && shown)
