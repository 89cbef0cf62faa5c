-- The checks of a select with its columns resolved agree with its definition.
use Rattle.std.proofs.Common.{◌≡◌, ℕ, ◌+◌, ◌≤◌, Bool, true, false, List, [], ◌∷◌, ◌++◌, map, filter_map, length, refl, sym, ap, subst, ◌∙◌, arith}
use Rattle.std.specs.Prelude.{not, ◌||◌, nat_lt, if◌then◌else◌, unwrap_or}
use Rattle.std.specs.List.{flat_map, list_any, position_or_len}
use Rattle.std.proofs.lemmas.List.{length-map}
use borrow.Author.Tests.{ltb-false}
use Rattle.hippo_model.specs.declared.name_fault.NameFault.{NameFault}
use Rattle.hippo_model.specs.declared.name_fault.NameFault.TheVariants.{NotGrouped, TooManyParts}
use Rattle.hippo_model.specs.declared.query.Form.{Form}
use Rattle.hippo_model.specs.declared.query.Form.TheVariants.{Grouped}
use Rattle.hippo_model.specs.declared.query.Out.{Out}
use Rattle.hippo_model.specs.declared.query.Out.TheVariants as shown
use Rattle.hippo_model.specs.declared.query.CondOf.{CondOf}
use Rattle.hippo_model.specs.declared.query.Operand.{Operand}
use Rattle.hippo_model.specs.declared.query.Ref.{Ref}
use Rattle.hippo_model.specs.declared.schema.Schema.{Schema}
use Rattle.hippo_stmt_ast.specs.declared.statement.RawColumn.{RawColumn}
use Rattle.hippo_stmt_ast.specs.declared.statement.RawForm.{RawForm}
use Rattle.hippo_stmt_ast.specs.declared.statement.RawForm.TheVariants as forms
use Rattle.hippo_stmt_ast.specs.declared.statement.RawItem.{RawItem}
use Rattle.hippo_stmt_ast.specs.declared.statement.RawOut.{RawOut}
use Rattle.hippo_stmt_ast.specs.declared.statement.RawOut.TheVariants.{Column, Min, Max}
use Rattle.hippo_stmt_ast.specs.declared.statement.RawSelect.{RawSelect}
use Rattle.hippo_model.specs.Terms.{Place}
use Rattle.hippo_typing_catalog.specs.Comparisons.{condition_of, kinds_refused, texts_refused}
use Rattle.hippo_typing_catalog.specs.Catalogs.{KnownNames, schemas_of}
use Rattle.hippo_typing_catalog.specs.Refusals.{fault_if, unknown_table, repeated_names, IsFirstOf}
use Rattle.hippo_typing_catalog.proofs.Refused.{first_after, with_four}
use Rattle.hippo_values.specs.Limits.{from_limit, item_limit}
use Rattle.hippo_typing_catalog.specs.StatementLimits.{too_many}
use Rattle.hippo_typing_catalog.specs.WrittenColumns.{column_of}
use Rattle.hippo_typing_catalog.specs.Selects.{outs_of, by_of, plain_column, argument_in, same_reference, ungrouped_column, groups_refused, shown_outs, form_of, listed_columns, columns_refused, select_parts_refused, select_refused, query_of}
use Rattle.hippo_typing.specs.Found.{with_column, with_out, plain_found, argument_found, lone_found, groups_found_refused, shown_found}
use Rattle.hippo_typing.specs.FoundSelects.{list_found, select_found, own_items, form_found, head_of, query_with, head_refused}
use Rattle.hippo_typing.specs.declared.selects.FoundSelect.{FoundSelect}
use Rattle.hippo_typing.specs.declared.selects.QueryHead.{QueryHead}

both_none : (refusals later : List NameFault) → refusals ++ later ≡ [] → (refusals ≡ []) × (later ≡ [])
both_none [] later none = (refl, none)
both_none (first ∷ rest) later none = absurd cc

few : (limit count : ℕ) → too_many limit count ≡ [] → count ≤ limit
few limit count none = by (nat_lt limit count) refl
  where
    by : (test : Bool) → nat_lt limit count ≡ test → count ≤ limit
    by true e =
        let some : TooManyParts limit ∷ [] ≡ [] = sym (ap (λ t. fault_if t (TooManyParts limit)) e) ∙ none in
        absurd cc
    by false e = ltb-false limit count e

module _ (schemas : List Schema) where
  plain_of : (outs : List RawOut) → filter_map plain_found (map (with_out schemas) outs) ≡ map (with_column schemas) (filter_map plain_column outs)
  plain_of [] = refl
  plain_of (Column written ∷ rest) = ap (λ l. with_column schemas written ∷ l) (plain_of rest)
  plain_of (Min argument ∷ rest) = plain_of rest
  plain_of (Max argument ∷ rest) = plain_of rest

  arguments_of : (outs : List RawOut) → filter_map argument_found (map (with_out schemas) outs) ≡ map (column_of schemas) (filter_map argument_in outs)
  arguments_of [] = refl
  arguments_of (Column written ∷ rest) = arguments_of rest
  arguments_of (Min argument ∷ rest) = ap (λ l. column_of schemas argument ∷ l) (arguments_of rest)
  arguments_of (Max argument ∷ rest) = ap (λ l. column_of schemas argument ∷ l) (arguments_of rest)

  any_of : (column : Ref) (others : List RawColumn) → list_any (λ (other : RawColumn × Ref). same_reference column other.1) (map (with_column schemas) others) ≡ list_any (same_reference column) (map (column_of schemas) others)
  any_of column [] = refl
  any_of column (first ∷ rest) = ap (λ t. same_reference column (column_of schemas first) || t) (any_of column rest)

  lone_of : (others written : List RawColumn) → flat_map (lone_found (map (with_column schemas) others)) (map (with_column schemas) written) ≡ flat_map (ungrouped_column schemas others) written
  lone_of others [] = refl
  lone_of others (first ∷ rest) =
      ap (λ t. fault_if (not t) (NotGrouped first.column) ++ flat_map (lone_found (map (with_column schemas) others)) (map (with_column schemas) rest)) (any_of (column_of schemas first) others)
      ∙ ap (λ l. ungrouped_column schemas others first ++ l) (lone_of others rest)

  groups_of : (outs : List RawOut) (by : List RawColumn) → groups_found_refused (map (with_out schemas) outs) (map (with_column schemas) by) ≡ groups_refused schemas outs by
  groups_of outs by =
      ap (λ plain. flat_map (lone_found (map (with_column schemas) by)) plain ++ flat_map (lone_found plain) (map (with_column schemas) by)) (plain_of outs)
      ∙ ap (λ l. l ++ flat_map (lone_found (map (with_column schemas) (filter_map plain_column outs))) (map (with_column schemas) by)) (lone_of by (filter_map plain_column outs))
      ∙ ap (λ l. flat_map (ungrouped_column schemas by) (filter_map plain_column outs) ++ l) (lone_of (filter_map plain_column outs) by)

  pub groups_of_form : (items : List RawItem) (form : RawForm) → groups_found_refused (list_found schemas items form).outs (map (with_column schemas) (by_of form)) ≡ groups_refused schemas (outs_of form) (by_of form)
  groups_of_form items forms.Plain = refl
  groups_of_form items forms.Distinct = refl
  groups_of_form items (forms.Grouped outs by) = groups_of outs by

  columns_found : (by : List RawColumn) → map (λ (found : RawColumn × Ref). found.1) (map (with_column schemas) by) ≡ map (column_of schemas) by
  columns_found [] = refl
  columns_found (first ∷ rest) = ap (λ l. column_of schemas first ∷ l) (columns_found rest)

  place_of_column : (column : Ref) (by : List RawColumn) → position_or_len (λ (found : RawColumn × Ref). same_reference column found.1) (map (with_column schemas) by) ≡ position_or_len (same_reference column) (map (column_of schemas) by)
  place_of_column column [] = refl
  place_of_column column (first ∷ rest) = ap (λ (n : ℕ). if not (same_reference column (column_of schemas first)) then 1 + n else 0) (place_of_column column rest)

  shown_of : (by : List RawColumn) (next : Place) (outs : List RawOut) → shown_found (map (with_column schemas) by) next (map (with_out schemas) outs) ≡ shown_outs schemas (map (column_of schemas) by) next outs
  shown_of by next [] = refl
  shown_of by next (Column written ∷ rest) =
      ap (λ n. shown.Column n ∷ shown_found (map (with_column schemas) by) next (map (with_out schemas) rest)) (place_of_column (column_of schemas written) by)
      ∙ ap (λ l. shown.Column (position_or_len (same_reference (column_of schemas written)) (map (column_of schemas) by)) ∷ l) (shown_of by next rest)
  shown_of by next (Min argument ∷ rest) = ap (λ l. shown.Min next ∷ l) (shown_of by (next + 1) rest)
  shown_of by next (Max argument ∷ rest) = ap (λ l. shown.Max next ∷ l) (shown_of by (next + 1) rest)

  -- the resolved parts of a select with these items, this condition and this form
  abbrev found_with : List RawItem → CondOf Operand → RawForm → FoundSelect
  found_with items cond form = record { list = list_found schemas items form; cond = cond; by = map (with_column schemas) (by_of form) }

  items_of_form : (items : List RawItem) (cond : CondOf Operand) (form : RawForm) → unwrap_or (own_items form (found_with items cond form)) (list_found schemas items form).items ≡ listed_columns schemas items form
  items_of_form items cond forms.Plain = refl
  items_of_form items cond forms.Distinct = refl
  items_of_form items cond (forms.Grouped outs by) =
      ap (λ l. l ++ filter_map argument_found (map (with_out schemas) outs)) (columns_found by) ∙ ap (λ l. map (column_of schemas) by ++ l) (arguments_of outs)

  form_of_form : (items : List RawItem) (cond : CondOf Operand) (form : RawForm) → form_found form (found_with items cond form) ≡ form_of schemas form
  form_of_form items cond forms.Plain = refl
  form_of_form items cond forms.Distinct = refl
  form_of_form items cond (forms.Grouped outs by) =
      let count : length (map (with_column schemas) by) ≡ length by = length-map by (with_column schemas) in
      ap (λ (n : ℕ). Grouped (record { keys = n; outs = shown_found (map (with_column schemas) by) n (map (with_out schemas) outs) })) count
      ∙ ap (λ (l : List Out). Grouped (record { keys = length by; outs = l })) (shown_of by (length by) outs)

  -- the resolved parts of a select make the query that it means over these tables
  pub query_found : (select : RawSelect) → (let found : FoundSelect = select_found schemas select in query_with (head_of select found) found ≡ record { items = listed_columns schemas select.items select.form; tables = select.tables; cond = found.cond; form = form_of schemas select.form })
  query_found select =
      ap (λ (items : List Ref). record { items = items; tables = select.tables; cond = condition_of schemas select.cond; form = form_found select.form (select_found schemas select) }) (items_of_form select.items (condition_of schemas select.cond) select.form)
      ∙ ap (λ (form : Form). record { items = listed_columns schemas select.items select.form; tables = select.tables; cond = condition_of schemas select.cond; form = form }) (form_of_form select.items (condition_of schemas select.cond) select.form)

  pub head_refused_of_select : (select : RawSelect) → head_refused schemas select (select_found schemas select) ≡ groups_refused schemas (outs_of select.form) (by_of select.form) ++ kinds_refused schemas (condition_of schemas select.cond) ++ texts_refused (condition_of schemas select.cond) ++ select_parts_refused select
  head_refused_of_select select =
      ap (λ (l : List NameFault). l ++ kinds_refused schemas (condition_of schemas select.cond) ++ texts_refused (condition_of schemas select.cond) ++ select_parts_refused select) (groups_of_form select.items select.form)

  by_count : (form : RawForm) → length (map (with_column schemas) (by_of form)) ≡ length (by_of form)
  by_count form = length-map (by_of form) (with_column schemas)

  outs_count : (items : List RawItem) (form : RawForm) → length (list_found schemas items form).outs ≡ length (outs_of form)
  outs_count items forms.Plain = refl
  outs_count items forms.Distinct = refl
  outs_count items (forms.Grouped outs by) = length-map outs (with_out schemas)

  -- if no list is too long, the members and the columns of GROUP BY are few
  pub few_found : (select : RawSelect) → head_refused schemas select (select_found schemas select) ≡ [] → length (select_found schemas select).by + length (select_found schemas select).list.outs ≤ 256
  few_found select none =
      let parts : select_parts_refused select ≡ [] = (both_none (groups_found_refused (list_found schemas select.items select.form).outs (map (with_column schemas) (by_of select.form)) ++ kinds_refused schemas (condition_of schemas select.cond) ++ texts_refused (condition_of schemas select.cond)) (select_parts_refused select) none).1 in
      let last = both_none (too_many from_limit (length select.tables) ++ too_many item_limit (length select.items) ++ too_many item_limit (length (outs_of select.form))) (too_many item_limit (length (by_of select.form))) parts in
      let third = both_none (too_many from_limit (length select.tables) ++ too_many item_limit (length select.items)) (too_many item_limit (length (outs_of select.form))) last.0 in
      let few_by : length (by_of select.form) ≤ 128 = few item_limit (length (by_of select.form)) last.1 in
      let few_outs : length (outs_of select.form) ≤ 128 = few item_limit (length (outs_of select.form)) third.1 in
      omega (arith, by_count select.form, outs_count select.items select.form)

-- a group's refusal is the first of all, if nothing is refused before the group
module _ (known : KnownNames) (select : RawSelect) (schemas : List Schema) (same : schemas ≡ schemas_of known select.tables)
    (there : flat_map (unknown_table known) select.tables ++ repeated_names select.tables ≡ []) where
  first_of_columns_at : (s : List Schema) → schemas ≡ s → (fault : NameFault) → IsFirstOf (columns_refused schemas select) fault → IsFirstOf (flat_map (unknown_table known) select.tables ++ repeated_names select.tables ++ columns_refused s select) fault
  first_of_columns_at s e fault first =
      first_after (flat_map (unknown_table known) select.tables ++ repeated_names select.tables) (columns_refused s select) fault there (subst (λ (x : List Schema). IsFirstOf (columns_refused x select) fault) e first)

  pub first_of_columns : (fault : NameFault) → IsFirstOf (columns_refused schemas select) fault → IsFirstOf (select_refused known select) fault
  first_of_columns fault first = with_four _ _ _ _ _ fault (first_of_columns_at (schemas_of known select.tables) same fault first)

  all_after : columns_refused schemas select ≡ [] → select_refused known select ≡ head_refused schemas select (select_found schemas select)
  all_after none =
      let none_there : columns_refused (schemas_of known select.tables) select ≡ [] = subst (λ (x : List Schema). columns_refused x select ≡ []) same none in
      let remaining : List NameFault → List NameFault = λ before. before ++ groups_refused (schemas_of known select.tables) (outs_of select.form) (by_of select.form) ++ kinds_refused (schemas_of known select.tables) (condition_of (schemas_of known select.tables) select.cond) ++ texts_refused (condition_of (schemas_of known select.tables) select.cond) ++ select_parts_refused select in
      ap (λ (before : List NameFault). remaining (before ++ columns_refused (schemas_of known select.tables) select)) there ∙ ap remaining none_there
      ∙ sym (head_refused_of_select (schemas_of known select.tables) select) ∙ ap (λ (s : List Schema). head_refused s select (select_found s select)) (sym same)

  pub first_of_head : (fault : NameFault) → columns_refused schemas select ≡ [] → IsFirstOf (head_refused schemas select (select_found schemas select)) fault → IsFirstOf (select_refused known select) fault
  first_of_head fault none first = subst (λ (l : List NameFault). IsFirstOf l fault) (sym (all_after none)) first

  pub none_of_select : columns_refused schemas select ≡ [] → head_refused schemas select (select_found schemas select) ≡ [] → select_refused known select ≡ []
  none_of_select none none_after = all_after none ∙ none_after

  pub query_of_select : (found : FoundSelect) (head : QueryHead) → found ≡ select_found schemas select → head ≡ head_of select (select_found schemas select) → query_with head found ≡ query_of known select
  query_of_select found head is_found is_head =
      ap (λ (h : QueryHead). query_with h found) is_head
      ∙ ap (λ (f : FoundSelect). query_with (head_of select (select_found schemas select)) f) is_found
      ∙ query_found schemas select
      ∙ ap (λ (s : List Schema). record { items = listed_columns s select.items select.form; tables = select.tables; cond = condition_of s select.cond; form = form_of s select.form }) same
