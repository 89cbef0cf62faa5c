-- The masked meaning of a rewritten query is its raw answer over masked rows.
use Rattle.std.proofs.Common.{◌≡◌, ◌∙◌, sym, refl, ap, arith, Bool, true, false, cond, ◌&&◌, List, [], ◌∷◌, ◌++◌, ◌+◌, map, length}
use Rattle.std.specs.Prelude.{filter, filter_map, flat_map, slice_get}
use Rattle.std.specs.List.{list_all, AllByRecursion}
use Rattle.std.proofs.lemmas.Bool.{and_parts, eqb-true}
use Rattle.hippo_values.specs.declared.values.Value.{Value}
use Rattle.hippo_model.specs.declared.born_row.BornRow.{BornRow}
use Rattle.hippo_model.specs.declared.policy.TableRules.{TableRules}
use Rattle.hippo_model.specs.declared.query.Expr.{Expr}
use Rattle.hippo_model.specs.declared.query.Operand.{Operand}
use Rattle.hippo_model.specs.declared.query.Operand.TheVariants.{Column, Literal}
use Rattle.hippo_model.specs.declared.query.Query.{Query}
use Rattle.hippo_model.specs.declared.query.Ref.{Ref}
use Rattle.hippo_model.specs.Terms.{Combination, ShownRow}
use Rattle.hippo_model.specs.Conditions.{truth, is_true}
use Rattle.hippo_model.specs.Forms.{value_in}
use Rattle.hippo_model.specs.Answers.{product, operand_value, passes, selected_cells, answer_of}
use Rattle.hippo_model.specs.Masking.{Choices, masked_cell, is_guarded, masked_passes, masked_items, masked_answer}
use Rattle.hippo_model_laws.proofs.TruthWithChange.{agrees}
use Rattle.hippo_rewrite.specs.Rewriting.{masked_column, masked_operand, rewritten_query}
use Rattle.hippo_rewrite.specs.MaskedRows.{row_by, rows_by, row_fits_gates, rows_fit}
use Rattle.hippo_rewrite.proofs.Products.{kept_of, all_pass, all_changed, product-kept_of}
use Rattle.hippo_rewrite.proofs.MaskedCells.{is_kept, shown_row, Fits, guards_are, columns_are}

module _ (choices : Choices) where
  abbrev shown_of : List TableRules → Combination → List ShownRow
  shown_of = all_changed (is_kept choices) (shown_row choices)

  abbrev is_whole : List TableRules → Combination → Bool
  is_whole = all_pass (is_kept choices) (shown_row choices)

  rows_by-kept_of : (rules : List TableRules) (tables : List (List BornRow)) → rows_by choices rules tables ≡ kept_of (is_kept choices) (shown_row choices) rules tables
  rows_by-kept_of [] tables = refl
  rows_by-kept_of (table ∷ rules) [] = refl
  rows_by-kept_of (table ∷ rules) (rows ∷ tables) = ap (λ (rest : List (List ShownRow)). filter_map (row_by choices table) rows ∷ rest) (rows_by-kept_of rules tables)

  length-rows_fit : (rules : List TableRules) (tables : List (List BornRow)) → rows_fit rules tables ≡ true → length rules ≡ length tables
  length-rows_fit [] [] fit = refl
  length-rows_fit [] (rows ∷ tables) fit = absurd cc
  length-rows_fit (table ∷ rules) [] fit = absurd cc
  length-rows_fit (table ∷ rules) (rows ∷ tables) fit =
      let later : length rules ≡ length tables = length-rows_fit rules tables (and_parts (list_all (row_fits_gates table) rows) (rows_fit rules tables) fit).1 in omega arith

  -- the combinations that begin with one row fit, and those of one list
  with_row : (table : TableRules) (rules : List TableRules) (kept : BornRow) (rest later : List Combination) → length kept.row ≡ length table.gates → AllByRecursion (Fits choices rules) rest
      → AllByRecursion (Fits choices (table ∷ rules)) later → AllByRecursion (Fits choices (table ∷ rules)) (map (λ others. kept ∷ others) rest ++ later)
  with_row table rules kept [] later here fits more = more
  with_row table rules kept (others ∷ rest) later here fits more = ((here, fits.0), with_row table rules kept rest later here fits.1 more)

  with_rows : (table : TableRules) (rules : List TableRules) (rows : List BornRow) (rest : List Combination) → list_all (row_fits_gates table) rows ≡ true → AllByRecursion (Fits choices rules) rest
      → AllByRecursion (Fits choices (table ∷ rules)) (flat_map (λ kept. map (λ others. kept ∷ others) rest) rows)
  with_rows table rules [] rest all fits = tt
  with_rows table rules (kept ∷ rows) rest all fits =
      let both = and_parts (row_fits_gates table kept) (list_all (row_fits_gates table) rows) all in
      with_row table rules kept rest (flat_map (λ kept. map (λ others. kept ∷ others) rest) rows) (eqb-true (length kept.row) (length table.gates) both.0) fits (with_rows table rules rows rest both.1 fits)

  product_fits : (rules : List TableRules) (tables : List (List BornRow)) → rows_fit rules tables ≡ true → AllByRecursion (Fits choices rules) (product tables)
  product_fits [] [] fit = (tt, tt)
  product_fits [] (rows ∷ tables) fit = absurd cc
  product_fits (table ∷ rules) [] fit = absurd cc
  product_fits (table ∷ rules) (rows ∷ tables) fit =
      let both = and_parts (list_all (row_fits_gates table) rows) (rows_fit rules tables) fit in
      with_rows table rules rows (product tables) both.0 (product_fits rules tables both.1)

  module _ (rules : List TableRules) (query : Query) where
    module _ (rows : Combination) (fits : Fits choices rules rows) where
      operands_are : (operand : Operand) → value_in (masked_cell choices rows (masked_operand rules operand)) ≡ operand_value (shown_of rules rows) operand
      operands_are (Column column) = ap value_in (columns_are choices rules rows fits column)
      operands_are (Literal value) = refl

      guarded : is_guarded choices (rewritten_query rules query) rows ≡ is_whole rules rows
      guarded = guards_are choices rows rules rows 0 fits (λ place. let e : 0 + place ≡ place = omega arith in ap (slice_get rows) e)

      passing : masked_passes choices (rewritten_query rules query) rows ≡ passes query.cond (shown_of rules rows)
      passing =
          let value : Expr → Value = λ expr. value_in (masked_cell choices rows expr) in
          ap is_true (agrees (masked_operand rules) value query.cond ∙ (λ i. truth (λ operand. operands_are operand i) query.cond))

      items_are : (items : List Ref) → map (masked_cell choices rows) (map (masked_column rules) items) ≡ selected_cells items (shown_of rules rows)
      items_are [] = refl
      items_are (column ∷ items) = λ i. columns_are choices rules rows fits column i ∷ items_are items i

    -- one more combination
    one_more : (whole passed : Bool) (combination : Combination) (shown : List ShownRow) (left : List Combination) (right : List (List ShownRow))
        → masked_items choices (rewritten_query rules query) combination ≡ selected_cells query.items shown → passes query.cond shown ≡ passed
        → map (masked_items choices (rewritten_query rules query)) left ≡ map (selected_cells query.items) (filter (passes query.cond) right)
        → map (masked_items choices (rewritten_query rules query)) (cond (whole && passed) (combination ∷ left) left) ≡ map (selected_cells query.items) (filter (passes query.cond) (cond whole (shown ∷ right) right))
    one_more false passed combination shown left right same is later = later
    one_more true true combination shown left right same is later = rw is (λ i. same i ∷ later i)
    one_more true false combination shown left right same is later = rw is later

    over_combinations : (combinations : List Combination) → AllByRecursion (Fits choices rules) combinations
        → map (masked_items choices (rewritten_query rules query)) (filter (λ rows. is_guarded choices (rewritten_query rules query) rows && masked_passes choices (rewritten_query rules query) rows) combinations)
        ≡ map (selected_cells query.items) (filter (passes query.cond) (map (shown_of rules) (filter (is_whole rules) combinations)))
    over_combinations [] fits = refl
    over_combinations (rows ∷ combinations) fits =
        let left : List Combination = filter (λ rows. is_guarded choices (rewritten_query rules query) rows && masked_passes choices (rewritten_query rules query) rows) combinations in
        let right : List Combination = filter (is_whole rules) combinations in
        let passed : Bool = passes query.cond (shown_of rules rows) in
        (λ i. map (masked_items choices (rewritten_query rules query)) (cond (guarded rows fits.0 i && passing rows fits.0 i) (rows ∷ left) left))
        ∙ one_more (is_whole rules rows) passed rows (shown_of rules rows) left (map (shown_of rules) right) (items_are rows fits.0 query.items) refl (over_combinations combinations fits.1)
        ∙ ap (λ (combinations : List (List ShownRow)). map (selected_cells query.items) (filter (passes query.cond) combinations)) (sym (map-cond (is_whole rules rows)))
      where
        map-cond : (test : Bool) → map (shown_of rules) (cond test (rows ∷ filter (is_whole rules) combinations) (filter (is_whole rules) combinations)) ≡ cond test (shown_of rules rows ∷ map (shown_of rules) (filter (is_whole rules) combinations)) (map (shown_of rules) (filter (is_whole rules) combinations))
        map-cond true = refl
        map-cond false = refl

    pub masked_answer-rewritten_query : (tables : List (List BornRow)) → rows_fit rules tables ≡ true
        → masked_answer choices (rewritten_query rules query) tables ≡ answer_of query.items query.cond (product (rows_by choices rules tables))
    masked_answer-rewritten_query tables fit =
        over_combinations (product tables) (product_fits rules tables fit)
        ∙ ap (λ (combinations : List (List ShownRow)). map (selected_cells query.items) (filter (passes query.cond) combinations))
        (sym (ap product (rows_by-kept_of rules tables) ∙ product-kept_of (is_kept choices) (shown_row choices) rules tables (length-rows_fit rules tables fit)))
