use Rattle.std.proofs.Common.{◌≡◌, ℕ, List, ◌++◌, ◌+◌, Option, Some, drop, filter_map, slice_get, sym, ap, subst, ◌∙◌, append_assoc, rules}
use Rattle.std.specs.Prelude.{option_to_list}
use Rattle.std.specs.List.{enumerate_from}
use Rattle.hippo_model.specs.declared.query.Ref.{Ref}
use Rattle.hippo_model.specs.declared.schema.Schema.{Schema}
use Rattle.hippo_stmt_ast.specs.declared.statement.RawColumn.{RawColumn}
use Rattle.hippo_typing_catalog.specs.Refusals.{IsFirstOf}
use Rattle.hippo_typing_catalog.specs.WrittenColumns.{home_in, candidate_columns, homes_refused, column_refused}
use Rattle.hippo_typing_catalog.proofs.ListLemmas.{filter_map_at_item}
use Rattle.hippo_typing.proofs.columns.found_column.Goals as goal

-- what a column may name in the tables from a place on
abbrev homes_from : RawColumn → List Schema → ℕ → List Ref
homes_from written tables place = filter_map (λ (place, schema). home_in written place schema) (enumerate_from place (drop place tables))

-- the columns found before a table, in it and after it are all that a column may name
one_more : (written : RawColumn) (tables : List Schema) (place : ℕ) (schema : Schema) (home : Option Ref) → slice_get tables place ≡ Some schema →
    option_to_list home ++ homes_from written tables place ≡ candidate_columns tables written →
    option_to_list home ++ option_to_list (home_in written place schema) ++ homes_from written tables (place + 1) ≡ candidate_columns tables written
one_more written tables place schema home is so_far =
    append_assoc (option_to_list home) (option_to_list (home_in written place schema)) (homes_from written tables (place + 1))
    ∙ ap (λ l. option_to_list home ++ l) (sym (filter_map_at_item (λ (place, schema). home_in written place schema) tables place schema is))
    ∙ so_far

pub returns-in_err-home : goal.returns-in_err-home
returns-in_err-home c =
    let more : List Ref = homes_from c.args.written.now c.args.tables.now (c.loop-place.place + 1) in
    let all = one_more c.args.written.now c.args.tables.now c.loop-place.place c.get.result.now c.loop-place.home c.get.ensures c.loop-place.invariant in
    let P : List Ref → Type 0 = λ l. IsFirstOf (homes_refused c.args.written.now l) c.in_err-home.field-0.0 in
    let first : IsFirstOf (column_refused c.args.tables.now c.args.written.now) c.in_err-home.field-0.0 = subst P (ap (λ f. option_to_list c.loop-place.home ++ option_to_list f ++ more) c.home_in-found.ensures ∙ all) (c.in_err-home.ensures more) in
    search rules

pub loop-place-preserved : goal.loop-place-preserved
loop-place-preserved c =
    let more : List Ref = homes_from c.args.written.now c.args.tables.now (c.loop-place.place + 1) in
    let all = one_more c.args.written.now c.args.tables.now c.loop-place.place c.get.result.now c.loop-place.home c.get.ensures c.loop-place.invariant in
    ap (λ l. l ++ more) (sym c.in_ok-home.ensures ∙ ap (λ f. option_to_list c.loop-place.home ++ option_to_list f) c.home_in-found.ensures) ∙ all
