use Rattle.std.proofs.Common.{◌≡◌, ℕ, ◌+◌, List, [], ◌++◌, drop, option_copied, ap, sym, ◌∙◌}
use Rattle.std.specs.Prelude.{if◌then◌else◌}
use Rattle.std.specs.List.{flat_map, enumerate_from}
use Rattle.hippo_model.specs.declared.query.Ref.{Ref}
use Rattle.hippo_model.specs.declared.schema.Schema.{Schema}
use Rattle.hippo_typing_catalog.specs.WrittenColumns.{may_belong_to}
use Rattle.hippo_typing_catalog.specs.Selects.{table_columns, star_columns}
use Rattle.hippo_typing_catalog.proofs.ListLemmas.{flat_map_at_item, one_more}
use Rattle.hippo_typing.proofs.items.push_star.Goals as goal

pub loop-place-preserved : goal.loop-place-preserved
loop-place-preserved c =
    let place : ℕ = c.loop-place.place in
    let tables : List Schema = c.args.tables.now in
    let starred : ℕ × Schema → List Ref = λ (p, schema). if may_belong_to (option_copied c.args.qualifier) schema.name then table_columns p schema else [] in
    let rest : List Ref = flat_map starred (enumerate_from (place + 1) (drop (place + 1) tables)) in
    let all : List Ref = c.args.columns.now ++ star_columns tables (option_copied c.args.qualifier) in
    let step : c.loop-place.columns ++ (starred (place, c.get.result.now) ++ rest) ≡ all =
    ap (λ l. c.loop-place.columns ++ l) (sym (flat_map_at_item starred tables place c.get.result.now c.get.ensures)) ∙ c.loop-place.invariant in
    one_more c.loop-place.columns c.push_starred.new.columns (starred (place, c.get.result.now)) rest all c.in_ok-push_starred.ensures step
