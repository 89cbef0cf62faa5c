use Rattle.std.proofs.Common.{◌∙◌, ap, sym, ◌≡◌, Bool, true, false, drop, ◌+◌}
use Rattle.std.specs.Prelude.{bytes_eq, ◌||◌}
use Rattle.std.specs.List.{list_any}
use Rattle.hippo_model.specs.declared.schema.Schema.{Schema}
use Rattle.hippo_typing_catalog.proofs.ListLemmas.{any_at_item}
use Rattle.hippo_typing.proofs.items.has_table.Goals as goal

pub returns-then-eq : goal.returns-then-eq
returns-then-eq c =
    let test : Schema → Bool = λ schema. bytes_eq c.args.name.now schema.name in
    let at = any_at_item test c.args.tables.now c.loop-place.place c.get.result.now c.get.ensures in
    let named : test c.get.result.now ≡ true = cc in
    sym (c.loop-place.invariant ∙ at ∙ ap (λ t. t || list_any test (drop (c.loop-place.place + 1) c.args.tables.now)) named)

pub loop-place-preserved : goal.loop-place-preserved
loop-place-preserved c =
    let test : Schema → Bool = λ schema. bytes_eq c.args.name.now schema.name in
    let at = any_at_item test c.args.tables.now c.loop-place.place c.get.result.now c.get.ensures in
    let other : test c.get.result.now ≡ false = cc in
    c.loop-place.invariant ∙ at ∙ ap (λ t. t || list_any test (drop (c.loop-place.place + 1) c.args.tables.now)) other
