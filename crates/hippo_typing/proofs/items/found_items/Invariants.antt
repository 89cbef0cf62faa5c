use Rattle.std.proofs.Common.{◌≡◌, ◌++◌, drop}
use Rattle.std.specs.List.{flat_map}
use Rattle.hippo_typing_catalog.specs.Selects.{item_refused, item_columns}
use Rattle.hippo_typing.proofs.items.found_items.Given as goal

abbrev pub invariant-loop-item : goal.invariant-loop-item
invariant-loop-item l = record {
  left : flat_map (item_refused l.tables) l.items ≡ flat_map (item_refused l.tables) (drop l.item-index l.items);
  made : l.columns ++ flat_map (item_columns l.tables) (drop l.item-index l.items) ≡ flat_map (item_columns l.tables) l.items;
}
