use Rattle.std.proofs.Common.{◌≡◌, List, map, take, drop, Bor}
use Rattle.hippo_values.specs.declared.names.Name.{Name}
use Rattle.hippo_model.specs.declared.schema.Column.{Column}
use Rattle.hippo_typing_catalog.specs.Refusals.{repeated_names, repeated_after}
use Rattle.hippo_typing_changes.proofs.tables.check_columns_differ.Given as goal

abbrev pub invariant-loop-column : goal.invariant-loop-column
invariant-loop-column l =
    let names : List Name = map (λ (column : Column). column.name) l.columns in
    record {
      left : repeated_names names ≡ repeated_after (take l.column-index names) (drop l.column-index names);
      kept : map (λ (key : Bor Name). key.now) l.before.keys ≡ take l.column-index names;
    }
