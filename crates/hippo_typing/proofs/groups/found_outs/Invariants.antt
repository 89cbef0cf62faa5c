use Rattle.std.proofs.Common.{◌≡◌, ◌++◌, map, drop}
use Rattle.std.specs.List.{flat_map}
use Rattle.hippo_typing_catalog.specs.WrittenColumns.{column_refused}
use Rattle.hippo_typing_catalog.specs.Selects.{column_in}
use Rattle.hippo_typing.specs.Found.{with_out}
use Rattle.hippo_typing.proofs.groups.found_outs.Given as goal

abbrev pub invariant-loop-out : goal.invariant-loop-out
invariant-loop-out l = record {
  left : flat_map (λ out. column_refused l.tables (column_in out)) l.outs ≡ flat_map (λ out. column_refused l.tables (column_in out)) (drop l.out-index l.outs);
  made : l.found ++ map (with_out l.tables) (drop l.out-index l.outs) ≡ map (with_out l.tables) l.outs;
}
