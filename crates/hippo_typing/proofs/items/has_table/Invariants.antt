use Rattle.std.proofs.Common.{◌≡◌, drop}
use Rattle.std.specs.Prelude.{bytes_eq}
use Rattle.std.specs.List.{list_any}
use Rattle.hippo_typing.proofs.items.has_table.Given as goal

abbrev pub invariant-loop-place : goal.invariant-loop-place
invariant-loop-place l = list_any (λ schema. bytes_eq l.name schema.name) l.tables ≡ list_any (λ schema. bytes_eq l.name schema.name) (drop l.place l.tables)
