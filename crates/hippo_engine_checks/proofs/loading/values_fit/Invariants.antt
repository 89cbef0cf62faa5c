-- The values not yet visited.
use Rattle.std.proofs.Common.{◌≡◌, drop}
use Rattle.std.specs.List.{list_all}
use Rattle.hippo_typing_laws.specs.Written.{is_typed}
use Rattle.hippo_engine_checks.proofs.loading.values_fit.Given as goal

abbrev pub invariant-loop-value : goal.invariant-loop-value
invariant-loop-value l = list_all is_typed l.values ≡ list_all is_typed (drop l.value-index l.values)
