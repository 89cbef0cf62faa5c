-- Limits on the parts of a statement.
use Rattle.std.specs.Prelude.{ℕ, List, nat_lt}
use Rattle.hippo_model.specs.declared.name_fault.NameFault.{NameFault}
use Rattle.hippo_model.specs.declared.name_fault.NameFault.TheVariants.{TooManyParts}
use Rattle.hippo_typing_catalog.specs.Refusals.{fault_if}

-- more parts than the limit
abbrev pub too_many : ℕ → ℕ → List NameFault
too_many limit count = fault_if (nat_lt limit count) (TooManyParts limit)
