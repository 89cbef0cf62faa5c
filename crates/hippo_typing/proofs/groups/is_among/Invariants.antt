use Rattle.std.proofs.Common.{◌≡◌, drop}
use Rattle.std.specs.List.{list_any}
use Rattle.hippo_typing_catalog.specs.Selects.{same_reference}
use Rattle.hippo_typing.proofs.groups.is_among.Given as goal

abbrev pub invariant-loop-other : goal.invariant-loop-other
invariant-loop-other l = list_any (λ other. same_reference l.column other.1) l.others ≡ list_any (λ other. same_reference l.column other.1) (drop l.other-index l.others)
