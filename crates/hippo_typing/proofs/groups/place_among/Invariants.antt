use Rattle.std.proofs.Common.{◌≡◌, ◌+◌, drop}
use Rattle.std.specs.List.{position_or_len}
use Rattle.hippo_typing_catalog.specs.Selects.{same_reference}
use Rattle.hippo_typing.proofs.groups.place_among.Given as goal

abbrev pub invariant-loop-other : goal.invariant-loop-other
invariant-loop-other l = record {
  counted : l.place ≡ l.other-index;
  left : position_or_len (λ other. same_reference l.column other.1) l.others ≡ l.place + position_or_len (λ other. same_reference l.column other.1) (drop l.other-index l.others);
}
