use Rattle.std.proofs.Common.{◌≡◌, ◌+◌, ◌≤◌, ◌++◌, length, drop}
use Rattle.hippo_typing.specs.Found.{shown_found}
use Rattle.hippo_typing.proofs.groups.shown_outs.Given as goal

abbrev pub invariant-loop-found : goal.invariant-loop-found
invariant-loop-found l = record {
  room : l.next ≤ length l.by + l.found-index;
  made : l.shown ++ shown_found l.by l.next (drop l.found-index l.outs) ≡ shown_found l.by (length l.by) l.outs;
}
