-- The table is at none of the places so far.
use Rattle.std.proofs.Common.{◌≡◌, ◌+◌, drop}
use Rattle.hippo_audit_common.specs.Commons.{place_in}
use Rattle.hippo_audit_common.proofs.commons.place_in.Given as goal

abbrev pub invariant-loop-other : goal.invariant-loop-other
invariant-loop-other l = record {
  counted : l.place ≡ l.other-index;
  left : place_in l.tables l.table ≡ l.place + place_in (drop l.other-index l.tables) l.table;
}
