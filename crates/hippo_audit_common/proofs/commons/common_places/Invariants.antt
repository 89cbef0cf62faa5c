-- The places so far, followed by those of the common tables that are left, are all places.
use Rattle.std.proofs.Common.{◌≡◌, ◌++◌, map, drop}
use Rattle.hippo_audit_common.specs.Commons.{common_tables, place_in}
use Rattle.hippo_audit_common.proofs.commons.common_places.Given as goal

abbrev pub invariant-loop-table : goal.invariant-loop-table
invariant-loop-table l = record {
  of_query : l.query_places.items ++ map (place_in l.query) (common_tables l.query (drop l.table-index l.audit)) ≡ map (place_in l.query) (common_tables l.query l.audit);
  of_audit : l.audit_places.items ++ map (place_in l.audit) (common_tables l.query (drop l.table-index l.audit)) ≡ map (place_in l.audit) (common_tables l.query l.audit);
}
