-- One more table.
use Rattle.std.proofs.Common.{ap, ◌∙◌, map, length, nat_lt, if◌then◌else◌, ◌++◌, ◌∷◌, [], ℕ}
use Rattle.hippo_audit_common.specs.Commons.{common_tables, place_in}
use Rattle.hippo_audit_common.proofs.LoopLemmas.{one-more}
use Rattle.hippo_audit_common.proofs.commons.common_places.Goals as goal

pub loop-table-preserved : goal.loop-table-preserved
loop-table-preserved c =
    let query = c.args.query.now in
    let audit = c.args.audit.now in
    let test = nat_lt c.place_in-place.result (length c.args.query.now) in
    record {
      of_query =
          one-more (place_in query) query audit c.loop-table.table-index c.table-item.result c.loop-table-test.true c.table-item.is
          c.loop-table.query_places.items c.push_if.new.places.items (map (place_in query) (common_tables query audit)) test
          (ap (λ (place : ℕ). nat_lt place (length c.args.query.now)) c.place_in-place.ensures)
          (c.in_ok-push_if.ensures ∙ ap (λ (place : ℕ). if test then c.loop-table.query_places.items ++ place ∷ [] else c.loop-table.query_places.items) c.place_in-place.ensures)
          c.loop-table.invariant.of_query;
      of_audit =
          one-more (place_in audit) query audit c.loop-table.table-index c.table-item.result c.loop-table-test.true c.table-item.is
          c.loop-table.audit_places.items c.push_if-in-loop-table.new.places.items (map (place_in audit) (common_tables query audit)) test
          (ap (λ (place : ℕ). nat_lt place (length c.args.query.now)) c.place_in-place.ensures)
          (c.in_ok-push_if-2.ensures ∙ ap (λ (place : ℕ). if test then c.loop-table.audit_places.items ++ place ∷ [] else c.loop-table.audit_places.items) c.place_in.ensures)
          c.loop-table.invariant.of_audit;
    }
