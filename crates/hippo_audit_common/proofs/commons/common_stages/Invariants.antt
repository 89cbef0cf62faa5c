-- The stages so far are those at the first places.
use Rattle.std.proofs.Common.{◌≡◌, map, take}
use Rattle.hippo_audit_common.proofs.commons.common_stages.Given as goal

abbrev pub invariant-loop-place : goal.invariant-loop-place
invariant-loop-place l = record {
  of_query : map (λ stages. stages.query.now) l.common.items ≡ take l.place l.query;
  of_audit : map (λ stages. stages.audit.now) l.common.items ≡ take l.place l.audit;
}
