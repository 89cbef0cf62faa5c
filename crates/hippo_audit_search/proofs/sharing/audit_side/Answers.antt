-- The places are those of the common tables, by the names in FROM.
use Rattle.std.proofs.Common.{map, ◌∙◌}
use Rattle.hippo_audit_common.specs.Commons.{common_tables, place_in}
use Rattle.hippo_audit_search.proofs.sharing.audit_side.Goals as goal

pub returns : goal.returns
returns c = record {
  condition = c.in_ok-unmasked.ensures;
  query_places = c.in_ok-common.ensures.query ∙ (λ i. map (place_in (c.as_slice.ensures i)) (common_tables (c.as_slice.ensures i) (c.as_slice-2.ensures i)));
  audit_places = c.in_ok-common.ensures.audit ∙ (λ i. map (place_in (c.as_slice-2.ensures i)) (common_tables (c.as_slice.ensures i) (c.as_slice-2.ensures i)));
  blank_is = c.in_ok-blank.ensures;
}
