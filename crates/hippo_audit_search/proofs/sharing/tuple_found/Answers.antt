-- The tuple of the rows at these places, one for each common table.
use Rattle.std.proofs.Common.{◌≡◌, length, sym, ap, ◌∙◌, Some}
use Rattle.hippo_audit_search.specs.Sides.{places_beside}
use Rattle.hippo_audit_search.specs.Tuples.{tuple_at}
use Rattle.hippo_audit_search.proofs.SharedTheorem.{below-sets, below-names}
use Rattle.hippo_audit_search.proofs.sharing.tuple_found.Goals as goal

pub tuple_at-requires-clause-names : goal.tuple_at-requires-clause-names
tuple_at-requires-clause-names g c =
    below-names c.args.compared.now.query.now c.args.compared.now.audited.now c.requires.rows c.deref.result.now c.as_slice-names.result.now (c.deref.ensures.value ∙ c.requires.side.audit_places) c.as_slice-names.ensures

pub tuple_at-requires-clause-sets : goal.tuple_at-requires-clause-sets
tuple_at-requires-clause-sets g c = below-sets c.args.compared.now.query.now c.args.compared.now.audited.now c.requires.rows c.deref.result.now (c.deref.ensures.value ∙ c.requires.side.audit_places)

pub tuple_at-requires-clause-places : goal.tuple_at-requires-clause-places
tuple_at-requires-clause-places g c =
    let long : length c.in-Some.places.items ≡ length (places_beside c.args.compared.now) = rw c.in-Some.is at c.requires.places in
    ap length c.deref-in-Some.ensures.value ∙ long ∙ sym (ap length (c.deref.ensures.value ∙ c.requires.side.audit_places))

pub returns-in_ok-tuple-in-Some : goal.returns-in_ok-tuple-in-Some
returns-in_ok-tuple-in-Some g c =
    rw c.in-Some.is
    (ap Some (c.in_ok-tuple-in-Some.ensures ∙ (λ i. tuple_at (c.as_slice-names.ensures i) c.args.compared.now.audited.now.audit_sets.now ((c.deref.ensures.value ∙ c.requires.side.audit_places) i) (c.deref-in-Some.ensures.value i))))
