-- The places in a table are tried in ascending order, with the rows that were chosen before.
use Rattle.std.proofs.Common.{◌≡◌, suc, ◌∷◌, length, None, Some, refl, ap, ◌∙◌, arith}
use Rattle.std.specs.Prelude.{slice_set}
use Rattle.hippo_audit_search.proofs.SearchLemmas.{ready-none, ready-next, ready-same, split-ready, first-stages, first-made, none-more, none-tried, none-may, none-left, first-same, reset}
use Rattle.hippo_audit_search.proofs.searching.Search.+first.Goals as goal
use Rattle.hippo_audit_search.proofs.searching.Search.+first.Goals.{first_onward-then-branch+in_ok-found, first_onward-else-branch}

pub first-first_of_none-requires : goal.first-first_of_none-requires
first-first_of_none-requires g t c = ready-none g.C.ChoiceView.choices c.args.self.now c.args.common.now c.args.query.now c.args.audit.now c.requires

pub first-returns-in_default : goal.first-returns-in_default
first-returns-in_default g t c =
    none-left g.C.ChoiceView.choices c.args.self.now c.args.common.now c.args.query.now c.args.audit.now c.first_of_none.new.query c.first_of_none.new.audit c.first_of_none.result c.in_default.ensures.cases c.first_of_none.ensures

pub first-places_of-requires-clause-query : goal.first-places_of-requires-clause-query
first-places_of-requires-clause-query g t c =
    (first-stages g.C.ChoiceView.choices c.args.self.now c.args.common.now c.in-Some.stages.now c.in-Some.rest.now c.in-Some.ensures.cases.0 c.args.query.now c.args.audit.now c.requires).0

pub first-places_of-requires-clause-audit : goal.first-places_of-requires-clause-audit
first-places_of-requires-clause-audit g t c =
    (first-stages g.C.ChoiceView.choices c.args.self.now c.args.common.now c.in-Some.stages.now c.in-Some.rest.now c.in-Some.ensures.cases.0 c.args.query.now c.args.audit.now c.requires).1

pub first-loop-place-init : goal.first-loop-place-init
first-loop-place-init g t c = record { same_query = refl; same_audit = refl; so_far = λ k lower others share. absurd (omega arith) }

pub first-returns-in-Some-2 : goal.first-returns-in-Some-2
first-returns-in-Some-2 g t c =
    first-made g.C.ChoiceView.choices c.args.self.now c.args.common.now c.in-Some.stages.now c.in-Some.rest.now c.in-Some.ensures.cases.0 c.args.query.now c.args.audit.now c.requires
    c.deref-place-items.result.now c.in_ok-places.places.items c.deref-place-items.ensures.value c.in_ok-places.ensures.order c.in_ok-places.ensures.reach
    c.loop-place.query c.loop-place.audit c.loop-place.invariant.same_query c.loop-place.invariant.same_audit c.in_ok-others.field-0 c.loop-place.place-index c.in_ok-others.ensures.first c.loop-place.invariant.so_far
    c.first_onward.new.query c.first_onward.new.audit c.in_ok-others.ensures.same_query c.in_ok-others.ensures.same_audit (omega (arith, c.loop-place-test.true)) c.in-Some-2.others c.in-Some-2.is c.in_ok-with_first.field-0 c.in_ok-with_first.ensures

pub first-loop-place-preserved : goal.first-loop-place-preserved
first-loop-place-preserved g t c = record {
  same_query = c.in_ok-others.ensures.same_query ∙ c.loop-place.invariant.same_query;
  same_audit = c.in_ok-others.ensures.same_audit ∙ c.loop-place.invariant.same_audit;
  so_far =
      none-more g.C.ChoiceView.choices c.args.self.now c.args.common.now c.in-Some.stages.now c.in-Some.rest.now c.in-Some.ensures.cases.0 c.args.query.now c.args.audit.now c.requires
      c.deref-place-items.result.now c.in_ok-places.places.items c.deref-place-items.ensures.value c.in_ok-places.ensures.order c.in_ok-places.ensures.reach
      c.loop-place.query c.loop-place.audit c.loop-place.invariant.same_query c.loop-place.invariant.same_audit c.in_ok-others.field-0 c.loop-place.place-index c.in_ok-others.ensures.first c.loop-place.invariant.so_far
      c.in_default-2.is;
}

pub first-returns : goal.first-returns
first-returns g t c = record {
  same_query = c.loop-place.invariant.same_query;
  same_audit = c.loop-place.invariant.same_audit;
  first =
      none-tried g.C.ChoiceView.choices c.args.self.now c.args.common.now c.in-Some.stages.now c.in-Some.rest.now c.in-Some.ensures.cases.0 c.args.query.now c.args.audit.now c.requires
      c.deref-place-items.result.now c.in_ok-places.places.items c.deref-place-items.ensures.value c.in_ok-places.ensures.order c.in_ok-places.ensures.reach
      c.loop-place.place-index (omega (arith, c.loop-place-test.false)) c.loop-place.invariant.so_far;
}

pub first_onward-first-requires : goal.first_onward-first-requires
first_onward-first-requires g t c κs within =
    (omega arith, (within, ready-next g.C.ChoiceView.choices c.args.self.now c.args.stages.now c.args.rest.now c.args.query.now c.args.audit.now c.args.place c.requires))

pub first_onward-returns : goal.first_onward-returns
first_onward-returns g t c =
    let query = slice_set c.args.query.now c.args.stages.now.query.now.table (Some c.args.place) in
    let audit = slice_set c.args.audit.now c.args.stages.now.audit.now.table (Some c.args.place) in
    let ready = ready-next g.C.ChoiceView.choices c.args.self.now c.args.stages.now c.args.rest.now c.args.query.now c.args.audit.now c.args.place c.requires in
    let query_again = reset c.args.query.now c.if-branch.query c.args.stages.now.query.now.table c.args.place c.requires.query_open.0 in
    let audit_again = reset c.args.audit.now c.if-branch.audit c.args.stages.now.audit.now.table c.args.place c.requires.audit_open.0 in
    elim c.if-branch.branch [
      | first_onward-then-branch+in_ok-found w ↦ record {
        same_query = query_again (w.query-is ∙ w.in_ok-found.ensures.same_query);
        same_audit = audit_again (w.audit-is ∙ w.in_ok-found.ensures.same_audit);
        first = first-same g.C.ChoiceView.choices c.args.self.now c.args.rest.now query audit c.if-branch.found _ w.found-is w.in_ok-found.ensures.first;
      }
      | first_onward-else-branch w ↦ record {
        same_query = query_again w.query-is;
        same_audit = audit_again w.audit-is;
        first =
            first-same g.C.ChoiceView.choices c.args.self.now c.args.rest.now query audit c.if-branch.found None w.found-is
            (none-may g.C.ChoiceView.choices c.args.self.now c.args.rest.now query audit ready c.in_ok-may_share.field-0 c.in_ok-may_share.ensures w.if-branch.false);
      }
    ]

pub first-first_onward-requires : goal.first-first_onward-requires
first-first_onward-requires g t c κs within =
    let shorter : length c.args.common.now ≡ suc (length c.in-Some.rest.now) = ap length c.in-Some.ensures.cases.0 in (
      omega arith,
      (
        within,
        ready-same g.C.ChoiceView.choices c.args.self.now (c.in-Some.stages.now ∷ c.in-Some.rest.now) c.args.query.now c.loop-place.query c.args.audit.now c.loop-place.audit c.loop-place.invariant.same_query c.loop-place.invariant.same_audit
            (split-ready g.C.ChoiceView.choices c.args.self.now c.args.common.now c.in-Some.stages.now c.in-Some.rest.now c.in-Some.ensures.cases.0 c.args.query.now c.args.audit.now c.requires),
      ),
    )
