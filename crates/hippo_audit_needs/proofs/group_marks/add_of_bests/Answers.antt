-- One best value after the other.
use Rattle.std.proofs.Common.{◌||◌, ap}
use Rattle.std.specs.List.{list_any}
use Rattle.std.specs.Vec.Iter.{into_iter_items}
use Rattle.hippo_join_stages.specs.Finding.{has_places}
use Rattle.hippo_audit_needs.specs.GroupMarks.{is_best_changed}
use Rattle.hippo_audit_needs.proofs.TakenLemmas.{each-taken, each-of-all}
use Rattle.hippo_audit_needs.proofs.group_marks.add_of_bests.Goals as goal

pub loop-best-init : goal.loop-best-init
loop-best-init c = λ places.
    ap (λ all. list_any (is_best_changed places) all || has_places places c.args.candidates.now.keys) c.into_iter-best-iterator.ensures.into_iter_gives.0

pub loop-best-preserved : goal.loop-best-preserved
loop-best-preserved c = each-taken is_best_changed (into_iter_items c.loop-best.best-iterator) (λ places. has_places places c.loop-best.candidates.keys) _ c.loop-best.invariant c.in-Some.best (into_iter_items c.next.new.self) (λ places. has_places places c.add_of_best.new.candidates.keys) c.in-Some.ensures.steps.0 c.in_ok-add_of_best.ensures

pub returns : goal.returns
returns c = each-of-all is_best_changed (into_iter_items c.loop-best.best-iterator) (λ places. has_places places c.loop-best.candidates.keys) _ c.loop-best.invariant c.loop-best.best-iterator.rest.len c.loop-best.best-iterator.rest.ok.0 c.in-None.ensures.steps.0
