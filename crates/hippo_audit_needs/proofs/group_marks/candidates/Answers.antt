-- One group after the other.
use Rattle.std.proofs.Common.{◌||◌, ◌∙◌}
use Rattle.std.specs.List.{list_any}
use Rattle.std.specs.Vec.Iter.{into_iter_items}
use Rattle.std.proofs.Math.Bool.{or-false}
use Rattle.hippo_join_stages.specs.Finding.{has_places}
use Rattle.hippo_audit_needs.specs.GroupMarks.{changes_without}
use Rattle.hippo_audit_needs.proofs.TakenLemmas.{each-taken, each-of-all}
use Rattle.hippo_audit_needs.proofs.group_marks.candidates.Goals as goal

pub loop-group-init : goal.loop-group-init
loop-group-init c = λ places.
    (λ i. list_any (changes_without places) (c.into_iter-group-iterator.ensures.into_iter_gives.0 i) || has_places places (c.new-candidates.ensures.empty i))
    ∙ or-false (list_any (changes_without places) c.args.groups.items)

pub loop-group-preserved : goal.loop-group-preserved
loop-group-preserved c = each-taken changes_without (into_iter_items c.loop-group.group-iterator) (λ places. has_places places c.loop-group.candidates.keys) _ c.loop-group.invariant c.in-Some.group (into_iter_items c.next.new.self) (λ places. has_places places c.add_of_group.new.candidates.keys) c.in-Some.ensures.steps.0 c.in_ok-add_of_group.ensures

pub returns : goal.returns
returns c = each-of-all changes_without (into_iter_items c.loop-group.group-iterator) (λ places. has_places places c.loop-group.candidates.keys) _ c.loop-group.invariant c.loop-group.group-iterator.rest.len c.loop-group.group-iterator.rest.ok.0 c.in-None.ensures.steps.0
