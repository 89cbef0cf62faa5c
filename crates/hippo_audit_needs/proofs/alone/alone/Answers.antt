-- One mark after the other.
use Rattle.std.proofs.Common.{◌||◌, ◌∙◌}
use Rattle.std.specs.List.{list_any}
use Rattle.std.proofs.Math.Bool.{or-false}
use Rattle.hippo_join_stages.specs.Finding.{has_places}
use Rattle.hippo_audit_search.specs.Marks.{is_one}
use Rattle.hippo_audit_needs.proofs.TakenLemmas.{one-taken, none-left}
use Rattle.hippo_audit_needs.proofs.alone.alone.Goals as goal

pub loop-mark-init : goal.loop-mark-init
loop-mark-init c = λ places.
    (λ i. list_any (λ entry. is_one places entry.1) (c.into_iter-mark-iterator.ensures.into_iter_gives.0 i) || has_places places (c.new-candidates.ensures.empty i))
    ∙ or-false (list_any (λ entry. is_one places entry.1) c.args.marks.entries)

pub loop-mark-preserved : goal.loop-mark-preserved
loop-mark-preserved c = λ places.
    one-taken (λ entry. is_one places entry.1) c.loop-mark.mark-iterator (has_places places c.loop-mark.candidates.keys) _ (c.loop-mark.invariant places)
    _ c.next.new.self (has_places places c.add_to.new.candidates.keys) c.in-Some.ensures.steps (c.in_ok-add_to.ensures places)

pub returns-clause-places : goal.returns-clause-places
returns-clause-places c = λ places.
    none-left (λ entry. is_one places entry.1) c.loop-mark.mark-iterator (has_places places c.loop-mark.candidates.keys) _ (c.loop-mark.invariant places) c.in-None.ensures.steps.0
