-- Some of the remaining best values change, or the tuple is already there, exactly as at the start.
use Rattle.std.proofs.Common.{◌≡◌, List, ◌||◌}
use Rattle.std.specs.List.{list_any}
use Rattle.std.specs.Vec.Iter.{into_iter_items}
use Rattle.hippo_model.specs.Terms.{Place}
use Rattle.hippo_join_stages.specs.Finding.{has_places}
use Rattle.hippo_audit_needs.specs.GroupMarks.{is_best_changed}
use Rattle.hippo_audit_needs.proofs.group_marks.add_of_bests.Given as goal

abbrev pub invariant-loop-best : goal.invariant-loop-best
invariant-loop-best l =
    (places : List Place) → (list_any (is_best_changed places) (into_iter_items l.best-iterator) || has_places places l.candidates.keys)
    ≡ (list_any (is_best_changed places) l.fn.bests.items || has_places places l.initial.candidates.keys)
