-- Some of the remaining groups change, or the tuple is already there, exactly as at the start.
use Rattle.std.proofs.Common.{◌≡◌, List, ◌||◌}
use Rattle.std.specs.List.{list_any}
use Rattle.std.specs.Vec.Iter.{into_iter_items}
use Rattle.hippo_model.specs.Terms.{Place}
use Rattle.hippo_join_stages.specs.Finding.{has_places}
use Rattle.hippo_audit_needs.specs.GroupMarks.{changes_without}
use Rattle.hippo_audit_needs.proofs.group_marks.candidates.Given as goal

abbrev pub invariant-loop-group : goal.invariant-loop-group
invariant-loop-group l =
    (places : List Place) → (list_any (changes_without places) (into_iter_items l.group-iterator) || has_places places l.candidates.keys)
    ≡ list_any (changes_without places) l.fn.groups.items
