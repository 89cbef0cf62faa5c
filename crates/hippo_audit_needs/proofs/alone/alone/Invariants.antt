-- The places so far and those of the remaining marks are those of all marks.
use Rattle.std.proofs.Common.{◌≡◌, ◌||◌, List}
use Rattle.std.specs.List.{list_any}
use Rattle.hippo_model.specs.Terms.{Place}
use Rattle.hippo_join_stages.specs.Finding.{has_places}
use Rattle.hippo_audit_search.specs.Marks.{is_one}
use Rattle.hippo_audit_needs.proofs.alone.alone.Given as goal

abbrev pub invariant-loop-mark : goal.invariant-loop-mark
invariant-loop-mark l = (places : List Place)
    → (list_any (λ entry. is_one places entry.1) l.mark-iterator || has_places places l.candidates.keys) ≡ list_any (λ entry. is_one places entry.1) l.fn.marks.entries
