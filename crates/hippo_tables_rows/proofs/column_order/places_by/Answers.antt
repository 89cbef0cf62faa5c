-- Sorting permutes the places.
use Rattle.std.proofs.Common.{subst, sym, ap, ◌∙◌, List, ℕ, map, length}
use Rattle.std.specs.List.{range_with_len}
use Rattle.std.specs.List.Sorted.{IsPermutation}
use Rattle.std.proofs.lemmas.List.Sorted.{IsPermutation-map}
use Rattle.std.proofs.lemmas.Result.{IfOk-weaker}
use Rattle.hippo_tables_rows.proofs.column_order.places_by.Goals as goal

pub returns : goal.returns
returns c =
    let moved =
    subst (λ (l : List ℕ). IsPermutation l (map (λ pair. pair.1) c.sort_unstable.new.self.items)) c.in_ok-ranked.ensures
    (IsPermutation-map (λ pair. pair.1) _ _ c.sort_unstable.ensures.permutation) in
    IfOk-weaker c.places_in.result _ _
    (λ places is. subst (λ (l : List ℕ). IsPermutation (range_with_len 0 (length c.args.set.now.rows)) l) (sym (is ∙ ap (map (λ pair. pair.1)) c.deref.ensures.value)) moved)
    c.places_in.ensures
