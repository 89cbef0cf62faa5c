-- One more place.
use Rattle.std.proofs.Common.{ap, sym, ◌∙◌, List, ℕ, [], ◌∷◌, ◌++◌, map, add-one}
use Rattle.std.specs.List.{range_with_len}
use Rattle.std.proofs.lemmas.List.{map-append}
use Rattle.hippo_tables_rows.proofs.EntryLemmas.{range-more}
use Rattle.hippo_tables_rows.proofs.column_order.ranked.Goals as goal

pub loop-place-preserved : goal.loop-place-preserved
loop-place-preserved c =
    ap (map (λ pair. pair.1)) c.in_ok-push.ensures.items ∙ map-append (λ pair. pair.1) c.loop-place.ranked.items _
    ∙ ap (λ (l : List ℕ). l ++ c.loop-place.place ∷ []) c.loop-place.invariant ∙ sym (range-more c.loop-place.place) ∙ ap (range_with_len 0) (sym (add-one c.loop-place.place))
