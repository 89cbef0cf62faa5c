-- One more place.
use Rattle.std.proofs.Common.{◌≡◌, ap, sym, ◌∙◌, List, ℕ, [], ◌∷◌, ◌++◌, add-one, arith}
use Rattle.std.specs.List.{range_with_len}
use Rattle.hippo_tables_rows.proofs.EntryLemmas.{range-more}
use Rattle.hippo_tables_rows.proofs.column_order.places_to.Goals as goal

pub loop-place-preserved : goal.loop-place-preserved
loop-place-preserved c =
    c.in_ok-push.ensures.ok ∙ ap (λ (l : List ℕ). l ++ c.loop-place.place ∷ []) c.loop-place.invariant ∙ sym (range-more c.loop-place.place) ∙ ap (range_with_len 0) (sym (add-one c.loop-place.place))

pub returns : goal.returns
returns c =
    let end : c.loop-place.place ≡ c.args.last = omega arith in
    c.in_ok-push-2.ensures.ok ∙ ap (λ (l : List ℕ). l ++ c.args.last ∷ []) (c.loop-place.invariant ∙ ap (range_with_len 0) end) ∙ sym (range-more c.args.last)
