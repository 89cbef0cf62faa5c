-- In rows ordered by their keys, equal keys belong to one row.
use Rattle.std.proofs.Common.{◌≡◌, ℕ, zero, suc, ◌<◌, List, [], ◌∷◌, map, length, refl, sym, ap, ◌∙◌, arith}
use Rattle.std.specs.Ordering.{is_eq}
use Rattle.std.specs.Cmp.{eq_by_cmp_equiv}
use Rattle.std.specs.declared.cmp.Ordering.TheVariants.{Less}
use Rattle.std.proofs.lemmas.Bool.{false≢true}
use Rattle.hippo_values.specs.Order.{cells_cmp}
use Rattle.hippo_model.specs.declared.born_row.BornRow.{BornRow}
use Rattle.hippo_model.specs.Terms.{Key, Place}
use Rattle.hippo_tables_keyed.specs.RowSets.{IsAscending, IsBelowAll, key_in}
use Rattle.hippo_tables_keyed.proofs.Orders.{cells_total}
use Rattle.hippo_join_lookups.specs.Places.{row_at_place}

not_below_itself : (a b : Key) → cells_cmp a b ≡ Less → ¬ (a ≡ b)
not_below_itself a b less same = false≢true (sym (ap is_eq less) ∙ ap (λ (k : Key). is_eq (cells_cmp a k)) (sym same) ∙ (eq_by_cmp_equiv cells_total).refl a)

pub below_at : (key : List Place) (first : Key) (rows : List BornRow) (k : ℕ) → IsBelowAll first (map (key_in key) rows) → k < length rows → cells_cmp first (key_in key (row_at_place rows k)) ≡ Less
below_at key first [] k below within = absurd (omega arith)
below_at key first (row ∷ rows) zero below within = below.0
below_at key first (row ∷ rows) (suc k) below within = below_at key first rows k below.1 (omega arith)

pub one-place : (key : List Place) (rows : List BornRow) (p k : Place) → IsAscending (map (key_in key) rows) → p < length rows → k < length rows → key_in key (row_at_place rows p) ≡ key_in key (row_at_place rows k) → p ≡ k
one-place key [] p k ascends within there same = absurd (omega arith)
one-place key (row ∷ rows) zero zero ascends within there same = refl
one-place key (row ∷ rows) zero (suc k) ascends within there same = absurd (not_below_itself (key_in key row) (key_in key (row_at_place rows k)) (below_at key (key_in key row) rows k ascends.0 (omega arith)) same)
one-place key (row ∷ rows) (suc p) zero ascends within there same = absurd (not_below_itself (key_in key row) (key_in key (row_at_place rows p)) (below_at key (key_in key row) rows p ascends.0 (omega arith)) (sym same))
one-place key (row ∷ rows) (suc p) (suc k) ascends within there same = ap suc (one-place key rows p k ascends.1 (omega arith) (omega arith) same)
