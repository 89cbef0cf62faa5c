-- Rows compare equal exactly when they are the same; the order is total.
use Rattle.std.proofs.Common.{◌≡◌, ◌&&◌, [], ◌∷◌, refl, sym, ◌∙◌}
use Rattle.std.specs.Ordering.{is_eq, ordering_reverse, ordering_then}
use Rattle.std.specs.declared.cmp.Ordering.{Ordering}
use Rattle.std.specs.declared.cmp.Ordering.TheVariants.{Less, Equal, Greater}
use Rattle.std.specs.Cmp.{IsTotalOrder, unsigned_ties, nat_cmp_total}
use Rattle.std.specs.Cmp.Lexicographic.{slice_cmp}
use Rattle.std.proofs.lemmas.Cmp.{lists_total}
use Rattle.hippo_values.specs.OrderLaws.{value_total}
use Rattle.hippo_model.specs.declared.cells.Cell.{Cell}
use Rattle.hippo_model.specs.declared.cells.Cell.TheVariants.{Shown, Denied}
use Rattle.hippo_model.specs.Terms.{ShownRow}
use Rattle.hippo_model.specs.Bags.{same_cell, same_row}
use Rattle.hippo_model.specs.contracts.cells.CellOrd.TheImpl as derived
use Rattle.hippo_distinct.specs.DistinctRows.{RowOrder}

-- the order of rows
abbrev pub row_order : RowOrder
row_order = slice_cmp derived.cmp-value.it

same_so : (a b : Cell) → is_eq (derived.cmp-value.it a b) ≡ same_cell a b
same_so (Shown a) (Shown b) = refl
same_so (Denied a) (Denied b) = sym (unsigned_ties a b)
same_so (Shown a) (Denied b) = refl
same_so (Denied a) (Shown b) = refl

then_equal : (first rest : Ordering) → is_eq (ordering_then first rest) ≡ (is_eq first && is_eq rest)
then_equal Less rest = refl
then_equal Equal rest = refl
then_equal Greater rest = refl

-- rows compare equal exactly when they are the same
pub order_same : (a b : ShownRow) → is_eq (row_order a b) ≡ same_row a b
order_same [] [] = refl
order_same [] (b ∷ bs) = refl
order_same (a ∷ rest) [] = refl
order_same (a ∷ rest) (b ∷ bs) =
    then_equal (derived.cmp-value.it a b) (row_order rest bs) ∙ λ i. same_so a b i && order_same rest bs i

cells_total : IsTotalOrder derived.cmp-value.it
cells_total = record { antisymm = both; trans = chain; congr = alike }
  where
    both : (a b : Cell) → derived.cmp-value.it a b ≡ ordering_reverse (derived.cmp-value.it b a)
    both (Shown a) (Shown b) = value_total.antisymm a b
    both (Shown a) (Denied b) = refl
    both (Denied a) (Shown b) = refl
    both (Denied a) (Denied b) = nat_cmp_total.antisymm a b

    chain : (a b c : Cell) → derived.cmp-value.it a b ≡ Less → derived.cmp-value.it b c ≡ Less → derived.cmp-value.it a c ≡ Less
    chain (Shown a) (Shown b) (Shown c) first second = value_total.trans a b c first second
    chain (Shown a) (Shown b) (Denied c) first second = refl
    chain (Shown a) (Denied b) (Shown c) first second = absurd cc
    chain (Shown a) (Denied b) (Denied c) first second = refl
    chain (Denied a) (Shown b) c first second = absurd cc
    chain (Denied a) (Denied b) (Shown c) first second = absurd cc
    chain (Denied a) (Denied b) (Denied c) first second = nat_cmp_total.trans a b c first second

    alike : (a b c : Cell) → derived.cmp-value.it a b ≡ Equal → derived.cmp-value.it a c ≡ derived.cmp-value.it b c
    alike (Shown a) (Shown b) (Shown c) same = value_total.congr a b c same
    alike (Shown a) (Shown b) (Denied c) same = refl
    alike (Shown a) (Denied b) c same = absurd cc
    alike (Denied a) (Shown b) c same = absurd cc
    alike (Denied a) (Denied b) (Shown c) same = refl
    alike (Denied a) (Denied b) (Denied c) same = nat_cmp_total.congr a b c same

-- the order of rows is total
pub row_total : IsTotalOrder row_order
row_total = lists_total cells_total
