-- The orders of values and of keys are total, and different values never compare equal.
use Rattle.std.proofs.Common.{true, List, ◌≡◌, refl, ap}
use Rattle.std.specs.Ordering.{is_eq}
use Rattle.std.specs.declared.cmp.Ordering.TheVariants.{Less, Equal, Greater}
use Rattle.std.specs.Cmp.{IsTotalOrder}
use Rattle.std.specs.FinMap.{IsAntisymmetric, slice_cmp-IsAntisymmetric, int_cmp-IsAntisymmetric, nat_cmp-IsAntisymmetric}
use Rattle.std.proofs.lemmas.Cmp.{lists_total}
use Rattle.hippo_values.specs.declared.values.Value.{Value}
use Rattle.hippo_values.specs.declared.values.Value.TheVariants.{Null, Int, Text, Day}
use Rattle.hippo_values.specs.OrderLaws.{value_total}
use Rattle.hippo_values.specs.Order.{value_cmp, cells_cmp, same_cells}

pub value_exact : IsAntisymmetric value_cmp
value_exact Null Null same = refl
value_exact Null (Int b) same = cc
value_exact Null (Text b) same = cc
value_exact Null (Day b) same = cc
value_exact (Int a) (Int b) same = ap Int (int_cmp-IsAntisymmetric a b same)
value_exact (Text a) (Text b) same = ap Text (slice_cmp-IsAntisymmetric nat_cmp-IsAntisymmetric a b same)
value_exact (Day a) (Day b) same = ap Day (int_cmp-IsAntisymmetric a b same)
value_exact a b same = cc

pub cells_total : IsTotalOrder cells_cmp
cells_total = lists_total value_total

pub cells_exact : IsAntisymmetric cells_cmp
cells_exact = slice_cmp-IsAntisymmetric value_exact

pub same_exact : (a b : List Value) → same_cells a b ≡ true → a ≡ b
same_exact a b same =
    elim (cells_cmp a b) as (λ o. cells_cmp a b ≡ o → is_eq o ≡ true → a ≡ b) [
      | Less ↦ λ e wrong. cc
      | Equal ↦ λ e right. cells_exact a b e
      | Greater ↦ λ e wrong. cc
    ] refl same
