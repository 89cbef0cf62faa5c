-- Each cell, and each row of cells, equals itself.
use Rattle.std.proofs.Common.{◌≡◌, true, [], ◌∷◌, refl}
use Rattle.std.specs.Cmp.{eq_by_cmp_equiv, nat_eq_equiv}
use Rattle.std.proofs.lemmas.Bool.{and_from}
use Rattle.hippo_values.specs.OrderLaws.{value_total}
use Rattle.hippo_model.specs.declared.cells.Cell.{Cell}
use Rattle.hippo_model.specs.declared.cells.Cell.TheVariants.{Shown, Denied}
use Rattle.hippo_model.specs.Terms.{ShownRow}
use Rattle.hippo_model.specs.Bags.{same_cell, same_row}

pub same_cell-refl : (cell : Cell) → same_cell cell cell ≡ true
same_cell-refl (Shown value) = (eq_by_cmp_equiv value_total).refl value
same_cell-refl (Denied rule) = nat_eq_equiv.refl rule

pub same_row-refl : (row : ShownRow) → same_row row row ≡ true
same_row-refl [] = refl
same_row-refl (cell ∷ row) = and_from _ _ (same_cell-refl cell) (same_row-refl row)
