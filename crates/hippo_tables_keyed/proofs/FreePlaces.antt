-- The place of a row that is inserted, and of one that is replaced.
use Rattle.std.proofs.Common.{◌≡◌, ℕ, ◌<◌, ◌≤◌, List, map, length, get_or, set, Some, sym, ap, ◌∙◌, arith}
use Rattle.std.specs.List.{insert, HoldsAt}
use Rattle.std.specs.List.Sorted.{IsPartitionPoint}
use Rattle.std.specs.declared.cmp.Ordering.TheVariants.{Less, Equal, Greater}
use Rattle.std.proofs.lemmas.Cmp.{tied_itself}
use Rattle.std.proofs.lemmas.List.Edits.{get_or-insert_at, length-insert}
use Rattle.std.proofs.lemmas.List.Quantifiers.{position-Some}
use Rattle.hippo_values.specs.declared.moments.Moment.{Moment}
use Rattle.hippo_values.specs.Order.{cells_cmp, same_cells}
use Rattle.hippo_model.specs.declared.born_row.BornRow.{BornRow}
use Rattle.hippo_model.specs.Terms.{Place, Row}
use Rattle.hippo_model.specs.Rows.{key_of}
use Rattle.hippo_tables_keyed.specs.RowSets.{KeyedRows, IsAscending, IsFree, key_in, put_row, find_row, with_row}
use Rattle.hippo_tables_keyed.proofs.Orders.{cells_total, same_exact}
use Rattle.hippo_tables_keyed.proofs.KeptRows.{order_of, shown, find_row-found, find_row-missing, with_row-found, with_row-missing, IsAscending-insert}

module _ (held : KeyedRows) (row : Row) (place : ℕ) (ascends : IsAscending (map (key_in held.key) held.rows)) (within : place ≤ length held.rows) (parted : IsPartitionPoint (λ member. order_of held.key (key_of held.key row) member ≡ Less) (λ member. order_of held.key (key_of held.key row) member ≡ Greater) held.rows place) where
  put_so : (born : Moment) → put_row held.key (record { row = row; born = born }) held.rows ≡ insert held.rows place (record { row = row; born = born })
  put_so born = ap (λ (kept : KeyedRows). kept.rows) (sym (with_row-missing held.key (record { row = row; born = born }) held.rows place within parted))

  stands_so : (born : Moment) → find_row held.key (key_of held.key row) (insert held.rows place (record { row = row; born = born })) ≡ Some place
  stands_so born =
      let kept : BornRow = record { row = row; born = born } in
      find_row-found held.key (key_of held.key row) (insert held.rows place kept) place
      (IsAscending-insert held.key kept held.rows place ascends within parted)
      (omega (arith, length-insert held.rows place kept within))
      (λ d. ap (λ (other : BornRow). cells_cmp (key_in held.key other) (key_of held.key row)) (get_or-insert_at held.rows place kept d within) ∙ tied_itself cells_total (key_of held.key row))

  -- when a search finds no row with the key, it gives the place for an insert
  pub is_free : IsFree held row place
  is_free = record {
    missing = find_row-missing held.key (key_of held.key row) held.rows place parted;
    within = within;
    put = put_so;
    found = λ born. ap (find_row held.key (key_of held.key row)) (put_so born) ∙ stands_so born;
  }

-- a row that replaces the one with its key
module _ (places : List Place) (kept : BornRow) (rows : List BornRow) (place : ℕ) (ascends : IsAscending (map (key_in places) rows)) (found : find_row places (key_in places kept) rows ≡ Some place) where
  pub found_within : place < length rows
  found_within = (position-Some (λ other. same_cells (key_in places other) (key_in places kept)) rows place kept found).0

  same_at : HoldsAt (λ member. order_of places (key_in places kept) member ≡ Equal) rows place
  same_at d =
      let same = same_exact (key_in places (get_or rows place d)) (key_in places kept) (position-Some (λ other. same_cells (key_in places other) (key_in places kept)) rows place d found).1 in
      ap (λ key. cells_cmp key (key_in places kept)) same ∙ tied_itself cells_total (key_in places kept)

  pub set_so : shown places (set rows place kept) ≡ with_row kept (shown places rows)
  set_so = with_row-found places kept rows place ascends found_within same_at
