-- The entries of an order of the patients by postal code.
use Rattle.std.proofs.Common.{◌≡◌, pos, [], ◌∷◌, refl}
use Rattle.hippo_values.specs.declared.values.Value.TheVariants.{Null, Int}
use Rattle.hippo_tables_keyed.specs.RowSets.{KeyedRows}
use Rattle.hippo_tables_rows.specs.ColumnOrders.{order_key, HasOrderKey}
use Rattle.hippo_model_laws.proofs.ExampleHistories.{ada, bob, born_in_the_morning}

-- Bob's row has no code, so his entry comes first
abbrev by_code : KeyedRows
by_code = record {
  key = 0 ∷ 1 ∷ [];
  rows = born_in_the_morning (Null ∷ Int (pos 2) ∷ []) ∷ born_in_the_morning (Int (pos 95120) ∷ Int (pos 1) ∷ []) ∷ [];
}

entry_is_the_code_and_the_key : order_key 3 (0 ∷ []) ada ≡ Int (pos 95120) ∷ Int (pos 1) ∷ []
entry_is_the_code_and_the_key = refl

entry_of_a_row_without_a_code : order_key 3 (0 ∷ []) bob ≡ Null ∷ Int (pos 2) ∷ []
entry_of_a_row_without_a_code = refl

ada_has_her_entry : HasOrderKey by_code (order_key 3 (0 ∷ []) ada)
ada_has_her_entry = refl

bob_has_his_entry : HasOrderKey by_code (order_key 3 (0 ∷ []) bob)
bob_has_his_entry = refl
