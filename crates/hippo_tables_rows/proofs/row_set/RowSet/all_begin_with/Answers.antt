-- Values that compare equal are the same.
use Rattle.std.proofs.Common.{◌≡◌, List, subst}
use Rattle.std.specs.declared.cmp.Ordering.TheVariants.{Equal}
use Rattle.hippo_values.specs.declared.values.Value.{Value}
use Rattle.hippo_model.specs.Rows.{key_of}
use Rattle.hippo_tables_keyed.specs.RowSets.{KeyedRows, row_at_place}
use Rattle.hippo_tables_keyed.proofs.Orders.{value_exact}
use Rattle.hippo_tables_rows.specs.Ranges.{front_cmp}
use Rattle.hippo_tables_rows.proofs.RangeLemmas.{first-value}
use Rattle.hippo_tables_rows.proofs.row_set.RowSet.all_begin_with.Goals as goal

pub returns : goal.returns
returns c = λ yes column first place from to.
    value_exact _ _ (first-value c.args.self.now column place c.args.value.now first
    (subst (λ (front : List Value). front_cmp (key_of c.args.self.now.key (row_at_place c.args.self.now.rows place).row) front ≡ Equal) c.from_ref.ensures.value
    (subst (λ (set : KeyedRows). front_cmp (key_of set.key (row_at_place set.rows place).row) c.from_ref.result.now ≡ Equal) c.self.view_is (c.all_begin_with.ensures yes place from to))))
