-- The copy is the row.
use Rattle.std.proofs.Common.{◌≡◌, Some, subst, sym, ap, ◌∙◌}
use Rattle.hippo_model.specs.Terms.{Row}
use Rattle.hippo_model.specs.Rows.{key_of}
use Rattle.hippo_tables_keyed.specs.RowSets.{find_row}
use Rattle.hippo_tables.specs.Before.{before_of, renewed_table}
use Rattle.hippo_tables.specs.KeptTables.{KeptTable}
use Rattle.hippo_tables.proofs.table.Table.update_copy.Goals as goal

pub renew-requires : goal.renew-requires
renew-requires c =
    ap (λ (row : Row). find_row c.args.self.now.rows.key (key_of c.args.self.now.rows.key row) c.args.self.now.rows.rows) c.in_ok-copied.ensures
    ∙ subst (λ (table : KeptTable). find_row table.rows.key (key_of table.rows.key c.args.row.now) table.rows.rows ≡ Some c.in-Some.place) c.self.view_is (sym c.in-Some.ensures.place)

pub returns-clause-ok : goal.returns-clause-ok
returns-clause-ok c = c.renew.ensures.renewed ∙ ap (λ (row : Row). renewed_table row c.args.number c.args.self.now) c.in_ok-copied.ensures

pub returns-clause-before : goal.returns-clause-before
returns-clause-before c = sym c.renew.ensures.before ∙ ap (λ (row : Row). before_of (key_of c.args.self.now.rows.key row) c.args.self.now) c.in_ok-copied.ensures
