-- The copy is the row.
use Rattle.std.proofs.Common.{ap, ◌∙◌}
use Rattle.hippo_model.specs.Terms.{Row}
use Rattle.hippo_tables.specs.KeptTables.{after_insert}
use Rattle.hippo_tables.proofs.table.Table.insert_copy.Goals as goal

pub returns-clause-ok : goal.returns-clause-ok
returns-clause-ok c = c.in_ok-insert.ensures.ok ∙ ap (λ (row : Row). after_insert (record { row = row; born = c.args.born }) c.args.number c.args.self.now) c.in_ok-row.ensures
