-- The rows that the query returns are the entries that were asked for.
use Rattle.std.proofs.Common.{◌∙◌}
use Rattle.sqlite.specs.Held.{state}
use Rattle.hippo_sqlite_table.proofs.ReadLemmas.{told_by}
use Rattle.hippo_sqlite.proofs.link.find.Goals as goal

pub returns-in-Ok-entries_of-clause-told : goal.returns-in-Ok-entries_of-clause-told
returns-in-Ok-entries_of-clause-told g c clean rows schema are order =
    told_by c.args.read_query.now.selection (state g.S.Store c.args.connection.now) (state g.S.Store c.select.new.connection) c.args.read_query.now.after c.args.read_query.now.max rows c.in-Ok.rows.items c.in-Ok-entries_of.list
    schema are order (c.in-Ok.ensures.ok clean) (λ written is above few. c.in-Ok-entries_of.ensures.told written (c.as_slice.ensures.value ∙ is) above few)
