-- The rows were read and their denied cells listed, or a fault came first.
use Rattle.std.proofs.Common.{Ok, Err}
use Rattle.hippo_audit_explain.proofs.DenyingLemmas.{table_read, table_unread}
use Rattle.hippo_audit_explain.proofs.denials.read_table.Goals as goal

pub returns-in-Ok-list_table-clause-reads : goal.returns-in-Ok-list_table-clause-reads
returns-in-Ok-list_table-clause-reads g c =
    table_read c.args.schema.now c.args.wanted.now.rules c.args.query.now c.args.wanted.now.limit (g.P.Keeper.state c.args.keeper.now) (g.P.Keeper.state c.snapshot.new.keeper) c.args.steps.now c.snapshot.new.steps
    c.in-Ok.rows (Ok tt) c.args.cells.now c.list_table.new.cells c.in-Ok.ensures.snapshots c.in-Ok-list_table.ensures.lists

pub returns-in-Ok-clause-reads : goal.returns-in-Ok-clause-reads
returns-in-Ok-clause-reads g c = rw c.fault_of.ensures
    (table_read c.args.schema.now c.args.wanted.now.rules c.args.query.now c.args.wanted.now.limit (g.P.Keeper.state c.args.keeper.now) (g.P.Keeper.state c.snapshot.new.keeper) c.args.steps.now c.snapshot.new.steps
    c.in-Ok.rows (Err c.in-Err-list_table.fault) c.args.cells.now c.list_table.new.cells c.in-Ok.ensures.snapshots c.in-Err-list_table.ensures.lists)

pub returns-clause-reads : goal.returns-clause-reads
returns-clause-reads g c =
    table_unread c.args.schema.now c.args.wanted.now.rules c.args.query.now c.args.wanted.now.limit (g.P.Keeper.state c.args.keeper.now) (g.P.Keeper.state c.snapshot.new.keeper) c.args.steps.now c.snapshot.new.steps
    c.in-Err.fault c.args.cells.now c.in-Err.ensures.snapshots
