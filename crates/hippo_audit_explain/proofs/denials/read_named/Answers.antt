use Rattle.std.proofs.Common.{sym}
use Rattle.hippo_audit_explain.proofs.DenyingLemmas.{named_read, unknown_read}
use Rattle.hippo_audit_explain.proofs.denials.read_named.Goals as goal

pub returns-in-None-clause-reads : goal.returns-in-None-clause-reads
returns-in-None-clause-reads g c =
    unknown_read c.args.wanted.now.catalog.now.names c.args.wanted.now.rules c.args.query.now c.args.wanted.now.limit c.args.name.now c.args.wanted.now.rules.number c.args.cells.now (g.P.Keeper.state c.args.keeper.now) c.args.steps.now c.requires.may.ready (sym c.in-None.ensures)

pub returns-in-Some-clause-reads : goal.returns-in-Some-clause-reads
returns-in-Some-clause-reads g c =
    named_read c.args.wanted.now.catalog.now.names c.args.wanted.now.rules c.args.query.now c.args.wanted.now.limit c.args.name.now c.in-Some.schema.now c.read_table.result c.args.cells.now c.read_table.new.cells
    (g.P.Keeper.state c.args.keeper.now) (g.P.Keeper.state c.read_table.new.keeper) c.args.steps.now c.read_table.new.steps (sym c.in-Some.ensures) c.read_table.ensures.reads
