use Rattle.std.proofs.Common.{length, refl}
use Rattle.std.proofs.lemmas.Option.{slice_get_read}
use Rattle.hippo_audit_explain.proofs.DenyingLemmas.{front_fault}
use Rattle.hippo_audit_explain.proofs.denials.read_tables.Goals as goal

pub returns-in-Err-clause-reads : goal.returns-in-Err-clause-reads
returns-in-Err-clause-reads g c =
    front_fault c.args.wanted.now.catalog.now.names c.args.wanted.now.rules c.args.query.now c.args.wanted.now.limit c.args.query.now.tables c.loop-name.name-index c.name-item.result
    (rw c.as_slice-name-items.ensures at (slice_get_read c.as_slice-name-items.result.now (length c.as_slice-name-items.result.now) c.loop-name.name-index c.name-item.result refl c.loop-name-test.true c.name-item.is)) c.in-Err.fault c.args.cells.now c.loop-name.cells c.read_named.new.cells (g.P.Keeper.state c.args.keeper.now) (g.P.Keeper.state c.loop-name.keeper) (g.P.Keeper.state c.read_named.new.keeper)
    c.args.steps.now c.loop-name.steps c.read_named.new.steps c.loop-name.invariant.reads c.in-Err.ensures.reads
