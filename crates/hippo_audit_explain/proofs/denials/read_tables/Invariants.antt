-- The tables so far are done.
use Rattle.std.proofs.Common.{◌≤◌, length}
use Rattle.hippo_audit_explain.proofs.DenyingLemmas.{ok, ReadsFront}
use Rattle.hippo_audit_explain.proofs.denials.read_tables.Given as goal

abbrev pub invariant-loop-name : goal.invariant-loop-name
invariant-loop-name g l = record {
  within : length l.cells ≤ l.wanted.limit;
  reads : ReadsFront l.wanted.catalog.now.names l.wanted.rules l.query l.wanted.limit l.query.tables l.name-index ok l.initial.cells l.cells (g.P.Keeper.state l.initial.keeper) (g.P.Keeper.state l.keeper) l.initial.steps l.steps;
}
