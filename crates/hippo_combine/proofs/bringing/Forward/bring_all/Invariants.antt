-- The tables so far are moved forward.
use Rattle.std.proofs.Common.{true, take}
use Rattle.hippo_keeper.specs.Keeping.{IsReady}
use Rattle.hippo_backlog.specs.declared.faults.ReadFault.{ReadFault}
use Rattle.hippo_keeper.proofs.Results.{well}
use Rattle.hippo_combine.specs.Held.{AreHeldUpTo}
use Rattle.hippo_combine.specs.Bringing.{AreHeldIfKnown, AdvancesTables}
use Rattle.hippo_combine.proofs.bringing.Forward.bring_all.Given as goal

abbrev pub invariant-loop-table : goal.invariant-loop-table
invariant-loop-table g l = record {
  ready : IsReady true (g.P.Keeper.state l.keeper);
  up_to : AreHeldUpTo l.self.number l.tables.items;
  brings : AdvancesTables l.self.past.now l.self.number (well ReadFault) l.initial.tables.items l.tables.items
      (g.P.Keeper.state l.initial.keeper) (g.P.Keeper.state l.keeper) l.initial.steps l.steps;
  held : AreHeldIfKnown l.self.past.now l.self.number (take l.table-index l.names) l.tables.items;
}
