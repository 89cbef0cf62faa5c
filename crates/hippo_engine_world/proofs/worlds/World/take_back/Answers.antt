-- All watches change as each one does; nothing else changes.
use Rattle.std.proofs.Common.{ap, List}
use Rattle.std.specs.Prelude.{Option}
use Rattle.hippo_model.specs.declared.audit.Audit.{Audit}
use Rattle.hippo_engine_world.specs.Holding.{world_of}
use Rattle.hippo_engine_world.proofs.AuditLemmas.{WatchesGoBack-each}
use Rattle.hippo_engine_world.proofs.worlds.World.take_back.Goals as goal

pub returns-clause-world : goal.returns-clause-world
returns-clause-world c = ap (λ (audits : List (Option Audit)). record (world_of c.args.self.now) { watches = audits }) c.take_back.ensures.audits

pub returns-clause-go_back : goal.returns-clause-go_back
returns-clause-go_back c =
    WatchesGoBack-each c.args.tables.now c.args.act.now c.args.self.now (record c.args.self.now { watches = c.take_back.new.watches }) c.take_back.ensures.go_back
