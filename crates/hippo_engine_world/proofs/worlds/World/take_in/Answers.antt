-- All watches change as each one does; nothing else changes.
use Rattle.std.proofs.Common.{ap, List}
use Rattle.std.specs.Prelude.{Option}
use Rattle.hippo_model.specs.declared.audit.Audit.{Audit}
use Rattle.hippo_engine_world.specs.Holding.{world_of}
use Rattle.hippo_engine_world.proofs.AuditLemmas.{WatchesFollow-each}
use Rattle.hippo_engine_world.proofs.worlds.World.take_in.Goals as goal

pub returns-clause-world : goal.returns-clause-world
returns-clause-world c = ap (λ (audits : List (Option Audit)). record (world_of c.args.self.now) { watches = audits }) c.take_in.ensures.audits

pub returns-clause-follow : goal.returns-clause-follow
returns-clause-follow c =
    WatchesFollow-each c.args.tables.now c.args.act.now c.args.self.now (record c.args.self.now { watches = c.take_in.new.watches }) c.take_in.ensures.follow
