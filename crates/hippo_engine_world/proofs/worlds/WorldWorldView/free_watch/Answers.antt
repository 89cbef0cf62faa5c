-- The free number is free in the definitions, too.
use Rattle.std.proofs.Common.{◌∙◌, sym}
use Rattle.hippo_engine_world.specs.Auditing.{watched}
use Rattle.hippo_engine_sessions.proofs.HeldLemmas.{seen-free}
use Rattle.hippo_engine_world.proofs.worlds.WorldWorldView.free_watch.Goals as goal

pub returns : goal.returns
returns c = c.free.ensures ∙ sym (seen-free watched c.args.self.now.watches)
