-- A watch is held exactly when the definitions have one.
use Rattle.std.proofs.Common.{◌∙◌, sym}
use Rattle.hippo_engine_world.specs.Auditing.{watched}
use Rattle.hippo_engine_sessions.proofs.HeldLemmas.{some_seen, seen-some}
use Rattle.hippo_engine_world.proofs.worlds.WorldWorldView.has_watch.Goals as goal

pub returns : goal.returns
returns c = c.is_some.ensures ∙ sym (some_seen _ c.at.result) ∙ seen-some watched c.args.self.now.watches c.args.number _ (rw c.from.ensures at c.at.ensures)
