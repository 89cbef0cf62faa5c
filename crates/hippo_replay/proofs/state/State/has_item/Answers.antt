use Rattle.std.proofs.Common.{◌∙◌, ap, is_some}
use Rattle.hippo_replay.proofs.AcceptanceLemmas.{items_are}
use Rattle.hippo_replay.proofs.state.State.has_item.Goals as goal

pub returns : goal.returns
returns c history stands = c.is_some.ensures ∙ ap is_some (c.item.ensures ∙ items_are c.args.self.now history stands c.args.item.now)
