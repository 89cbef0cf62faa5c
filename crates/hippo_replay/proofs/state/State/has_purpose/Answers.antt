use Rattle.std.proofs.Common.{◌∙◌}
use Rattle.hippo_replay.proofs.AcceptanceLemmas.{purposes_are}
use Rattle.hippo_replay.proofs.state.State.has_purpose.Goals as goal

pub returns : goal.returns
returns c history stands = c.has_purpose.ensures ∙ purposes_are c.args.self.now history stands c.args.purpose.now
