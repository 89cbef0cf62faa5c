use Rattle.std.proofs.Common.{◌∙◌}
use Rattle.hippo_replay.proofs.AcceptanceLemmas.{recipients_are}
use Rattle.hippo_replay.proofs.state.State.has_recipient.Goals as goal

pub returns : goal.returns
returns c history stands = c.has_recipient.ensures ∙ recipients_are c.args.self.now history stands c.args.recipient.now
