use Rattle.hippo_history_uses.proofs.FlagLemmas.{flags_say}
use Rattle.hippo_history_uses.proofs.laws.flags_say_what_is_seen.Goals as goal

pub returns : goal.returns
returns c = flags_say c.audit_needs_what_it_has.ensures
