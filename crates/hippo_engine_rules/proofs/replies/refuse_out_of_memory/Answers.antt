use Rattle.std.proofs.Common.{sym, ◌∙◌}
use Rattle.hippo_engine_checks.proofs.LengthLemmas.{memory_fits, never_short}
use Rattle.hippo_engine_rules.proofs.SpeakerLemmas.{IsSpeaker-byte}
use Rattle.hippo_engine_rules.proofs.replies.refuse_out_of_memory.Goals as goal

pub unreachable-requires : goal.unreachable-requires
unreachable-requires c =
    never_short c.refusal_line.result _ _ _ c.refusal_line.ensures.room c.clear.ensures (memory_fits c.args.who (IsSpeaker-byte c.args.who c.speaker_fits.ensures)) (sym c.is_err.ensures.value ∙ c.if-is_err.true)
