use Rattle.std.proofs.Common.{sym, ◌∙◌}
use Rattle.hippo_report.specs.Notices.{done_line}
use Rattle.hippo_engine_checks.proofs.LengthLemmas.{done_fits, never_short}
use Rattle.hippo_engine_rules.proofs.SpeakerLemmas.{IsSpeaker-byte}
use Rattle.hippo_engine_rules.proofs.replies.say_done.Goals as goal

pub unreachable-requires : goal.unreachable-requires
unreachable-requires c =
    never_short c.done_line.result _ (done_line c.args.who) _ c.done_line.ensures.room c.clear.ensures (done_fits c.args.who (IsSpeaker-byte c.args.who c.speaker_fits.ensures))
    (sym c.is_err.ensures.value ∙ c.if-is_err.true)
