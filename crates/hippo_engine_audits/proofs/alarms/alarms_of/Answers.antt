-- The text is empty before the alarms.
use Rattle.std.proofs.Common.{◌∙◌, ◌++◌, ap}
use Rattle.hippo_values.specs.Texts.{Txt}
use Rattle.hippo_engine_world.specs.Holding.{world_of}
use Rattle.hippo_engine_checks.specs.Asking.{question_of}
use Rattle.hippo_engine_audits.specs.Watching.{alarms_now}
use Rattle.hippo_engine_audits.proofs.alarms.alarms_of.Goals as goal

pub returns : goal.returns
returns c = λ session history stands fit.
    c.in_ok-tell_alarms.ensures session history stands fit
    ∙ ap (λ (text : Txt). text ++ alarms_now history (world_of c.args.world.now) (question_of session c.args.asking.now)) c.new-said.ensures
