-- The meaning of the text by the known names is its meaning after the history; without a watch,
-- there is no alarm.
use Rattle.std.proofs.Common.{refl, rules}
use Rattle.std.proofs.lemmas.Result.{on_ok_weaker}
use Rattle.hippo_engine_checks.specs.Asking.{question_of}
use Rattle.hippo_engine_audits.proofs.AlarmLemmas.{means_then, nobody_now}
use Rattle.hippo_engine_audits.proofs.alarms.tell_alarms.Goals as goal

pub returns-in_ok-meant : goal.returns-in_ok-meant
returns-in_ok-meant c =
    on_ok_weaker c.print_alarms.result
    (λ says session history stands fit.
    says history (question_of session c.args.asking.now) stands fit refl (means_then c.args.state.now history c.args.asking.now.text.now c.in_ok-meant.meant stands c.in_ok-meant.ensures.meaning))
    c.print_alarms.ensures

pub returns-else-are_watching : goal.returns-else-are_watching
returns-else-are_watching c = λ session history stands fit.
    nobody_now history c.args.world.now (question_of session c.args.asking.now) c.args.out.now (search rules)
