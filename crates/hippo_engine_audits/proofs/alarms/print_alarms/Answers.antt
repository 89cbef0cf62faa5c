-- The watches' alarms for a question are those of the world; a text without a meaning is flagged by
-- none.
use Rattle.std.proofs.Common.{refl, ◌∙◌}
use Rattle.std.proofs.lemmas.Result.{on_ok_weaker}
use Rattle.hippo_engine_audits.proofs.AlarmLemmas.{printed_now, none_now}
use Rattle.hippo_engine_audits.proofs.alarms.print_alarms.Goals as goal

pub returns-in-Some : goal.returns-in-Some
returns-in-Some c =
    on_ok_weaker c.append_alarms-printed.result
    (λ says history question stands fit same means. says history question stands fit same (means ∙ c.in-Some.is))
    (printed_now _ c.args.state.now c.args.world.now c.args.out.now c.append_alarms-printed.new.out c.append_alarms-printed.result
    (λ history stands. record {
      past_is = record { valid = stands.valid; names = stands.names; book = stands.book; count = stands.count };
      tables_are = stands.tables;
    })
    refl (rw c.as_slice.ensures at c.append_alarms-printed.ensures))

pub returns-in-None : goal.returns-in-None
returns-in-None c = λ history question stands fit same means.
    none_now history c.args.world.now question c.args.out.now (means ∙ c.in-None.is)
