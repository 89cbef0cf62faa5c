-- What the watch shares with the question is appended; if there is no watch, nothing is.
use Rattle.hippo_engine_audits.proofs.AlarmLemmas.{alarm_printed, nobody_added}
use Rattle.hippo_engine_audits.proofs.alarms.append_alarm.Goals as goal

pub returns-in_ok-found-in-Some : goal.returns-in_ok-found-in-Some
returns-in_ok-found-in-Some c =
    rw c.in-Some.is
    (alarm_printed c.args.asked.now c.args.number c.in-Some.watch c.args.out.now c.append_found.new.out c.in_ok-found-in-Some.found c.append_found.result
    c.in_ok-found-in-Some.ensures c.append_found.ensures)

pub returns-in-None : goal.returns-in-None
returns-in-None c = rw c.in-None.is (nobody_added c.args.asked.now c.args.number c.args.out.now)
