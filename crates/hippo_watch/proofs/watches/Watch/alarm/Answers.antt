-- If a table has no hits, nothing is shared; otherwise, the audit's shared tuple.
use Rattle.std.proofs.Common.{subst}
use Rattle.std.proofs.lemmas.Result.{IfOk-weaker}
use Rattle.hippo_model.specs.declared.audit.Audit.{Audit}
use Rattle.hippo_watch.specs.Alarms.{SharesNext}
use Rattle.hippo_watch.specs.Watches.{SharesWatched}
use Rattle.hippo_watch.proofs.WatchLemmas.{shares_audited, shares_unhit}
use Rattle.hippo_watch.proofs.watches.Watch.alarm.Goals as goal

pub returns-then-has_none : goal.returns-then-has_none
returns-then-has_none c = shares_unhit c.args.asked.now c.args.self.now (c.has_none.ensures c.if-has_none.true)

pub returns-else-has_none : goal.returns-else-has_none
returns-else-has_none c =
    IfOk-weaker c.alarm.result
    (SharesNext c.args.asked.now c.audit.result.now)
    (SharesWatched c.args.asked.now c.args.self.now)
    (λ found shares. shares_audited c.args.asked.now c.args.self.now found (subst (λ (audit : Audit). SharesNext c.args.asked.now audit found) c.audit.ensures.is shares))
    c.alarm.ensures
