-- A candidate shares the first tuple that serves, if all tables exist; a question that is no
-- candidate shares nothing.
use Rattle.std.proofs.Common.{◌∙◌, sym}
use Rattle.std.proofs.lemmas.Result.{IfOk-weaker}
use Rattle.hippo_watch.specs.Alarms.{ServesNow, SharesNext}
use Rattle.hippo_watch.proofs.AlarmLemmas.{audit_kept, query_kept, nothing_missing, shares_first, shares_nothing}
use Rattle.hippo_watch.proofs.alarms.alarm.Goals as goal

pub returns-then-not-is_candidate : goal.returns-then-not-is_candidate
returns-then-not-is_candidate c = shares_nothing c.args.asked.now c.args.audit.now (sym c.is_candidate.ensures ∙ c.if-not-is_candidate.true)

pub returns-then-not-tables_exist : goal.returns-then-not-tables_exist
returns-then-not-tables_exist c =
    shares_first c.args.asked.now c.args.audit.now (sym c.is_candidate.ensures ∙ c.if-not-is_candidate.false) _
    (nothing_missing c.args.asked.now c.args.audit.now _ c.tables_exist.ensures c.if-not-tables_exist.true)

pub first_kept-requires-clause-query : goal.first_kept-requires-clause-query
first_kept-requires-clause-query c = query_kept c.args.asked.now c.args.audit.now _ c.tables_exist.ensures c.requires.some c.if-not-tables_exist.false

pub first_kept-requires-clause-audit : goal.first_kept-requires-clause-audit
first_kept-requires-clause-audit c = audit_kept c.args.asked.now c.args.audit.now _ c.tables_exist.ensures c.requires.some c.if-not-tables_exist.false

pub returns : goal.returns
returns c =
    IfOk-weaker c.first_kept.result
    (ServesNow c.args.asked.now c.args.audit.now)
    (SharesNext c.args.asked.now c.args.audit.now)
    (shares_first c.args.asked.now c.args.audit.now (sym c.is_candidate.ensures ∙ c.if-not-is_candidate.false))
    c.first_kept.ensures
