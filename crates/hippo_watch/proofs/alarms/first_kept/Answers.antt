-- The rules, rows and choices are those of the history, and the rows are the same on both sides.
use Rattle.std.proofs.Common.{List, Option}
use Rattle.std.proofs.lemmas.Result.{IfOk-weaker}
use Rattle.hippo_model.specs.declared.audit.SharedRow.{SharedRow}
use Rattle.hippo_typing.specs.Meanings.{meaning}
use Rattle.hippo_model.specs.Verdicts.{context_of}
use Rattle.hippo_audit_needs.specs.Examining.{ServesFirst}
use Rattle.hippo_watch.specs.Alarms.{ServesNow}
use Rattle.hippo_watch.proofs.AlarmLemmas.{rows_same, those_of}
use Rattle.hippo_watch.proofs.alarms.first_kept.Goals as goal

pub shared_of-requires : goal.shared_of-requires
shared_of-requires c = record {
  query_sets = c.in_ok-query_sets.ensures.each;
  audit_sets = c.in_ok-audit_sets.ensures.each;
  tables = c.requires.differ;
  rows =
      rows_same c.args.asked.now.tables.now c.args.asked.now.query.now.tables c.args.audit.now.tables c.in_ok-query_sets.query_sets c.in_ok-audit_sets.audit_sets
      c.requires.query c.requires.audit c.in_ok-query_sets.ensures.rows c.in_ok-audit_sets.ensures.rows;
}

pub returns : goal.returns
returns c =
    IfOk-weaker c.shared_of.result
    (λ (found : Option (List SharedRow)). ServesFirst c.args.asked.now.query.now c.args.audit.now c.in_ok-rules.rules c.in_ok-query_sets.query_sets c.in_ok-audit_sets.audit_sets _ found)
    (ServesNow c.args.asked.now c.args.audit.now)
    (λ found serves history present its names created.
    serves meaning history (context_of c.args.asked.now.pair.now c.args.asked.now.moment)
    (those_of c.args.asked.now.past c.args.asked.now.tables.now c.args.asked.now.query.now c.args.audit.now c.in_ok-query_sets.query_sets c.in_ok-audit_sets.audit_sets
    c.requires.query c.requires.audit c.in_ok-query_sets.ensures.rows c.in_ok-audit_sets.ensures.rows history present its names (context_of c.args.asked.now.pair.now c.args.asked.now.moment)
    c.in_ok-schemas.schemas (c.in_ok-schemas.ensures history present.tables_are)
    c.in_ok-rules.rules (c.in_ok-rules.ensures history present.past_is.book) _ (c.choices_at-choices.ensures history present.past_is.book)))
    c.shared_of.ensures
