-- A used row.
use Rattle.hippo_model.specs.declared.policy.Verdict.{Verdict}
use Rattle.hippo_model.specs.Terms.{History, Place}
use Rattle.hippo_model.specs.Verdicts.{verdict}
use Rattle.hippo_history_uses.specs.declared.cells.UsedRow.{UsedRow}
use Rattle.hippo_history_uses.specs.Accesses.{asker_context}
use Rattle.hippo_history_uses.specs.Asking.{asker_of}

-- the verdicts on the cells of a used row, by the entries before the query
abbrev pub verdict_then : UsedRow → History → Place → Verdict
verdict_then row front place =
    verdict front (asker_context (asker_of row.asked.now)) row.schema.now row.kept.now place
