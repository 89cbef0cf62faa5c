-- The accesses so far, followed by those to the remaining rows.
use Rattle.std.proofs.Common.{◌≡◌, ◌++◌, drop}
use Rattle.hippo_model.specs.declared.schema.Schema.{Schema}
use Rattle.hippo_model.specs.Terms.{History}
use Rattle.hippo_history_uses.specs.Asking.{front_of}
use Rattle.hippo_history_uses.specs.Searching.{IsTableOf, rows_accesses}
use Rattle.hippo_history_uses.proofs.searching.Search.add_rows.Given as goal

abbrev pub invariant-loop-row : goal.invariant-loop-row
invariant-loop-row l =
    (history : History) (schema : Schema) → IsTableOf l.self l.place history schema
    → l.accesses ++ rows_accesses l.self (front_of l.self.asked.now history) schema (drop l.row l.rows.rows)
    ≡ l.initial.accesses ++ rows_accesses l.self (front_of l.self.asked.now history) schema l.rows.rows
