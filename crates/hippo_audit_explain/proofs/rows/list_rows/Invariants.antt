-- The cells so far, followed by those of the remaining rows.
use Rattle.std.proofs.Common.{◌≡◌, ◌≤◌, ◌++◌, length, take, drop}
use Rattle.hippo_model.specs.Terms.{History}
use Rattle.hippo_policy.specs.Books.{BookRepresents}
use Rattle.hippo_audit_explain.specs.Listing.{rules_context, rows_denials}
use Rattle.hippo_audit_explain.proofs.rows.list_rows.Given as goal

abbrev pub invariant-loop-place : goal.invariant-loop-place
invariant-loop-place l = record {
  within : length l.cells ≤ l.limit;
  so_far : (history : History) → BookRepresents l.rules.book.now history
      → l.cells ++ rows_denials (take l.rules.count history) (rules_context l.rules) l.schema l.listed (drop l.place l.rows.rows)
      ≡ l.initial.cells ++ rows_denials (take l.rules.count history) (rules_context l.rules) l.schema l.listed l.rows.rows;
}
