-- The cells so far, followed by those of the remaining columns.
use Rattle.std.proofs.Common.{◌≡◌, ◌++◌, take, drop}
use Rattle.hippo_model.specs.Terms.{History}
use Rattle.hippo_policy.specs.Books.{BookRepresents}
use Rattle.hippo_audit_explain.specs.Listing.{rules_context, listed_denials}
use Rattle.hippo_audit_explain.proofs.rows.RulesThen.list_row.Given as goal

abbrev pub invariant-loop-column : goal.invariant-loop-column
invariant-loop-column l =
    (history : History) → BookRepresents l.self.book.now history
    → l.cells ++ listed_denials (take l.self.count history) (rules_context l.self) l.schema (drop l.column-index l.listed) l.kept
    ≡ l.initial.cells ++ listed_denials (take l.self.count history) (rules_context l.self) l.schema l.listed l.kept
