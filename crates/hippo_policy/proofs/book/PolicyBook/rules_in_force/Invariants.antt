-- The rules of the tables so far.
use Rattle.std.proofs.Common.{◌≡◌, take, map}
use Rattle.hippo_model.specs.Terms.{History}
use Rattle.hippo_policy.specs.Books.{BookRepresents}
use Rattle.hippo_policy.specs.Gates.{table_rules}
use Rattle.hippo_policy.proofs.book.PolicyBook.rules_in_force.Given as goal

abbrev pub invariant-loop-place : goal.invariant-loop-place
invariant-loop-place l = (history : History) → BookRepresents l.self history → l.rules ≡ map (table_rules (take l.n history) (record { purpose = l.purpose; recipient = l.recipient; moment = l.fn.moment })) (take l.place l.tables)
