-- The gates of the columns so far.
use Rattle.std.proofs.Common.{◌≡◌, take}
use Rattle.hippo_model.specs.Terms.{History}
use Rattle.hippo_policy.specs.Books.{BookRepresents}
use Rattle.hippo_policy.specs.Gates.{gates_at}
use Rattle.hippo_policy.proofs.book.PolicyBook.table_rules.Given as goal

abbrev pub invariant-loop-place : goal.invariant-loop-place
invariant-loop-place l = (history : History) → BookRepresents l.self history → l.gates ≡ take l.place (gates_at (take l.n history) (record { purpose = l.purpose; recipient = l.recipient; moment = l.moment }) l.schema)
