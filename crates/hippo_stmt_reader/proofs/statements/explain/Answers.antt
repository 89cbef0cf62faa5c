use Rattle.std.proofs.Common.{rules, w64}
use Rattle.std.proofs.lemmas.Int.{to_z-of_z}
use Rattle.hippo_stmt_reader.specs.StatementFinder.{explain_of}
use Rattle.hippo_stmt_reader.proofs.statements.explain.Goals as goal

pub returns : goal.returns
unfolding explain_of
returns c = rw (c.in_ok-number.ensures.found) (rw (to_z-of_z w64 c.in_ok-number.number (search rules)) at c.with_end.ensures)
