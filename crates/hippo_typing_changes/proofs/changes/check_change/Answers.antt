-- ALLOW is a rule that shows columns.
use Rattle.std.proofs.Common.{sym, subst}
use Rattle.hippo_stmt_ast.specs.declared.statement.Stmt.{Stmt}
use Rattle.hippo_typing_catalog.specs.ChangesRefused.{change_refused}
use Rattle.hippo_typing_catalog.specs.ChangesWanted.{wanted_by, Grants}
use Rattle.hippo_typing_changes.proofs.changes.check_change.Goals as goal

pub returns-in-Allow-clause-answer : goal.returns-in-Allow-clause-answer
returns-in-Allow-clause-answer c =
    let known = c.args.catalog.now.names in
    subst (λ (statement : Stmt). Grants (change_refused known statement) (wanted_by known statement) c.check_rule.result) (sym c.in-Allow.is) c.check_rule.ensures
