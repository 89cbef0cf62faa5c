-- The names and types are refused.
use Rattle.std.proofs.Common.{subst}
use Rattle.hippo_typing_catalog.specs.Catalogs.{KnownNames, known_at}
use Rattle.hippo_typing_catalog.specs.ChangesRefused.{change_refused}
use Rattle.hippo_typing_catalog.specs.ChangesWanted.{wanted_by}
use Rattle.hippo_engine_checks.specs.Changes.{wanted_in}
use Rattle.hippo_engine_checks.specs.Checks.{Refuses, unless_refused}
use Rattle.hippo_engine_checks.specs.Judging.{judged_wanted}
use Rattle.hippo_engine_checks.proofs.ChangeLemmas.{names_refused}
use Rattle.hippo_engine_checks.proofs.changes.entry_for.Goals as goal

pub returns-in-Err-clause-found : goal.returns-in-Err-clause-found
returns-in-Err-clause-found g c = λ history stands.
    names_refused (unless_refused (change_refused (known_at history) c.args.statement.now) (wanted_by (known_at history) c.args.statement.now))
    (λ wanted. judged_wanted history (g.W.WorldView.seen c.args.world.now) wanted) c.in-Err.refusal
    (subst (λ (known : KnownNames). Refuses (wanted_in known c.args.statement.now) c.in-Err.refusal) stands.names c.in-Err.ensures)
