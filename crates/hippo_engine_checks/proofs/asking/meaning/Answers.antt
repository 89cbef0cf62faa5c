-- The meaning of a select that is found is its meaning in a history.
use Rattle.std.proofs.Common.{◌≡◌, ◌⊎◌, Ok, Err, subst}
use Rattle.hippo_report.specs.declared.refusal.Refusal.TheVariants.{Memory}
use Rattle.hippo_typing_catalog.specs.Catalogs.{KnownNames, known_at}
use Rattle.hippo_typing_catalog.specs.Selects.{select_refused, query_of}
use Rattle.hippo_engine_checks.specs.Asking.{IsAnswerable}
use Rattle.hippo_engine_checks.specs.Checks.{unless_refused}
use Rattle.hippo_engine_checks.proofs.AskingLemmas.{meant_so, meant_not, answerable}
use Rattle.hippo_engine_checks.proofs.BoxLemmas.{found_in_box, held_in_box}
use Rattle.hippo_engine_checks.proofs.asking.meaning.Goals as goal

pub returns-in-Ok-clause-found : goal.returns-in-Ok-clause-found
returns-in-Ok-clause-found c = λ history stands.
    let select = c.args.select.now in
    found_in_box (unless_refused (select_refused (known_at history) select) (query_of (known_at history) select)) c.in-Ok.query c.boxed.result
    (subst (λ (known : KnownNames). unless_refused (select_refused known select) (query_of known select) ≡ Ok c.in-Ok.query) stands.names
    (meant_so _ _ c.in-Ok.query c.in-Ok.ensures.0 c.in-Ok.ensures.1))
    c.boxed.ensures

pub returns-in-Ok-clause-answerable : goal.returns-in-Ok-clause-answerable
returns-in-Ok-clause-answerable c =
    held_in_box (λ query. IsAnswerable c.args.state.now query) c.in-Ok.query c.boxed.result
    (answerable c.args.state.now c.requires.history c.args.select.now c.in-Ok.query c.requires.stands c.in-Ok.ensures.0 c.in-Ok.ensures.1)
    c.boxed.ensures

pub returns-in-Err-clause-found : goal.returns-in-Err-clause-found
returns-in-Err-clause-found c = λ history stands.
    let select = c.args.select.now in
    let refusal = c.name_refusal.result in
    subst (λ (known : KnownNames). (unless_refused (select_refused known select) (query_of known select) ≡ Err refusal) ⊎ (refusal ≡ Memory)) stands.names
    (meant_not _ _ c.in-Err.fault refusal c.in-Err.ensures c.name_refusal.ensures)
