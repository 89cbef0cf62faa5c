-- The INSERT of a record is found and judged, or the record is refused.
use Rattle.hippo_engine_checks.proofs.LoadLemmas.{load_found, load_refused}
use Rattle.hippo_engine_checks.proofs.loading.entry_of_record.Goals as goal

pub returns-in-Ok-clause-found : goal.returns-in-Ok-clause-found
returns-in-Ok-clause-found g c = λ history stands.
    load_found history (g.W.WorldView.seen c.args.world.now) c.args.loaded.now.table.now c.args.loaded.now.text.now c.args.state.now.catalog.names
    stands.names c.in-Ok.insert c.entry_of_change-found.result c.in-Ok.ensures.found (c.entry_of_change-found.ensures.found history stands)

pub returns-in-Err-clause-found : goal.returns-in-Err-clause-found
returns-in-Err-clause-found g c = λ history stands.
    load_refused history (g.W.WorldView.seen c.args.world.now) c.args.loaded.now.table.now c.args.loaded.now.text.now c.args.state.now.catalog.names
    stands.names c.in-Err.refusal c.in-Err.ensures.found
