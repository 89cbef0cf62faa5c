-- The key of the entry is that of the row.
use Rattle.hippo_tables_rows.proofs.PlacesWithinLemmas.{found-remaining, contains-pushed}
use Rattle.hippo_tables_rows.proofs.column_order.add_place.Goals as goal

pub returns-in_default-find_values-clause-added : goal.returns-in_default-find_values-clause-added
returns-in_default-find_values-clause-added c cell kept place at has =
    let found = found-remaining c.args.set.now c.args.entry.now _ c.in-Some.key.now _ c.find_values.ensures.order c.in-Some.ensures.cases.0 c.find_values.ensures.place cell kept place at has in
    absurd cc

pub returns-clause-added : goal.returns-clause-added
returns-clause-added c cell kept place at has =
    contains-pushed _ _ _ place c.in_ok-push.ensures.items (found-remaining c.args.set.now c.args.entry.now _ c.in-Some.key.now _ c.in-Some-find_values.ensures.order c.in-Some.ensures.cases.0 c.in-Some-find_values.ensures.place cell kept place at has)
