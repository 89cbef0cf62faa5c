-- The rows that have the value of an item so far are found.
use Rattle.hippo_join_lookups.proofs.ListLemmas.{AreListed}
use Rattle.hippo_join_lookups.proofs.lists.places_listed.Given as goal

abbrev pub invariant-loop-item : goal.invariant-loop-item
invariant-loop-item l = AreListed l.set l.column l.list l.item-index l.places.items
