-- The places so far, followed by those in the remaining tables, are all places.
use Rattle.std.proofs.Common.{List, ◌++◌, drop}
use Rattle.hippo_model.specs.Terms.{Place}
use Rattle.hippo_audit_search.specs.FirstPlaces.{AreChosen}
use Rattle.hippo_audit_search.proofs.told.chosen_in.Given as goal

abbrev pub invariant-loop-table : goal.invariant-loop-table
invariant-loop-table l = (others : List Place) → AreChosen l.slots (drop l.table-index l.tables) others → AreChosen l.slots l.tables (l.places.items ++ others)
