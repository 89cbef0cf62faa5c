-- The order of the keys is an invariant of the set.
use Rattle.std.proofs.Common.{map, subst}
use Rattle.hippo_tables_keyed.specs.RowSets.{KeyedRows, key_in, IsAscending}
use Rattle.hippo_tables_keyed.proofs.keyed_set.KeyedSet.len.Goals as goal

pub returns-clause-order : goal.returns-clause-order
returns-clause-order c = subst (λ (set : KeyedRows). IsAscending (map (key_in set.key) set.rows)) c.self.view_is c.self.invariant
