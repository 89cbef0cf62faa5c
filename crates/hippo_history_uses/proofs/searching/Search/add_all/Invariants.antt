-- The accesses so far, followed by those to the rows of the remaining tables.
use Rattle.std.proofs.Common.{◌≡◌, ◌++◌, drop}
use Rattle.std.specs.Prelude.{flat_map}
use Rattle.hippo_model.specs.Terms.{History}
use Rattle.hippo_history_uses.specs.Searching.{IsSearchOf}
use Rattle.hippo_history_uses.proofs.SearchLemmas.{of_table}
use Rattle.hippo_history_uses.proofs.searching.Search.add_all.Given as goal

abbrev pub invariant-loop-table : goal.invariant-loop-table
invariant-loop-table l =
    (history : History) → IsSearchOf l.self history
    → l.accesses ++ flat_map (of_table l.self history) (drop l.table-index l.tables)
    ≡ l.initial.accesses ++ flat_map (of_table l.self history) l.tables
