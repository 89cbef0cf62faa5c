-- The entry's rule is appended for the cells so far.
use Rattle.std.proofs.Common.{◌≡◌, take}
use Rattle.std.specs.List.{list_any}
use Rattle.hippo_policy.specs.declared.keys.CellKey.{CellKey}
use Rattle.hippo_policy.specs.Cells.{cell_words}
use Rattle.hippo_policy.specs.Keys.{same_cell_key}
use Rattle.hippo_policy.specs.Words.{with_word}
use Rattle.hippo_policy.proofs.ruled_tables.RuledTables.push_all.Given as goal

abbrev pub invariant-loop-place : goal.invariant-loop-place
invariant-loop-place l = (other : CellKey) → cell_words l.self other ≡ with_word (list_any (λ cell. same_cell_key cell other) (take l.place l.cells)) (record { number = l.fn.number; word = l.fn.word }) (cell_words l.initial.self other)
