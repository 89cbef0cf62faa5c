-- The keys of the columns so far.
use Rattle.std.proofs.Common.{◌≡◌, take}
use Rattle.hippo_policy.specs.Books.{cell_keys}
use Rattle.hippo_policy.proofs.book.cell_keys.Given as goal

abbrev pub invariant-loop-column : goal.invariant-loop-column
invariant-loop-column l = l.keys ≡ cell_keys l.purpose l.recipient l.table (take l.column-index l.columns)
