-- The search uses each row's key.
use Rattle.std.proofs.Common.{rules}
use Rattle.std.proofs.lemmas.Fn.{always_returns_same}
use Rattle.hippo_tables_keyed.specs.Searches.{target_order}
use Rattle.hippo_tables_keyed.proofs.keyed_set.search_piece.Goals as goal

pub returns-clause-place : goal.returns-clause-place
returns-clause-place c = rw c.deref.ensures.value at (c.binary_search_by.ensures.position (target_order c.args.places.now c.args.target.now) (always_returns_same _ _ _ (λ a r g called. search rules)))
