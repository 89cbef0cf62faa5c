-- The shorter key has ended.
use Rattle.std.proofs.Common.{rules}
use Rattle.std.proofs.lemmas.Slice.Zip.{zip_end}
use Rattle.hippo_tables_keyed.proofs.KeyOrder.{cells_cmp-past_end}
use Rattle.hippo_tables_keyed.proofs.keyed_set.key_order.Goals as goal

pub returns : goal.returns
returns c =
    let ended = zip_end c.args.places.now c.args.key.now c.loop-place.yielded c.into_iter-place-iterator.result c.loop-place.place-iterator c.next.new.self _ (search rules) (search rules) c.loop-place.yielded_by c.in-None.is c.next.ensures.steps in
    let past = cells_cmp-past_end c.args.places.now c.args.row.now c.args.key.now _ ended in
    cc
