-- An index does not change the held tables.
use Rattle.std.proofs.Common.{rules}
use Rattle.hippo_combine.proofs.BringingLemmas.{value_at, set_same}
use Rattle.hippo_combine.proofs.ordering.order_table.Goals as goal

pub returns : goal.returns
returns c =
    set_same c.args.tables.now.items c.place_of-place.result c.index_mut.result.now c.order_by.new.self
    (value_at c.args.tables.now.items c.place_of-place.result c.index_mut.result.now (search rules) (search rules)) c.order_by.ensures
