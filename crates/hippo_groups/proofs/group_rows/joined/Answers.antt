-- The cells that were changed in place.
use Rattle.std.proofs.Common.{◌∙◌, arith}
use Rattle.std.proofs.lemmas.List.{with_items_is}
use Rattle.hippo_groups.proofs.group_rows.joined.Goals as goal

pub returns : goal.returns
returns g c = λ key members was.
    c.from_vec.ensures
    ∙ with_items_is c.into_vec-cells.result c.join.new.cells (omega (arith, c.join.auto.cells, c.deref_mut.ensures.len))
    ∙ c.in_ok-join.ensures key members (c.deref_mut.ensures.value ∙ c.into_vec-cells.ensures ∙ was)
