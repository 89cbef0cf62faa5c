use Rattle.hippo_typing.proofs.conditions.found_list.Goals as goal

pub returns : goal.returns
returns c = rw c.as_slice.ensures at c.found_each.ensures
