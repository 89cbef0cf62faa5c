use Rattle.std.proofs.Common.{◌≡◌, ◌+◌, ◌≤◌, [], length, subst, sym}
use Rattle.hippo_typing.specs.declared.selects.FoundSelect.{FoundSelect}
use Rattle.hippo_typing.specs.FoundSelects.{head_refused}
use Rattle.hippo_typing.proofs.FoundTheorem.{few_found}
use Rattle.hippo_typing.proofs.selects.checked_head.Goals as goal

pub query_head-requires : goal.query_head-requires
query_head-requires c =
    let few : FoundSelect → Type 0 = λ found. head_refused c.args.tables.now c.args.select.now found ≡ [] → length found.by + length found.list.outs ≤ 256 in
    subst few (sym c.requires) (few_found c.args.tables.now c.args.select.now) c.in_ok-check_select.ensures.0
