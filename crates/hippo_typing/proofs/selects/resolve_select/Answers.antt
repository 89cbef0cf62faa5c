use Rattle.std.proofs.Common.{◌≡◌, [], ap, subst, ◌∙◌, rules}
use Rattle.hippo_typing.specs.declared.selects.FoundSelect.{FoundSelect}
use Rattle.hippo_typing_catalog.specs.Refusals.{IsFirstOf}
use Rattle.hippo_typing_catalog.specs.Selects.{select_refused}
use Rattle.hippo_typing.specs.FoundSelects.{head_refused, head_of}
use Rattle.hippo_typing.proofs.FoundTheorem.{first_of_columns, first_of_head, none_of_select, query_of_select}
use Rattle.hippo_typing.proofs.PairLemmas.{paired_fault, paired_form}
use Rattle.hippo_typing_catalog.proofs.Refused.{first_with_more, with_four}
use Rattle.hippo_typing.proofs.selects.resolve_select.Goals as goal

pub returns-in_err-tables : goal.returns-in_err-tables
returns-in_err-tables c =
    let fault = c.in_err-tables.field-0.0 in
    let first : IsFirstOf (select_refused c.args.catalog.now.names c.args.select.now) c.in_err-tables.field-0.0 =
    with_four _ _ _ _ _ fault (first_with_more _ _ fault c.in_err-tables.ensures) in
    search rules

pub returns-in_err-found : goal.returns-in_err-found
returns-in_err-found c =
    let known = c.args.catalog.now.names in
    let first : IsFirstOf (select_refused known c.args.select.now) c.in_err-found.field-0.0 =
    first_of_columns known c.args.select.now _ c.in_ok-tables.ensures.1 c.in_ok-tables.ensures.0 c.in_err-found.field-0.0 c.in_err-found.ensures in
    search rules

pub returns-in_err-found-2 : goal.returns-in_err-found-2
returns-in_err-found-2 c =
    let known = c.args.catalog.now.names in
    let select = c.args.select.now in
    let of_head = paired_fault c.in_ok-found.found (head_refused c.in_ok-tables.tables select c.in_ok-found.found) (head_of select c.in_ok-found.found) c.checked_head-head.result c.in_err-found-2.field-0.0 c.in_err-found-2.ensures c.checked_head-head.ensures in
    let first : IsFirstOf (select_refused known select) c.in_err-found-2.field-0.0 =
    first_of_head known select c.in_ok-tables.tables c.in_ok-tables.ensures.1 c.in_ok-tables.ensures.0 c.in_err-found-2.field-0.0 c.in_ok-found.ensures.0 (subst (λ (f : FoundSelect). IsFirstOf (head_refused c.in_ok-tables.tables select f) c.in_err-found-2.field-0.0) c.in_ok-found.ensures.1 of_head) in
    search rules

pub returns : goal.returns
returns c =
    let known = c.args.catalog.now.names in
    let select = c.args.select.now in
    let schemas = c.in_ok-tables.tables in
    let made = paired_form c.in_ok-found.found (head_refused schemas select c.in_ok-found.found) (head_of select c.in_ok-found.found) c.checked_head-head.result c.in_ok-found-2.found c.in_ok-found-2.head c.in_ok-found-2.ensures c.checked_head-head.ensures in
    let checked = subst (λ (f : FoundSelect). head_refused schemas select f ≡ []) c.in_ok-found.ensures.1 made.0 in (
      none_of_select known select schemas c.in_ok-tables.ensures.1 c.in_ok-tables.ensures.0 c.in_ok-found.ensures.0 checked,
      c.query.ensures ∙ query_of_select known select schemas c.in_ok-tables.ensures.1 c.in_ok-tables.ensures.0 c.in_ok-found-2.found c.in_ok-found-2.head (made.1 ∙ c.in_ok-found.ensures.1) (made.2 ∙ ap (head_of select) c.in_ok-found.ensures.1),
    )
