use Rattle.std.proofs.Common.{List, rules, subst}
use Rattle.std.specs.List.{flat_map}
use Rattle.hippo_model.specs.declared.query.Ref.{Ref}
use Rattle.hippo_stmt_ast.specs.declared.statement.RawColumn.{RawColumn}
use Rattle.hippo_typing_catalog.specs.Refusals.{IsFirstOf}
use Rattle.hippo_typing_catalog.proofs.Refused.{first_with_more}
use Rattle.hippo_typing.specs.Found.{lone_found, groups_found_refused}
use Rattle.hippo_typing.proofs.groups.check_groups.Goals as goal

pub returns-in_err-check_among : goal.returns-in_err-check_among
returns-in_err-check_among c =
    let fault = c.in_err-check_among.field-0.0 in
    let of_plain = subst (λ (plain : List (RawColumn × Ref)). IsFirstOf (flat_map (lone_found c.args.by.now) plain) fault) c.in_ok-plain.ensures c.in_err-check_among.ensures in
    let first : IsFirstOf (groups_found_refused c.args.outs.now c.args.by.now) c.in_err-check_among.field-0.0 = first_with_more _ _ fault of_plain in
    search rules
