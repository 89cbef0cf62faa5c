-- REVOKE is a rule that names no item.
use Rattle.std.proofs.Common.{◌≡◌, ◌∙◌, false, List, [], ◌++◌, Option, None, Some, Result, ap, subst}
use Rattle.std.proofs.lemmas.List.{append-nil}
use Rattle.std.specs.Option.{option_map_or}
use Rattle.hippo_values.specs.declared.names.Name.{Name}
use Rattle.hippo_model.specs.declared.name_fault.NameFault.{NameFault}
use Rattle.hippo_model.specs.declared.schema.Schema.{Schema}
use Rattle.hippo_model.specs.declared.wanted.Wanted.{Wanted}
use Rattle.hippo_stmt_ast.specs.declared.statement.Stmt.TheVariants.{Revoke}
use Rattle.hippo_typing_catalog.specs.Catalogs.{KnownNames, table_of}
use Rattle.hippo_typing_catalog.specs.ChangesRefused.{in_table, rule_refused, rule_item_refused, change_refused}
use Rattle.hippo_typing_catalog.specs.ChangesWanted.{wanted_by, Grants}
use Rattle.hippo_typing_catalog.specs.Refusals.{unknown_table, unknown_pair}
use Rattle.hippo_typing_changes.specs.Checking.{Checks, ChecksRule, rule_names_refused}

-- without an item, none is refused
no_item : (refusals : List NameFault) (found : Option Schema) → refusals ++ option_map_or (rule_item_refused None) found [] ≡ refusals
no_item refusals None = append-nil refusals
no_item refusals (Some schema) = append-nil refusals

pub revoked : (known : KnownNames) (purpose recipient table : Name) (columns : List Name) (result : Result Wanted NameFault) → ChecksRule known false purpose recipient table columns None None result → Checks known (Revoke purpose recipient table columns) result
revoked known purpose recipient table columns result checks =
    let front : List NameFault = unknown_table known table ++ unknown_pair known purpose recipient in
    let remaining : List NameFault = in_table known table (rule_refused columns) in
    let same : rule_names_refused known purpose recipient table columns None ≡ change_refused known (Revoke purpose recipient table columns) =
    no_item (front ++ [] ++ remaining) (table_of known table) ∙ ap (λ (list : List NameFault). list ++ remaining) (append-nil front) in
    subst (λ (refusals : List NameFault). Grants refusals (wanted_by known (Revoke purpose recipient table columns)) result) same checks
