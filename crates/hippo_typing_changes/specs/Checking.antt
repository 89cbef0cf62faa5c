-- The results of the checks of a statement, and parts of their refusals.
use Rattle.std.specs.Prelude.{ℕ, Bool, Result, List, [], ◌++◌, map, Option, Some, None, option_map, option_to_list, option_and_then, if◌then◌else◌}
use Rattle.hippo_values.specs.declared.names.Name.{Name}
use Rattle.hippo_model.specs.declared.entry.Act.{Act}
use Rattle.hippo_model.specs.declared.entry.Act.TheVariants as acts
use Rattle.hippo_model.specs.declared.name_fault.NameFault.{NameFault}
use Rattle.hippo_model.specs.declared.schema.Column.{Column}
use Rattle.hippo_model.specs.declared.schema.Schema.{Schema}
use Rattle.hippo_stmt_ast.specs.declared.statement.Stmt.{Stmt}
use Rattle.hippo_model.specs.declared.wanted.Wanted.{Wanted}
use Rattle.hippo_model.specs.declared.wanted.Wanted.TheVariants.{Ready}
use Rattle.hippo_model.specs.Terms.{Place}
use Rattle.hippo_typing_catalog.specs.Catalogs.{KnownNames, table_of}
use Rattle.hippo_typing_catalog.specs.Refusals.{repeated_names, unknown_pair, unknown_table}
use Rattle.hippo_typing_catalog.specs.WrittenColumns.{place_of}
use Rattle.hippo_typing_catalog.specs.ChangesRefused.{keyless_table, places_named, unknown_columns, unknown_item_if_any, in_table, rule_refused, rule_item_refused, change_refused}
use Rattle.hippo_typing_catalog.specs.ChangesWanted.{wanted_by, Grants}
use Rattle.hippo_typing_changes.specs.declared.tables.KeyPlaces.{KeyPlaces}

-- what the statement asks for, or its first refusal
abbrev pub Checks : KnownNames → Stmt → Result Wanted NameFault → Type 0
Checks known statement result =
    Grants (change_refused known statement) (wanted_by known statement) result

-- AUTHORIZE if the grant is given, otherwise DEAUTHORIZE
abbrev pub grant_act : Bool → Name → Name → Name → Act
grant_act is_given user purpose recipient =
    if is_given then acts.Authorize user purpose recipient
    else acts.Deauthorize user purpose recipient

-- what a grant asks for, or its first refusal
abbrev pub ChecksGrant : KnownNames → Bool → Name → Name → Name → Result Wanted NameFault → Type 0
ChecksGrant known is_given user purpose recipient result =
    Grants (unknown_pair known purpose recipient)
    (Some (Ready (grant_act is_given user purpose recipient))) result

-- ALLOW if the columns are shown, otherwise REVOKE
abbrev pub rule_act : Bool → Name → Name → Name → List Place → Option Name → Option ℕ → Act
rule_act is_shown purpose recipient table columns item days =
    if is_shown then acts.Allow purpose recipient table columns item days
    else acts.Revoke purpose recipient table columns

-- the names in a rule: its table, its purpose and recipient, its item, its columns
abbrev pub rule_names_refused : KnownNames → Name → Name → Name → List Name → Option Name
    → List NameFault
rule_names_refused known purpose recipient table columns item =
    unknown_table known table ++ unknown_pair known purpose recipient
    ++ unknown_item_if_any known item ++ in_table known table (rule_refused columns)
    ++ in_table known table (rule_item_refused item)

-- what a rule asks for, or its first refusal
abbrev pub ChecksRule : KnownNames → Bool → Name → Name → Name → List Name → Option Name → Option ℕ
    → Result Wanted NameFault → Type 0
ChecksRule known is_shown purpose recipient table columns item days result =
    Grants (rule_names_refused known purpose recipient table columns item)
    (option_map (λ schema. Ready (rule_act is_shown purpose recipient table
    (places_named schema columns) item days)) (table_of known table)) result

-- the names in CREATE TABLE: repeated columns, repeated key columns, and key columns or a SUBJECT
-- that are not columns
abbrev pub draft_refused : List Column → List Name → Option Name → List NameFault
draft_refused columns key subject =
    repeated_names (map (λ column. column.name) columns) ++ repeated_names key
    ++ unknown_columns (keyless_table [] columns) (key ++ option_to_list subject)

-- the places of the key's columns and of the SUBJECT among the columns of CREATE TABLE
abbrev pub draft_places : List Column → List Name → Option Name → KeyPlaces
draft_places columns key subject = record {
  key = places_named (keyless_table [] columns) key;
  subject = option_and_then (place_of (keyless_table [] columns)) subject;
}

-- the names in UPDATE: repeated columns of SET, repeated columns of WHERE, and names that are not
-- columns
abbrev pub names_refused : List Name → List Name → Schema → List NameFault
names_refused columns keys schema =
    repeated_names columns ++ repeated_names keys ++ unknown_columns schema (columns ++ keys)
