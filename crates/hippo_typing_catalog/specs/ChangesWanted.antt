-- What a changing statement asks for, whether or not it is refused.
use Rattle.std.specs.Prelude.{◌≡◌, Bool, true, false, ◌||◌, List, [], map, filter_map, nat_eq, Option, Some, None, option_map, option_and_then, Result, MatchResult, bytes_eq}
use Rattle.std.specs.List.{list_any, zip}
use Rattle.std.specs.Map.{lookup}
use Rattle.std.specs.Option.{option_map_or}
use Rattle.hippo_values.specs.declared.names.Name.{Name}
use Rattle.hippo_values.specs.declared.values.Value.{Value}
use Rattle.hippo_model.specs.declared.entry.Act.TheVariants as acts
use Rattle.hippo_model.specs.declared.name_fault.NameFault.{NameFault}
use Rattle.hippo_model.specs.declared.schema.Column.{Column}
use Rattle.hippo_model.specs.declared.schema.Schema.{Schema}
use Rattle.hippo_stmt_ast.specs.declared.statement.Stmt.{Stmt}
use Rattle.hippo_stmt_ast.specs.declared.statement.Stmt.TheVariants.{CreateTable, CreatePurpose, CreateRecipient, CreateItem, Authorize, Deauthorize, Allow, Revoke, Choice, Insert, Update, Delete, Explain, Audit, BeginAudit, Watch, Select, Ask, Extract}
use Rattle.hippo_model.specs.declared.wanted.Wanted.{Wanted}
use Rattle.hippo_model.specs.declared.wanted.Wanted.TheVariants.{Ready, Add, Set, Remove}
use Rattle.hippo_model.specs.Rows.{key_of}
use Rattle.hippo_model.specs.Terms.{Key}
use Rattle.hippo_typing_catalog.specs.Catalogs.{KnownNames, table_of}
use Rattle.hippo_typing_catalog.specs.WrittenColumns.{place_of}
use Rattle.hippo_typing_catalog.specs.ChangesRefused.{places_named, keyless_table}
use Rattle.hippo_typing_catalog.specs.Refusals.{IsFirstOf}

-- the columns of the key and the SUBJECT are NOT NULL, whether or not that is written
abbrev pub with_not_null : List Name → Option Name → Column → Column
with_not_null key subject column =
    let is_column : Name → Bool = λ name. bytes_eq name column.name in
    record column {
      not_null = column.not_null || list_any is_column key
          || option_map_or is_column subject false;
    }

-- the table that CREATE TABLE makes
abbrev pub table_made : Name → List Column → List Name → Option Name → Schema
table_made table columns key subject =
    record {
      name = table;
      columns = map (with_not_null key subject) columns;
      key = places_named (keyless_table table columns) key;
      subject = option_and_then (place_of (keyless_table table columns)) subject;
    }

-- the values of WHERE in the key's order
abbrev pub key_written : Schema → List Name → List Value → Key
key_written schema names values =
    filter_map (λ place. lookup (nat_eq place) (zip (places_named schema names) values)) schema.key

-- what a statement asks for, if its table exists; a statement that changes nothing asks for nothing
abbrev pub wanted_by : KnownNames → Stmt → Option Wanted
wanted_by known (CreateTable table columns key subject) =
    Some (Ready (acts.Create (table_made table columns key subject)))
wanted_by known (CreatePurpose purpose) = Some (Ready (acts.Purpose purpose))
wanted_by known (CreateRecipient recipient) = Some (Ready (acts.Recipient recipient))
wanted_by known (CreateItem item kind) = Some (Ready (acts.Item item kind))
wanted_by known (Authorize user purpose recipient) =
    Some (Ready (acts.Authorize user purpose recipient))
wanted_by known (Deauthorize user purpose recipient) =
    Some (Ready (acts.Deauthorize user purpose recipient))
wanted_by known (Allow purpose recipient table columns item days) =
    option_map (λ schema. Ready (acts.Allow purpose recipient table (places_named schema columns)
    item days))
    (table_of known table)
wanted_by known (Revoke purpose recipient table columns) =
    option_map (λ schema. Ready (acts.Revoke purpose recipient table (places_named schema columns)))
    (table_of known table)
wanted_by known (Choice subject item agreed) = Some (Ready (acts.Choice subject item agreed))
wanted_by known (Insert table values) =
    option_map (λ schema. Add table values (key_of schema.key values)) (table_of known table)
wanted_by known (Update table columns values keys key_values) =
    option_map (λ schema. Set table (key_written schema keys key_values)
    (places_named schema columns) values)
    (table_of known table)
wanted_by known (Delete table keys values) =
    option_map (λ schema. Remove table (key_written schema keys values)) (table_of known table)
wanted_by known statement = None

-- nothing is refused and the result is this; or the result is the first refusal, or out of memory
abbrev pub Grants : List NameFault → Option Wanted → Result Wanted NameFault → Type 0
Grants refusals wanted result =
    MatchResult result (λ made. (refusals ≡ []) × (wanted ≡ Some made))
    (λ fault. IsFirstOf refusals fault)

-- whether a statement changes something; EXPLAIN, audits and selects do not
abbrev pub changes_something : Stmt → Bool
changes_something (Explain number) = false
changes_something (Audit audit) = false
changes_something (BeginAudit audit) = false
changes_something (Watch audit) = false
changes_something (Select select start end) = false
changes_something (Ask select start end) = false
changes_something (Extract select start end) = false
changes_something statement = true
