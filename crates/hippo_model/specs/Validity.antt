-- Which entries may follow a history, and where a history is damaged.
use Rattle.std.specs.Prelude.{ℕ, ◌+◌, Bool, true, false, not, ◌&&◌, ◌==◌, List, [], ◌∷◌, ◌++◌, map, length, count_by, nat_eq, nat_lt, nat_le, int_le, slice_get, Option, Some, None, is_some, is_none, if◌then◌else◌, bytes_eq}
use Rattle.std.specs.List.{list_any, list_all}
use Rattle.std.specs.Option.{option_map_or}
use Rattle.hippo_values.specs.Limits.{retention_limit, table_limit}
use Rattle.hippo_values.specs.declared.moments.Moment.{Moment}
use Rattle.hippo_values.specs.declared.names.Name.{Name}
use Rattle.hippo_model.specs.declared.schema.Column.{Column}
use Rattle.hippo_model.specs.declared.schema.ColumnKind.{ColumnKind}
use Rattle.hippo_model.specs.declared.schema.ColumnKind.TheVariants.{Integer}
use Rattle.hippo_model.specs.declared.schema.Schema.{Schema}
use Rattle.hippo_model.specs.declared.entry.Act.{Act}
use Rattle.hippo_model.specs.declared.entry.Act.TheVariants.{Create, Insert, Update, Delete, Purpose, Recipient, Item, Authorize, Deauthorize, Allow, Revoke, Choice, Asked}
use Rattle.hippo_model.specs.declared.entry.Entry.{Entry}
use Rattle.hippo_model.specs.declared.policy.Authorization.{Authorization}
use Rattle.hippo_model.specs.declared.policy.Authorization.TheVariants.{Yes, No}
use Rattle.hippo_model.specs.Terms.{History, Meaning, Place}
use Rattle.hippo_model.specs.Histories.{last_word, schema_at, item_at}
use Rattle.hippo_model.specs.Rules.{authorized_at}
use Rattle.hippo_model.specs.Keepable.{is_keepable}
use Rattle.hippo_model.specs.Versions.{version_fits}

abbrev pub creates_table : Act → Bool
creates_table (Create schema) = true
creates_table act = false

abbrev pub creates_purpose : Name → Act → Bool
creates_purpose purpose (Purpose name) = bytes_eq name purpose
creates_purpose purpose act = false

abbrev pub creates_recipient : Name → Act → Bool
creates_recipient recipient (Recipient name) = bytes_eq name recipient
creates_recipient recipient act = false

abbrev pub is_purpose : History → Name → Bool
is_purpose history purpose = list_any (λ entry. creates_purpose purpose entry.act) history

abbrev pub is_recipient : History → Name → Bool
is_recipient history recipient = list_any (λ entry. creates_recipient recipient entry.act) history

-- no member occurs twice
abbrev pub all_differ : {A : Type 0} → (A → A → Bool) → List A → Bool
all_differ same [] = true
all_differ same (first ∷ rest) = not (list_any (same first) rest) && all_differ same rest

abbrev pub is_integer : ColumnKind → Bool
is_integer Integer = true
is_integer kind = false

-- whether a schema has a column at this index, and the column passes the test
abbrev pub column_passes : (Column → Bool) → Schema → Place → Bool
column_passes test schema place = option_map_or test (slice_get schema.columns place) false

abbrev pub key_column_fits : Column → Bool
key_column_fits column = column.not_null

abbrev pub subject_column_fits : Column → Bool
subject_column_fits column = column.not_null && is_integer column.kind

-- column names differ; the key's columns differ and are NOT NULL; the subject is a NOT NULL INTEGER
abbrev pub is_well_formed : Schema → Bool
is_well_formed schema =
    all_differ bytes_eq (map (λ column. column.name) schema.columns) && all_differ nat_eq schema.key
    && list_all (column_passes key_column_fits schema) schema.key
    && option_map_or (column_passes subject_column_fits schema) schema.subject true

-- whether a table exists, and its schema passes the test
abbrev pub table_passes : History → (Schema → Bool) → Name → Bool
table_passes history test table = option_map_or test (schema_at history table) false

-- at least one column index, all within the schema, and none twice
abbrev pub has_columns : List Place → Schema → Bool
has_columns places schema =
    nat_lt 0 (length places) && all_differ nat_eq places
    && list_all (λ place. nat_lt place (length schema.columns)) places

abbrev pub is_authorized : Authorization → Bool
is_authorized Yes = true
is_authorized (No number) = false

abbrev pub has_subject : Schema → Bool
has_subject schema = is_some schema.subject

-- a rule's item exists, and the table has a subject
abbrev pub item_fits : History → Name → Option Name → Bool
item_fits history table None = true
item_fits history table (Some item) =
    is_some (item_at history item) && table_passes history has_subject table

-- a rule's days are 1 to 36,500, a hundred years
abbrev pub days_fit : Option ℕ → Bool
days_fit None = true
days_fit (Some days) = nat_le 1 days && nat_le days retention_limit

abbrev pub pair_exists : History → Name → Name → Bool
pair_exists history purpose recipient = is_purpose history purpose && is_recipient history recipient

-- whether a rule's purpose and recipient exist, and so do its table and columns
abbrev pub rule_fits : History → Name → Name → Name → List Place → Bool
rule_fits history purpose recipient table columns =
    pair_exists history purpose recipient && table_passes history (has_columns columns) table

-- fewer than 64 tables exist, none of them has this name, and the schema is well formed
abbrev pub create_fits : History → Schema → Bool
create_fits history schema =
    nat_lt (count_by (λ entry. creates_table entry.act) history) table_limit
    && is_none (schema_at history schema.name)
    && is_well_formed schema

abbrev pub is_table_version : History → Name → Act → Bool
is_table_version history table act =
    table_passes history (λ schema. version_fits schema history act) table

-- whether an act may follow the entries so far
abbrev pub is_acceptable : Meaning → History → Act → Bool
is_acceptable meaning history (Create schema) = create_fits history schema
is_acceptable meaning history (Insert table row) = is_table_version history table (Insert table row)
is_acceptable meaning history (Update table row) = is_table_version history table (Update table row)
is_acceptable meaning history (Delete table key) = is_table_version history table (Delete table key)
is_acceptable meaning history (Purpose name) = not (is_purpose history name)
is_acceptable meaning history (Recipient name) = not (is_recipient history name)
is_acceptable meaning history (Item name kind) = is_none (item_at history name)
is_acceptable meaning history (Authorize user purpose recipient) =
    pair_exists history purpose recipient
is_acceptable meaning history (Deauthorize user purpose recipient) =
    pair_exists history purpose recipient
is_acceptable meaning history (Allow purpose recipient table columns item days) =
    rule_fits history purpose recipient table columns && item_fits history table item
    && days_fit days
is_acceptable meaning history (Revoke purpose recipient table columns) =
    rule_fits history purpose recipient table columns
is_acceptable meaning history (Choice subject item agreed) = is_some (item_at history item)
is_acceptable meaning history (Asked user purpose recipient text) =
    is_authorized (authorized_at history user purpose recipient) && is_some (meaning history text)

-- whether the moment is not before that of the last entry
abbrev pub keeps_order : History → Moment → Bool
keeps_order history moment =
    option_map_or (λ last. int_le last moment) (last_word (λ entry. Some entry.moment) history) true

-- whether an entry may follow those so far: it can be stored, it has the next number and no earlier
-- moment, and its act is acceptable
abbrev pub may_follow : Meaning → History → Entry → Bool
may_follow meaning history entry =
    is_keepable entry && entry.seq == length history + 1 && keeps_order history entry.moment
    && is_acceptable meaning history entry.act

-- the place, counted from 1, of the first entry that may not follow those before it
abbrev pub damage_after : Meaning → History → History → Option ℕ
damage_after meaning history [] = None
damage_after meaning history (entry ∷ later) =
    if may_follow meaning history entry
    then damage_after meaning (history ++ entry ∷ []) later else Some (length history + 1)

abbrev pub damage : Meaning → History → Option ℕ
damage meaning history = damage_after meaning [] history

-- whether each entry may follow those before it
abbrev pub is_valid : Meaning → History → Bool
is_valid meaning history = is_none (damage meaning history)
