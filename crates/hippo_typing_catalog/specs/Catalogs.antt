-- What a catalog knows: the tables, purposes, recipients and items of a history, in the order of
-- their creation.
use Rattle.std.specs.Prelude.{Bool, true, not, List, [], ◌∷◌, ◌++◌, filter_map, Option, None, Some, is_none, bytes_eq}
use Rattle.std.specs.List.{list_any}
use Rattle.std.specs.Map.{lookup}
use Rattle.hippo_values.specs.declared.names.Name.{Name}
use Rattle.hippo_model.specs.declared.schema.Schema.{Schema}
use Rattle.hippo_model.specs.declared.entry.Act.{Act}
use Rattle.hippo_model.specs.declared.entry.Act.TheVariants.{Create, Purpose, Recipient, Item}
use Rattle.hippo_model.specs.declared.entry.ItemKind.{ItemKind}
use Rattle.hippo_model.specs.Terms.{History}

-- the names that statements may use, each with its definition
pub record KnownNames : Type 0 where
  pub tables : List (Name × Schema)
  pub purposes : List Name
  pub recipients : List Name
  pub items : List (Name × ItemKind)

-- the table that an act creates, or the purpose, recipient or item
abbrev pub table_in : Act → Option (Name × Schema)
table_in (Create schema) = Some (schema.name, schema)
table_in act = None

abbrev pub purpose_in : Act → Option Name
purpose_in (Purpose purpose) = Some purpose
purpose_in act = None

abbrev pub recipient_in : Act → Option Name
recipient_in (Recipient recipient) = Some recipient
recipient_in act = None

abbrev pub item_in : Act → Option (Name × ItemKind)
item_in (Item item kind) = Some (item, kind)
item_in act = None

-- the names that a history creates
abbrev pub known_at : History → KnownNames
known_at history =
    record {
      tables = filter_map (λ entry. table_in entry.act) history;
      purposes = filter_map (λ entry. purpose_in entry.act) history;
      recipients = filter_map (λ entry. recipient_in entry.act) history;
      items = filter_map (λ entry. item_in entry.act) history;
    }

-- the names after one more act
abbrev pub known_after : KnownNames → Act → KnownNames
known_after known (Create schema) =
    record known { tables = known.tables ++ (schema.name, schema) ∷ [] }
known_after known (Purpose purpose) = record known { purposes = known.purposes ++ purpose ∷ [] }
known_after known (Recipient recipient) =
    record known { recipients = known.recipients ++ recipient ∷ [] }
known_after known (Item item kind) = record known { items = known.items ++ (item, kind) ∷ [] }
known_after known act = known

-- the schema of a table
abbrev pub table_of : KnownNames → Name → Option Schema
table_of known table = lookup (bytes_eq table) known.tables

abbrev pub has_purpose : KnownNames → Name → Bool
has_purpose known purpose = list_any (bytes_eq purpose) known.purposes

abbrev pub has_recipient : KnownNames → Name → Bool
has_recipient known recipient = list_any (bytes_eq recipient) known.recipients

-- how silence on an item is read
abbrev pub item_of : KnownNames → Name → Option ItemKind
item_of known item = lookup (bytes_eq item) known.items

-- the schemas of a statement's tables, in the order of FROM
abbrev pub schemas_of : KnownNames → List Name → List Schema
schemas_of known tables = filter_map (table_of known) tables

-- whether an act creates no name that already exists
abbrev pub creates_new_names : KnownNames → Act → Bool
creates_new_names known (Create schema) = is_none (table_of known schema.name)
creates_new_names known (Purpose purpose) = not (has_purpose known purpose)
creates_new_names known (Recipient recipient) = not (has_recipient known recipient)
creates_new_names known (Item item kind) = is_none (item_of known item)
creates_new_names known act = true
