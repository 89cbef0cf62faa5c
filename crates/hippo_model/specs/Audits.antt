-- Which queries an audit flags, and with which shared tuple. This follows the indispensable tuples
-- of Agrawal and others, Auditing Compliance with a Hippocratic Database, VLDB 2004. Three points
-- are this project's own: answers are compared as bags; a query is judged over its view, but the
-- audit over unmasked rows; and SHOWN.
use Rattle.std.specs.Prelude.{ℕ, ◌-◌, Bool, false, not, ◌&&◌, ◌||◌, int_le, List, [], map, filter, filter_map, find, take, drop, slice_index_or, Option, Some, None, is_some, option_and_then, if◌then◌else◌, bytes_eq}
use Rattle.std.specs.List.{list_any, list_all, position_or_len}
use Rattle.std.specs.Option.{option_map_or}
use Rattle.hippo_values.specs.declared.moments.Moment.{Moment}
use Rattle.hippo_values.specs.declared.names.Name.{Name}
use Rattle.hippo_model.specs.declared.audit.Audit.{Audit}
use Rattle.hippo_model.specs.declared.audit.Flag.{Flag}
use Rattle.hippo_model.specs.declared.audit.SharedRow.{SharedRow}
use Rattle.hippo_model.specs.declared.born_row.BornRow.{BornRow}
use Rattle.hippo_model.specs.declared.entry.Act.{Act}
use Rattle.hippo_model.specs.declared.entry.Act.TheVariants.{Asked}
use Rattle.hippo_model.specs.declared.entry.Entry.{Entry}
use Rattle.hippo_model.specs.declared.query.Query.{Query}
use Rattle.hippo_model.specs.declared.query.Ref.{Ref}
use Rattle.hippo_model.specs.declared.schema.Schema.{Schema}
use Rattle.hippo_model.specs.Terms.{History, Key, Meaning, ShownRow}
use Rattle.hippo_values.specs.Order.{same_cells}
use Rattle.hippo_model.specs.Histories.{before_entry, schema_at}
use Rattle.hippo_model.specs.Rows.{key_of, born_row_at, table_rows}
use Rattle.hippo_model.specs.Verdicts.{Context, verdict}
use Rattle.hippo_model.specs.Views.{is_shown}
use Rattle.hippo_model.specs.Forms.{value_in}
use Rattle.hippo_model.specs.Answers.{product, query_answer, seen_combinations, audit_answer, unmasked_combinations}
use Rattle.hippo_model.specs.Bags.{same_bag}
use Rattle.hippo_model.specs.Columns.{names_all}

-- the tables that are in both FROM lists, in the audit's order
abbrev pub common : Query → Audit → List Name
common query audit = filter (λ table. list_any (bytes_eq table) query.tables) audit.tables

-- the rows of a table, identified by their keys
abbrev pub shared_rows : History → Name → List SharedRow
shared_rows history table =
    let by_key : Schema → BornRow → SharedRow =
    λ schema kept. record { table = table; key = key_of schema.key kept.row } in
    option_map_or (λ schema. map (by_key schema) (table_rows schema history))
    (schema_at history table) []

-- a virtual tuple is one row of each common table; the tuples are in the order of the product
abbrev pub virtual_tuples : History → List Name → List (List SharedRow)
virtual_tuples history tables = product (map (shared_rows history) tables)

-- the key of a combination's row of one of its tables
abbrev pub key_at : History → List Name → List ShownRow → Name → Key
key_at history tables combination table =
    let row =
    map value_in (slice_index_or combination (position_or_len (bytes_eq table) tables) []) in
    option_map_or (λ schema. key_of schema.key row) (schema_at history table) []

-- whether the combination's rows of the common tables have exactly the keys of the virtual tuple
abbrev pub has_tuple : History → List Name → List SharedRow → List ShownRow → Bool
has_tuple history tables tuple combination =
    list_all (λ shared. same_cells (key_at history tables combination shared.table) shared.key)
    tuple

-- whether the answer changes, compared as a bag, when the combinations that pass the test are
-- removed
abbrev pub needs : (List (List ShownRow) → List ShownRow) → (List ShownRow → Bool)
    → List (List ShownRow) → Bool
needs answered is_out combinations =
    not (same_bag (answered (filter (λ combination. not (is_out combination)) combinations))
    (answered combinations))

-- a query needs a virtual tuple if its answer without the tuple is a different bag; the query is
-- judged over its view
abbrev pub query_needs : History → Context → Query → List SharedRow → Bool
query_needs history context query tuple =
    needs (query_answer query) (has_tuple history query.tables tuple)
    (seen_combinations history context query)

-- an audit expression needs a virtual tuple if its answer without the tuple, over unmasked rows, is
-- a different bag
abbrev pub audit_needs : History → Audit → List SharedRow → Bool
audit_needs history audit tuple =
    needs (audit_answer audit) (has_tuple history audit.tables tuple)
    (unmasked_combinations history audit)

-- the row of a table whose key is in the virtual tuple
abbrev pub row_named : History → List SharedRow → Schema → Option BornRow
row_named history tuple schema =
    option_and_then (λ shared. born_row_at schema history shared.key)
    (find (λ shared. bytes_eq shared.table schema.name) tuple)

-- whether the verdict on a column's cell is Shown, in the row that the virtual tuple names
abbrev pub is_seen : History → Context → List Name → List SharedRow → Ref → Bool
is_seen history context tables tuple column =
    let sees : Schema → BornRow → Bool =
    λ schema kept. is_shown (verdict history context schema kept column.column) in
    option_map_or (λ schema. option_map_or (sees schema) (row_named history tuple schema) false)
    (schema_at history (slice_index_or tables column.table [])) false

-- a virtual tuple serves if the query and the audit both need it; if the audit asks for shown cells
-- only, each audited cell must also be shown
abbrev pub serves : History → Context → Query → Audit → List SharedRow → Bool
serves history context query audit tuple =
    query_needs history context query tuple && audit_needs history audit tuple
    && (not audit.shown || list_all (is_seen history context audit.tables tuple) audit.columns)

-- a period includes both of its ends
abbrev pub in_period : Audit → Moment → Bool
in_period audit moment = int_le audit.from moment && int_le moment audit.to

abbrev pub is_exempt : Audit → Name → Name → Bool
is_exempt audit purpose recipient =
    list_any (λ pair. bytes_eq pair.purpose purpose && bytes_eq pair.recipient recipient)
    audit.exempt

-- whether a query is in the period, is not exempt, and names every audited column
abbrev pub is_candidate : Context → Query → Audit → Bool
is_candidate context query audit =
    in_period audit context.moment && not (is_exempt audit context.purpose context.recipient)
    && names_all query audit

-- the first virtual tuple that serves
abbrev pub first_serving : History → Context → Query → Audit → Option (List SharedRow)
first_serving history context query audit =
    find (serves history context query audit) (virtual_tuples history (common query audit))

-- the shared tuple of a query and an audit: the first virtual tuple that serves, if the query is a
-- candidate
abbrev pub shared_by : History → Context → Query → Audit → Option (List SharedRow)
shared_by history context query audit =
    if is_candidate context query audit then first_serving history context query audit else None

abbrev pub shared_in : Meaning → History → Audit → Moment → Act → Option (List SharedRow)
shared_in meaning history audit moment (Asked user purpose recipient text) =
    let context : Context = record { purpose = purpose; recipient = recipient; moment = moment } in
    option_and_then (λ query. shared_by history context query audit) (meaning history text)
shared_in meaning history audit moment act = None

-- the shared tuple of an entry and an audit, as of the entry's own time
abbrev pub shared_tuple : Meaning → History → Audit → Entry → Option (List SharedRow)
shared_tuple meaning history audit entry =
    shared_in meaning (before_entry entry history) audit entry.moment entry.act

-- an audit flags an entry if they have a shared tuple
abbrev pub is_flagged : Meaning → History → Audit → Entry → Bool
is_flagged meaning history audit entry = is_some (shared_tuple meaning history audit entry)

-- the flag of an entry, given its shared tuple
abbrev pub flag_by : Entry → Act → List SharedRow → Option Flag
flag_by entry (Asked user purpose recipient text) tuple =
    Some (record {
      seq = entry.seq;
      moment = entry.moment;
      user = user;
      pair = record { purpose = purpose; recipient = recipient };
      shared = tuple;
    })
flag_by entry act tuple = None

abbrev pub flag_of : Meaning → History → Audit → Entry → Option Flag
flag_of meaning history audit entry =
    option_and_then (flag_by entry entry.act) (shared_tuple meaning history audit entry)

-- the flags of the entries with numbers above `above`, up to and including `upto`
abbrev pub flags_between : Meaning → History → Audit → ℕ → ℕ → List Flag
flags_between meaning history audit above upto =
    filter_map (flag_of meaning history audit) (take (upto - above) (drop above history))
