-- A history is a list of entries. The state at entry number n is the result of the first n - 1
-- entries. Each definition takes the entries so far, and searches for the last one on the matter.
use Rattle.std.specs.Prelude.{[], ◌∷◌, ◌-◌, take, Option, None, bytes_eq}
use Rattle.std.specs.Bool.{then_some}
use Rattle.std.specs.Option.{option_or}
use Rattle.hippo_values.specs.declared.names.Name.{Name}
use Rattle.hippo_model.specs.declared.schema.Schema.{Schema}
use Rattle.hippo_model.specs.declared.entry.Act.{Act}
use Rattle.hippo_model.specs.declared.entry.Act.TheVariants.{Create, Item}
use Rattle.hippo_model.specs.declared.entry.ItemKind.{ItemKind}
use Rattle.hippo_model.specs.declared.entry.Entry.{Entry}
use Rattle.hippo_model.specs.Terms.{History}

-- the entries before this one
abbrev pub before_entry : Entry → History → History
before_entry entry history = take (entry.seq - 1) history

-- what the last entry on a matter says; `word` gives what an entry says on the matter, if anything
abbrev pub last_word : {A : Type 0} → (Entry → Option A) → History → Option A
last_word word [] = None
last_word word (entry ∷ later) = option_or (last_word word later) (word entry)

abbrev pub schema_created : Name → Act → Option Schema
schema_created table (Create schema) = then_some (bytes_eq schema.name table) schema
schema_created table act = None

-- the schema of a table, if the table exists
abbrev pub schema_at : History → Name → Option Schema
schema_at history table = last_word (λ entry. schema_created table entry.act) history

abbrev pub item_created : Name → Act → Option ItemKind
item_created item (Item name kind) = then_some (bytes_eq name item) kind
item_created item act = None

-- how a missing choice on an item counts, if the item exists
abbrev pub item_at : History → Name → Option ItemKind
item_at history item = last_word (λ entry. item_created item entry.act) history
