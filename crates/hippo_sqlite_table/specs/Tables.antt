-- The table of the history, and the rows that it holds.
use Rattle.std.specs.Prelude.{◌≡◌, Bool, true, false, not, ◌&&◌, [], ◌∷◌, Some, is_some, codes, List, ℕ, ◌^◌, ℤ, pos, map, filter, length, nat_lt, ◌==◌, if◌then◌else◌}
use Rattle.std.specs.declared.cmp.Ordering.TheVariants.{Less}
use Rattle.std.specs.List.{AllByRecursion}
use Rattle.std.specs.Ordering.{int_cmp}
use Rattle.sqlite_value.specs.declared.value.Value.{Value}
use Rattle.sqlite_value.specs.declared.value.Value.TheVariants.{Null, Int, Text as Words, Blob as Bytes}
use Rattle.sqlite_value.specs.Order.{Row, column, bytes}
use Rattle.sqlite_trees.specs.Objects.{number_in}
use Rattle.sqlite_trees.specs.Tree.{IsAscending}
use Rattle.sqlite_rules.specs.Edit.{id_in}
use Rattle.sqlite.specs.Listing.{plain}
use Rattle.hippo_model.specs.declared.stored.StoredEntry.{StoredEntry}
use Rattle.hippo_keeper.specs.Keeping.{Store}
use Rattle.sqlite_schema.specs.Names.{table_named}
use Rattle.sqlite_schema.specs.declared.schema.Table.{Table}
use Rattle.sqlite_schema.specs.declared.schema.Schema.{Schema}
use Rattle.sqlite_schema.specs.declared.schema.Column.{Column}
use Rattle.sqlite_schema.specs.declared.schema.Kind.{Kind}
use Rattle.sqlite_schema.specs.declared.schema.Kind.TheVariants.{Integer, Text, Blob}

abbrev pub needed_column : List ℕ → Kind → Column
needed_column name kind = record (plain name kind) { not_null = true }

-- the table that the keeper creates in an empty store
abbrev pub history_table : Table
history_table = record {
  name = codes "history";
  tree = 0;
  columns = plain (codes "seq") Integer
      ∷ needed_column (codes "moment") Integer ∷ needed_column (codes "kind") Integer
      ∷ needed_column (codes "tbl") Text ∷ needed_column (codes "body") Blob ∷ [];
  key = Some 0;
  primary = 0 ∷ [];
  uniques = [];
  orders = [];
  checks = [];
  references = [];
  computed = [];
  stamps = record { places = []; terms = []; formats = [] };
  is_counted = false;
}

abbrev pub history_schema : Schema
history_schema = record { tables = history_table ∷ []; indexes = []; views = [] }

abbrev pub empty_schema : Schema
empty_schema = record { tables = []; indexes = []; views = [] }

-- the database of another program: it has tables, or views as `sqlite` lists them, and no table
-- named `history`
abbrev pub is_foreign : Schema → Bool
is_foreign schema =
    not (length schema.tables == 0 && length schema.views == 0)
    && not (is_some (table_named schema (codes "history")))

-- the values in a row of the table
pub record HistoryRow : Type 0 where
  pub number : ℤ
  pub moment : ℤ
  pub kind : ℤ
  pub table : List ℕ
  pub body : List ℕ

-- the row as a query returns it
abbrev pub shown_row : HistoryRow → Row
shown_row row =
    Int row.number ∷ Int row.moment ∷ Int row.kind ∷ Words row.table ∷ Bytes row.body ∷ []

-- the row as a statement takes it
abbrev pub values_of : HistoryRow → Row
values_of row = shown_row row

-- the row as the table stores it: its rowid comes first and is the value of the first column
abbrev pub stored_row : HistoryRow → Row
stored_row row =
    Int row.number ∷ Null ∷ Int row.moment ∷ Int row.kind ∷ Words row.table ∷ Bytes row.body ∷ []

-- the row of an entry
abbrev pub row_of : StoredEntry → HistoryRow
row_of entry = record {
  number = pos entry.seq;
  moment = entry.moment;
  kind = pos entry.kind;
  table = entry.table;
  body = entry.body;
}

-- a kind is from 0 to 255; any other number is read as 0
abbrev pub kind_in : Value → ℕ
kind_in value = if nat_lt (number_in value) 256 then number_in value else 0

abbrev pub entry_in : Row → StoredEntry
entry_in row = record {
  seq = number_in (column row 0);
  moment = id_in (column row 2);
  kind = kind_in (column row 3);
  table = bytes (column row 4);
  body = bytes (column row 5);
}

-- the entries of the rows, if their number is above 0
abbrev pub entries_in : List Row → Store
entries_in rows = filter (λ entry. nat_lt 0 entry.seq) (map entry_in rows)

-- rows of the table's types, ordered by number; every number is below 2 ^ 63
pub record AreInOrder (rows : List HistoryRow) : Type 0 where
  pub rise : IsAscending (λ a b. int_cmp a.number b.number ≡ Less) rows
  pub low : AllByRecursion (λ row. int_cmp row.number (pos (2 ^ 63)) ≡ Less) rows

-- rows ordered by number, all above this number
pub record AreAbove (number : ℤ) (rows : List HistoryRow) : Type 0 where
  pub rise : IsAscending (λ a b. int_cmp a.number b.number ≡ Less) rows
  pub high : AllByRecursion (λ row. int_cmp number row.number ≡ Less) rows
