-- Laws about the versions of a table.
use Rattle.std.specs.Prelude.{◌≡◌, true, ◌∷◌, ◌++◌, Some}
use Rattle.hippo_values.specs.declared.names.Name.{Name}
use Rattle.hippo_model.specs.declared.entry.Entry.{Entry}
use Rattle.hippo_model.specs.declared.schema.Schema.{Schema}
use Rattle.hippo_model.specs.Terms.{History, Meaning}
use Rattle.hippo_model.specs.Histories.{schema_at}
use Rattle.hippo_tables_keyed.specs.RowSets.{kept_at}
use Rattle.hippo_model.specs.Validity.{is_valid}
use Rattle.hippo_model.specs.Versions.{version_fits}
use Rattle.hippo_backlog.specs.Backlogs.{versions_of}

-- the rows of a table after some entries are those after the table's versions among them alone
abbrev pub RowsAreThoseOfVersions : Type 0
RowsAreThoseOfVersions =
    (schema : Schema) (history : History)
    → kept_at schema history ≡ kept_at schema (versions_of schema.name history)

-- in a valid history a table keeps its schema
abbrev pub SchemasLast : Type 0
SchemasLast =
    (meaning : Meaning) (front later : History) (table : Name) (schema : Schema)
    → is_valid meaning (front ++ later) ≡ true → schema_at front table ≡ Some schema
    → schema_at (front ++ later) table ≡ Some schema

-- in a valid history each version of a table fits the table's earlier versions
abbrev pub VersionsFit : Type 0
VersionsFit =
    (meaning : Meaning) (history : History) (schema : Schema) → is_valid meaning history ≡ true
    → schema_at history schema.name ≡ Some schema → (earlier later : History) (entry : Entry)
    → versions_of schema.name history ≡ earlier ++ entry ∷ later
    → version_fits schema earlier entry.act ≡ true
