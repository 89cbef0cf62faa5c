-- Laws on the effect of an entry on a table's kept rows.
use Rattle.std.specs.Prelude.{◌≡◌, false, [], ◌∷◌, ◌++◌, bytes_eq}
use Rattle.std.specs.Bool.{then_some}
use Rattle.hippo_model.specs.declared.entry.Entry.{Entry}
use Rattle.hippo_model.specs.declared.schema.Schema.{Schema}
use Rattle.hippo_model.specs.Terms.{History}
use Rattle.hippo_tables_keyed.specs.RowSets.{kept_at}
use Rattle.hippo_model.specs.StoredForms.{table_changed}
use Rattle.hippo_model.specs.Versions.{is_version, version_fits}
use Rattle.hippo_tables_keyed.specs.Changes.{changed}

-- applying an entry to the rows kept after a history gives those kept after the history with the
-- entry, if the entry is a version that fits; else it gives none
abbrev pub ChangeIsThatOfHistory : Type 0
ChangeIsThatOfHistory =
    (schema : Schema) (history : History) (entry : Entry)
    → changed schema entry.moment entry.act (kept_at schema history)
    ≡ then_some (version_fits schema history entry.act) (kept_at schema (history ++ entry ∷ []))

-- adding the entry leaves the kept rows the same
abbrev pub LeavesRows : Schema → History → Entry → Type 0
LeavesRows schema history entry = kept_at schema (history ++ entry ∷ []) ≡ kept_at schema history

-- an entry that is not a version leaves the kept rows of each table the same; a version leaves
-- those of each other table the same
pub record OthersLeaveRows : Type 0 where
  pub no_version : (schema : Schema) (history : History) (entry : Entry)
      → is_version entry.act ≡ false
      → LeavesRows schema history entry
  pub other_table : (schema : Schema) (history : History) (entry : Entry)
      → bytes_eq (table_changed entry.act) schema.name ≡ false → LeavesRows schema history entry
