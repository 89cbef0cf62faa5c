-- The counts of an audit's hits, and how a change of a row changes them.
use Rattle.std.specs.Prelude.{◌≡◌, ◌<◌, ℕ, ◌+◌, ◌-◌, min, List, length, slice_index_or, slice_set, Option, None, option_and_then, position, if◌then◌else◌, bytes_eq}
use Rattle.std.specs.Option.{option_map_or}
use Rattle.hippo_values.specs.declared.names.Name.{Name}
use Rattle.hippo_model.specs.declared.audit.Audit.{Audit}
use Rattle.hippo_model.specs.declared.entry.Act.{Act}
use Rattle.hippo_model.specs.declared.entry.Act.TheVariants.{Insert, Update, Delete}
use Rattle.hippo_model.specs.declared.query.CondOf.{CondOf}
use Rattle.hippo_model.specs.declared.query.Operand.{Operand}
use Rattle.hippo_model.specs.Terms.{History, Row, Place}
use Rattle.hippo_model.specs.Histories.{schema_at}
use Rattle.hippo_model.specs.Hits.{own_conditions, hits}
use Rattle.hippo_model.specs.Rows.{key_of, row_at, row_left}
use Rattle.hippo_model.specs.StoredForms.{table_changed}
use Rattle.hippo_model.specs.Versions.{is_version}
use Rattle.hippo_tables.specs.Finished.{live_row}
use Rattle.hippo_watch_counts.specs.declared.counts.AuditHits.{AuditHits}
use Rattle.hippo_watch_counts.specs.Rows.{hit_of}

-- the counts are those of an audit's hits in its tables after a history
pub record AreHits (history : History) (audit : Audit) (counts : List ℕ) : Type 0 where
  pub as_many : length counts ≡ length audit.tables
  pub each : (place : Place) → place < length audit.tables
      → slice_index_or counts place 0 ≡ hits history audit place

-- a count after an old row is replaced by a new one, clamped to 64 bits
abbrev pub changed_count : List (CondOf Operand) → Option Row → Option Row → ℕ → ℕ
changed_count conditions old new count =
    min (count - hit_of conditions old + hit_of conditions new) 18446744073709551615

-- the place of a table among an audit's tables
abbrev pub audit_place : List Name → Name → Option Place
audit_place tables table = position (λ name. bytes_eq name table) tables

-- the counts after an old row of a table is replaced by a new one
abbrev pub changed_counts : Audit → Name → Option Row → Option Row → List ℕ → List ℕ
changed_counts audit table old new counts =
    option_map_or
    (λ place. slice_set counts place
    (changed_count (own_conditions audit place) old new (slice_index_or counts place 0)))
    (audit_place audit.tables table) counts

-- an audit with its counts changed so
abbrev pub changed_hits : Name → Option Row → Option Row → AuditHits → AuditHits
changed_hits table old new held =
    record held { hits = changed_counts held.audit table old new held.hits }

-- one of an audit's tables has no hit
pub record HasNone (audit : Audit) (counts : List ℕ) : Type 0 where
  pub table : Place
  pub within : table < length audit.tables
  pub none : slice_index_or counts table 0 ≡ 0

-- the row of a table that has the same key as this one
abbrev pub row_like : History → Name → Row → Option Row
row_like history table row =
    option_and_then (λ schema. row_at schema history (key_of schema.key row))
    (schema_at history table)

-- the row that an act of a history replaces or deletes, if there is one
abbrev pub row_before : History → Act → Option Row
row_before history (Insert table row) = row_like history table row
row_before history (Update table row) = row_like history table row
row_before history (Delete table key) = live_row history table key
row_before history act = None

-- an audit with its counts after an act that comes next
abbrev pub taken_in : History → Act → AuditHits → AuditHits
taken_in history act held =
    if is_version act then changed_hits (table_changed act) (row_before history act) (row_left act)
    held else held

-- an audit with its counts before an act, from those after it
abbrev pub taken_back : History → Act → AuditHits → AuditHits
taken_back history act held =
    if is_version act then changed_hits (table_changed act) (row_left act) (row_before history act)
    held else held
