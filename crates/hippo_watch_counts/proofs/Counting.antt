-- The row with the same key as another one; and counts that are made table by table.
use Rattle.std.proofs.Common.{◌≡◌, ◌∙◌, ◌<◌, ℕ, zero, suc, List, [], ◌∷◌, ◌++◌, length, get_or, Option, Some, None, option_map, refl, sym, ap, subst, arith}
use Rattle.std.specs.Prelude.{slice_get, option_and_then}
use Rattle.hippo_values.specs.declared.names.Name.{Name}
use Rattle.hippo_model.specs.declared.audit.Audit.{Audit}
use Rattle.hippo_model.specs.declared.born_row.BornRow.{BornRow}
use Rattle.hippo_model.specs.declared.schema.Schema.{Schema}
use Rattle.hippo_model.specs.Terms.{History, Row, Key, Place}
use Rattle.hippo_model.specs.Histories.{schema_at}
use Rattle.hippo_model.specs.Hits.{own_conditions, hits}
use Rattle.hippo_model.specs.Rows.{key_of, row_at, born_at}
use Rattle.hippo_tables_keyed.specs.RowSets.{KeyedRows, find_row, row_with, kept_at}
use Rattle.hippo_tables_keyed.proofs.KeptRows.{slice_get-find_row}
use Rattle.hippo_tables_keyed.proofs.RowsAfter.{row_with-table_rows}
use Rattle.hippo_tables.specs.declared.tables.Tables.{Tables}
use Rattle.hippo_tables.specs.Standing.{TablesStandFor}
use Rattle.hippo_watch_counts.specs.Rows.{table_hits}
use Rattle.hippo_watch_counts.specs.Counts.{AreHits, row_like}

abbrev row_in : Option BornRow → Option Row
row_in found = option_map (λ kept. kept.row) found

-- the row at the place that is found
pub found_there : (set : KeyedRows) (key : Key) (found : Option Place) → found ≡ find_row set.key key set.rows → row_in (row_with key set) ≡ row_in (option_and_then (slice_get set.rows) found)
found_there set key found is = ap row_in (sym (slice_get-find_row set.key key set.rows)) ∙ ap (λ (place : Option Place). row_in (option_and_then (slice_get set.rows) place)) (sym is)

same_row : (schema : Schema) (history : History) (key : Key) (found : Option Row) → row_in (option_map (λ row. record { row = row; born = born_at schema history key }) found) ≡ found
same_row schema history key None = refl
same_row schema history key (Some row) = refl

row_kept : (schema : Schema) (history : History) (key : Key) → row_in (row_with key (kept_at schema history)) ≡ row_at schema history key
row_kept schema history key = ap row_in (row_with-table_rows schema history key) ∙ same_row schema history key (row_at schema history key)

like_at : (history : History) (row : Row) (set : KeyedRows) (found : Option Schema) → Some set ≡ option_map (λ schema. kept_at schema history) found
    → row_in (row_with (key_of set.key row) set) ≡ option_and_then (λ schema. row_at schema history (key_of schema.key row)) found
like_at history row set None is = absurd cc
like_at history row set (Some schema) is =
    let same : set ≡ kept_at schema history = cc in
    ap (λ (kept : KeyedRows). row_in (row_with (key_of kept.key row) kept)) same ∙ row_kept schema history (key_of schema.key row)

-- the row of a table's kept rows with the same key as this one
pub like_there : (history : History) (table : Name) (row : Row) (set : KeyedRows) → Some set ≡ option_map (λ schema. kept_at schema history) (schema_at history table) → row_in (row_with (key_of set.key row) set) ≡ row_like history table row
like_there history table row set is = like_at history row set (schema_at history table) is

-- ---- counts so far
abbrev pub SoFar : Tables → Audit → List ℕ → Type 0
SoFar tables audit counts =
    (history : History) → TablesStandFor tables history → (place : Place) → place < length counts → get_or counts place 0 ≡ hits history audit place

pushed : (counts : List ℕ) (count : ℕ) (f : ℕ → ℕ) → ((q : ℕ) → q < length counts → get_or counts q 0 ≡ f q) → count ≡ f (length counts) → (q : ℕ) → q < length (counts ++ count ∷ []) → get_or (counts ++ count ∷ []) q 0 ≡ f q
pushed [] count f so_far last zero within = last
pushed [] count f so_far last (suc q) within = absurd (omega (arith, within))
pushed (first ∷ rest) count f so_far last zero within = so_far zero (omega arith)
pushed (first ∷ rest) count f so_far last (suc q) within = pushed rest count (λ n. f (suc n)) (λ n w. so_far (suc n) (omega (arith, w))) last q (omega (arith, within))

pub one_counted : (tables : Tables) (audit : Audit) (counts : List ℕ) (name : Name) (count : ℕ) → name ≡ get_or audit.tables (length counts) []
    → ((history : History) → TablesStandFor tables history → count ≡ table_hits history (own_conditions audit (length counts)) name)
    → SoFar tables audit counts → SoFar tables audit (counts ++ count ∷ [])
one_counted tables audit counts name count named counted so_far = λ history stands place within.
    pushed counts count (hits history audit) (so_far history stands)
    (counted history stands ∙ ap (table_hits history (own_conditions audit (length counts))) named) place within

pub all_counted : (tables : Tables) (audit : Audit) (counts : List ℕ) → length counts ≡ length audit.tables → SoFar tables audit counts → (history : History) → TablesStandFor tables history → AreHits history audit counts
all_counted tables audit counts many so_far history stands = record { as_many = many; each = λ place within. so_far history stands place (subst (λ (n : ℕ). place < n) (sym many) within) }
