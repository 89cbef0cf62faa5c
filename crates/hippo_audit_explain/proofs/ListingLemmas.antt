-- The denied cells of rows, row by row.
use Rattle.std.proofs.Common.{◌≡◌, ◌∙◌, Bool, true, false, List, [], ◌∷◌, ◌++◌, ◌+◌, drop, filter, filter_map, Option, Some, None, Result, Ok, Err, refl, sym, ap, append_assoc}
use Rattle.std.specs.Prelude.{if◌then◌else◌, is_err, OnOk, slice_get}
use Rattle.std.specs.List.{flat_map, enumerate_from, cons_option}
use Rattle.std.proofs.lemmas.Bool.{false≢true}
use Rattle.hippo_values.specs.declared.memory.Memory.{Memory}
use Rattle.hippo_model.specs.declared.born_row.BornRow.{BornRow}
use Rattle.hippo_model.specs.declared.query.Query.{Query}
use Rattle.hippo_model.specs.declared.schema.Column.{Column}
use Rattle.hippo_model.specs.declared.schema.Schema.{Schema}
use Rattle.hippo_model.specs.Denials.{Denial, is_listed, denial_by, row_denials, table_denials}
use Rattle.hippo_model.specs.Rows.{table_rows}
use Rattle.hippo_model.specs.Terms.{History, Place}
use Rattle.hippo_model.specs.Verdicts.{Context, verdict}
use Rattle.hippo_typing_catalog.proofs.ListLemmas.{drop_at_item}
use Rattle.hippo_audit_explain.specs.Listing.{denial_columns, listed_denials, rows_denials}

-- mapping the elements that pass a test is the same as mapping and filtering in one pass
filter_map-filter : {A B : Type 0} (test : A → Bool) (make : A → Option B) (members : List A) → filter_map (λ member. if test member then make member else None) members ≡ filter_map make (filter test members)
filter_map-filter test make [] = refl
filter_map-filter test make (first ∷ rest) = by (test first) (filter_map-filter test make rest)
  where
    by : (passes : Bool) → filter_map (λ member. if test member then make member else None) rest ≡ filter_map make (filter test rest)
        → cons_option (if passes then make first else None) (filter_map (λ member. if test member then make member else None) rest) ≡ filter_map make (if passes then first ∷ filter test rest else filter test rest)
    by true later = ap (cons_option (make first)) later
    by false later = later

module _ (history : History) (context : Context) (query : Query) (schema : Schema) where
  row_is : (kept : BornRow) → row_denials history context query schema kept ≡ listed_denials history context schema (denial_columns query schema) kept
  row_is kept =
      filter_map-filter (λ (place, column). is_listed query schema place)
      (λ (place, column). denial_by schema kept.row column.name (verdict history context schema kept place)) (enumerate_from 0 schema.columns)

  -- the denied cells of a table are those of its rows in the listed columns
  pub table_is : rows_denials history context schema (denial_columns query schema) (table_rows schema history) ≡ table_denials history context query schema
  table_is = sym (λ i. flat_map (λ kept. row_is kept i) (table_rows schema history))

-- what is true of an Ok result
pub held_ok : (P : Type 0) (result : Result (Unit {0}) Memory) → is_err result ≡ false → OnOk result P → P
held_ok P (Ok value) good holds = holds
held_ok P (Err fault) good holds = absurd (false≢true (sym good))

-- the denied cells of one more row
pub row_turn : (history : History) (context : Context) (schema : Schema) (listed : List (Place × Column)) (rows : List BornRow) (place : Place) (kept : BornRow) (cells more whole : List Denial)
    → slice_get rows place ≡ Some kept → cells ++ rows_denials history context schema listed (drop place rows) ≡ whole
    → more ≡ cells ++ listed_denials history context schema listed kept → more ++ rows_denials history context schema listed (drop (place + 1) rows) ≡ whole
row_turn history context schema listed rows place kept cells more whole is so_far added =
    ap (λ l. l ++ rows_denials history context schema listed (drop (place + 1) rows)) added
    ∙ append_assoc cells (listed_denials history context schema listed kept) (rows_denials history context schema listed (drop (place + 1) rows))
    ∙ ap (λ (left : List BornRow). cells ++ rows_denials history context schema listed left) (sym (drop_at_item rows place kept is))
    ∙ so_far
