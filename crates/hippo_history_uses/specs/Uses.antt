-- Which rows about a patient a query used. A row is used if the query's answer would be another one
-- without it: this is what an audit of that row asks.
use Rattle.std.specs.Prelude.{ℤ, Bool, false, ◌&&◌, List, [], ◌∷◌, filter}
use Rattle.std.specs.Option.{option_map_or}
use Rattle.std.specs.Ordering.{int_eq}
use Rattle.hippo_model.specs.declared.audit.SharedRow.{SharedRow}
use Rattle.hippo_model.specs.declared.born_row.BornRow.{BornRow}
use Rattle.hippo_model.specs.declared.query.Query.{Query}
use Rattle.hippo_model.specs.declared.schema.Schema.{Schema}
use Rattle.hippo_model.specs.Audits.{query_needs}
use Rattle.hippo_model.specs.Rows.{key_of, table_rows}
use Rattle.hippo_model.specs.Terms.{History}
use Rattle.hippo_model.specs.Verdicts.{Context, subject_of}

-- whether a row is about the patient with this number
abbrev pub is_patients_row : ℤ → Schema → BornRow → Bool
is_patients_row patient schema kept = option_map_or (int_eq patient) (subject_of schema kept.row) false

-- a row, by its table and its key
abbrev pub row_by_key : Schema → BornRow → SharedRow
row_by_key schema kept = record { table = schema.name; key = key_of schema.key kept.row }

-- whether the answer of a query is a different bag without the combinations of a row
abbrev pub uses_row : History → Context → Query → Schema → BornRow → Bool
uses_row history context query schema kept =
    query_needs history context query (row_by_key schema kept ∷ [])

-- the rows of a table that are about a patient and that a query used, in the order of their keys
abbrev pub used_rows : History → Context → Query → ℤ → Schema → List BornRow
used_rows history context query patient schema =
    filter (λ kept. is_patients_row patient schema kept && uses_row history context query schema kept)
    (table_rows schema history)
