-- Which tuples a query of any form needs over the rows of its tables, judged by removing
-- combinations; and the first virtual tuple that the query needs and an audit has.
use Rattle.std.specs.Prelude.{Bool, not, ◌&&◌, List, filter, find, Option}
use Rattle.hippo_model.specs.declared.audit.Audit.{Audit}
use Rattle.hippo_model.specs.declared.audit.SharedRow.{SharedRow}
use Rattle.hippo_model.specs.declared.query.Expr.{Expr}
use Rattle.hippo_model.specs.declared.query.Form.{Form}
use Rattle.hippo_model.specs.declared.query.Masked.{Masked}
use Rattle.hippo_model.specs.Terms.{Combination}
use Rattle.hippo_model.specs.Answers.{product}
use Rattle.hippo_model.specs.Bags.{same_bag}
use Rattle.hippo_model.specs.Forms.{rows_by_form}
use Rattle.hippo_model.specs.Masking.{Choices}
use Rattle.hippo_tables_keyed.specs.RowSets.{KeyedRows}
use Rattle.hippo_eval.specs.Answering.{masked_rows}
use Rattle.hippo_eval.specs.Walks.{rows_of}
use Rattle.hippo_audit_common.specs.Commons.{common_tables}
use Rattle.hippo_audit_search.specs.Sharing.{virtual_tuples_in, has_tuple_in, query_has, audit_has}

-- whether a query's answer is a different bag when the combinations that have the tuple are removed
abbrev pub needs_by : Choices → Masked → Form → List KeyedRows → List SharedRow → Bool
needs_by choices query form sets tuple =
    let combinations : List Combination = product (rows_of sets) in
    let left = filter (λ rows. not (has_tuple_in query.tables sets tuple rows)) combinations in
    not (same_bag (rows_by_form form (masked_rows choices query left))
    (rows_by_form form (masked_rows choices query combinations)))

-- the first virtual tuple that the query needs, that a row of its answer has with all wanted cells
-- shown, and that a combination of the audit has
abbrev pub first_needed :
    Choices → Masked → Form → Audit → List Expr → List KeyedRows → List KeyedRows
    → Option (List SharedRow)
first_needed choices query form audit seen query_sets audit_sets =
    find (λ tuple. needs_by choices query form query_sets tuple
    && query_has choices query seen query_sets tuple
    && audit_has audit audit_sets tuple)
    (virtual_tuples_in audit.tables audit_sets (common_tables query.tables audit.tables))
