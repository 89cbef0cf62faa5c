-- The marks of the rows of an answer: which virtual tuple the combinations that make a row have.
use Rattle.std.specs.Prelude.{◌≡◌, Bool, ◌&&◌, List, map, filter, unwrap_or}
use Rattle.std.specs.BTreeMap as tree
use Rattle.hippo_model.specs.declared.query.Masked.{Masked}
use Rattle.hippo_model.specs.Terms.{Combination, Place, ShownRow}
use Rattle.hippo_model.specs.Bags.{same_row}
use Rattle.hippo_model.specs.Masking.{Choices, is_guarded, masked_passes, masked_items}
use Rattle.hippo_tables_keyed.specs.RowSets.{KeyedRows}
use Rattle.hippo_audit_search.specs.declared.marks.Mark.{Mark}
use Rattle.hippo_audit_search.specs.declared.marks.Mark.TheVariants.{Unmarked}
use Rattle.hippo_audit_search.specs.Marks.{row_places, mark_of}
use Rattle.hippo_distinct.specs.DistinctRows.{RowOrder}

-- the mark of each row
abbrev pub Marks : Type 0
Marks = tree.BTreeMap ShownRow Mark

abbrev pub mark_at : RowOrder → Marks → ShownRow → Mark
mark_at order marks row = unwrap_or (tree.get order marks row) Unmarked

-- whether a combination makes this row of a query's answer
abbrev pub makes_row : Choices → Masked → ShownRow → Combination → Bool
makes_row choices query row rows =
    is_guarded choices query rows && masked_passes choices query rows
    && same_row row (masked_items choices query rows)

-- the mark of the combinations that make a row, by the places of their rows in some tables
abbrev pub row_mark : Choices → Masked → List KeyedRows → List Place → List Combination → ShownRow
    → Mark
row_mark choices query sets tables combinations row =
    mark_of (map (row_places sets tables) (filter (makes_row choices query row) combinations))

-- each row has the mark of the combinations that make it
abbrev pub AreMarked :
    RowOrder → Choices → Masked → List KeyedRows → List Place → List Combination → Marks → Type 0
AreMarked order choices query sets tables combinations marks =
    (row : ShownRow)
    → mark_at order marks row ≡ row_mark choices query sets tables combinations row
