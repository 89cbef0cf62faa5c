-- The types that definitions use. Names, texts and moments are the code's types, seen as bytes and
-- seconds.
use Rattle.std.specs.Prelude.{ℕ, List, Option}
use Rattle.hippo_values.specs.Texts.{Txt}
use Rattle.hippo_values.specs.declared.values.Value.{Value}
use Rattle.hippo_model.specs.declared.born_row.BornRow.{BornRow}
use Rattle.hippo_model.specs.declared.cells.Cell.{Cell}
use Rattle.hippo_model.specs.declared.entry.Entry.{Entry}
use Rattle.hippo_model.specs.declared.query.Query.{Query}

-- the numbered entries; the first is number 1
abbrev pub History : Type 0
History = List Entry

-- a value for each column of a table, or for each column of its key
abbrev pub Row : Type 0
Row = List Value

abbrev pub Key : Type 0
Key = List Value

-- a row of an answer: each value shown or denied
abbrev pub ShownRow : Type 0
ShownRow = List Cell

-- an index in a list, counted from 0
abbrev pub Place : Type 0
Place = ℕ

-- one row of each table of a statement
abbrev pub Combination : Type 0
Combination = List BornRow

-- the query that a text means after some entries, if it means one
abbrev pub Meaning : Type 0
Meaning = List Entry → Txt → Option Query
