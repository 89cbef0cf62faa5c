use Rattle.std.proofs.Common.{◌≡◌, ℕ, ◌<◌, map, length, get_or, ap, sym, ◌∙◌, arith, List, refl}
use Rattle.std.proofs.lemmas.List.{length-map, get_or-map}
use Rattle.hippo_values.specs.declared.names.Name.{Name}
use Rattle.hippo_model.specs.declared.schema.Column.{Column}
use Rattle.hippo_typing_catalog.proofs.RepeatLemmas.{repeated, not_repeated, kept_more}
use Rattle.hippo_typing_changes.proofs.tables.check_columns_differ.Goals as goal

abbrev names_of : List Column → List Name
names_of columns = map (λ (column : Column). column.name) columns

-- a column's name is the one at its place among the names
at_column : (columns : List Column) (i : ℕ) (column : Column) → i < length columns → column ≡ get_or columns i column →
    (i < length (names_of columns)) × (column.name ≡ get_or (names_of columns) i column.name)
at_column columns i column h is =
    (rw (length-map columns (λ (column : Column). column.name)) h, ap (λ (c : Column). c.name) is ∙ sym (get_or-map (λ (c : Column). c.name) columns i column column.name h))

pub returns-then-contains : goal.returns-then-contains
returns-then-contains c =
    let here = at_column c.args.columns.now c.loop-column.column-index c.column-item.result (omega arith) c.column-item.is in
    let there = sym c.contains.ensures ∙ c.if-contains.true in
    rw c.loop-column.invariant.left
    (repeated (names_of c.args.columns.now) c.loop-column.column-index c.column-item.result.name here.0 here.1 c.loop-column.before.keys c.loop-column.invariant.kept there c.repeated_name.result c.repeated_name.ensures)

pub loop-column-preserved : goal.loop-column-preserved
loop-column-preserved c =
    let names : List Name = names_of c.args.columns.now in
    let i : ℕ = c.loop-column.column-index in
    let here = at_column c.args.columns.now i c.column-item.result (omega arith) c.column-item.is in
    let absent = sym c.contains.ensures ∙ c.if-contains.false in
    record {
      left = c.loop-column.invariant.left ∙ not_repeated names i c.column-item.result.name here.0 here.1 c.loop-column.before.keys c.loop-column.invariant.kept absent;
      kept = kept_more names i c.column-item.result.name here.0 here.1 c.loop-column.before.keys c.loop-column.invariant.kept c.insert.new.self.keys _ absent refl c.in_ok-insert.ensures.keys;
    }
