-- What the statements that write do to the table.
use Rattle.std.proofs.Common.{◌≡◌, ◌⊎◌, inl, inr, ℕ, ℤ, List, [], ◌∷◌, ◌++◌, map, Bool, true, false, cond, Option, None, Ok, Err, Result, refl, sym, ap, subst, ◌∙◌, Less, int_cmp}
use Rattle.std.specs.List.{AllByRecursion}
use Rattle.sqlite_value.specs.declared.value.Value.{Value}
use Rattle.sqlite_value.specs.declared.value.Value.TheVariants.{Null, Int, Text, Blob}
use Rattle.sqlite_value.specs.Order.{Row}
use Rattle.sqlite_value.proofs.OrderLemmas.{value_cmp-Int}
use Rattle.sqlite_trees.specs.Tree.{Trees, put_row}
use Rattle.sqlite_sql.specs.Ops.{unary}
use Rattle.sqlite_schema.specs.declared.schema.Kind.TheVariants.{Integer}
use Rattle.sqlite_schema.specs.declared.command.Source.TheVariants.{Values}
use Rattle.sqlite_schema.specs.declared.command.Command.TheVariants.{Insert, CreateTable}
use Rattle.sqlite_rules.specs.Edit.{edit_of, edited, put_all, with_rowid}
use Rattle.sqlite_rules.specs.Cast.{cast, cast_row}
use Rattle.sqlite_rules.specs.declared.error.Rowids.TheVariants.{Chosen}
use Rattle.sqlite_catalog.specs.Change.{created, next_tree}
use Rattle.sqlite.specs.declared.run.Mode.{Mode}
use Rattle.sqlite.specs.Effect.{Database}
use Rattle.sqlite.specs.Does.{Tally, Does, lacks_sequence}
use Rattle.sqlite.specs.Rows.{Written}
use Rattle.sqlite.proofs.Callers.{one_step}
use Rattle.hippo_sqlite_table.specs.Tables.{HistoryRow, values_of, stored_row, history_table, history_schema, empty_schema}
use Rattle.hippo_sqlite_table.specs.Queries.{create_sql}
use Rattle.hippo_sqlite_table.proofs.TextLemmas.{create_is, given}

either : (b : Bool) (x : Value) → cond b x x ≡ x
either true x = refl
either false x = refl

cast_null : cast Integer Null ≡ Null
unfolding unary
cast_null = either _ Null

cast_int : (n : ℤ) → cast Integer (Int n) ≡ Int n
unfolding unary
cast_int n = either _ (Int n)

cast_stored : (row : HistoryRow) → cast_row history_table (stored_row row) ≡ stored_row row
cast_stored row = λ i. cast_int row.number i ∷ cast_null i ∷ cast_int row.moment i ∷ cast_int row.kind i ∷ Text row.table ∷ Blob row.body ∷ []

-- a row above all others is added after them
put_last : (new : HistoryRow) (rows : List HistoryRow) → AllByRecursion (λ row. int_cmp row.number new.number ≡ Less) rows → put_row (stored_row new) (map stored_row rows) ≡ map stored_row (rows ++ new ∷ [])
put_last new [] low = refl
put_last new (row ∷ rows) low = rw (value_cmp-Int row.number new.number, low.0) (ap (λ rest. stored_row row ∷ rest) (put_last new rows low.1))

-- a part that gave a value did not stop early
went : {B E R : Type 0} {b : B} {Stops : E → Type 0} → ((stop : E) × Stops stop × (Ok b ≡ Err stop)) ⊎ R → R
went (inl stopped) = absurd (let e = stopped.2 in cc)
went (inr on) = on

same_value : {B E : Type 0} {a b : B} → ◌≡◌ {A = Result B E} (Ok a) (Ok b) → a ≡ b
same_value e = cc

-- what INSERT does to rows that are below the new one
pub inserts : (limit : Option ℕ) (mode : Mode) (old after : Database) (text : List ℕ) (tally : Tally) (rows : List HistoryRow) (new : HistoryRow)
    → old.schema ≡ history_schema → old.trees 0 ≡ map stored_row rows → AllByRecursion (λ row. int_cmp row.number new.number ≡ Less) rows
    → Does limit mode (values_of new) old text None (Insert 0 (Values given 6)) (Ok (tally, after))
    → (after.schema ≡ history_schema) × (after.trees 0 ≡ map stored_row (rows ++ new ∷ []))
inserts limit mode old after text tally rows new has are low does =
    let params = values_of new in
    let db = old.trees in
    let command = Insert 0 (Values given 6) in
    let done = went (subst (λ s. Does limit mode params (record old { schema = s }) text None command (Ok (tally, after))) has does) in
    let now = ap (λ (p : Tally × Database). p.1) (same_value (went (went done.2).2).2) in
    let source = went done.1 in
    let written = went (went source.2).2 in
    let counted = went written.2 in
    let trees : done.0.trees ≡ written.0 = ap (λ (it : Written). it.trees) (same_value counted.2) ∙ same_value counted.1 in
    let put = (one_step history_schema _ db written.0 (edit_of db history_table [] Chosen 0 source.0) refl written.1).rows in
    let edit : edited db (edit_of db history_table [] Chosen 0 source.0) ≡ map stored_row (rows ++ new ∷ []) =
    ap (λ all. edited db (edit_of db history_table [] Chosen 0 all)) source.1.1
    ∙ ap (λ row. put_all (db 0) (with_rowid Chosen (db 0) row ∷ [])) (cast_stored new)
    ∙ ap (λ there. put_row (stored_row new) there) are
    ∙ put_last new rows low in
    (ap (λ (d : Database). d.schema) now, ap (λ (d : Database). d.trees 0) now ∙ ap (λ (t : Trees). t 0) trees ∙ put ∙ edit)

-- what CREATE TABLE does to an empty store
pub creates : (limit : Option ℕ) (mode : Mode) (params : Row) (old after : Database) (tally : Tally)
    → old.schema ≡ empty_schema → Does limit mode params old create_sql None CreateTable (Ok (tally, after))
    → (after.schema ≡ history_schema) × (after.trees 0 ≡ [])
creates limit mode params old after tally has does =
    let all = went does in
    let first = went all.1 in
    let made = first.1 in
    let both : Ok made.table ≡ Ok history_table = sym made.defined ∙ create_is.1 in
    let same : made.table ≡ history_table = cc in
    let schema : first.0.schema ≡ history_schema = made.is ∙ ap (λ s. created s made.table) has ∙ ap (created empty_schema) same in
    let plain : lacks_sequence first.0.schema ≡ false = ap lacks_sequence schema in
    let now : after ≡ first.0 = ap (λ (p : Tally × Database). p.1) (same_value all.2) ∙ same_value (rw plain at first.2) in
    (ap (λ (d : Database). d.schema) now ∙ schema, ap (λ (d : Database). d.trees 0) now ∙ subst (λ s. first.0.trees (next_tree s) ≡ []) has made.empty)
