-- The state in which each statement leaves a connection.
use Rattle.std.proofs.Common.{◌≡◌, ◌⊎◌, inl, inr, ℕ, ◌+◌, ◌<◌, ◌^◌, pos, List, [], ◌∷◌, ◌++◌, map, false, cond, Option, Some, None, Ok, Err, Result, IsTrue, refl, sym, ap, subst, ◌∙◌, Less, int_cmp, arith}
use Rattle.std.proofs.lemmas.Bool.{cases_Bool}
use Rattle.std.proofs.lemmas.Bool.Decides.{nat_tests}
use Rattle.std.specs.List.{AllZip, filter}
use Rattle.sqlite_value.specs.Order.{Row}
use Rattle.sqlite_trees.specs.Tree.{Trees}
use Rattle.sqlite_trees.specs.Objects.{catalog_tree}
use Rattle.sqlite_schema.specs.declared.schema.Schema.{Schema}
use Rattle.sqlite_schema.specs.declared.schema.Table.{Table}
use Rattle.sqlite_schema.specs.declared.command.Source.TheVariants.{Values}
use Rattle.sqlite_schema.specs.declared.command.Command.{Command}
use Rattle.sqlite_schema.specs.declared.command.Command.TheVariants.{Select, Insert, InsertOr, Update, Delete, CreateTable, CreateIndex, DropTable, DropIndex, Begin, Commit, Rollback, Savepoint, Release, RollbackTo, Nothing, CreateView, DropView, Rows}
use Rattle.sqlite_schema.specs.declared.command.Returning.{Returning}
use Rattle.sqlite_schema.specs.Names.{same_name}
use Rattle.sqlite_catalog.specs.Listing.{IsSound, IsTableRow, is_table_row, IsIndexRow, is_index_row, IsViewRow, is_view_row}
use Rattle.sqlite_resolve.specs.declared.compiled.Compiled.{Compiled}
use Rattle.sqlite.specs.declared.error.Error.{Error}
use Rattle.sqlite.specs.declared.run.Mode.{Mode}
use Rattle.sqlite.specs.Clock.{timed}
use Rattle.sqlite.specs.Effect.{Database, IsDatabase}
use Rattle.sqlite.specs.Does.{Tally, Does}
use Rattle.sqlite.specs.Listing.{understood}
use Rattle.sqlite.specs.State.{State, Runs, IsUnchanged, IsRolledBack, IsNotRun, RunsCommand, shows_rows, ExecutesIn, Executes, ShowsRows, Shown, FailsToShow, FailsToQuery, CommitsBy, mode_of, text_of}
use Rattle.sqlite.proofs.Callers.{IsPlain, command_of, statement_of, runs_as}
use Rattle.hippo_model.specs.declared.stored.StoredEntry.{StoredEntry}
use Rattle.hippo_keeper.specs.Keeping.{Store, next_number}
use Rattle.hippo_sqlite_table.specs.Tables.{values_of, stored_row, row_of, entries_in, history_schema, empty_schema}
use Rattle.hippo_sqlite.specs.Contents.{entries_of, IsKeptIn, HasHistory, StartsWell, HoldsWell, Rests}
use Rattle.hippo_sqlite_table.specs.Queries.{create_sql, insert_sql}
use Rattle.hippo_sqlite_table.proofs.TextLemmas.{given, create_is, made_is, insert_is, create_plain, made_plain, insert_plain, statement_is}
use Rattle.hippo_sqlite_table.proofs.EditLemmas.{inserts, creates}
use Rattle.hippo_sqlite_table.proofs.OrderLemmas.{next_above, in_order_more, entries_more}

-- ---- what is open was open

runs_open : (old new : State) (returning : Option Returning) (command : Command) (text : List ℕ) (params : Row) (count : ℕ) → Runs old new returning command text params count → IsTrue new.is_open → IsTrue old.is_open
runs_open old new returning (Select q names) text params count h is = absurd h
runs_open old new returning (Insert at from) text params count h is = h.shown.was_open
runs_open old new returning (InsertOr at how from clauses) text params count h is = h.shown.was_open
runs_open old new returning (Update at q) text params count h is = h.shown.was_open
runs_open old new returning (Delete at q) text params count h is = h.shown.was_open
runs_open old new returning CreateTable text params count h is = h.shown.was_open
runs_open old new returning (CreateIndex at) text params count h is = h.shown.was_open
runs_open old new returning (DropTable at) text params count h is = h.shown.was_open
runs_open old new returning (DropIndex at) text params count h is = h.shown.was_open
runs_open old new returning Begin text params count h is = h.1.was_open
runs_open old new returning Commit text params count h is = h.1.was_open
runs_open old new returning Rollback text params count h is = h.1.was_open is
runs_open old new returning (Savepoint name) text params count h is = h.0.0.was_open
runs_open old new returning (Release name) text params count h is = elim h.2 [ inl ended ↦ ended.1.0.was_open | inr dropped ↦ dropped.1.0.was_open ]
runs_open old new returning (RollbackTo name) text params count h is = h.2.2.was_open
runs_open old new returning (Rows values width names) text params count h is = h.0.0.was_open
runs_open old new returning Nothing text params count h is = h.0.0.was_open
runs_open old new returning CreateView text params count h is = h.shown.was_open
runs_open old new returning (DropView at) text params count h is = h.shown.was_open

-- a statement that was refused changed nothing, or was rolled back
abbrev pub IsLeft : State → State → Type 0
IsLeft old new = IsUnchanged old new ⊎ IsRolledBack old new

pub left_open : (old new : State) → IsLeft old new → IsTrue new.is_open → IsTrue old.is_open
left_open old new (inl same) is = same.0.was_open
left_open old new (inr back) is = back.was_open is

not_run_left : (old new : State) (sql : List ℕ) (params : Row) (e : Error) → IsNotRun old new sql params e → IsLeft old new
unfolding IsNotRun
not_run_left old new sql params e (inl h) = inl h.1
not_run_left old new sql params e (inr h) = inr h.3

command_left : (old new : State) (sql : List ℕ) (c : Compiled) (params : Row) (e : Error) → RunsCommand old new sql c params (Err e) → IsLeft old new
command_left old new sql c params e (inl h) = inl h.1
command_left old new sql c params e (inr h) = inr h.3

pub executes_left : (sql : List ℕ) (params : Row) (old new : State) (e : Error) → Executes sql params old new (Err e) → IsLeft old new
unfolding ExecutesIn
executes_left sql params old new e (inl h) = not_run_left old new sql params e h
executes_left sql params old new e (inr h) = elim (cases_Bool (shows_rows false h.0)) [
  | inl shows ↦ inl (rw shows at h.2).1
  | inr runs ↦ command_left old new sql h.0 (timed params h.0.formats h.1.now) e (rw runs at h.2)
]

pub executes_open : (sql : List ℕ) (params : Row) (old new : State) (outcome : Result ℕ Error) → Executes sql params old new outcome → IsTrue new.is_open → IsTrue old.is_open
unfolding ExecutesIn
executes_open sql params old new (Ok count) h is = elim (cases_Bool (shows_rows false h.0)) [
  | inl shows ↦ absurd (let e = (rw shows at h.2).0 in cc)
  | inr runs ↦ runs_open old new h.0.returning h.0.command _ _ count (rw runs at h.2) is
]
executes_open sql params old new (Err e) h is = left_open old new (executes_left sql params old new e h) is

shows_open : (old new : State) (sql : List ℕ) (c : Compiled) (params : Row) (rows : List Row) (returning : Option Returning) → ShowsRows old new sql c params rows returning → IsTrue new.is_open → IsTrue old.is_open
shows_open old new sql c params rows None h is = h.3.0.was_open
shows_open old new sql c params rows (Some what) h is = h.1.shown.was_open

pub shown_open : (sql : List ℕ) (params : Row) (old new : State) (rows : List Row) → Shown sql params old new rows → IsTrue new.is_open → IsTrue old.is_open
unfolding Shown
shown_open sql params old new rows h is = shows_open old new sql h.0 _ rows h.0.returning h.2 is

-- a query changes nothing
pub shown_same : (sql : List ℕ) (params : Row) (old new : State) (rows : List Row) → IsPlain (understood old.now.schema sql) → Shown sql params old new rows → IsUnchanged old new
unfolding Shown
shown_same sql params old new rows plain h =
    let none = (subst IsPlain h.1.is plain).0 in
    let it = subst (ShowsRows old new sql h.0 (timed params h.0.formats h.1.now) rows) none h.2 in
    it.3

show_left : (old new : State) (sql : List ℕ) (c : Compiled) (params : Row) (e : Error) (returning : Option Returning) → FailsToShow old new sql c params e returning → IsLeft old new
show_left old new sql c params e None h = inl h.3
show_left old new sql c params e (Some what) h = command_left old new sql c params e h

pub query_left : (sql : List ℕ) (params : Row) (old new : State) (e : Error) → FailsToQuery sql params old new e → IsLeft old new
unfolding FailsToQuery
query_left sql params old new e (inl h) = not_run_left old new sql params e h
query_left sql params old new e (inr h) = show_left old new sql h.0 _ e h.0.returning h.2

-- ---- a connection at rest stays at rest

rests_with : (old new : State) → Rests old → new.in_transaction ≡ false → new.now ≡ old.committed → new.committed ≡ old.committed → Rests new
rests_with old new rests autocommit now committed = record {
  autocommit = autocommit;
  settled = now ∙ sym committed;
  sound = subst IsDatabase (sym committed) rests.sound;
  history = subst HasHistory (sym committed) rests.history;
}

pub left_rests : (old new : State) → Rests old → IsLeft old new → IsTrue new.is_open → Rests new × (new.committed ≡ old.committed)
left_rests old new rests (inl same) is = (rests_with old new rests (same.0.mode ∙ rests.autocommit) (same.0.now_is ∙ rests.settled) same.0.committed_is, same.0.committed_is)
left_rests old new rests (inr back) is = (rests_with old new rests back.autocommit (back.undone is).0 (back.undone is).1, (back.undone is).1)

-- ---- the entries in a database

entries_at : (trees : Trees) → entries_of history_schema trees ≡ entries_in (trees 0)
unfolding same_name
entries_at trees = refl

no_entries : (trees : Trees) → entries_of empty_schema trees ≡ []
no_entries trees = refl

pub kept_is : (db : Database) (has : HasHistory db) → entries_of db.schema db.trees ≡ entries_in (map stored_row has.rows)
kept_is db has = ap (λ schema. entries_of schema db.trees) has.schema ∙ entries_at db.trees ∙ ap entries_in has.are

-- two rows that list the same tree describe the same table
same_table : (row : Row) (a b : Table) → IsTableRow row a → IsTableRow row b → a ≡ b
same_table row a b is too =
    let trees : a.tree ≡ b.tree = (let ids = sym is.described.id ∙ too.described.id in let ends : a.tree + 1 ≡ b.tree + 1 = cc in omega arith) in
    let texts : is.sql ≡ too.sql = (let both = sym is.sql_is ∙ too.sql_is in cc) in
    let made : is.defined.0 ≡ too.defined.0 = (let both = sym is.defined.1 ∙ ap Rattle.sqlite_resolve.specs.Compile.table_defined_by texts ∙ too.defined.1 in cc) in
    is.defined.2 ∙ (λ i. record (made i) { tree = trees i }) ∙ sym too.defined.2

same_tables : (rows : List Row) (ones twos : List Table) → AllZip IsTableRow rows ones → AllZip IsTableRow rows twos → ones ≡ twos
same_tables [] [] [] is too = refl
same_tables [] (a ∷ ones) twos is too = absurd is
same_tables [] [] (b ∷ twos) is too = absurd too
same_tables (row ∷ rows) [] twos is too = absurd is
same_tables (row ∷ rows) (a ∷ ones) [] is too = absurd too
same_tables (row ∷ rows) (a ∷ ones) (b ∷ twos) is too = λ i. same_table row a b is.0 too.0 i ∷ same_tables rows ones twos is.1 too.1 i

pub same_entries : (a b : Schema) (trees : Trees) → IsSound a trees → IsSound b trees → entries_of a trees ≡ entries_of b trees
same_entries a b trees is too =
    let tables = same_tables (filter is_table_row (trees catalog_tree)) a.tables b.tables is.lists.listed.tables too.lists.listed.tables in
    ap (λ list. entries_of (record { tables = list; indexes = []; views = [] }) trees) tables

-- ---- a store of one's own

-- where a list goes with no members, it is empty, and so is what else goes with it
none_beside : {A B C : Type 0} (R : A → B → Type 0) (Q : A → C → Type 0) (list : List A) (others : List C) → AllZip R list [] → AllZip Q list others → others ≡ []
none_beside R Q [] [] is too = refl
none_beside R Q [] (other ∷ others) is too = absurd too
none_beside R Q (it ∷ list) others is too = absurd is

-- only one schema is sound for trees, if it has tables alone
one_schema : (a b : Schema) (trees : Trees) → IsSound a trees → IsSound b trees → a.indexes ≡ [] → a.views ≡ [] → b ≡ a
one_schema a b trees is too no_index no_view =
    let one = is.lists.listed in
    let other = too.lists.listed in
    let tables = same_tables (filter is_table_row (trees catalog_tree)) b.tables a.tables other.tables one.tables in
    let indexes : b.indexes ≡ [] = none_beside (IsIndexRow a.tables) (IsIndexRow b.tables) (filter is_index_row (trees catalog_tree)) b.indexes (subst (AllZip (IsIndexRow a.tables) (filter is_index_row (trees catalog_tree))) no_index one.indexes) other.indexes in
    let views : b.views ≡ [] = none_beside IsViewRow IsViewRow (filter is_view_row (trees catalog_tree)) b.views (subst (AllZip IsViewRow (filter is_view_row (trees catalog_tree))) no_view one.views) other.views in
    λ i. record { tables = tables i; indexes = (indexes ∙ sym no_index) i; views = (views ∙ sym no_view) i }

-- a database whose trees hold no table, or only that of the history, has that schema
well_by : (a b : Schema) (trees : Trees) → IsSound a trees → IsSound b trees → StartsWell (record { schema = a; trees = trees }) → StartsWell (record { schema = b; trees = trees })
well_by a b trees is too (inl none) =
    inl (one_schema a b trees is too (ap (λ (s : Schema). s.indexes) none) (ap (λ (s : Schema). s.views) none) ∙ none)
well_by a b trees is too (inr has) =
    inr (record {
      schema = one_schema a b trees is too (ap (λ (s : Schema). s.indexes) has.schema) (ap (λ (s : Schema). s.views) has.schema) ∙ has.schema;
      rows = has.rows;
      are = has.are;
      order = has.order;
    })

pub starts_well : (now committed : Database) → now ≡ committed → IsDatabase committed → HoldsWell committed.trees → StartsWell now
starts_well now committed same sound held = subst StartsWell (sym same) (well_by held.0 committed.schema committed.trees held.1 sound held.2)

-- ---- an append

abbrev pub insert_command : Command
insert_command = Insert 0 (Values given 6)

-- the entry that may be appended: the next one
pub record IsNext (entry : StoredEntry) (db : Database) : Type 0 where
  pub number : entry.seq ≡ next_number (entries_of db.schema db.trees)
  pub low : entry.seq < 2 ^ 63
  pub kind : entry.kind < 256

abbrev pub HasMore : StoredEntry → Database → Database → Type 0
HasMore entry old new = HasHistory new × (entries_of new.schema new.trees ≡ entries_of old.schema old.trees ++ entry ∷ [])

pub does_more : (limit : Option ℕ) (mode : Mode) (text : List ℕ) (tally : Tally) (old new : Database) (entry : StoredEntry) → HasHistory old → IsNext entry old
    → Does limit mode (values_of (row_of entry)) old text None insert_command (Ok (tally, new)) → HasMore entry old new
does_more limit mode text tally old new entry has next does =
    let number : entry.seq ≡ next_number (entries_in (map stored_row has.rows)) = next.number ∙ ap next_number (kept_is old has) in
    let below = next_above has.rows entry.seq has.order.rise number in
    let made = inserts limit mode old new text tally has.rows (row_of entry) has.schema has.are below does in
    let low : int_cmp (pos entry.seq) (pos (2 ^ 63)) ≡ Less = fits entry.seq (2 ^ 63) next.low in
    let history : HasHistory new = record { schema = made.0; rows = has.rows ++ row_of entry ∷ []; are = made.1; order = in_order_more has.rows (row_of entry) has.order below low } in
    (history, kept_is new history ∙ entries_more has.rows entry next.kind (omega (arith, next.number)) ∙ ap (λ list. list ++ entry ∷ []) (sym (kept_is old has)))
  where
    fits : (a b : ℕ) → a < b → int_cmp (pos a) (pos b) ≡ Less
    fits a b less = grind (arith, nat_tests)

pub appends : (old new : State) (count : ℕ) (entry : StoredEntry) → Rests old → IsNext entry old.committed
    → Executes insert_sql (values_of (row_of entry)) old new (Ok count) → Rests new × (entries_of new.committed.schema new.committed.trees ≡ entries_of old.committed.schema old.committed.trees ++ entry ∷ [])
appends old new count entry rests next ran =
    let schema = ap (λ (db : Database). db.schema) rests.settled ∙ rests.history.schema in
    let w = runs_as insert_sql (values_of (row_of entry)) old new history_schema schema insert_command insert_is insert_plain count ran in
    let does = subst (λ db. Does old.step_limit (mode_of old) (values_of (row_of entry)) db (statement_of insert_sql (understood history_schema insert_sql)) None insert_command (Ok (w.tally, new.now))) rests.settled w.changed in
    let more = does_more old.step_limit (mode_of old) (statement_of insert_sql (understood history_schema insert_sql)) w.tally old.committed new.now entry rests.history next does in
    let committed : new.committed ≡ new.now = w.shown.committed_is ∙ ap (λ busy. cond busy old.committed new.now) rests.autocommit in (
      record { autocommit = w.shown.mode ∙ rests.autocommit; settled = sym committed; sound = subst IsDatabase (sym committed) w.sound; history = subst HasHistory (sym committed) more.0 },
      ap (λ (db : Database). entries_of db.schema db.trees) committed ∙ more.1,
    )

-- what a failing statement may still commit: a database with the entry after the earlier ones
pub may_commit : (old : State) (trees : Trees) (entry : StoredEntry) → Rests old → IsNext entry old.committed
    → CommitsBy insert_sql (values_of (row_of entry)) old trees
    → (schema : Schema) × IsSound schema trees × (entries_of schema trees ≡ entries_of old.committed.schema old.committed.trees ++ entry ∷ [])
unfolding CommitsBy
may_commit old trees entry rests next commits =
    let schema = ap (λ (db : Database). db.schema) rests.settled ∙ rests.history.schema in
    let known = sym commits.1.is ∙ ap (λ s. understood s insert_sql) schema in
    let bare = subst IsPlain (sym known) insert_plain in
    let command : commits.0.command ≡ insert_command = ap command_of known ∙ insert_is in
    let may = rw (bare.0, bare.1, Rattle.std.proofs.Common.append-nil (values_of (row_of entry)), command) at commits.2 in
    elim may [
      | inl ends ↦ absurd (elim ends.0 [ inl commit ↦ cc | inr release ↦ (let e = release.2 in cc) ])
      | inr write ↦
          let does = subst (λ db. Does old.step_limit (mode_of old) (values_of (row_of entry)) db (text_of insert_sql commits.0) None insert_command (Ok (write.1, write.2))) rests.settled write.3 in
          let more = does_more old.step_limit (mode_of old) (text_of insert_sql commits.0) write.1 old.committed write.2 entry rests.history next does in
          (write.2.schema, subst (IsSound write.2.schema) (sym write.5) write.4, ap (entries_of write.2.schema) write.5 ∙ more.1)
    ]

-- so what it commits has these entries
pub may_append : (old : State) (trees : Trees) (entry : StoredEntry) (entries : Store) → Rests old → IsNext entry old.committed
    → CommitsBy insert_sql (values_of (row_of entry)) old trees → IsKeptIn trees entries → entries ≡ entries_of old.committed.schema old.committed.trees ++ entry ∷ []
may_append old trees entry entries rests next commits kept =
    let made = may_commit old trees entry rests next commits in
    kept.2 ∙ same_entries kept.0 made.0 trees kept.1 made.1 ∙ made.2

-- ---- a start

pub prepares : (old new : State) (count : ℕ) → StartsWell old.now → old.now ≡ old.committed → old.in_transaction ≡ false → IsDatabase old.committed → Executes create_sql [] old new (Ok count)
    → Rests new × (entries_of new.committed.schema new.committed.trees ≡ entries_of old.committed.schema old.committed.trees)
prepares old new count (inl none) clean autocommit sound ran =
    let w = runs_as create_sql [] old new empty_schema none CreateTable create_is.0 create_plain count ran in
    let does = subst (λ t. Does old.step_limit (mode_of old) [] old.now t None CreateTable (Ok (w.tally, new.now))) statement_is w.changed in
    let made = creates old.step_limit (mode_of old) [] old.now new.now w.tally none does in
    let committed : new.committed ≡ new.now = w.shown.committed_is ∙ ap (λ busy. cond busy old.committed new.now) autocommit in
    let history : HasHistory new.now = record { schema = made.0; rows = []; are = made.1; order = record { rise = tt; low = tt } } in
    let before : entries_of old.committed.schema old.committed.trees ≡ [] = ap (λ (db : Database). entries_of db.schema db.trees) (sym clean) ∙ ap (λ schema. entries_of schema old.now.trees) none ∙ no_entries old.now.trees in (
      record { autocommit = w.shown.mode ∙ autocommit; settled = sym committed; sound = subst IsDatabase (sym committed) w.sound; history = subst HasHistory (sym committed) history },
      ap (λ (db : Database). entries_of db.schema db.trees) committed ∙ kept_is new.now history ∙ sym before,
    )
prepares old new count (inr has) clean autocommit sound ran =
    let same = runs_as create_sql [] old new history_schema has.schema Nothing made_is made_plain count ran in
    let rests : Rests old = record { autocommit = autocommit; settled = clean; sound = sound; history = subst HasHistory clean has } in (
      rests_with old new rests (same.0.0.mode ∙ autocommit) (same.0.0.now_is ∙ clean) same.0.0.committed_is,
      ap (λ (db : Database). entries_of db.schema db.trees) same.0.0.committed_is,
    )
