-- A record of a row's cell stands exactly where the audit of the cell flags the query.
use Rattle.std.proofs.Common.{◌≡◌, ◌∙◌, sym, ap, refl, subst, ℕ, ◌+◌, ◌-◌, ℤ, zero, suc, Bool, true, false, cond, List, [], ◌∷◌, filter, take, Option, None, Some, arith}
use Rattle.std.specs.Prelude.{◌&&◌, ◌||◌, ◌==◌, slice_get, flat_map, bytes_eq}
use Rattle.std.specs.List.{AllByRecursion, list_any}
use Rattle.std.specs.Bool.{then_some}
use Rattle.std.specs.Option.{option_map_or, option_or}
use Rattle.std.proofs.lemmas.Bool.{and_parts, false≢true, eqb-true, eq-eqb}
use Rattle.std.proofs.lemmas.List.Folds.{list_any-append}
use Rattle.std.proofs.lemmas.Option.{none-some, same_Some}
use Rattle.std.proofs.lemmas.Slice.Eq.{bytes_eq-Decides}
use Rattle.hippo_values.specs.declared.moments.Moment.{Moment}
use Rattle.hippo_values.specs.declared.names.Name.{Name}
use Rattle.hippo_values.specs.Order.{same_cells}
use Rattle.hippo_model.specs.declared.born_row.BornRow.{BornRow}
use Rattle.hippo_model.specs.declared.entry.Act.{Act}
use Rattle.hippo_model.specs.declared.entry.Act.TheVariants.{Create, Asked}
use Rattle.hippo_model.specs.declared.entry.Entry.{Entry}
use Rattle.hippo_model.specs.declared.query.Query.{Query}
use Rattle.hippo_model.specs.declared.schema.Schema.{Schema}
use Rattle.hippo_model.specs.Histories.{before_entry, schema_created, schema_at}
use Rattle.hippo_model.specs.Rows.{key_of, table_rows, born_row_at}
use Rattle.hippo_model.specs.Terms.{History, Key, Place}
use Rattle.hippo_model.specs.Validity.{is_acceptable, is_valid, is_well_formed}
use Rattle.hippo_model.specs.Verdicts.{Context, verdict}
use Rattle.hippo_model.specs.Views.{is_shown}
use Rattle.hippo_model_laws.specs.Audits.{StandsIn}
use Rattle.hippo_model_laws.proofs.ValidFronts.{entry_has_its_number, holds_of_each_valid}
use Rattle.hippo_rewrite.proofs.FittingRows.{schema_named}
use Rattle.hippo_tables_keyed.proofs.Orders.{same_exact}
use Rattle.hippo_typing.specs.Meanings.{meaning}
use Rattle.hippo_audit_search.specs.HistoryLaws.{AuditNeedsWhatItHas}
use Rattle.hippo_audit_search.proofs.CommonLemmas.{same_as_itself}
use Rattle.hippo_history_formats.specs.declared.access.Access.{Access}
use Rattle.hippo_history_uses.specs.Accesses.{Asker, asker_context, access_to, table_accesses, query_accesses, act_accesses, entry_accesses, accesses_of}
use Rattle.hippo_history_uses.specs.Cells.{names_column}
use Rattle.hippo_history_uses.specs.UseLaws.{IsRowBefore, has_column, shows_cell, AuditsFlagAccesses}
use Rattle.hippo_history_uses.specs.Uses.{is_patients_row, uses_row, used_rows}
use Rattle.hippo_history_uses.proofs.ColumnLemmas.{columns_are}
use Rattle.hippo_history_uses.proofs.FlagLemmas.{born_itself, flags_say}
use Rattle.hippo_history_uses.proofs.QuestionLemmas.{all_append, all_map, all_flat, all_option}
use Rattle.hippo_history_uses.proofs.RowLemmas.{none_at, who, any-map}
use Rattle.hippo_history_uses.proofs.UseLemmas.{key_same_itself}

-- ---- some member of a list
any_filter : {A : Type 0} (test other : A → Bool) (members : List A) → list_any other (filter test members) ≡ list_any (λ member. test member && other member) members
any_filter test other [] = refl
any_filter test other (first ∷ rest) =
    elim (test first) as (λ b. list_any other (cond b (first ∷ filter test rest) (filter test rest)) ≡ ((b && other first) || list_any (λ member. test member && other member) rest)) [
      | true ↦ ap (λ b. other first || b) (any_filter test other rest)
      | false ↦ any_filter test other rest
    ]

any_flat : {A B : Type 0} (test : B → Bool) (f : A → List B) (members : List A) → list_any test (flat_map f members) ≡ list_any (λ member. list_any test (f member)) members
any_flat test f [] = refl
any_flat test f (first ∷ rest) = list_any-append test (f first) (flat_map f rest) ∙ ap (λ b. list_any test (f first) || b) (any_flat test f rest)

-- if no other member can pass, some member passes exactly where this one does
any_is : {A : Type 0} (test : A → Bool) (members : List A) (place : Place) (member : A) → slice_get members place ≡ Some member
    → ((at : Place) (other : A) → slice_get members at ≡ Some other → test other ≡ true → test member ≡ true) → list_any test members ≡ test member
any_is test members place member there only =
    elim (list_any test members) as (λ b. list_any test members ≡ b → b ≡ test member) [
      | true ↦ λ some.
          let one = who test members some in
          sym (only one.place one.member one.there one.passes)
      | false ↦ λ none. sym (none_at test members place member there none)
    ] refl

record Found {A : Type 0} (Holds : A → Type 0) (test : A → Bool) : Type 0 where
  member : A
  holds : Holds member
  passes : test member ≡ true

found_in : {A : Type 0} (Holds : A → Type 0) (test : A → Bool) (members : List A) → AllByRecursion Holds members → list_any test members ≡ true → Found Holds test
found_in Holds test [] all some = absurd (false≢true some)
found_in Holds test (first ∷ rest) all some =
    elim (test first) as (λ b. test first ≡ b → (b || list_any test rest) ≡ true → Found Holds test) [
      | true ↦ λ is some. record { member = first; holds = all.0; passes = is }
      | false ↦ λ is some. found_in Holds test rest all.1 some
    ] refl some

-- ---- the accesses of an act have the number of its entry
abbrev pub HasNumber : ℕ → Access → Type 0
HasNumber number access = access.entry ≡ number

number_asked : (front : History) (patient : ℤ) (asker : Asker) (found : Option Query) → AllByRecursion (HasNumber asker.entry) (option_map_or (query_accesses front asker patient) found [])
number_asked front patient asker found =
    all_option (HasNumber asker.entry) (query_accesses front asker patient)
    (λ query. all_flat (HasNumber asker.entry) (λ table. option_map_or (table_accesses front asker query patient) (schema_at front table) [])
    (λ table. all_option (HasNumber asker.entry) (table_accesses front asker query patient)
    (λ schema. all_map (HasNumber asker.entry) (access_to front asker query schema) (λ kept. refl) (used_rows front (asker_context asker) query patient schema)) (schema_at front table)) query.tables) found

pub number_act : (front : History) (number : ℕ) (moment : Moment) (patient : ℤ) (act : Act) → AllByRecursion (HasNumber number) (act_accesses front number moment patient act)
number_act front number moment patient (Asked user purpose recipient text) =
    number_asked front patient (record { entry = number; moment = moment; user = user; purpose = purpose; recipient = recipient }) (meaning front text)
number_act front number moment patient act = tt

-- ---- one row
module _ (front : History) (asker : Asker) (patient : ℤ) (query : Query) (schema : Schema) (kept : BornRow) (column : Name)
    (named : list_any (bytes_eq schema.name) query.tables ≡ true) (schema_is : schema_at front schema.name ≡ Some schema)
    (place : Place) (stands : slice_get (table_rows schema front) place ≡ Some kept) where
  abbrev key : BornRow → Key
  key row = key_of schema.key row.row

  abbrev shows : Access → Bool
  shows = shows_cell asker.entry schema.name (key kept) column

  abbrev used : BornRow → Bool
  used row = is_patients_row patient schema row && uses_row front (asker_context asker) query schema row

  abbrev row_shows : BornRow → Bool
  row_shows row = used row && shows (access_to front asker query schema row)

  same_row : (at : Place) (row : BornRow) → slice_get (table_rows schema front) at ≡ Some row → row_shows row ≡ true → row ≡ kept
  same_row at row there passes =
      let shown = (and_parts (used row) (shows (access_to front asker query schema row)) passes).1 in
      let keyed = (and_parts ((asker.entry == asker.entry && bytes_eq schema.name schema.name) && same_cells (key row) (key kept)) (has_column (access_to front asker query schema row) column) shown).0 in
      let same : key row ≡ key kept = same_exact _ _ (and_parts (asker.entry == asker.entry && bytes_eq schema.name schema.name) (same_cells (key row) (key kept)) keyed).1 in
      same_Some row kept (sym (born_itself schema front at row there) ∙ ap (born_row_at schema front) same ∙ born_itself schema front place kept stands)

  rows_show : list_any row_shows (table_rows schema front) ≡ row_shows kept
  rows_show = any_is row_shows (table_rows schema front) place kept stands
      (λ at row there passes. subst (λ (r : BornRow). row_shows r ≡ true) (same_row at row there passes) passes)

  abbrev table_shows : Name → Bool
  table_shows table = list_any shows (option_map_or (table_accesses front asker query patient) (schema_at front table) [])

  by_rows : (made : Schema) → list_any shows (table_accesses front asker query patient made) ≡ list_any (λ row. (is_patients_row patient made row && uses_row front (asker_context asker) query made row) && shows (access_to front asker query made row)) (table_rows made front)
  by_rows made =
      any-map shows (access_to front asker query made) (used_rows front (asker_context asker) query patient made)
      ∙ any_filter (λ row. is_patients_row patient made row && uses_row front (asker_context asker) query made row) (λ row. shows (access_to front asker query made row)) (table_rows made front)

  own_table : table_shows schema.name ≡ row_shows kept
  own_table = (λ i. list_any shows (option_map_or (table_accesses front asker query patient) (schema_is i) [])) ∙ by_rows schema ∙ rows_show

  same_table : (table : Name) (found : Option Schema) → schema_at front table ≡ found → list_any shows (option_map_or (table_accesses front asker query patient) found []) ≡ true → table ≡ schema.name
  same_table table None is some = absurd (false≢true some)
  same_table table (Some made) is some =
      let row = who (λ row. (is_patients_row patient made row && uses_row front (asker_context asker) query made row) && shows (access_to front asker query made row)) (table_rows made front) (sym (by_rows made) ∙ some) in
      let shown = (and_parts (is_patients_row patient made row.member && uses_row front (asker_context asker) query made row.member) (shows (access_to front asker query made row.member)) row.passes).1 in
      let keyed = (and_parts ((asker.entry == asker.entry && bytes_eq schema.name made.name) && same_cells (key_of made.key row.member.row) (key kept)) (has_column (access_to front asker query made row.member) column) shown).0 in
      let here = (and_parts (asker.entry == asker.entry && bytes_eq schema.name made.name) (same_cells (key_of made.key row.member.row) (key kept)) keyed).0 in
      let equal = (and_parts (asker.entry == asker.entry) (bytes_eq schema.name made.name) here).1 in
      sym (schema_named front table made is) ∙ sym ((bytes_eq-Decides schema.name made.name).0 equal)

  -- a query shows the cell of a row exactly where its access to the row does
  query_shows : list_any shows (query_accesses front asker patient query) ≡ row_shows kept
  query_shows =
      let one = who (bytes_eq schema.name) query.tables named in
      let itself : one.member ≡ schema.name = sym ((bytes_eq-Decides schema.name one.member).0 one.passes) in
      any_flat shows (λ table. option_map_or (table_accesses front asker query patient) (schema_at front table) []) query.tables
      ∙ any_is table_shows query.tables one.place schema.name (one.there ∙ ap Some itself)
      (λ at table there some. subst (λ (t : Name). table_shows t ≡ true) (same_table table (schema_at front table) refl some) some)
      ∙ own_table

  row_is : (shown : Bool) → has_column (access_to front asker query schema kept) column ≡ shown → is_patients_row patient schema kept ≡ true
      → row_shows kept ≡ (uses_row front (asker_context asker) query schema kept && shown)
  row_is shown has about =
      λ i. (about i && uses_row front (asker_context asker) query schema kept)
      && (((eq-eqb asker.entry asker.entry refl i && same_as_itself schema.name i) && key_same_itself (key kept) i) && has i)

swap_used : (names used shown : Bool) → (used && (names && shown)) ≡ ((names && used) && shown)
swap_used true used shown = refl
swap_used false true shown = refl
swap_used false false shown = refl

-- ---- the history
module _ (patient : ℤ) (test : Entry → Bool) (history : History) (entry : Entry) (its : StandsIn meaning history entry) (counts : test entry ≡ true)
    (context : Context) (query : Query) (schema : Schema) (kept : BornRow) (row : IsRowBefore history entry context query schema kept) (column : Name) where
  abbrev front : History
  front = before_entry entry history

  abbrev asker_here : Asker
  asker_here = record { entry = entry.seq; moment = context.moment; user = row.user; purpose = context.purpose; recipient = context.recipient }

  abbrev shows_here : Access → Bool
  shows_here = shows_cell entry.seq schema.name (key_of schema.key kept.row) column

  abbrev entry_shows : Entry → Bool
  entry_shows other = test other && list_any shows_here (entry_accesses history patient other)

  same_entry : (at : Place) (other : Entry) → slice_get history at ≡ Some other → entry_shows other ≡ true → other ≡ entry
  same_entry at other there passes =
      let some = (and_parts (test other) (list_any shows_here (entry_accesses history patient other)) passes).1 in
      let access = found_in (HasNumber other.seq) shows_here (entry_accesses history patient other) (number_act (before_entry other history) other.seq other.moment patient other.act) some in
      let keyed = (and_parts ((access.member.entry == entry.seq && bytes_eq schema.name access.member.table) && same_cells access.member.key (key_of schema.key kept.row)) (has_column access.member column) access.passes).0 in
      let here = (and_parts (access.member.entry == entry.seq && bytes_eq schema.name access.member.table) (same_cells access.member.key (key_of schema.key kept.row)) keyed).0 in
      let number : access.member.entry ≡ entry.seq = eqb-true _ _ (and_parts (access.member.entry == entry.seq) (bytes_eq schema.name access.member.table) here).0 in
      let equal : other.seq ≡ entry.seq = sym access.holds ∙ number in
      let first : other.seq ≡ at + 1 = entry_has_its_number meaning history its.valid at other there in
      let second : entry.seq ≡ its.place + 1 = entry_has_its_number meaning history its.valid its.place entry its.stands in
      let place : at ≡ its.place = omega (arith, equal, first, second) in
      same_Some other entry (sym there ∙ ap (slice_get history) place ∙ its.stands)

  entry_is : entry_accesses history patient entry ≡ query_accesses front asker_here patient query
  entry_is =
      ap (act_accesses front entry.seq entry.moment patient) row.act_is
      ∙ (λ i. option_map_or (query_accesses front (record {
        entry = entry.seq;
        moment = sym row.moment_is i;
        user = row.user;
        purpose = context.purpose;
        recipient = context.recipient;
      }) patient) (row.means i) [])

  pub shown_is : (shown : Bool) → has_column (access_to front asker_here query schema kept) column ≡ shown → is_patients_row patient schema kept ≡ true
      → list_any shows_here (accesses_of patient test history) ≡ (uses_row front context query schema kept && shown)
  shown_is shown has about =
      any_flat shows_here (entry_accesses history patient) (filter test history)
      ∙ any_filter test (λ other. list_any shows_here (entry_accesses history patient other)) history
      ∙ any_is entry_shows history its.place entry its.stands (λ at other there passes. subst (λ (e : Entry). entry_shows e ≡ true) (same_entry at other there passes) passes)
      ∙ (λ i. counts i && list_any shows_here (entry_is i))
      ∙ query_shows front asker_here patient query schema kept column row.named row.schema_is row.place row.stands
      ∙ row_is front asker_here patient query schema kept column row.named row.schema_is row.place row.stands shown has about

-- ---- the tables of a valid history are well formed
abbrev CreatesFormed : Entry → Type 0
CreatesFormed entry = (table : Name) (schema : Schema) → schema_created table entry.act ≡ Some schema → is_well_formed schema ≡ true

formed_act : (history : History) (act : Act) → is_acceptable meaning history act ≡ true → (table : Name) (schema : Schema) → schema_created table act ≡ Some schema → is_well_formed schema ≡ true
formed_act history (Create made) may table schema =
    elim (bytes_eq made.name table) as (λ same. then_some same made ≡ Some schema → is_well_formed schema ≡ true) [
      | true ↦ λ is. subst (λ (s : Schema). is_well_formed s ≡ true) (same_Some made schema is) (and_parts _ (is_well_formed made) may).1
      | false ↦ λ is. absurd (none-some schema is)
    ]
formed_act history act may table schema = λ is. absurd (none-some schema is)

all_formed : (history : History) → is_valid meaning history ≡ true → AllByRecursion CreatesFormed history
all_formed = holds_of_each_valid meaning (AllByRecursion CreatesFormed)
    (λ history entry valid so_far may. all_append CreatesFormed history (entry ∷ []) so_far
    (formed_act history entry.act (and_parts _ (is_acceptable meaning history entry.act) may).1, tt)) tt

formed_take : (count : ℕ) (history : History) → AllByRecursion CreatesFormed history → AllByRecursion CreatesFormed (take count history)
formed_take zero [] all = tt
formed_take zero (entry ∷ later) all = tt
formed_take (suc count) [] all = tt
formed_take (suc count) (entry ∷ later) all = (all.0, formed_take count later all.1)

formed_at : (history : History) → AllByRecursion CreatesFormed history → (table : Name) (schema : Schema) → schema_at history table ≡ Some schema → is_well_formed schema ≡ true
formed_at [] all table schema is = absurd (none-some schema is)
formed_at (entry ∷ later) all table schema is =
    elim (schema_at later table) as (λ found. schema_at later table ≡ found → option_or found (schema_created table entry.act) ≡ Some schema → is_well_formed schema ≡ true) [
      | None ↦ λ e is. all.0 table schema is
      | Some made ↦ λ e is. formed_at later all.1 table schema (e ∙ is)
    ] refl is

pub audits_flag : AuditNeedsWhatItHas → AuditsFlagAccesses
audits_flag law patient test history entry its counts context query schema kept row about from to place column there within =
    let front : History = before_entry entry history in
    let asker : Asker = record { entry = entry.seq; moment = context.moment; user = row.user; purpose = context.purpose; recipient = context.recipient } in
    let names : Bool = names_column query schema.name place in
    let shown : Bool = is_shown (verdict front context schema kept place) in
    let formed : is_well_formed schema ≡ true = formed_at front (formed_take (entry.seq - 1) history (all_formed history its.valid)) schema.name schema row.schema_is in
    shown_is patient test history entry its counts context query schema kept row column.name (names && shown)
    (columns_are front asker query schema kept formed place column there) about
    ∙ swap_used names (uses_row front context query schema kept) shown
    ∙ sym (flags_say law history entry context query schema kept row from to place within)
