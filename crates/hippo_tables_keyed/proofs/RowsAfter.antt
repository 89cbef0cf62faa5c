-- The rows of a table after one more entry of the history.
use Rattle.std.proofs.Common.{◌≡◌, Bool, true, false, ◌&&◌, List, [], ◌∷◌, ◌++◌, map, filter_map, Option, Some, None, option_map, unwrap_or, negsuc, if◌then◌else◌, sym, ap, ◌∙◌, refl, subst}
use Rattle.std.specs.Prelude.{option_and_then, bytes_eq}
use Rattle.std.specs.Bool.{then_some}
use Rattle.std.specs.Option.{option_or, option_map_or}
use Rattle.std.specs.List.{list_any}
use Rattle.std.proofs.lemmas.Bool.{or_parts}
use Rattle.hippo_values.specs.declared.moments.Moment.{Moment}
use Rattle.hippo_values.specs.declared.names.Name.{Name}
use Rattle.hippo_model.specs.declared.born_row.BornRow.{BornRow}
use Rattle.hippo_model.specs.declared.schema.Schema.{Schema}
use Rattle.hippo_model.specs.declared.entry.Act.{Act}
use Rattle.hippo_model.specs.declared.entry.Act.TheVariants.{Insert, Update, Delete}
use Rattle.hippo_model.specs.declared.entry.Entry.{Entry}
use Rattle.hippo_model.specs.Terms.{History, Row, Key}
use Rattle.hippo_values.specs.Order.{same_cells}
use Rattle.hippo_model.specs.Histories.{last_word}
use Rattle.hippo_model.specs.Rows.{key_of, key_named, row_left, names_key, row_at, is_insert, born_at, born_row_at, with_key, keys_named, table_rows}
use Rattle.hippo_tables_keyed.specs.RowSets.{kept_at, key_in, IsAscending, put_row, take_row, row_with}
use Rattle.hippo_tables_keyed.proofs.Orders.{same_exact}
use Rattle.hippo_model.proofs.LastWords.{last_word-append}
use Rattle.hippo_tables_keyed.proofs.KeysInOrder.{insert_key-comm, IsAscending-insert_key, list_any-insert_key}
use Rattle.hippo_tables_keyed.proofs.TableRows.{IsAscending-filter_map, row_with-filter_map, filter_map-insert_key, filter_map-insert_key_taken}

then_some-Some : {A : Type 0} (test : Bool) (word other : A) → then_some test word ≡ Some other → word ≡ other
then_some-Some true word other e = cc
then_some-Some false word other e = cc

Some-same : (kept other : BornRow) → Some kept ≡ Some other → kept ≡ other
Some-same kept other e = cc

-- the row and the birth after an entry, by whether it is an insert and whether it names the key
by_cases : (inserts names : Bool) (moment born : Moment) (left row : Option Row) → ◌≡◌ {A = Option BornRow} (option_map (λ row. record { row = row; born = if inserts && names then moment else born }) (if names then left else row)) (if names then option_map (λ row. record { row = row; born = if inserts then moment else born }) left else option_map (λ row. record { row = row; born = born }) row)
by_cases true true moment born left row = refl
by_cases true false moment born left row = refl
by_cases false true moment born left row = refl
by_cases false false moment born left row = refl

filter_map-same : {A B : Type 0} (f g : A → Option B) → ((x : A) → f x ≡ g x) → (xs : List A) → filter_map f xs ≡ filter_map g xs
filter_map-same f g same [] = refl
filter_map-same f g same (x ∷ xs) = rw (same x, filter_map-same f g same xs)

with_key-comm : (first second : Option Key) (keys : List Key) → with_key first (with_key second keys) ≡ with_key second (with_key first keys)
with_key-comm None second keys = refl
with_key-comm (Some a) None keys = refl
with_key-comm (Some a) (Some b) keys = insert_key-comm a b keys

module _ (schema : Schema) where
  keys_named-append : (history : History) (entry : Entry) → keys_named schema (history ++ entry ∷ []) ≡ with_key (key_named schema entry.act) (keys_named schema history)
  keys_named-append [] entry = refl
  keys_named-append (first ∷ later) entry = rw (keys_named-append later entry) (with_key-comm (key_named schema first.act) (key_named schema entry.act) (keys_named schema later))

  IsAscending-with_key : (named : Option Key) (keys : List Key) → IsAscending keys → IsAscending (with_key named keys)
  IsAscending-with_key None keys ascends = ascends
  IsAscending-with_key (Some key) keys ascends = IsAscending-insert_key key keys ascends

  pub IsAscending-keys_named : (history : History) → IsAscending (keys_named schema history)
  IsAscending-keys_named [] = tt
  IsAscending-keys_named (entry ∷ later) = IsAscending-with_key (key_named schema entry.act) (keys_named schema later) (IsAscending-keys_named later)

  -- a change leaves a row with the key that it names
  key_of-row_left : (act : Act) (named left : Key) → key_named schema act ≡ Some named → row_left act ≡ Some left → key_of schema.key left ≡ named
  key_of-row_left (Insert table row) named left names leaves = let same = then_some-Some (bytes_eq table schema.name) (key_of schema.key row) named names in cc
  key_of-row_left (Update table row) named left names leaves = let same = then_some-Some (bytes_eq table schema.name) (key_of schema.key row) named names in cc
  key_of-row_left act named left names leaves = cc

  key_of-word : (key row : Key) (entry : Entry) → option_and_then (λ left. left) (then_some (names_key schema key entry.act) (row_left entry.act)) ≡ Some row → key_of schema.key row ≡ key
  key_of-word key row entry =
      elim (key_named schema entry.act) as (λ names. key_named schema entry.act ≡ names → option_and_then (λ left. left) (then_some (option_map_or (λ named. same_cells named key) names false) (row_left entry.act)) ≡ Some row → key_of schema.key row ≡ key) [
        | None ↦ λ e found. cc
        | Some named ↦ λ e.
            elim (same_cells named key) as (λ same. same_cells named key ≡ same → option_and_then (λ left. left) (then_some same (row_left entry.act)) ≡ Some row → key_of schema.key row ≡ key) [
              | true ↦ λ same found. key_of-row_left entry.act named row e found ∙ same_exact named key same
              | false ↦ λ same found. cc
            ] refl
      ] refl

  -- a row has the key it is found by
  pub key_of-row_at : (history : History) (key row : Key) → row_at schema history key ≡ Some row → key_of schema.key row ≡ key
  key_of-row_at [] key row found = cc
  key_of-row_at (entry ∷ later) key row found =
      let word : Entry → Option (Option Row) = λ entry. then_some (names_key schema key entry.act) (row_left entry.act) in
      elim (last_word word later) as (λ last. last_word word later ≡ last → option_and_then (λ left. left) (option_or last (word entry)) ≡ Some row → key_of schema.key row ≡ key) [
        | None ↦ λ e found. key_of-word key row entry found
        | Some left ↦ λ e found. key_of-row_at later key row (ap (option_and_then (λ left. left)) e ∙ found)
      ] refl found

  -- the same for a row with its birth
  pub key_in-born_row_at : (history : History) (key : Key) (kept : BornRow) → born_row_at schema history key ≡ Some kept → key_in schema.key kept ≡ key
  key_in-born_row_at history key kept =
      elim (row_at schema history key) as (λ found. row_at schema history key ≡ found → option_map (λ row. record { row = row; born = born_at schema history key }) found ≡ Some kept → key_in schema.key kept ≡ key) [
        | None ↦ λ e found. cc
        | Some row ↦ λ e found. subst (λ (other : BornRow). key_in schema.key other ≡ key) (Some-same (record { row = row; born = born_at schema history key }) kept found) (key_of-row_at history key row e)
      ] refl

  module _ (history : History) (entry : Entry) where
    pub row_at-append : (key : Key) → row_at schema (history ++ entry ∷ []) key ≡ (if names_key schema key entry.act then row_left entry.act else row_at schema history key)
    row_at-append key =
        let word : Entry → Option (Option Row) = λ entry. then_some (names_key schema key entry.act) (row_left entry.act) in
        ap (option_and_then (λ left. left)) (last_word-append word history entry) ∙ (elim (names_key schema key entry.act) as (λ names. option_and_then (λ left. left) (option_or (then_some names (row_left entry.act)) (last_word word history)) ≡ (if names then row_left entry.act else row_at schema history key)) [
          | true ↦ refl
          | false ↦ refl
        ])

    born_at-append : (key : Key) → born_at schema (history ++ entry ∷ []) key ≡ (if is_insert entry.act && names_key schema key entry.act then entry.moment else born_at schema history key)
    born_at-append key =
        let word : Entry → Option Moment = λ entry. then_some (is_insert entry.act && names_key schema key entry.act) entry.moment in
        ap (λ last. unwrap_or last (negsuc 62135596799)) (last_word-append word history entry) ∙ (elim (is_insert entry.act && names_key schema key entry.act) as (λ speaks. unwrap_or (option_or (then_some speaks entry.moment) (last_word word history)) (negsuc 62135596799) ≡ (if speaks then entry.moment else born_at schema history key)) [
          | true ↦ refl
          | false ↦ refl
        ])

    -- the birth, after the entry, of the row with the key that it names
    abbrev birth_left : Key → Moment
    birth_left key = if is_insert entry.act then entry.moment else born_at schema history key

    abbrev born_row_left : Key → Option BornRow
    born_row_left key = option_map (λ row. record { row = row; born = birth_left key }) (row_left entry.act)

    pub born_row_at-append : (key : Key) → born_row_at schema (history ++ entry ∷ []) key ≡ (if names_key schema key entry.act then born_row_left key else born_row_at schema history key)
    born_row_at-append key = rw (row_at-append key, born_at-append key) (by_cases (is_insert entry.act) (names_key schema key entry.act) entry.moment (born_at schema history key) (row_left entry.act) (row_at schema history key))

    born_row_at-named : (named : Key) → key_named schema entry.act ≡ Some named → (other : Key) → born_row_at schema (history ++ entry ∷ []) other ≡ (if same_cells named other then born_row_left named else born_row_at schema history other)
    born_row_at-named named names other =
        born_row_at-append other ∙ (rw names (elim (same_cells named other) as (λ same. same_cells named other ≡ same → (if same then born_row_left other else born_row_at schema history other) ≡ (if same then born_row_left named else born_row_at schema history other)) [
          | true ↦ λ same. ap born_row_left (sym (same_exact named other same))
          | false ↦ λ same. refl
        ] refl))

    -- an entry that leaves a row of the table
    pub table_rows-put : (named : Key) (row : Row) → key_named schema entry.act ≡ Some named → row_left entry.act ≡ Some row → table_rows schema (history ++ entry ∷ []) ≡ put_row schema.key (record { row = row; born = birth_left named }) (table_rows schema history)
    table_rows-put named row names leaves =
        let kept : BornRow = record { row = row; born = birth_left named } in
        let left : born_row_left named ≡ Some kept = ap (option_map (λ row. record { row = row; born = birth_left named })) leaves in
        rw (keys_named-append history entry, names)
        (filter_map-insert_key schema.key (born_row_at schema history) (key_in-born_row_at history) named (born_row_left named) (born_row_at schema (history ++ entry ∷ [])) (born_row_at-named named names) kept left (key_of-row_left entry.act named row names leaves) (keys_named schema history) (IsAscending-keys_named history))

    -- an entry that leaves none
    pub table_rows-take : (named : Key) → key_named schema entry.act ≡ Some named → row_left entry.act ≡ None → table_rows schema (history ++ entry ∷ []) ≡ take_row schema.key named (table_rows schema history)
    table_rows-take named names leaves =
        let left : born_row_left named ≡ None = ap (option_map (λ row. record { row = row; born = birth_left named })) leaves in
        rw (keys_named-append history entry, names)
        (filter_map-insert_key_taken schema.key (born_row_at schema history) (key_in-born_row_at history) named (born_row_left named) (born_row_at schema (history ++ entry ∷ [])) (born_row_at-named named names) left (keys_named schema history) (IsAscending-keys_named history))

    -- an entry that names no key of the table
    pub born_row_at-other : key_named schema entry.act ≡ None → (key : Key) → born_row_at schema (history ++ entry ∷ []) key ≡ born_row_at schema history key
    born_row_at-other names key = born_row_at-append key ∙ rw names

    pub table_rows-other : key_named schema entry.act ≡ None → table_rows schema (history ++ entry ∷ []) ≡ table_rows schema history
    table_rows-other names = rw (keys_named-append history entry, names) (filter_map-same (born_row_at schema (history ++ entry ∷ [])) (born_row_at schema history) (born_row_at-other names) (keys_named schema history))

    -- the same by the entry's act: an insert puts a row that is born at its moment
    pub table_rows-Insert : (table : Name) (row : Row) → entry.act ≡ Insert table row → bytes_eq table schema.name ≡ true → table_rows schema (history ++ entry ∷ []) ≡ put_row schema.key (record { row = row; born = entry.moment }) (table_rows schema history)
    table_rows-Insert table row is same =
        table_rows-put (key_of schema.key row) row (ap (key_named schema) is ∙ rw same) (ap row_left is)
        ∙ ap (λ act. put_row schema.key (record { row = row; born = if is_insert act then entry.moment else born_at schema history (key_of schema.key row) }) (table_rows schema history)) is

    -- an update puts a row with the birth of its key
    pub table_rows-Update : (table : Name) (row : Row) → entry.act ≡ Update table row → bytes_eq table schema.name ≡ true → table_rows schema (history ++ entry ∷ []) ≡ put_row schema.key (record { row = row; born = born_at schema history (key_of schema.key row) }) (table_rows schema history)
    table_rows-Update table row is same =
        table_rows-put (key_of schema.key row) row (ap (key_named schema) is ∙ rw same) (ap row_left is)
        ∙ ap (λ act. put_row schema.key (record { row = row; born = if is_insert act then entry.moment else born_at schema history (key_of schema.key row) }) (table_rows schema history)) is

    -- and a delete removes one
    pub table_rows-Delete : (table : Name) (key : Key) → entry.act ≡ Delete table key → bytes_eq table schema.name ≡ true → table_rows schema (history ++ entry ∷ []) ≡ take_row schema.key key (table_rows schema history)
    table_rows-Delete table key is same = table_rows-take key (ap (key_named schema) is ∙ rw same) (ap row_left is)

  -- the keys of a table's rows ascend
  pub IsAscending-table_rows : (history : History) → IsAscending (map (key_in schema.key) (table_rows schema history))
  IsAscending-table_rows history = IsAscending-filter_map schema.key (born_row_at schema history) (key_in-born_row_at history) (keys_named schema history) (IsAscending-keys_named history)

  -- a key that no change names has no row
  no_word : (history : History) (key : Key) → list_any (λ other. same_cells other key) (keys_named schema history) ≡ false → last_word (λ entry. then_some (names_key schema key entry.act) (row_left entry.act)) history ≡ None
  no_word [] key absent = refl
  no_word (entry ∷ later) key absent =
      elim (key_named schema entry.act) as (λ names. list_any (λ other. same_cells other key) (with_key names (keys_named schema later)) ≡ false → option_or (last_word (λ entry. then_some (names_key schema key entry.act) (row_left entry.act)) later) (then_some (option_map_or (λ named. same_cells named key) names false) (row_left entry.act)) ≡ None) [
        | None ↦ λ absent. rw (no_word later key absent)
        | Some named ↦ λ absent.
            let parts = or_parts (same_cells named key) (list_any (λ other. same_cells other key) (keys_named schema later)) (sym (list_any-insert_key key named (keys_named schema later)) ∙ absent) in
            rw (parts.0, no_word later key parts.1)
      ] absent

  -- the row that a table has with a key is the one that the history gives
  pub row_with-table_rows : (history : History) (key : Key) → row_with key (kept_at schema history) ≡ born_row_at schema history key
  row_with-table_rows history key =
      row_with-filter_map schema.key (born_row_at schema history) (key_in-born_row_at history) key (keys_named schema history)
      ∙ (elim (list_any (λ other. same_cells other key) (keys_named schema history)) as (λ there. list_any (λ other. same_cells other key) (keys_named schema history) ≡ there → (if there then born_row_at schema history key else None) ≡ born_row_at schema history key) [
        | true ↦ λ there. refl
        | false ↦ λ absent. sym (ap (λ last. option_map (λ row. record { row = row; born = born_at schema history key }) (option_and_then (λ left. left) last)) (no_word history key absent))
      ] refl)
