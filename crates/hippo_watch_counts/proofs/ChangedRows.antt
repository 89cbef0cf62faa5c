-- The number of rows of a table that conditions find, after one more entry.
use Rattle.std.proofs.Common.{◌≡◌, ◌∙◌, ◌≤◌, ℕ, zero, suc, ◌+◌, Bool, true, false, cond, List, [], ◌∷◌, ◌++◌, map, length, drop, filter_map, Option, Some, None, option_map, refl, ap, arith, if◌then◌else◌}
use Rattle.std.specs.Prelude.{filter, slice_get, bytes_eq}
use Rattle.std.specs.List.{cons_option}
use Rattle.std.specs.Ordering.{is_eq, match_ordering}
use Rattle.std.specs.declared.cmp.Ordering.TheVariants.{Less, Equal, Greater}
use Rattle.std.proofs.lemmas.Bool.{false≢true}
use Rattle.std.proofs.lemmas.List.{drop_all}
use Rattle.hippo_values.specs.Order.{cells_cmp, same_cells}
use Rattle.hippo_model.specs.declared.born_row.BornRow.{BornRow}
use Rattle.hippo_model.specs.declared.entry.Act.{Act}
use Rattle.hippo_model.specs.declared.entry.Act.TheVariants.{Insert, Update, Delete}
use Rattle.hippo_model.specs.declared.entry.Entry.{Entry}
use Rattle.hippo_model.specs.declared.query.CondOf.{CondOf}
use Rattle.hippo_model.specs.declared.query.Operand.{Operand}
use Rattle.hippo_model.specs.declared.schema.Schema.{Schema}
use Rattle.hippo_model.specs.Terms.{History, Row, Key, Place}
use Rattle.hippo_model.specs.Hits.{is_hit}
use Rattle.hippo_model.specs.Rows.{key_of, row_at, row_left, born_at, born_row_at, insert_key, with_key, key_named, keys_named, table_rows}
use Rattle.hippo_tables_keyed.specs.RowSets.{IsBelowAll, IsAscending, key_in, put_row, take_row, row_with, kept_at}
use Rattle.hippo_model.specs.StoredForms.{table_changed}
use Rattle.hippo_model.specs.Versions.{is_version}
use Rattle.hippo_tables_keyed.proofs.KeptRows.{flipped, shown, IsBelowAll-from_below}
use Rattle.hippo_tables_keyed.proofs.RowsAfter.{table_rows-Insert, table_rows-Update, table_rows-Delete, row_with-table_rows, IsAscending-table_rows}
use Rattle.hippo_watch_counts.specs.Rows.{hit_of, hits_among}

-- the old row in a table
abbrev pub row_there : Schema → History → Act → Option Row
row_there schema history (Insert table row) = row_at schema history (key_of schema.key row)
row_there schema history (Update table row) = row_at schema history (key_of schema.key row)
row_there schema history (Delete table key) = row_at schema history key
row_there schema history act = None

module _ (conditions : List (CondOf Operand)) where
  abbrev count : List BornRow → ℕ
  count rows = length (filter (is_hit conditions) rows)

  abbrev one : Option BornRow → ℕ
  one found = hit_of conditions (option_map (λ (kept : BornRow). kept.row) found)

  with_first : (hit : Bool) (first : BornRow) (rest : List BornRow) → length (cond hit (first ∷ rest) rest) ≡ (if hit then 1 else 0) + length rest
  with_first true first rest = omega arith
  with_first false first rest = omega arith

  counted : (first : BornRow) (rest : List BornRow) → count (first ∷ rest) ≡ one (Some first) + count rest
  counted first rest = with_first (is_hit conditions first) first (filter (is_hit conditions) rest)

  module _ (places : List Place) where
    none_below : (key : Key) (rows : List BornRow) → IsBelowAll key (map (key_in places) rows) → row_with key (shown places rows) ≡ None
    none_below key [] below = refl
    none_below key (first ∷ rest) below = rw (flipped key (key_in places first) Less below.0) (none_below key rest below.1)

    -- if a row is put, it is counted, and the one that had its key is not any more
    put_counted : (kept : BornRow) (rows : List BornRow) → IsAscending (map (key_in places) rows)
        → count (put_row places kept rows) + one (row_with (key_in places kept) (shown places rows)) ≡ count rows + one (Some kept)
    put_counted kept [] ascends = let last = counted kept [] in omega (arith, last)
    put_counted kept (first ∷ rest) ascends =
        let own = key_in places kept in
        let other = key_in places first in
        let here = counted first rest in
        let there = counted kept rest in
        let remaining = row_with own (shown places rest) in
        elim (cells_cmp own other) as (λ o. cells_cmp own other ≡ o → count (match_ordering o (kept ∷ first ∷ rest) (kept ∷ rest) (first ∷ put_row places kept rest)) + one (if same_cells other own then Some first else remaining) ≡ count (first ∷ rest) + one (Some kept)) [
          | Less ↦ λ e.
              let none : (if same_cells other own then Some first else remaining) ≡ None = none_below own (first ∷ rest) (e, IsBelowAll-from_below own other (map (key_in places) rest) e ascends.0) in
              let front = counted kept (first ∷ rest) in
              let sum : count (kept ∷ first ∷ rest) + 0 ≡ count (first ∷ rest) + one (Some kept) = omega (arith, front) in
              ap (λ (found : Option BornRow). count (kept ∷ first ∷ rest) + one found) none ∙ sum
          | Equal ↦ λ e.
              let is : same_cells other own ≡ true = ap is_eq (flipped own other Equal e) in
              let sum : count (kept ∷ rest) + one (Some first) ≡ count (first ∷ rest) + one (Some kept) = omega (arith, here, there) in
              ap (λ (same : Bool). count (kept ∷ rest) + one (if same then Some first else remaining)) is ∙ sum
          | Greater ↦ λ e.
              let apart : same_cells other own ≡ false = ap is_eq (flipped own other Greater e) in
              let later = put_counted kept rest ascends.1 in
              let front = counted first (put_row places kept rest) in
              let sum : count (first ∷ put_row places kept rest) + one remaining ≡ count (first ∷ rest) + one (Some kept) = omega (arith, here, later, front) in
              ap (λ (same : Bool). count (first ∷ put_row places kept rest) + one (if same then Some first else remaining)) apart ∙ sum
        ] refl

    -- if the row with a key is removed, it is not counted any more
    take_counted : (key : Key) (rows : List BornRow) → count (take_row places key rows) + one (row_with key (shown places rows)) ≡ count rows
    take_counted key [] = refl
    take_counted key (first ∷ rest) =
        let here = counted first rest in
        let later = take_counted key rest in
        let front = counted first (take_row places key rest) in
        let remaining = row_with key (shown places rest) in
        let found : count rest + one (Some first) ≡ count (first ∷ rest) = omega (arith, here) in
        let past : count (first ∷ take_row places key rest) + one remaining ≡ count (first ∷ rest) = omega (arith, here, later, front) in
        elim (same_cells (key_in places first) key) as (λ same. count (if same then rest else first ∷ take_row places key rest) + one (if same then Some first else remaining) ≡ count (first ∷ rest)) [
          | true ↦ found
          | false ↦ past
        ]

    -- and it was counted, if it was in the table
    found_counted : (key : Key) (rows : List BornRow) → one (row_with key (shown places rows)) ≤ count rows
    found_counted key rows = let sum = take_counted key rows in omega (arith, sum)

  -- rows from a place on, and from the next one on
  counted_from : (rows : List BornRow) (place : ℕ) (row : Row) → option_map (λ (kept : BornRow). kept.row) (slice_get rows place) ≡ Some row
      → count (drop place rows) ≡ hit_of conditions (Some row) + count (drop (suc place) rows)
  counted_from [] place row is = absurd cc
  counted_from (first ∷ rest) zero row is = counted first rest ∙ ap (λ (found : Option Row). hit_of conditions found + count rest) is
  counted_from (first ∷ rest) (suc place) row is = counted_from rest place row is

  pub counted_next : (rows : List BornRow) (place sum : ℕ) (row : Row) → option_map (λ (kept : BornRow). kept.row) (slice_get rows place) ≡ Some row
      → sum + hit_of conditions (Some row) + count (drop (place + 1) rows) ≡ sum + count (drop place rows)
  counted_next rows place sum row is =
      let up : suc place ≡ place + 1 = omega arith in
      let next = ap (λ (n : ℕ). count (drop n rows)) up in
      let from = counted_from rows place row is in
      omega (arith, next, from)

  pub none_left : (rows : List BornRow) (place : ℕ) → length rows ≤ place → count (drop place rows) ≡ 0
  none_left rows place past = ap count (drop_all place rows past)

  module _ (schema : Schema) (history : History) where
    same_row : (born : Key) (found : Option Row) → one (option_map (λ row. record { row = row; born = born_at schema history born }) found) ≡ hit_of conditions found
    same_row born None = refl
    same_row born (Some row) = refl

    held : (key : Key) → one (row_with key (kept_at schema history)) ≡ hit_of conditions (row_at schema history key)
    held key = ap one (row_with-table_rows schema history key) ∙ same_row key (row_at schema history key)

    abbrev after : Entry → ℕ
    after entry = hits_among conditions (kept_at schema (history ++ entry ∷ []))

    put : (entry : Entry) (kept : BornRow) → table_rows schema (history ++ entry ∷ []) ≡ put_row schema.key kept (table_rows schema history)
        → after entry + hit_of conditions (row_at schema history (key_of schema.key kept.row)) ≡ hits_among conditions (kept_at schema history) + hit_of conditions (Some kept.row)
    put entry kept is =
        let now = ap count is in
        let sum = put_counted schema.key kept (table_rows schema history) (IsAscending-table_rows schema history) in
        let before = held (key_of schema.key kept.row) in
        omega (arith, now, sum, before)

    taken : (entry : Entry) (key : Key) → table_rows schema (history ++ entry ∷ []) ≡ take_row schema.key key (table_rows schema history)
        → after entry + hit_of conditions (row_at schema history key) ≡ hits_among conditions (kept_at schema history) + hit_of conditions None
    taken entry key is =
        let now = ap count is in
        let sum = take_counted schema.key key (table_rows schema history) in
        let before = held key in
        omega (arith, now, sum, before)

    there : (key : Key) → hit_of conditions (row_at schema history key) ≤ hits_among conditions (kept_at schema history)
    there key =
        let before = held key in
        let few = found_counted schema.key key (table_rows schema history) in
        omega (arith, before, few)

    -- the old row in the table is counted there
    pub there_counted : (act : Act) → hit_of conditions (row_there schema history act) ≤ hits_among conditions (kept_at schema history)
    there_counted (Insert table row) = there (key_of schema.key row)
    there_counted (Update table row) = there (key_of schema.key row)
    there_counted (Delete table key) = there key
    there_counted act = omega arith

    -- a version of the table changes the number of rows by the old row and the new one
    pub version_counted : (entry : Entry) (act : Act) → entry.act ≡ act → is_version act ≡ true → bytes_eq (table_changed act) schema.name ≡ true
        → after entry + hit_of conditions (row_there schema history act) ≡ hits_among conditions (kept_at schema history) + hit_of conditions (row_left act)
    version_counted entry (Insert table row) is version same = put entry (record { row = row; born = entry.moment }) (table_rows-Insert schema history entry table row is same)
    version_counted entry (Update table row) is version same =
        put entry (record { row = row; born = born_at schema history (key_of schema.key row) }) (table_rows-Update schema history entry table row is same)
    version_counted entry (Delete table key) is version same = taken entry key (table_rows-Delete schema history entry table key is same)
    version_counted entry act is version same = absurd (false≢true version)

-- a row is counted at most once
pub at_most_one : (conditions : List (CondOf Operand)) (row : Option Row) → hit_of conditions row ≤ 1
at_most_one conditions row = small _
  where
    small : (test : Bool) → (if test then 1 else 0) ≤ 1
    small true = omega arith
    small false = omega arith

-- ---- no more rows than entries
inserted : (key : Key) (keys : List Key) → length (insert_key key keys) ≤ 1 + length keys
inserted key [] = omega arith
inserted key (first ∷ rest) =
    let later = inserted key rest in
    elim (cells_cmp key first) as (λ o. length (match_ordering o (key ∷ first ∷ rest) (first ∷ rest) (first ∷ insert_key key rest)) ≤ 1 + length (first ∷ rest)) [
      | Less ↦ omega arith
      | Equal ↦ omega arith
      | Greater ↦ omega (arith, later)
    ]

with_one : (named : Option Key) (keys : List Key) → length (with_key named keys) ≤ 1 + length keys
with_one None keys = omega arith
with_one (Some key) keys = inserted key keys

keys_few : (schema : Schema) (history : History) → length (keys_named schema history) ≤ length history
keys_few schema [] = omega arith
keys_few schema (entry ∷ later) =
    let remaining = keys_few schema later in
    let here = with_one (key_named schema entry.act) (keys_named schema later) in
    omega (arith, remaining, here)

one_more : {A : Type 0} (found : Option A) (rest : List A) → length (cons_option found rest) ≤ 1 + length rest
one_more None rest = omega arith
one_more (Some x) rest = omega arith

found_few : {A B : Type 0} (f : A → Option B) (xs : List A) → length (filter_map f xs) ≤ length xs
found_few f [] = omega arith
found_few f (x ∷ xs) =
    let remaining = found_few f xs in
    let here = one_more (f x) (filter_map f xs) in
    omega (arith, remaining, here)

one_passed : {A : Type 0} (passes : Bool) (x : A) (rest : List A) → length (cond passes (x ∷ rest) rest) ≤ 1 + length rest
one_passed true x rest = omega arith
one_passed false x rest = omega arith

passed_few : {A : Type 0} (test : A → Bool) (xs : List A) → length (filter test xs) ≤ length xs
passed_few test [] = omega arith
passed_few test (x ∷ xs) =
    let remaining = passed_few test xs in
    let here = one_passed (test x) x (filter test xs) in
    omega (arith, remaining, here)

-- conditions find no more rows than there are entries
pub hits_few : (conditions : List (CondOf Operand)) (schema : Schema) (history : History) → hits_among conditions (kept_at schema history) ≤ length history
hits_few conditions schema history =
    let passed = passed_few (is_hit conditions) (table_rows schema history) in
    let rows = found_few (born_row_at schema history) (keys_named schema history) in
    let keys = keys_few schema history in
    omega (arith, passed, rows, keys)
