-- Entries of a secondary order: each row of the set keeps its own.
use Rattle.std.proofs.Common.{◌≡◌, Bool, true, false, ℕ, zero, suc, ◌+◌, ◌<◌, ◌≤◌, List, [], ◌∷◌, ◌++◌, map, length, get_or, Option, Some, None, IfSome, if◌then◌else◌, slice_get, inl, inr, sym, ap, ◌∙◌, refl, subst, arith, add-one, add-zero, zero-add}
use Rattle.std.specs.Prelude.{option_map, OnOk, Result, Ok, Err}
use Rattle.std.specs.List.{All, Contains, range_with_len}
use Rattle.std.specs.List.Sorted.{IsPermutation}
use Rattle.std.specs.Ordering.{is_eq, ordering_then}
use Rattle.std.specs.declared.cmp.Ordering.{Ordering}
use Rattle.std.specs.declared.cmp.Ordering.TheVariants.{Less, Equal, Greater}
use Rattle.std.proofs.lemmas.Bool.{cases_lt, false≢true}
use Rattle.std.proofs.lemmas.Cmp.{tied_itself}
use Rattle.std.proofs.lemmas.List.FromFn.{get_or-range_with_len, length-range_with_len}
use Rattle.std.proofs.lemmas.List.Sorted.{All-permutation, Contains-permutation}
use Rattle.hippo_values.specs.declared.moments.Moment.{Moment}
use Rattle.hippo_values.specs.declared.values.Value.{Value}
use Rattle.hippo_values.specs.Order.{value_cmp, cells_cmp, same_cells}
use Rattle.hippo_model.specs.declared.born_row.BornRow.{BornRow}
use Rattle.hippo_model.specs.Terms.{Key, Place, Row}
use Rattle.hippo_model.specs.Rows.{cell_at, key_of}
use Rattle.hippo_tables_keyed.specs.RowSets.{KeyedRows, IsAscending, key_in, with_row, without_row, find_row, row_with}
use Rattle.hippo_tables_rows.specs.ColumnOrders.{order_key, HasOrderKey, AreOrderKeysOf, AreEntered, AreReadyFor}
use Rattle.hippo_tables_keyed.proofs.Orders.{cells_total, same_exact, value_exact}
use Rattle.hippo_tables_keyed.proofs.RowsByKey.{row_with-put, row_with-take_other, row_with-take_own, key_in-row_with, place-row_with, slice_get-within, row_with-found, row_at-is}

pub IfSome-weaker : {X : Type 0} (P Q : X → Type 0) (found : Option X) → ((x : X) → found ≡ Some x → P x → Q x) → IfSome found P → IfSome found Q
IfSome-weaker P Q None weaker holds = tt
IfSome-weaker P Q (Some x) weaker holds = weaker x refl holds

pub OnOk-weaker : {A E : Type 0} (P Q : Type 0) (result : Result A E) → (P → Q) → OnOk result P → OnOk result Q
OnOk-weaker P Q (Ok done) weaker holds = weaker holds
OnOk-weaker P Q (Err fault) weaker holds = tt

-- ---- an entry is its own key

shifted : (x : Value) (rest : Row) (a n : ℕ) → key_of (range_with_len (a + 1) n) (x ∷ rest) ≡ key_of (range_with_len a n) rest
shifted x rest a zero = refl
shifted x rest a (suc n) =
    let cell : cell_at (x ∷ rest) (a + 1) ≡ cell_at rest a = ap (cell_at (x ∷ rest)) (add-one a) in
    λ i. cell i ∷ shifted x rest (a + 1) n i

pub all-cells : (row : Row) → key_of (range_with_len 0 (length row)) row ≡ row
all-cells [] = refl
all-cells (x ∷ rest) = ap (λ (cells : Row). x ∷ cells) (shifted x rest 0 (length rest) ∙ all-cells rest)

range_from : (a n : ℕ) → range_with_len a (suc n) ≡ range_with_len a n ++ (a + n) ∷ []
range_from a zero = ap (λ k. k ∷ []) (sym (add-zero a))
range_from a (suc n) =
    let e : a + 1 + n ≡ a + suc n = omega arith in
    ap (λ (l : List Place). a ∷ l) (range_from (a + 1) n ∙ ap (λ k. range_with_len (a + 1) n ++ k ∷ []) e)

-- one place more
pub range-more : (n : ℕ) → range_with_len 0 (suc n) ≡ range_with_len 0 n ++ n ∷ []
range-more n = let e : 0 + n ≡ n = omega arith in range_from 0 n ∙ ap (λ k. range_with_len 0 n ++ k ∷ []) e

length-key_of : (places : List Place) (row : Row) → length (key_of places row) ≡ length places
length-key_of [] row = refl
length-key_of (place ∷ places) row = ap suc (length-key_of places row)

pub own-key : (column : Place) (places : List Place) (row : Row) (key : List Place) → key ≡ range_with_len 0 (suc (length places)) → key_of key (order_key column places row) ≡ order_key column places row
own-key column places row key is =
    let size : suc (length places) ≡ length (order_key column places row) = ap suc (sym (length-key_of places row)) in
    ap (λ (k : List Place). key_of k (order_key column places row)) (is ∙ ap (range_with_len 0) size) ∙ all-cells (order_key column places row)

-- ---- entries of which one is inserted or removed

module _ (entries : KeyedRows) (born : Moment) (entry : Key) (own : key_of entries.key entry ≡ entry) where
  abbrev pub put : KeyedRows
  put = with_row (record { row = entry; born = born }) entries

  pub HasOrderKey-own : HasOrderKey put entry
  HasOrderKey-own =
      ap (option_map (λ kept. kept.row)) (row_with-put entries.key (record { row = entry; born = born }) entries.rows entry)
      ∙ rw (own, tied_itself cells_total entry)

  pub HasOrderKey-put : (other : Key) → HasOrderKey entries other → HasOrderKey put other
  HasOrderKey-put other has =
      ap (option_map (λ kept. kept.row)) (row_with-put entries.key (record { row = entry; born = born }) entries.rows other)
      ∙ (elim (same_cells (key_of entries.key entry) other) as (λ same. same_cells (key_of entries.key entry) other ≡ same → option_map (λ kept. kept.row) (if same then Some (record { row = entry; born = born }) else row_with other entries) ≡ Some other) [
        | true ↦ λ same. ap Some (sym own ∙ same_exact (key_of entries.key entry) other same)
        | false ↦ λ same. has
      ] refl)

pub HasOrderKey-take : (entries : KeyedRows) (taken other : Key) → same_cells taken other ≡ false → HasOrderKey entries other → HasOrderKey (without_row taken entries) other
HasOrderKey-take entries taken other apart has = ap (option_map (λ kept. kept.row)) (row_with-take_other entries.key taken entries.rows other apart) ∙ has

-- rows with different keys have different entries
entries-differ : (column : Place) (places : List Place) (old other : Row) → same_cells (key_of places old) (key_of places other) ≡ false → same_cells (order_key column places old) (order_key column places other) ≡ false
entries-differ column places old other apart =
    elim (value_cmp (cell_at old column) (cell_at other column)) as (λ (o : Ordering). is_eq (ordering_then o (cells_cmp (key_of places old) (key_of places other))) ≡ false) [
      | Less ↦ refl
      | Equal ↦ apart
      | Greater ↦ refl
    ]

-- rows with the same key and value have the same entry
entries-same : (column : Place) (places : List Place) (old row : Row) → is_eq (value_cmp (cell_at old column) (cell_at row column)) ≡ true → key_of places old ≡ key_of places row → order_key column places old ≡ order_key column places row
entries-same column places old row alike same =
    let cell : cell_at old column ≡ cell_at row column = exact (value_cmp (cell_at old column) (cell_at row column)) refl alike in
    λ i. cell i ∷ same i
  where
    exact : (o : Ordering) → value_cmp (cell_at old column) (cell_at row column) ≡ o → is_eq o ≡ true → cell_at old column ≡ cell_at row column
    exact Less e test = absurd (false≢true test)
    exact Equal e test = value_exact (cell_at old column) (cell_at row column) e
    exact Greater e test = absurd (false≢true test)

module _ (column : Place) (set entries : KeyedRows) (are : AreOrderKeysOf column set entries) where
  -- whatever happens to the entries, rows keep theirs if each existing entry stays
  covers-kept : (later : KeyedRows) → ((entry : Key) → HasOrderKey entries entry → HasOrderKey later entry) → later.key ≡ entries.key → AreOrderKeysOf column set later
  covers-kept later kept same = record {
    key = same ∙ are.key;
    covers = λ own. IfSome-weaker (λ (row : BornRow). HasOrderKey entries (order_key column set.key row.row)) (λ (row : BornRow). HasOrderKey later (order_key column set.key row.row)) (row_with own set) (λ row found has. kept (order_key column set.key row.row) has) (are.covers own);
  }

  module _ (row : Row) (born : Moment) where
    abbrev new : BornRow
    new = record { row = row; born = born }

    abbrev entry : Key
    entry = order_key column set.key row

    -- a row is put: its own entry exists, and so do those of other keys
    covers-put : (later : KeyedRows) → later.key ≡ entries.key → HasOrderKey later entry → ((kept : BornRow) → same_cells (key_of set.key row) (key_in set.key kept) ≡ false → HasOrderKey entries (order_key column set.key kept.row) → HasOrderKey later (order_key column set.key kept.row)) → AreOrderKeysOf column (with_row new set) later
    covers-put later same own others = record {
      key = same ∙ are.key;
      covers = λ key. subst (λ (found : Option BornRow). IfSome found (λ kept. HasOrderKey later (order_key column set.key kept.row))) (sym (row_with-put set.key new set.rows key)) (by_key key (same_cells (key_of set.key row) key) refl);
    }
      where
        by_key : (key : Key) (same : Bool) → same_cells (key_of set.key row) key ≡ same → IfSome (if same then Some new else row_with key set) (λ kept. HasOrderKey later (order_key column set.key kept.row))
        by_key key true is = own
        by_key key false is = IfSome-weaker (λ (kept : BornRow). HasOrderKey entries (order_key column set.key kept.row)) (λ (kept : BornRow). HasOrderKey later (order_key column set.key kept.row)) (row_with key set) (λ kept found has. others kept (ap (same_cells (key_of set.key row)) (key_in-row_with set.key set.rows key kept found) ∙ is) has) (are.covers key)

    pub own_key : key_of entries.key entry ≡ entry
    own_key = own-key column set.key row entries.key are.key

    -- if the row's key is new
    pub ready-new : AreReadyFor column new set (put entries born entry own_key)
    ready-new = (
      covers-put (put entries born entry own_key) refl (HasOrderKey-own entries born entry own_key) (λ kept other has. HasOrderKey-put entries born entry own_key (order_key column set.key kept.row) has),
      λ none. covers-kept (put entries born entry own_key) (HasOrderKey-put entries born entry own_key) refl,
    )

    -- if another row has it
    module _ (old : BornRow) (found : row_with (key_of set.key row) set ≡ Some old) where
      same_key : key_in set.key old ≡ key_of set.key row
      same_key = key_in-row_with set.key set.rows (key_of set.key row) old found

      -- with another value
      pub replaced : AreOrderKeysOf column (with_row new set) (with_row (record { row = entry; born = born }) (without_row (order_key column set.key old.row) entries))
      replaced =
          let less : KeyedRows = without_row (order_key column set.key old.row) entries in
          covers-put (put less born entry own_key) refl (HasOrderKey-own less born entry own_key) (λ kept other has.
          let apart = entries-differ column set.key old.row kept.row (ap (λ k. same_cells k (key_in set.key kept)) same_key ∙ other) in
          HasOrderKey-put less born entry own_key (order_key column set.key kept.row) (HasOrderKey-take entries (order_key column set.key old.row) (order_key column set.key kept.row) apart has))

      -- with the same value
      pub stays : is_eq (value_cmp (cell_at old.row column) (cell_at row column)) ≡ true → AreOrderKeysOf column (with_row new set) entries
      stays alike =
          let had : HasOrderKey entries (order_key column set.key old.row) = subst (λ (known : Option BornRow). IfSome known (λ kept. HasOrderKey entries (order_key column set.key kept.row))) found (are.covers (key_of set.key row)) in
          covers-put entries refl (subst (HasOrderKey entries) (entries-same column set.key old.row row alike same_key) had) (λ kept other has. has)

  -- a row is removed: entries of other keys stay
  module _ (ascends : IsAscending (map (key_in set.key) set.rows)) (taken : Key) where
    covers-take : (later : KeyedRows) → later.key ≡ entries.key → ((kept : BornRow) → same_cells taken (key_in set.key kept) ≡ false → HasOrderKey entries (order_key column set.key kept.row) → HasOrderKey later (order_key column set.key kept.row)) → AreOrderKeysOf column (without_row taken set) later
    covers-take later same others = record {
      key = same ∙ are.key;
      covers = λ key. by_key key (same_cells taken key) refl;
    }
      where
        by_key : (key : Key) (same : Bool) → same_cells taken key ≡ same → IfSome (row_with key (without_row taken set)) (λ kept. HasOrderKey later (order_key column set.key kept.row))
        by_key key true is = subst (λ (found : Option BornRow). IfSome found (λ kept. HasOrderKey later (order_key column set.key kept.row))) (sym (ap (λ k. row_with k (without_row taken set)) (sym (same_exact taken key is)) ∙ row_with-take_own set.key taken set.rows ascends)) tt
        by_key key false is = subst (λ (found : Option BornRow). IfSome found (λ kept. HasOrderKey later (order_key column set.key kept.row))) (sym (row_with-take_other set.key taken set.rows key is))
            (IfSome-weaker (λ (kept : BornRow). HasOrderKey entries (order_key column set.key kept.row)) (λ (kept : BornRow). HasOrderKey later (order_key column set.key kept.row)) (row_with key set) (λ kept found has. others kept (ap (same_cells taken) (key_in-row_with set.key set.rows key kept found) ∙ is) has) (are.covers key))

    -- if no row has the key
    pub forgotten-none : AreOrderKeysOf column (without_row taken set) entries
    forgotten-none = covers-take entries refl (λ kept other has. has)

    pub forgotten : (old : BornRow) → row_with taken set ≡ Some old → AreOrderKeysOf column (without_row taken set) (without_row (order_key column set.key old.row) entries)
    forgotten old found =
        covers-take (without_row (order_key column set.key old.row) entries) refl (λ kept other has.
        HasOrderKey-take entries (order_key column set.key old.row) (order_key column set.key kept.row)
        (entries-differ column set.key old.row kept.row (ap (λ k. same_cells k (key_in set.key kept)) (key_in-row_with set.key set.rows taken old found) ∙ other)) has)

-- ---- what the calls that change entries need

pub stays-at : (column : Place) (set entries : KeyedRows) (row : Row) (born : Moment) (place : Place) (old : Row) → AreOrderKeysOf column set entries
    → find_row set.key (key_of set.key row) set.rows ≡ Some place → option_map (λ kept. kept.row) (slice_get set.rows place) ≡ Some old
    → is_eq (value_cmp (cell_at old column) (cell_at row column)) ≡ true → AreOrderKeysOf column (with_row (record { row = row; born = born }) set) entries
stays-at column set entries row born place old are found at alike =
    let stood = row_at-is set.rows place old at in
    stays column set entries are row born stood.0 (row_with-found set.key set.rows (key_of set.key row) place stood.0 found stood.1)
    (subst (λ (r : Row). is_eq (value_cmp (cell_at r column) (cell_at row column)) ≡ true) (sym stood.2) alike)

pub replaced-at : (column : Place) (set entries : KeyedRows) (row : Row) (born : Moment) (place : Place) (old : Row) → AreOrderKeysOf column set entries
    → find_row set.key (key_of set.key row) set.rows ≡ Some place → option_map (λ kept. kept.row) (slice_get set.rows place) ≡ Some old
    → AreOrderKeysOf column (with_row (record { row = row; born = born }) set) (with_row (record { row = order_key column set.key row; born = born }) (without_row (order_key column set.key old) entries))
replaced-at column set entries row born place old are found at =
    let stood = row_at-is set.rows place old at in
    subst (λ (r : Row). AreOrderKeysOf column (with_row (record { row = row; born = born }) set) (with_row (record { row = order_key column set.key row; born = born }) (without_row (order_key column set.key r) entries))) stood.2
    (replaced column set entries are row born stood.0 (row_with-found set.key set.rows (key_of set.key row) place stood.0 found stood.1))

pub forgotten-at : (column : Place) (set entries : KeyedRows) (taken : Key) (place : Place) (old : Row) → AreOrderKeysOf column set entries → IsAscending (map (key_in set.key) set.rows)
    → find_row set.key taken set.rows ≡ Some place → option_map (λ kept. kept.row) (slice_get set.rows place) ≡ Some old
    → AreOrderKeysOf column (without_row taken set) (without_row (order_key column set.key old) entries)
forgotten-at column set entries taken place old are ascends found at =
    let stood = row_at-is set.rows place old at in
    subst (λ (r : Row). AreOrderKeysOf column (without_row taken set) (without_row (order_key column set.key r) entries)) stood.2
    (forgotten column set entries are ascends taken stood.0 (row_with-found set.key set.rows taken place stood.0 found stood.1))

-- ---- entries of one row after the other

-- the entries contain those of the rows at the first places of a list
pub record AreFilled (column : Place) (set : KeyedRows) (places : List Place) (entries : KeyedRows) (end : ℕ) : Type 0 where
  pub key : entries.key ≡ range_with_len 0 (suc (length set.key))
  pub so_far : (at : ℕ) → at < end → (place : Place) → get_or places at place ≡ place → (kept : BornRow) → slice_get set.rows place ≡ Some kept → HasOrderKey entries (order_key column set.key kept.row)

pub AreFilled-none : (column : Place) (set : KeyedRows) (places : List Place) (entries : KeyedRows) → entries.key ≡ range_with_len 0 (suc (length set.key)) → AreFilled column set places entries 0
AreFilled-none column set places entries key = record { key = key; so_far = λ at none place is kept there. absurd (omega arith) }

pub AreFilled-next : (column : Place) (set : KeyedRows) (places : List Place) (entries later : KeyedRows) (end : ℕ) (own : Place) (row : Row) (born : Moment) → ((place : Place) → get_or places end place ≡ place → place ≡ own)
    → option_map (λ kept. kept.row) (slice_get set.rows own) ≡ Some row
    → later ≡ with_row (record { row = order_key column set.key row; born = born }) entries → AreFilled column set places entries end → AreFilled column set places later (end + 1)
AreFilled-next column set places entries later end own row born only at is filled =
    let entry = order_key column set.key row in
    let itself : key_of entries.key entry ≡ entry = own-key column set.key row entries.key filled.key in
    subst (λ (made : KeyedRows). AreFilled column set places made (end + 1)) (sym is) (record {
      key = filled.key;
      so_far = λ other within place is_place kept at_place. elim (cases_lt other end) [
        | inl before ↦ HasOrderKey-put entries born entry itself (order_key column set.key kept.row) (filled.so_far other before place is_place kept at_place)
        | inr here ↦
            let one : other ≡ end = omega arith in
            let own_place : place ≡ own = only place (ap (λ (n : ℕ). get_or places n place) (sym one) ∙ is_place) in
            let same : Some kept.row ≡ Some row = ap (option_map (λ (k : BornRow). k.row)) (sym at_place ∙ ap (slice_get set.rows) own_place) ∙ at in
            let is_row : kept.row ≡ row = cc in
            subst (λ (r : Row). HasOrderKey (put entries born entry itself) (order_key column set.key r)) (sym is_row) (HasOrderKey-own entries born entry itself)
      ];
    })

-- once all places of a list are done, the entries contain those of their rows
pub AreFilled-all : (column : Place) (set : KeyedRows) (places : List Place) (entries : KeyedRows) (end : ℕ) → length places ≤ end → AreFilled column set places entries end → AreEntered column set places entries
AreFilled-all column set places entries end past filled = record {
  key = filled.key;
  each = λ place among kept at. filled.so_far among.0 (let within = among.1 in omega arith) place among.2 kept at;
}

-- if the list is a permutation of the places of all rows, each row has its entry
pub entered-all : (column : Place) (set : KeyedRows) (places : List Place) (entries : KeyedRows) → IsPermutation (range_with_len 0 (length set.rows)) places → AreEntered column set places entries → AreOrderKeysOf column set entries
entered-all column set places entries moved entered = record {
  key = entered.key;
  covers = λ key. by_row key (row_with key set) refl;
}
  where
    among : (place : Place) → place < length set.rows → Contains places place
    among place within = Contains-permutation (range_with_len 0 (length set.rows)) places place moved
        (place, simp length-range_with_len within, get_or-range_with_len 0 (length set.rows) place place within ∙ zero-add place)

    by_row : (key : Key) (found : Option BornRow) → row_with key set ≡ found → IfSome found (λ kept. HasOrderKey entries (order_key column set.key kept.row))
    by_row key None is = tt
    by_row key (Some kept) is =
        let at = place-row_with set.key set.rows key kept is in
        entered.each at.0 (among at.0 (slice_get-within set.rows at.0 kept at.1)) kept at.1

-- a permutation of the places of all rows contains only places of rows
pub places-below : (n : ℕ) (places : List Place) → IsPermutation (range_with_len 0 n) places → All (λ place. place < n) places
places-below n places moved =
    All-permutation (λ place. place < n) (range_with_len 0 n) places moved (λ k d within. let l : k < n = simp length-range_with_len at within in rw (get_or-range_with_len 0 n k d l) (omega arith))
