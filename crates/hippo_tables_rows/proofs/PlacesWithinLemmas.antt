-- The rows within two bounds of a column are those whose entries are in a range.
use Rattle.std.proofs.Common.{◌≡◌, true, false, ℕ, zero, suc, ◌+◌, ◌<◌, ◌≤◌, List, [], ◌∷◌, ◌++◌, map, length, Option, Some, None, IfSome, slice_get, inl, inr, sym, ap, ◌∙◌, refl, subst, arith, ltb-true, ltb-false}
use Rattle.std.specs.Prelude.{option_map, unwrap_or}
use Rattle.std.specs.List.{Contains}
use Rattle.std.proofs.lemmas.Bool.{cases_lt}
use Rattle.std.proofs.lemmas.List.Elements.{Contains-append_left, Contains-push}
use Rattle.hippo_values.specs.declared.values.Value.{Value}
use Rattle.hippo_model.specs.declared.born_row.BornRow.{BornRow}
use Rattle.hippo_tables_rows.specs.declared.ranges.Bound.{Bound}
use Rattle.hippo_model.specs.Terms.{Key, Place, Row}
use Rattle.hippo_model.specs.Rows.{cell_at, key_of}
use Rattle.hippo_tables_keyed.specs.RowSets.{KeyedRows, IsAscending, key_in, find_row, row_with, blank, value_at_place}
use Rattle.hippo_tables_rows.specs.ColumnOrders.{order_key, HasOrderKey, AreOrderKeysOf, AreGathered}
use Rattle.hippo_tables_rows.specs.Ranges.{HasFront, KeepsBound, IsEdge}
use Rattle.hippo_tables_keyed.proofs.RowsByKey.{slice_get-within, find_row-at, row_with-found, place-row_with}

-- an entry is at some place
entry-place : (entries : KeyedRows) (entry : Key) → HasOrderKey entries entry → (place : Place) × (kept : BornRow) × (slice_get entries.rows place ≡ Some kept) × (kept.row ≡ entry)
entry-place entries entry =
    elim (row_with entry entries) as (λ found. row_with entry entries ≡ found → option_map (λ kept. kept.row) found ≡ Some entry → (place : Place) × (kept : BornRow) × (slice_get entries.rows place ≡ Some kept) × (kept.row ≡ entry)) [
      | None ↦ λ e has. absurd cc
      | Some kept ↦ λ e has.
          let at = place-row_with entries.key entries.rows entry kept e in
          let row : kept.row ≡ entry = cc in
          (at.0, kept, at.1, row)
    ] refl

-- one more entry is read
pub next-gathered : (entries set : KeyedRows) (start here : ℕ) (found later : List Place) (row : Row) → option_map (λ kept. kept.row) (slice_get entries.rows here) ≡ Some row
    → ((place : Place) → Contains found place → Contains later place)
    → ((cell : Value) (kept : BornRow) (place : Place) → slice_get set.rows place ≡ Some kept → row ≡ cell ∷ key_of set.key kept.row → Contains later place)
    → AreGathered entries set start here found → AreGathered entries set start (here + 1) later
next-gathered entries set start here found later row stands stay added gathered at from to entry at_entry cell kept place at_place begins = elim (cases_lt at here) [
  | inl before ↦ stay place (gathered at from before entry at_entry cell kept place at_place begins)
  | inr last ↦
      let one : at ≡ here = omega arith in
      let same : Some entry.row ≡ Some row = ap (option_map (λ (k : BornRow). k.row)) (sym at_entry ∙ ap (slice_get entries.rows) one) ∙ stands in
      let is : entry.row ≡ row = cc in
      added cell kept place at_place (sym is ∙ begins)
]

-- the key in an entry is that of its row
pub found-remaining : (set : KeyedRows) (entry : Key) (first : Value) (key : Key) (found : Option Place) → IsAscending (map (key_in set.key) set.rows) → entry ≡ first ∷ key → found ≡ find_row set.key key set.rows
    → (cell : Value) (kept : BornRow) (place : Place) → slice_get set.rows place ≡ Some kept → entry ≡ cell ∷ key_of set.key kept.row → found ≡ Some place
found-remaining set entry first key found ascends is searched cell kept place at has =
    let both : first ∷ key ≡ cell ∷ key_of set.key kept.row = sym is ∙ has in
    let same : key ≡ key_of set.key kept.row = cc in
    searched ∙ ap (λ (k : Key). find_row set.key k set.rows) same ∙ find_row-at set.key set.rows place kept ascends at

pub contains-pushed : (old new : List Place) (place other : Place) → new ≡ old ++ place ∷ [] → Some place ≡ Some other → Contains new other
contains-pushed old new place other pushed is =
    let same : place ≡ other = cc in
    subst (λ (x : Place). Contains new x) same (subst (λ (l : List Place). Contains l place) (sym pushed) (Contains-push old place))

-- a place in the range between two ends
within-ends : (set : KeyedRows) (column : Place) (low high : Option Bound) (start end place : Place) → IsEdge set [] column false low start → IsEdge set [] column true high end → place < length set.rows
    → KeepsBound false low (value_at_place set column place) → KeepsBound true high (value_at_place set column place) → (start ≤ place) × (place < end)
within-ends set column low high start end place from to within over under =
    let front : HasFront set [] place = refl in
    (ltb-false place start (from place within front over), ltb-true place end (to place within front under))

-- one more place is found
pub between-more : (start here : ℕ) (found later : List Place) → later ≡ found ++ here ∷ [] → ((place : Place) → start ≤ place → place < here → Contains found place) → (place : Place) → start ≤ place → place < here + 1 → Contains later place
between-more start here found later pushed so_far place from to = subst (λ (l : List Place). Contains l place) (sym pushed) (elim (cases_lt place here) as (λ _. Contains (found ++ here ∷ []) place) [
  | inl before ↦ Contains-append_left found (here ∷ []) place (so_far place from before)
  | inr last ↦ let one : here ≡ place = omega arith in subst (Contains (found ++ here ∷ [])) one (Contains-push found here)
])

pub own-within : (set : KeyedRows) (column : Place) (low high : Option Bound) (start end : Place) (found : List Place) → IsEdge set [] column false low start → IsEdge set [] column true high end
    → ((place : Place) → start ≤ place → place < end → Contains found place)
    → (place : Place) → place < length set.rows → KeepsBound false low (value_at_place set column place) → KeepsBound true high (value_at_place set column place) → Contains found place
own-within set column low high start end found from to all place within over under =
    let inside = within-ends set column low high start end place from to within over under in
    all place inside.0 inside.1

-- ---- of a set

slice_get-some : {X : Type 0} (xs : List X) (i : ℕ) → i < length xs → (x : X) × (slice_get xs i ≡ Some x)
slice_get-some [] i within = absurd (omega arith)
slice_get-some (x ∷ xs) zero within = (x, refl)
slice_get-some (x ∷ xs) (suc i) within = slice_get-some xs i (omega arith)

pub places-within : (column : Place) (set entries : KeyedRows) (low high : Option Bound) (start end : Place) (found : List Place) → AreOrderKeysOf column set entries → IsAscending (map (key_in set.key) set.rows)
    → IsEdge entries [] 0 false low start → IsEdge entries [] 0 true high end → AreGathered entries set start end found
    → (place : Place) → place < length set.rows → KeepsBound false low (value_at_place set column place) → KeepsBound true high (value_at_place set column place) → Contains found place
places-within column set entries low high start end found are ascends from to gathered place within over under =
    let here = slice_get-some set.rows place within in
    let own : row_with (key_in set.key here.0) set ≡ Some here.0 = row_with-found set.key set.rows (key_in set.key here.0) place here.0 (find_row-at set.key set.rows place here.0 ascends here.1) here.1 in
    let has : HasOrderKey entries (order_key column set.key here.0.row) = subst (λ (known : Option BornRow). IfSome known (λ kept. HasOrderKey entries (order_key column set.key kept.row))) own (are.covers (key_in set.key here.0)) in
    let entry = entry-place entries (order_key column set.key here.0.row) has in
    let cell : value_at_place set column place ≡ cell_at here.0.row column = ap (λ (known : Option BornRow). cell_at (unwrap_or known blank).row column) here.1 in
    let first : value_at_place entries 0 entry.0 ≡ cell_at here.0.row column = ap (λ (known : Option BornRow). cell_at (unwrap_or known blank).row 0) entry.2 ∙ ap (λ (r : Row). cell_at r 0) entry.3 in
    let same : value_at_place set column place ≡ value_at_place entries 0 entry.0 = cell ∙ sym first in
    let inside = within-ends entries 0 low high start end entry.0 from to (slice_get-within entries.rows entry.0 entry.1 entry.2) (subst (KeepsBound false low) same over) (subst (KeepsBound true high) same under) in
    gathered entry.0 inside.0 inside.1 entry.1 entry.2 (cell_at here.0.row column) here.0 place here.1 entry.3
