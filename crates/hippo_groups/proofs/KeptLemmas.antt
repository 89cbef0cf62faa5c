-- What is stored of groups, with one more member.
use Rattle.std.proofs.Common.{◌≡◌, ℕ, suc, ◌<◌, ◌≤◌, Bool, false, cond, ◌||◌, List, [], ◌∷◌, ◌++◌, map, take, drop, length, Some, Vec, Global, refl, sym, ap, ◌∙◌, arith, length-append}
use Rattle.std.specs.Prelude.{slice_get, get_or, option_map, position, Result, Ok, Err, OnOk}
use Rattle.std.specs.List.{list_any}
use Rattle.std.proofs.Math.Seq.{split_at}
use Rattle.std.proofs.lemmas.List.{length-map, length-take-le, map-append}
use Rattle.std.proofs.lemmas.List.Quantifiers.{position-Some}
use Rattle.std.proofs.lemmas.Option.{slice_get-map, slice_get-get_or, slice_get_within, get_or_from_slice_get}
use Rattle.indexmap.specs.IndexSet.{insert_key}
use Rattle.hippo_model.specs.declared.cells.Cell.{Cell}
use Rattle.hippo_model.specs.declared.query.Shape.{Shape}
use Rattle.hippo_model.specs.Terms.{ShownRow, Place}
use Rattle.hippo_model.specs.Forms.{distinct_rows, group_cell, grouped_rows}
use Rattle.hippo_distinct.specs.DistinctRows.{stands_in}
use Rattle.hippo_distinct.proofs.DifferentLemmas.{same_row-exact, distinct_rows-append}
use Rattle.hippo_distinct.proofs.KeptLemmas.{row_eq, row_eq-same, asks-stands_in}
use Rattle.hippo_groups.specs.KeptGroups.{members_of, keys_of, GroupKeys, AreKept}
use Rattle.hippo_groups.proofs.GroupLemmas.{kept_at, keys-new, kept-new, keys-same, kept-before, kept-joined}

-- a list, split at the place of an element
cut_at : (rows : List ShownRow) (place : ℕ) (row : ShownRow) → slice_get rows place ≡ Some row → rows ≡ take place rows ++ row ∷ drop (suc place) rows
cut_at rows place row there =
    split_at rows place row (slice_get_within rows place row there)
    ∙ ap (λ (one : ShownRow). take place rows ++ one ∷ drop (suc place) rows) (get_or_from_slice_get rows place row row there)

abbrev KeyCells : Type 0
KeyCells = Vec Cell Global

abbrev pub cells_of : GroupKeys → List ShownRow
cells_of groups = map (λ key. key.items) groups

-- if the cells of a key are found, the key is there
stands-found : (groups : GroupKeys) (key : ShownRow) (place : ℕ) → position (λ cells. row_eq key cells.items) groups ≡ Some place → slice_get (cells_of groups) place ≡ Some key
stands-found [] key place at = absurd cc
stands-found (first ∷ groups) key place at =
    let told = position-Some (λ cells. row_eq key cells.items) (first ∷ groups) place first at in
    let cells : KeyCells = get_or (first ∷ groups) place first in
    slice_get-map (λ (cells : KeyCells). cells.items) (first ∷ groups) place
    ∙ ap (option_map (λ (cells : KeyCells). cells.items)) (slice_get-get_or (first ∷ groups) place first told.0)
    ∙ ap Some (sym (same_row-exact key cells.items (sym (row_eq-same key cells.items) ∙ told.1)))

-- a key's cells are stored exactly when the key is among the keys
stands-among : (groups : GroupKeys) (key : ShownRow) → list_any (λ cells. row_eq key cells.items) groups ≡ list_any (row_eq key) (cells_of groups)
stands-among [] key = refl
stands-among (first ∷ groups) key = ap (λ (later : Bool). row_eq key first.items || later) (stands-among groups key)

-- a key that is not stored is appended
put_last : (groups : GroupKeys) (cells : KeyCells) → list_any (λ other. row_eq cells.items other.items) groups ≡ false → insert_key (λ one other. row_eq one.items other.items) groups cells ≡ groups ++ cells ∷ []
put_last groups cells missing = ap (λ kept. cond kept groups (groups ++ cells ∷ [])) missing

module _ {M K : Type 0} (row_of : M → ShownRow) (keys : Place) (kept_of : ShownRow → List M → K) (found : List M) (member : M) (kept : List K) (groups : GroupKeys)
    (are : AreKept row_of keys kept_of found kept groups) where
  abbrev key : ShownRow
  key = take keys (row_of member)

  abbrev before : List ShownRow
  before = keys_of row_of keys found

  -- a member of a group that exists
  module _ (place : ℕ) (known : position (λ cells. row_eq key cells.items) groups ≡ Some place) where
    joined : (after : List K)
        → ((front back : List K) (key : ShownRow) (members : List M) → kept ≡ front ++ kept_of key members ∷ back → place ≡ length front → after ≡ front ++ kept_of key (members ++ member ∷ []) ∷ back)
        → AreKept row_of keys kept_of (found ++ member ∷ []) after groups
    joined after joins =
        let there : slice_get before place ≡ Some key = ap (λ (rows : List ShownRow). slice_get rows place) (sym are.keyed) ∙ stands-found groups key place known in
        let front : List ShownRow = take place before in
        let back : List ShownRow = drop (suc place) before in
        let split : before ≡ front ++ key ∷ back = cut_at before place key there in
        let within : place < length before = slice_get_within before place key there in
        record {
          each = joins (map (kept_at row_of keys kept_of found) front) (map (kept_at row_of keys kept_of found) back) key (members_of row_of keys found key)
              (are.each ∙ kept-before row_of keys kept_of found member front back split)
              (omega (arith, length-map front (kept_at row_of keys kept_of found), length-take-le place before))
              ∙ kept-joined row_of keys kept_of found member front back split;
          keyed = are.keyed ∙ sym (keys-same row_of keys kept_of found member front back split);
        }

    pub joined-if : {T E : Type 0} (outcome : Result T E) (after : List K)
        → ((front back : List K) (key : ShownRow) (members : List M) → kept ≡ front ++ kept_of key members ∷ back → place ≡ length front
        → OnOk outcome (after ≡ front ++ kept_of key (members ++ member ∷ []) ∷ back))
        → OnOk outcome (AreKept row_of keys kept_of (found ++ member ∷ []) after groups)
    joined-if (Ok value) after joins = joined after joins
    joined-if (Err fault) after joins = tt

  -- a member of a new group
  pub begun : list_any (λ cells. row_eq key cells.items) groups ≡ false → (after : List K) (later : GroupKeys) (cells : KeyCells) → cells.items ≡ key
      → after ≡ kept ++ kept_of key (member ∷ []) ∷ []
      → later ≡ insert_key (λ one other. row_eq one.items other.items) groups cells
      → AreKept row_of keys kept_of (found ++ member ∷ []) after later
  begun missing after later cells is pushed put = record {
    each = pushed ∙ ap (λ (all : List K). all ++ kept_of key (member ∷ []) ∷ []) are.each ∙ sym (kept-new row_of keys kept_of found member none);
    keyed =
        ap cells_of (put ∙ put_last groups cells (ap (λ (row : ShownRow). list_any (λ other. row_eq row other.items) groups) is ∙ missing))
        ∙ map-append (λ (cells : KeyCells). cells.items) groups (cells ∷ [])
        ∙ (λ i. are.keyed i ++ is i ∷ [])
        ∙ sym (keys-new row_of keys kept_of found member none);
  }
    where
      none : stands_in key before ≡ false
      none = ap (stands_in key) (sym are.keyed) ∙ sym (asks-stands_in key (cells_of groups)) ∙ sym (stands-among groups key) ∙ missing

-- with more rows there are no fewer groups
pub not_fewer : (shape : Shape) (found rows : List ShownRow) → rows ≡ grouped_rows shape found → (later : List ShownRow) → length rows ≤ length (grouped_rows shape (found ++ later))
not_fewer shape found rows are later =
    let keys : List ShownRow = map (take shape.keys) found in
    let row : List ShownRow → ShownRow → ShownRow = kept_at (λ row. row) shape.keys (λ key members. map (group_cell key members) shape.outs) in
    let whole = distinct_rows-append (map (take shape.keys) later) keys in
    let before : length rows ≡ length (distinct_rows keys) = ap length are ∙ length-map (distinct_rows keys) (row found) in
    let after : length (grouped_rows shape (found ++ later)) ≡ length (distinct_rows keys ++ whole.0) =
    length-map (distinct_rows (map (take shape.keys) (found ++ later))) (row (found ++ later))
    ∙ ap (λ (all : List ShownRow). length (distinct_rows all)) (map-append (take shape.keys) found later)
    ∙ ap length whole.1 in
    omega (arith, before, after, length-append (distinct_rows keys) whole.0)
