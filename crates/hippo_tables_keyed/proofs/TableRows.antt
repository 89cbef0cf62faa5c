-- The effect of one more entry on the rows of a table.
use Rattle.std.proofs.Common.{◌≡◌, Bool, true, false, ◌||◌, List, [], ◌∷◌, map, filter_map, Option, Some, None, if◌then◌else◌, sym, ap, ◌∙◌, refl}
use Rattle.std.specs.List.{cons_option, list_any}
use Rattle.std.specs.Ordering.{match_ordering}
use Rattle.std.specs.declared.cmp.Ordering.{Ordering}
use Rattle.std.specs.declared.cmp.Ordering.TheVariants.{Less, Equal, Greater}
use Rattle.std.proofs.lemmas.Cmp.{tied_itself}
use Rattle.hippo_model.specs.declared.born_row.BornRow.{BornRow}
use Rattle.hippo_model.specs.Terms.{Key, Place}
use Rattle.hippo_values.specs.Order.{cells_cmp, same_cells}
use Rattle.hippo_model.specs.Rows.{insert_key}
use Rattle.hippo_tables_keyed.specs.RowSets.{key_in, IsBelowAll, IsAscending, put_row, take_row, row_with}
use Rattle.hippo_tables_keyed.proofs.Orders.{cells_total, cells_exact, same_exact}
use Rattle.hippo_tables_keyed.proofs.KeptRows.{flipped, shown, IsBelowAll-from_below}

-- a row below all others goes to the front
put_row-below_all : (places : List Place) (row : BornRow) (rows : List BornRow) → IsBelowAll (key_in places row) (map (key_in places) rows) → put_row places row rows ≡ row ∷ rows
put_row-below_all places row [] below = refl
put_row-below_all places row (first ∷ rest) below = rw below.0

-- and there is none with a key below all
take_row-below_all : (places : List Place) (key : Key) (rows : List BornRow) → IsBelowAll key (map (key_in places) rows) → take_row places key rows ≡ rows
take_row-below_all places key [] below = refl
take_row-below_all places key (first ∷ rest) below = rw (flipped key (key_in places first) Less below.0) (ap (λ others. first ∷ others) (take_row-below_all places key rest below.1))

either_None : {A : Type 0} (test : Bool) → ◌≡◌ {A = Option A} (if test then None else None) None
either_None true = refl
either_None false = refl

module _ (places : List Place) (rows : Key → Option BornRow) (keyed : (key : Key) (row : BornRow) → rows key ≡ Some row → key_in places row ≡ key) where
  -- rows have the keys they are found by
  IsBelowAll-filter_map : (key : Key) (keys : List Key) → IsBelowAll key keys → IsBelowAll key (map (key_in places) (filter_map rows keys))
  IsBelowAll-filter_map key [] below = tt
  IsBelowAll-filter_map key (first ∷ rest) below =
      elim (rows first) as (λ found. rows first ≡ found → IsBelowAll key (map (key_in places) (cons_option found (filter_map rows rest)))) [
        | None ↦ λ e. IsBelowAll-filter_map key rest below.1
        | Some row ↦ λ e. (rw (keyed first row e) below.0, IsBelowAll-filter_map key rest below.1)
      ] refl

  pub IsAscending-filter_map : (keys : List Key) → IsAscending keys → IsAscending (map (key_in places) (filter_map rows keys))
  IsAscending-filter_map [] ascends = tt
  IsAscending-filter_map (first ∷ rest) ascends =
      elim (rows first) as (λ found. rows first ≡ found → IsAscending (map (key_in places) (cons_option found (filter_map rows rest)))) [
        | None ↦ λ e. IsAscending-filter_map rest ascends.1
        | Some row ↦ λ e. (rw (keyed first row e) (IsBelowAll-filter_map first rest ascends.0), IsAscending-filter_map rest ascends.1)
      ] refl

  -- the row with a key is found by it, if the key exists
  pub row_with-filter_map : (key : Key) (keys : List Key) → row_with key (shown places (filter_map rows keys)) ≡ (if list_any (λ other. same_cells other key) keys then rows key else None)
  row_with-filter_map key [] = refl
  row_with-filter_map key (first ∷ rest) =
      let there = list_any (λ other. same_cells other key) rest in
      let induction = row_with-filter_map key rest in
      elim (rows first) as (λ found. rows first ≡ found → row_with key (shown places (cons_option found (filter_map rows rest))) ≡ (if same_cells first key || there then rows key else None)) [
        | None ↦ λ none. induction ∙ (elim (same_cells first key) as (λ same. same_cells first key ≡ same → (if there then rows key else None) ≡ (if same || there then rows key else None)) [
          | true ↦ λ same. let absent : rows key ≡ None = ap rows (sym (same_exact first key same)) ∙ none in rw absent (either_None there)
          | false ↦ λ other. refl
        ] refl)
        | Some row ↦ λ some. rw (keyed first row some) (elim (same_cells first key) as (λ same. same_cells first key ≡ same → (if same then Some row else row_with key (shown places (filter_map rows rest))) ≡ (if same || there then rows key else None)) [
          | true ↦ λ same. sym some ∙ ap rows (same_exact first key same)
          | false ↦ λ other. induction
        ] refl)
      ] refl

  -- one key gets a new row
  module _ (key : Key) (left : Option BornRow) (later : Key → Option BornRow) (is : (other : Key) → later other ≡ (if same_cells key other then left else rows other)) where
    -- keys above it keep their rows
    filter_map-above : (keys : List Key) → IsBelowAll key keys → filter_map later keys ≡ filter_map rows keys
    filter_map-above [] below = refl
    filter_map-above (first ∷ rest) below = rw (is first, below.0, filter_map-above rest below.1)

    here : later key ≡ left
    here = rw (is key, tied_itself cells_total key)

    -- if it had no row, the new row is inserted
    pub filter_map-insert_key : (row : BornRow) → left ≡ Some row → key_in places row ≡ key → (keys : List Key) → IsAscending keys → filter_map later (insert_key key keys) ≡ put_row places row (filter_map rows keys)
    filter_map-insert_key row puts has_key [] ascends = rw (here, puts)
    filter_map-insert_key row puts has_key (first ∷ rest) ascends =
        let Goal : Ordering → Type 0 = λ o. filter_map later (match_ordering o (key ∷ first ∷ rest) (first ∷ rest) (first ∷ insert_key key rest)) ≡ put_row places row (filter_map rows (first ∷ rest)) in
        elim (cells_cmp key first) as (λ o. cells_cmp key first ≡ o → Goal o) [
          | Less ↦ λ e.
              let below : IsBelowAll key (first ∷ rest) = (e, IsBelowAll-from_below key first rest e ascends.0) in
              rw (here, puts, filter_map-above (first ∷ rest) below) (sym (put_row-below_all places row (filter_map rows (first ∷ rest)) (rw has_key (IsBelowAll-filter_map key (first ∷ rest) below))))
          | Equal ↦ λ e.
              let same = cells_exact key first e in
              let below : IsBelowAll key rest = rw same ascends.0 in
              let above : later first ≡ Some row = ap later (sym same) ∙ here ∙ puts in
              rw (above, filter_map-above rest below) (elim (rows first) as (λ found. rows first ≡ found → row ∷ filter_map rows rest ≡ put_row places row (cons_option found (filter_map rows rest))) [
                | None ↦ λ none. sym (put_row-below_all places row (filter_map rows rest) (rw has_key (IsBelowAll-filter_map key rest below)))
                | Some found ↦ λ some. rw (has_key, keyed first found some, e)
              ] refl)
          | Greater ↦ λ e.
              let other : later first ≡ rows first = is first ∙ rw e in
              let induction = filter_map-insert_key row puts has_key rest ascends.1 in
              rw other (elim (rows first) as (λ found. rows first ≡ found → cons_option found (filter_map later (insert_key key rest)) ≡ put_row places row (cons_option found (filter_map rows rest))) [
                | None ↦ λ none. induction
                | Some found ↦ λ some. rw (has_key, keyed first found some, e) (ap (λ others. found ∷ others) induction)
              ] refl)
        ] refl

    -- if its row is removed
    pub filter_map-insert_key_taken : left ≡ None → (keys : List Key) → IsAscending keys → filter_map later (insert_key key keys) ≡ take_row places key (filter_map rows keys)
    filter_map-insert_key_taken takes [] ascends = rw (here, takes)
    filter_map-insert_key_taken takes (first ∷ rest) ascends =
        let Goal : Ordering → Type 0 = λ o. filter_map later (match_ordering o (key ∷ first ∷ rest) (first ∷ rest) (first ∷ insert_key key rest)) ≡ take_row places key (filter_map rows (first ∷ rest)) in
        elim (cells_cmp key first) as (λ o. cells_cmp key first ≡ o → Goal o) [
          | Less ↦ λ e.
              let below : IsBelowAll key (first ∷ rest) = (e, IsBelowAll-from_below key first rest e ascends.0) in
              rw (here, takes, filter_map-above (first ∷ rest) below) (sym (take_row-below_all places key (filter_map rows (first ∷ rest)) (IsBelowAll-filter_map key (first ∷ rest) below)))
          | Equal ↦ λ e.
              let same = cells_exact key first e in
              let below : IsBelowAll key rest = rw same ascends.0 in
              let above : later first ≡ None = ap later (sym same) ∙ here ∙ takes in
              rw (above, filter_map-above rest below) (elim (rows first) as (λ found. rows first ≡ found → filter_map rows rest ≡ take_row places key (cons_option found (filter_map rows rest))) [
                | None ↦ λ none. sym (take_row-below_all places key (filter_map rows rest) (IsBelowAll-filter_map key rest below))
                | Some found ↦ λ some. rw (keyed first found some, flipped key first Equal e)
              ] refl)
          | Greater ↦ λ e.
              let other : later first ≡ rows first = is first ∙ rw e in
              let induction = filter_map-insert_key_taken takes rest ascends.1 in
              rw other (elim (rows first) as (λ found. rows first ≡ found → cons_option found (filter_map later (insert_key key rest)) ≡ take_row places key (cons_option found (filter_map rows rest))) [
                | None ↦ λ none. induction
                | Some found ↦ λ some. rw (keyed first found some, flipped key first Greater e) (ap (λ others. found ∷ others) induction)
              ] refl)
        ] refl
