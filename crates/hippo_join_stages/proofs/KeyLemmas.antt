-- Lookup of rows by key.
use Rattle.std.proofs.Common.{◌≡◌, ℕ, zero, suc, ◌+◌, ◌-◌, ◌<◌, ◌≤◌, true, false, List, [], ◌∷◌, map, length, take, refl, sym, ap, subst, ◌∙◌, Option, Some, None, unwrap_or, arith, get_or}
use Rattle.std.specs.Prelude.{slice_get, replicate, option_map, IfSome}
use Rattle.std.specs.List.{Contains, list_all, range_with_len}
use Rattle.std.proofs.lemmas.Bool.{and_parts}
use Rattle.std.proofs.lemmas.Cmp.{tied_itself}
use Rattle.std.proofs.lemmas.List.{take_all}
use Rattle.std.proofs.lemmas.List.FromFn.{get_or-range_with_len, length-range_with_len}
use Rattle.hippo_values.specs.declared.values.Value.{Value}
use Rattle.hippo_values.specs.declared.values.Value.TheVariants.{Null as NullValue}
use Rattle.hippo_values.specs.declared.truths.CompareOp.TheVariants.{Eq}
use Rattle.hippo_values.specs.Order.{cells_cmp}
use Rattle.hippo_model.specs.declared.born_row.BornRow.{BornRow}
use Rattle.hippo_model.specs.declared.query.CondOf.{CondOf}
use Rattle.hippo_model.specs.declared.query.CondOf.TheVariants as conditions
use Rattle.hippo_model.specs.declared.query.Expr.{Expr}
use Rattle.hippo_model.specs.declared.query.Masked.{Masked}
use Rattle.hippo_model.specs.declared.query.Ref.{Ref}
use Rattle.hippo_model.specs.Terms.{Key, Place}
use Rattle.hippo_tables_keyed.specs.RowSets.{KeyedRows, IsAscending, key_in, find_row}
use Rattle.hippo_model.specs.Rows.{cell_at, key_of}
use Rattle.hippo_model.specs.Conditions.{is_true, is_null, outer_parts}
use Rattle.hippo_model.specs.Masking.{Choices, raw_value}
use Rattle.hippo_tables_keyed.proofs.Orders.{cells_total}
use Rattle.hippo_tables_keyed.proofs.KeptRows.{find_row-found}
use Rattle.hippo_model.proofs.Truths.{truth-Compare}
use Rattle.hippo_model.specs.MaskedTruth.{masked_value}
use Rattle.hippo_join_stages.specs.declared.keys.Span.{Span}
use Rattle.hippo_join_lookups.specs.Places.{blank, row_at_place, slot_at, chosen_rows, Fits, stands}
use Rattle.hippo_join_lookups.specs.Lookups.{value_at_place}
use Rattle.hippo_join_lookups.specs.Ties.{shown_column, holds}
use Rattle.hippo_join_stages.specs.Keys.{IsShownAs, IsFixedBy, IsKeyTold, IsWithin}
use Rattle.hippo_join_lookups.proofs.PartLemmas.{equal-values, column-value, tie-of-part}
use Rattle.hippo_join_lookups.proofs.PruneLemmas.{below-rows, in-range, all-hold, long-enough}
use Rattle.hippo_join_lookups.proofs.SlotLemmas.{Fits-at, Fits-open, raw-at}

-- what holds whenever one part holds, holds whenever all parts do
pub of-all-parts : (choices : Choices) (sets : List KeyedRows) (slots : List (Option Place)) (parts items : List (CondOf Expr)) (i : ℕ) (part : CondOf Expr) (P : List Place → Type 0) → items ≡ parts → i < length items → part ≡ get_or items i part
    → ((places : List Place) → Fits slots places → list_all (holds choices (chosen_rows sets places)) (part ∷ []) ≡ true → P places)
    → (places : List Place) → Fits slots places → list_all (holds choices (chosen_rows sets places)) parts ≡ true → P places
of-all-parts choices sets slots parts items i part P same within at told places fits all =
    let rows = chosen_rows sets places in
    told places fits (tie-of-part items i part within (sym at) choices rows (ap (list_all (holds choices rows)) same ∙ all))

-- the search finds the row that has a key
pub found-at : (set : KeyedRows) (key : Key) (place : Place) → IsAscending (map (key_in set.key) set.rows) → place < length set.rows → key_of set.key (row_at_place set.rows place).row ≡ key → find_row set.key key set.rows ≡ Some place
found-at set key place ascends within has =
    find_row-found set.key key set.rows place ascends within (λ d.
    ap (λ (kept : BornRow). cells_cmp (key_in set.key kept) key) (same_row d) ∙ ap (λ (own : Key). cells_cmp own key) has ∙ tied_itself cells_total key)
  where
    same_row : (d : BornRow) → get_or set.rows place d ≡ row_at_place set.rows place
    same_row d = read set.rows place d within
      where
        read : (rows : List BornRow) (i : ℕ) (d : BornRow) → i < length rows → get_or rows i d ≡ unwrap_or (slice_get rows i) blank
        read [] i d within = absurd (omega arith)
        read (row ∷ rows) zero d within = refl
        read (row ∷ rows) (suc i) d within = read rows i d (omega arith)

-- the values in some columns of a row of a combination
pub key-at : (sets : List KeyedRows) (places : List Place) (table : Place) (set : KeyedRows) (place : Place) → slice_get sets table ≡ Some set → slice_get places table ≡ Some place → (columns : List Place)
    → map (λ column. raw_value (chosen_rows sets places) (record { table = table; column = column })) columns ≡ map (cell_at (row_at_place set.rows place).row) columns
key-at sets places table set place at_set at [] = refl
key-at sets places table set place at_set at (column ∷ columns) = λ i. raw-at sets places (record { table = table; column = column }) set place at_set at i ∷ key-at sets places table set place at_set at columns i

-- the value in a column of a chosen row
pub chosen_rows-raw : (sets : List KeyedRows) (slots : List (Option Place)) (places : List Place) (column : Ref) (set : KeyedRows) (place : Place) (value : Value) → Fits slots places → Some place ≡ slot_at slots column.table → slice_get sets column.table ≡ Some set → value ≡ value_at_place set column.column place → raw_value (chosen_rows sets places) column ≡ value
chosen_rows-raw sets slots places column set place value fits at_slot at_set is = raw-at sets places column set place at_set (Fits-at slots places column.table place fits (sym at_slot)) ∙ sym is

pub of-found : {R : Type 0} (now : R → Value) (found : Option R) (value : Value) (P : Value → Type 0) → unwrap_or (option_map now found) NullValue ≡ value → P value → IfSome found (λ r. P (now r))
of-found now None value P is holds = tt
of-found now (Some r) value P is holds = subst P (sym is) holds

module _ (choices : Choices) (sets : List KeyedRows) (slots : List (Option Place)) where
  pub shown-column : (expr : Expr) (column : Ref) (value : Value) → Some column ≡ shown_column expr → ((places : List Place) → Fits slots places → raw_value (chosen_rows sets places) column ≡ value) → IsShownAs choices sets slots expr value
  shown-column expr column value is raw places fits shown = column-value choices (chosen_rows sets places) expr column (sym is) shown ∙ raw places fits

  equal_parts : (left right : Expr) (places : List Place) → list_all (holds choices (chosen_rows sets places)) (conditions.Compare Eq left right ∷ []) ≡ true
      → (masked_value choices (chosen_rows sets places) left ≡ masked_value choices (chosen_rows sets places) right) × (is_null (masked_value choices (chosen_rows sets places) right) ≡ false)
  equal_parts left right places all =
      let rows = chosen_rows sets places in
      equal-values (masked_value choices rows left) (masked_value choices rows right)
      (sym (ap is_true (truth-Compare (masked_value choices rows) Eq left right)) ∙ (and_parts (holds choices rows (conditions.Compare Eq left right)) true all).0)

  -- an equality of a column with a known value
  pub told-left : (left right : Expr) (column : Ref) (value : Value) → shown_column left ≡ Some column → IsShownAs choices sets slots right value → IsFixedBy choices sets slots (conditions.Compare Eq left right ∷ []) column value
  told-left left right column value is shown places fits all =
      let rows = chosen_rows sets places in
      let equal = equal_parts left right places all in
      let known = shown places fits equal.1 in
      (sym (column-value choices rows left column is (ap is_null equal.0 ∙ equal.1)) ∙ equal.0 ∙ known, sym (ap is_null known) ∙ equal.1)

  pub told-right : (left right : Expr) (column : Ref) (value : Value) → shown_column right ≡ Some column → IsShownAs choices sets slots left value → IsFixedBy choices sets slots (conditions.Compare Eq left right ∷ []) column value
  told-right left right column value is shown places fits all =
      let rows = chosen_rows sets places in
      let equal = equal_parts left right places all in
      let some = ap is_null equal.0 ∙ equal.1 in
      let known = shown places fits some in
      (sym (column-value choices rows right column is equal.1) ∙ sym equal.0 ∙ known, sym (ap is_null known) ∙ some)

  -- the row of a qualifying combination has the key that the condition fixes
  pub key-of-told : (query : Masked) (table : Place) (set : KeyedRows) (columns : List Place) (key : Key) → slice_get sets table ≡ Some set → columns ≡ set.key → IsKeyTold choices sets slots (outer_parts query.cond) table columns key
      → (places : List Place) → Fits slots places → stands choices query sets places ≡ true → (place : Place) → slice_get places table ≡ Some place → key_of set.key (row_at_place set.rows place).row ≡ key
  key-of-told query table set columns key at_set same told places fits counts place at =
      sym (told places fits (all-hold choices query sets places counts) ∙ ap (map (λ column. raw_value (chosen_rows sets places) (record { table = table; column = column }))) same ∙ key-at sets places table set place at_set at set.key)

  pub within-told : (query : Masked) (table : Place) (set : KeyedRows) (columns : List Place) (key : Key) (span : Span) → slice_get sets table ≡ Some set → columns ≡ set.key → length columns ≤ length key
      → IsKeyTold choices sets slots (outer_parts query.cond) table (take (length key) columns) key
      → ((place : Place) → place < length set.rows → key_of set.key (row_at_place set.rows place).row ≡ key → (span.start ≤ place) × (place < span.end))
      → IsWithin choices query sets slots table span
  within-told query table set columns key span at_set same whole told bounds places fits counts place at =
      bounds place (below-rows sets places table set place (in-range choices query sets places counts) at_set at)
      (key-of-told query table set columns key at_set same (subst (λ (some : List Place). IsKeyTold choices sets slots (outer_parts query.cond) table some key) (take_all (length key) columns whole) told) places fits counts place at)

-- each place of a span is among its places
pub in-span : (start end place : ℕ) → start ≤ place → place < end → Contains (range_with_len start (end - start)) place
in-span start end place low high =
    let within : place - start < end - start = omega arith in
    let here : start + (place - start) ≡ place = omega arith in
    (place - start, simp length-range_with_len within, get_or-range_with_len start (end - start) (place - start) place within ∙ here)

pub out-span : (start end place : ℕ) → Contains (range_with_len start (end - start)) place → (start ≤ place) × (place < end)
out-span start end place there =
    let within : there.0 < end - start = omega (arith, there.1, length-range_with_len start (end - start)) in
    let at : start + there.0 ≡ place = sym (get_or-range_with_len start (end - start) there.0 place within) ∙ there.2 in
    (omega (arith, at), omega (arith, at, within))

-- when no row is chosen
module _ (choices : Choices) (query : Masked) (sets : List KeyedRows) where
  pub within-open : (table : Place) (span : Span) → IsWithin choices query sets (replicate (length sets) None) table span
      → (places : List Place) → stands choices query sets places ≡ true → (place : Place) → slice_get places table ≡ Some place → (span.start ≤ place) × (place < span.end)
  within-open table span within places counts place at = within places (Fits-open places (length sets) (long-enough choices query sets places counts)) counts place at
