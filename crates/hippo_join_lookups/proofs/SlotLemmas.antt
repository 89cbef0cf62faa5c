-- Chosen rows, and the combinations that agree with them.
use Rattle.std.proofs.Common.{◌≡◌, ℕ, zero, suc, ◌+◌, ◌<◌, ◌≤◌, Bool, true, false, ◌&&◌, List, [], ◌∷◌, ◌++◌, map, length, drop, refl, sym, ap, ◌∙◌, arith, Option, Some, None, unwrap_or, add-one, append_assoc, subst, not, nat_lt, int_le, get_or}
use Rattle.std.specs.Prelude.{slice_get}
use Rattle.std.specs.Prelude.{replicate, slice_set}
use Rattle.std.specs.Option.{option_map_or}
use Rattle.std.proofs.lemmas.Bool.{and_parts, and_from, false≢true}
use Rattle.std.proofs.lemmas.Bool.Decides.{nat_tests}
use Rattle.std.proofs.Math.Seq.{drop-nil}
use Rattle.std.proofs.lemmas.List.{append-nil, drop_all, set-set}
use Rattle.hippo_values.specs.declared.values.Value.TheVariants.{Null as NullValue}
use Rattle.hippo_model.specs.declared.cells.Cell.TheVariants.{Shown}
use Rattle.hippo_model.specs.declared.born_row.BornRow.{BornRow}
use Rattle.hippo_model.specs.declared.query.Expr.{Expr}
use Rattle.hippo_model.specs.declared.query.Expr.TheVariants.{Keep, Null, Aged, Case, Literal}
use Rattle.hippo_model.specs.declared.query.Ref.{Ref}
use Rattle.hippo_model.specs.Terms.{Combination, Place}
use Rattle.hippo_tables_keyed.specs.RowSets.{KeyedRows}
use Rattle.hippo_model.specs.Rows.{cell_at}
use Rattle.hippo_model.specs.Masking.{Choices, raw_value, is_younger, masked_cell, agrees_by, shown_if}
use Rattle.hippo_model.specs.Verdicts.{number_in}
use Rattle.hippo_join_lookups.specs.Places.{blank, row_at_place, slot_at, rows_at, chosen_rows, Fits, are_there, in_range}
use Rattle.hippo_join_lookups.specs.Known.{is_chosen, knows_expr}

-- nothing is chosen: all combinations of the right length fit
pub Fits-open : (places : List Place) (n : ℕ) → length places ≡ n → Fits (replicate n None) places
Fits-open [] n e = subst0 n e
  where
    subst0 : (n : ℕ) → zero ≡ n → Fits (replicate n None) []
    subst0 zero e = tt
    subst0 (suc n) e = absurd (omega arith)
Fits-open (place ∷ places) zero e = absurd (omega arith)
Fits-open (place ∷ places) (suc n) e = let shorter : length places ≡ n = omega arith in Fits-open places n shorter

-- one more place is chosen
pub Fits-set : (slots : List (Option Place)) (places : List Place) (table : ℕ) (place : Place) → Fits slots places → slice_get places table ≡ Some place → Fits (slice_set slots table (Some place)) places
Fits-set [] places table place fits at = fits
Fits-set (slot ∷ slots) [] table place fits at = absurd fits
Fits-set (None ∷ slots) (first ∷ places) zero place fits at = (sym (some_is at), fits)
  where
    some_is : {a b : ℕ} → Some a ≡ Some b → a ≡ b
    some_is e = cc
Fits-set (Some fixed ∷ slots) (first ∷ places) zero place fits at = (sym (some_is at), fits.1)
  where
    some_is : {a b : ℕ} → Some a ≡ Some b → a ≡ b
    some_is e = cc
Fits-set (None ∷ slots) (first ∷ places) (suc table) place fits at = Fits-set slots places table place fits at
Fits-set (Some fixed ∷ slots) (first ∷ places) (suc table) place fits at = (fits.0, Fits-set slots places table place fits.1 at)

-- when every place is chosen, only these places fit
pub Fits-whole : (slots : List (Option Place)) (places : List Place) (all : List Place) → slots ≡ map Some all → Fits slots places → all ≡ places
Fits-whole slots places all e fits = whole all places (subst (λ (s : List (Option Place)). Fits s places) e fits)
  where
    whole : (all places : List Place) → Fits (map Some all) places → all ≡ places
    whole [] [] fits = refl
    whole [] (place ∷ places) fits = absurd fits
    whole (place ∷ all) [] fits = absurd fits
    whole (place ∷ all) (other ∷ places) fits = λ i. fits.0 i ∷ whole all places fits.1 i

-- the chosen place is the one that the combination has
pub Fits-at : (slots : List (Option Place)) (places : List Place) (table : ℕ) (place : Place) → Fits slots places → slot_at slots table ≡ Some place → slice_get places table ≡ Some place
Fits-at [] places table place fits at = absurd cc
Fits-at (slot ∷ slots) [] table place fits at = absurd fits
Fits-at (None ∷ slots) (first ∷ places) zero place fits at = absurd cc
Fits-at (Some fixed ∷ slots) (first ∷ places) zero place fits at = sym (ap Some fits.0) ∙ at
Fits-at (None ∷ slots) (first ∷ places) (suc table) place fits at = Fits-at slots places table place fits at
Fits-at (Some fixed ∷ slots) (first ∷ places) (suc table) place fits at = Fits-at slots places table place fits.1 at

-- the chosen row of a table
pub row-chosen_rows : (sets : List KeyedRows) (slots : List (Option Place)) (places : List Place) (table : ℕ) → Fits slots places → is_chosen slots table ≡ true → slice_get (rows_at sets slots) table ≡ slice_get (chosen_rows sets places) table
row-chosen_rows [] slots places table fits known = refl
row-chosen_rows (set ∷ sets) [] [] table fits known = absurd (false≢true known)
row-chosen_rows (set ∷ sets) [] (place ∷ places) table fits known = absurd fits
row-chosen_rows (set ∷ sets) (slot ∷ slots) [] table fits known = absurd fits
row-chosen_rows (set ∷ sets) (None ∷ slots) (place ∷ places) zero fits known = absurd (false≢true known)
row-chosen_rows (set ∷ sets) (Some fixed ∷ slots) (place ∷ places) zero fits known = ap (λ p. Some (row_at_place set.rows p)) fits.0
row-chosen_rows (set ∷ sets) (None ∷ slots) (place ∷ places) (suc table) fits known = row-chosen_rows sets slots places table fits known
row-chosen_rows (set ∷ sets) (Some fixed ∷ slots) (place ∷ places) (suc table) fits known = row-chosen_rows sets slots places table fits.1 known

-- the row of a combination by its place
pub row-at : (sets : List KeyedRows) (places : List Place) (table : ℕ) (set : KeyedRows) (place : Place) → slice_get sets table ≡ Some set → slice_get places table ≡ Some place → slice_get (chosen_rows sets places) table ≡ Some (row_at_place set.rows place)
row-at [] places table set place e at = absurd cc
row-at (first ∷ sets) [] table set place e at = absurd cc
row-at (first ∷ sets) (p ∷ places) zero set place e at = λ i. Some (row_at_place ((one e i).rows) (one at i))
  where
    one : {A : Type 0} {a b : A} → Some a ≡ Some b → a ≡ b
    one e = cc
row-at (first ∷ sets) (p ∷ places) (suc table) set place e at = row-at sets places table set place e at

pub raw-at : (sets : List KeyedRows) (places : List Place) (column : Ref) (set : KeyedRows) (place : Place) → slice_get sets column.table ≡ Some set → slice_get places column.table ≡ Some place → raw_value (chosen_rows sets places) column ≡ cell_at (row_at_place set.rows place).row column.column
raw-at sets places column set place e at = ap (λ o. option_map_or (λ (kept : BornRow). cell_at kept.row column.column) o NullValue) (row-at sets places column.table set place e at)

-- a known expression has the same cell in each combination that fits
module _ (choices : Choices) (sets : List KeyedRows) (slots : List (Option Place)) (places : List Place) (fits : Fits slots places) where
  pub raw_same : (column : Ref) → is_chosen slots column.table ≡ true → raw_value (rows_at sets slots) column ≡ raw_value (chosen_rows sets places) column
  raw_same column known = ap (λ o. option_map_or (λ (kept : BornRow). cell_at kept.row column.column) o NullValue) (row-chosen_rows sets slots places column.table fits known)

  younger_same : (column : Ref) → is_chosen slots column.table ≡ true → is_younger (rows_at sets slots) column ≡ is_younger (chosen_rows sets places) column
  younger_same column known = λ i after. option_map_or (λ (kept : BornRow). not (int_le kept.born after)) (row-chosen_rows sets slots places column.table fits known i) false

  pub cell-known : (expr : Expr) → knows_expr slots expr ≡ true → masked_cell choices (rows_at sets slots) expr ≡ masked_cell choices (chosen_rows sets places) expr
  cell-known (Keep column) known = ap Shown (raw_same column known)
  cell-known (Null rule) known = refl
  cell-known (Aged column rule after) known = λ i. shown_if (younger_same column known i after) (raw_same column known i) rule
  cell-known (Case column subject item rule opt_in after) known =
      let both = and_parts (is_chosen slots column.table) (is_chosen slots subject.table) known in
      λ i. shown_if (option_map_or (younger_same column both.0 i) after true && agrees_by choices (number_in (raw_same subject both.1 i)) item opt_in) (raw_same column both.0 i) rule
  cell-known (Literal value) known = refl

-- one more table's row
pub rows_at-drop : (sets : List KeyedRows) (slots : List (Option Place)) (i : ℕ) (set : KeyedRows) → slice_get sets i ≡ Some set → rows_at (drop i sets) (drop i slots) ≡ option_map_or (row_at_place set.rows) (slot_at slots i) blank ∷ rows_at (drop (suc i) sets) (drop (suc i) slots)
rows_at-drop [] slots i set at = absurd cc
rows_at-drop (first ∷ sets) [] zero set at = refl
rows_at-drop (first ∷ sets) (slot ∷ slots) zero set at = ap (λ (s : KeyedRows). option_map_or (row_at_place s.rows) slot blank ∷ rows_at sets slots) (one at)
  where
    one : {A : Type 0} {a b : A} → Some a ≡ Some b → a ≡ b
    one e = cc
rows_at-drop (first ∷ sets) [] (suc i) set at = subst (λ (l : List (Option Place)). rows_at (drop i sets) l ≡ blank ∷ rows_at (drop (suc i) sets) []) (drop-nil i) (rows_at-drop sets [] i set at)
rows_at-drop (first ∷ sets) (slot ∷ slots) (suc i) set at = rows_at-drop sets slots i set at

-- There is one place in range for each table.
pub length-in_range : (sets : List KeyedRows) (places : List Place) → in_range sets places ≡ true → length places ≡ length sets
length-in_range [] [] e = refl
length-in_range [] (place ∷ places) e = absurd (false≢true e)
length-in_range (set ∷ sets) [] e = absurd (false≢true e)
length-in_range (set ∷ sets) (place ∷ places) e = ap suc (length-in_range sets places (and_parts (nat_lt place (length set.rows)) (in_range sets places) e).1)

-- a loop over the tables: one more row, and the end
pub rows-more : (sets : List KeyedRows) (slots : List (Option Place)) (i : ℕ) (set : KeyedRows) (slot : Option Place) (empty : BornRow) (rows more whole : Combination) → slice_get sets i ≡ Some set → slot ≡ slot_at slots i → empty ≡ blank
    → more ≡ rows ++ option_map_or (λ place. unwrap_or (slice_get set.rows place) empty) slot empty ∷ [] → rows ++ rows_at (drop i sets) (drop i slots) ≡ whole → more ++ rows_at (drop (i + 1) sets) (drop (i + 1) slots) ≡ whole
rows-more sets slots i set slot empty rows more whole at of_slot of_blank pushed so_far =
    let pushed_here : more ≡ rows ++ option_map_or (row_at_place set.rows) (slot_at slots i) blank ∷ [] = pushed ∙ (λ j. rows ++ option_map_or (λ place. unwrap_or (slice_get set.rows place) (of_blank j)) (of_slot j) (of_blank j) ∷ []) in
    let rest : Combination = rows_at (drop (suc i) sets) (drop (suc i) slots) in
    rw (add-one i) (ap (λ (r : Combination). r ++ rest) pushed_here ∙ append_assoc rows (option_map_or (row_at_place set.rows) (slot_at slots i) blank ∷ []) rest ∙ sym (ap (λ (r : Combination). rows ++ r) (rows_at-drop sets slots i set at)) ∙ so_far)

pub rows-all : (sets : List KeyedRows) (slots : List (Option Place)) (i : ℕ) (rows whole : Combination) → length sets ≤ i → rows ++ rows_at (drop i sets) (drop i slots) ≡ whole → rows ≡ whole
rows-all sets slots i rows whole past so_far =
    sym (append-nil rows) ∙ sym (ap (λ (s : List KeyedRows). rows ++ rows_at s (drop i slots)) (drop_all i sets past)) ∙ so_far

-- there is one row for each table; and the chosen row of one table is replaced
pub length-rows_at : (sets : List KeyedRows) (slots : List (Option Place)) → length (rows_at sets slots) ≡ length sets
length-rows_at [] slots = refl
length-rows_at (set ∷ sets) [] = ap suc (length-rows_at sets [])
length-rows_at (set ∷ sets) (slot ∷ slots) = ap suc (length-rows_at sets slots)

-- the rows without that of a table whose row is replaced; and with the new one
pub rows-but : (sets : List KeyedRows) (slots : List (Option Place)) (table : ℕ) (slot : Option Place) (row : BornRow) → slice_set (rows_at sets slots) table row ≡ slice_set (rows_at sets (slice_set slots table slot)) table row
rows-but [] slots table slot row = refl
rows-but (set ∷ sets) [] zero slot row = refl
rows-but (set ∷ sets) [] (suc table) slot row = refl
rows-but (set ∷ sets) (old ∷ slots) zero slot row = refl
rows-but (set ∷ sets) (old ∷ slots) (suc table) slot row = ap (λ (rows : Combination). option_map_or (row_at_place set.rows) old blank ∷ rows) (rows-but sets slots table slot row)

rows-own : (sets : List KeyedRows) (slots : List (Option Place)) (table : ℕ) (set : KeyedRows) → slice_get sets table ≡ Some set → slice_set (rows_at sets slots) table (option_map_or (row_at_place set.rows) (slot_at slots table) blank) ≡ rows_at sets slots
rows-own [] slots table set at = absurd cc
rows-own (first ∷ sets) [] zero set at = refl
rows-own (first ∷ sets) [] (suc table) set at = ap (λ (rows : Combination). blank ∷ rows) (rows-own sets [] table set at)
rows-own (first ∷ sets) (slot ∷ slots) zero set at = ap (λ (s : KeyedRows). option_map_or (row_at_place s.rows) slot blank ∷ rows_at sets slots) (sym (one at))
  where
    one : {A : Type 0} {a b : A} → Some a ≡ Some b → a ≡ b
    one e = cc
rows-own (first ∷ sets) (slot ∷ slots) (suc table) set at = ap (λ (rows : Combination). option_map_or (row_at_place first.rows) slot blank ∷ rows) (rows-own sets slots table set at)

pub rows-renewed : (sets : List KeyedRows) (slots : List (Option Place)) (table : ℕ) (set : KeyedRows) (rows : Combination) (row : BornRow) → slice_get sets table ≡ Some set → row ≡ option_map_or (row_at_place set.rows) (slot_at slots table) blank
    → slice_set rows table blank ≡ slice_set (rows_at sets slots) table blank → slice_set rows table row ≡ rows_at sets slots
rows-renewed sets slots table set rows row at is same =
    sym (set-set rows table blank row) ∙ ap (λ (some : Combination). slice_set some table row) same ∙ set-set (rows_at sets slots) table blank row
    ∙ ap (λ (own : BornRow). slice_set (rows_at sets slots) table own) is ∙ rows-own sets slots table set at

-- the rows, after the one at a place of a table is chosen
pub rows-chosen : (sets : List KeyedRows) (slots : List (Option Place)) (table place : ℕ) (set : KeyedRows) → slice_get sets table ≡ Some set → table < length slots → slice_set (rows_at sets slots) table (row_at_place set.rows place) ≡ rows_at sets (slice_set slots table (Some place))
rows-chosen [] slots table place set at within = absurd cc
rows-chosen (first ∷ sets) [] table place set at within = absurd (omega arith)
rows-chosen (first ∷ sets) (slot ∷ slots) zero place set at within = ap (λ (s : KeyedRows). row_at_place s.rows place ∷ rows_at sets slots) (sym (one at))
  where
    one : {A : Type 0} {a b : A} → Some a ≡ Some b → a ≡ b
    one e = cc
rows-chosen (first ∷ sets) (slot ∷ slots) (suc table) place set at within = ap (λ (rows : Combination). option_map_or (row_at_place first.rows) slot blank ∷ rows) (rows-chosen sets slots table place set at (omega arith))

-- ---- places that exist
abbrev slot_there : KeyedRows → Option Place → Bool
slot_there set slot = option_map_or (λ place. nat_lt place (length set.rows)) slot true

pub there-none : (sets : List KeyedRows) (n : ℕ) → are_there sets (replicate n None) ≡ true
there-none [] n = refl
there-none (set ∷ sets) zero = refl
there-none (set ∷ sets) (suc n) = there-none sets n

-- when every place is chosen: whether all are in range
pub there-whole : (sets : List KeyedRows) (places : List Place) → length places ≡ length sets → are_there sets (map Some places) ≡ in_range sets places
there-whole [] [] long = refl
there-whole [] (place ∷ places) long = absurd (omega arith)
there-whole (set ∷ sets) [] long = absurd (omega arith)
there-whole (set ∷ sets) (place ∷ places) long = let shorter : length places ≡ length sets = omega arith in ap (λ b. nat_lt place (length set.rows) && b) (there-whole sets places shorter)

-- places of a combination that exists
pub there-fits : (sets : List KeyedRows) (slots : List (Option Place)) (places : List Place) → Fits slots places → in_range sets places ≡ true → are_there sets slots ≡ true
there-fits [] slots places fits within = refl
there-fits (set ∷ sets) [] places fits within = refl
there-fits (set ∷ sets) (slot ∷ slots) [] fits within = absurd fits
there-fits (set ∷ sets) (None ∷ slots) (place ∷ places) fits within = there-fits sets slots places fits (and_parts (nat_lt place (length set.rows)) (in_range sets places) within).1
there-fits (set ∷ sets) (Some fixed ∷ slots) (place ∷ places) fits within =
    let both = and_parts (nat_lt place (length set.rows)) (in_range sets places) within in
    and_from (nat_lt fixed (length set.rows)) (are_there sets slots) (ap (λ (p : Place). nat_lt p (length set.rows)) fits.0 ∙ both.0) (there-fits sets slots places fits.1 both.1)

-- one more place that exists
pub there-set : (sets : List KeyedRows) (slots : List (Option Place)) (table place : ℕ) (set : KeyedRows) → slice_get sets table ≡ Some set → place < length set.rows → are_there sets slots ≡ true → are_there sets (slice_set slots table (Some place)) ≡ true
there-set [] slots table place set at within there = refl
there-set (first ∷ sets) [] zero place set at within there = refl
there-set (first ∷ sets) [] (suc table) place set at within there = refl
there-set (first ∷ sets) (slot ∷ slots) zero place set at within there =
    let test : nat_lt place (length set.rows) ≡ true = grind (arith, nat_tests) in
    and_from (nat_lt place (length first.rows)) (are_there sets slots) (ap (λ (s : KeyedRows). nat_lt place (length s.rows)) (one at) ∙ test) (and_parts (slot_there first slot) (are_there sets slots) there).1
  where
    one : {A : Type 0} {a b : A} → Some a ≡ Some b → a ≡ b
    one e = cc
there-set (first ∷ sets) (slot ∷ slots) (suc table) place set at within there =
    let both = and_parts (slot_there first slot) (are_there sets slots) there in
    and_from (slot_there first slot) (are_there sets (slice_set slots table (Some place))) both.0 (there-set sets slots table place set at within both.1)

-- a loop over the tables
pub there-more : (sets : List KeyedRows) (slots : List (Option Place)) (i : ℕ) (set : KeyedRows) (slot d : Option Place) → slice_get sets i ≡ Some set → i < length slots → slot ≡ get_or slots i d → are_there (drop i sets) (drop i slots) ≡ (slot_there set slot && are_there (drop (i + 1) sets) (drop (i + 1) slots))
there-more sets slots i set slot d at within is = rw (add-one i) (stage sets slots i set slot at within is)
  where
    one : {A : Type 0} {a b : A} → Some a ≡ Some b → a ≡ b
    one e = cc

    stage : (sets : List KeyedRows) (slots : List (Option Place)) (i : ℕ) (set : KeyedRows) (slot : Option Place) → slice_get sets i ≡ Some set → i < length slots → slot ≡ get_or slots i d → are_there (drop i sets) (drop i slots) ≡ (slot_there set slot && are_there (drop (suc i) sets) (drop (suc i) slots))
    stage [] slots i set slot at within is = absurd cc
    stage (first ∷ sets) [] i set slot at within is = absurd (omega arith)
    stage (first ∷ sets) (own ∷ slots) zero set slot at within is = λ j. slot_there (one at j) (sym is j) && are_there sets slots
    stage (first ∷ sets) (own ∷ slots) (suc i) set slot at within is = stage sets slots i set slot at (omega arith) is
