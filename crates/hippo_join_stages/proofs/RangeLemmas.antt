-- Rows in a range of keys, and bounds of a column.
use Rattle.std.proofs.Common.{◌≡◌, Bool, true, false, List, [], ◌∷◌, length, take, refl, sym, ap, subst, ◌∙◌, Option, Some, None, ltb-true, ltb-false}
use Rattle.std.specs.Prelude.{slice_get, IfSome}
use Rattle.std.specs.List.{list_all}
use Rattle.std.specs.Ordering.{ordering_reverse}
use Rattle.std.specs.declared.cmp.Ordering.{Ordering}
use Rattle.std.specs.declared.cmp.Ordering.TheVariants.{Less, Equal, Greater}
use Rattle.std.proofs.lemmas.Bool.{and_parts, and_from, false≢true}
use Rattle.std.proofs.lemmas.Cmp.{tied_itself}
use Rattle.std.proofs.lemmas.Option.{IfSome_then}
use Rattle.hippo_values.specs.declared.values.Value.{Value}
use Rattle.hippo_values.specs.declared.values.Value.TheVariants.{Null, Int, Text, Day}
use Rattle.hippo_values.specs.declared.truths.Truth.{Truth}
use Rattle.hippo_values.specs.declared.truths.Truth.TheVariants.{False, Unknown, True}
use Rattle.hippo_values.specs.declared.truths.CompareOp.{CompareOp}
use Rattle.hippo_values.specs.declared.truths.CompareOp.TheVariants.{Eq, Ne, Lt, Le, Gt, Ge}
use Rattle.hippo_values.specs.Order.{value_cmp}
use Rattle.hippo_values.specs.OrderLaws.{value_total}
use Rattle.hippo_values.specs.Truths.{truth_and, truth_of, is_allowed, comparison}
use Rattle.hippo_model.specs.declared.query.CondOf.{CondOf}
use Rattle.hippo_model.specs.declared.query.CondOf.TheVariants as conditions
use Rattle.hippo_model.specs.declared.query.Expr.{Expr}
use Rattle.hippo_model.specs.declared.query.Masked.{Masked}
use Rattle.hippo_model.specs.declared.query.Ref.{Ref}
use Rattle.hippo_tables_rows.specs.declared.ranges.Bound.{Bound}
use Rattle.hippo_model.specs.Terms.{Combination, Key, Place}
use Rattle.hippo_tables_keyed.specs.RowSets.{KeyedRows}
use Rattle.hippo_model.specs.Conditions.{is_true, is_null, outer_parts}
use Rattle.hippo_model.specs.Masking.{Choices, raw_value}
use Rattle.hippo_model.proofs.Truths.{truth-Compare, truth-Between}
use Rattle.hippo_model.specs.MaskedTruth.{masked_value}
use Rattle.hippo_join_stages.specs.declared.keys.Span.{Span}
use Rattle.hippo_join_lookups.specs.Places.{chosen_rows, Fits, stands}
use Rattle.hippo_join_lookups.specs.Lookups.{value_at_place}
use Rattle.hippo_join_lookups.specs.Ties.{shown_column, holds}
use Rattle.hippo_join_stages.specs.Keys.{IsShownAs, IsFixedBy, IsKeyTold, IsWithin}
use Rattle.hippo_join_stages.specs.Ranges.{bounding, flipped_operator, IsBoundedBy, KeepsBound, HasFront, IsEdge, GivesBound}
use Rattle.hippo_join_stages.proofs.KeyLemmas.{key-at}
use Rattle.hippo_join_lookups.proofs.PartLemmas.{column-value}
use Rattle.hippo_join_lookups.proofs.PruneLemmas.{below-rows, in-range, all-hold}
use Rattle.hippo_join_lookups.proofs.SlotLemmas.{raw-at}
use Rattle.hippo_join_lookups.proofs.ListLemmas.{allows_equal}

-- ---- bounds that conditions give

truly : (b : Bool) → is_true (truth_of b) ≡ true → b ≡ true
truly true e = refl
truly false e = absurd (false≢true e)

-- if a comparison of values is true, their order allows it and they are not null
pub compared-values : (op : CompareOp) (a b : Value) → is_true (comparison op a b) ≡ true → (is_allowed op (value_cmp a b) ≡ true) × ((is_null a ≡ false) × (is_null b ≡ false))
compared-values op (Int a) (Int b) e = (truly (is_allowed op (value_cmp (Int a) (Int b))) e, (refl, refl))
compared-values op (Text a) (Text b) e = (truly (is_allowed op (value_cmp (Text a) (Text b))) e, (refl, refl))
compared-values op (Day a) (Day b) e = (truly (is_allowed op (value_cmp (Day a) (Day b))) e, (refl, refl))
compared-values op a b e = absurd (false≢true e)

allowed-turned : (op : CompareOp) (o : Ordering) → is_allowed (flipped_operator op) (ordering_reverse o) ≡ is_allowed op o
allowed-turned Eq Less = refl
allowed-turned Eq Equal = refl
allowed-turned Eq Greater = refl
allowed-turned Ne Less = refl
allowed-turned Ne Equal = refl
allowed-turned Ne Greater = refl
allowed-turned Lt Less = refl
allowed-turned Lt Equal = refl
allowed-turned Lt Greater = refl
allowed-turned Le Less = refl
allowed-turned Le Equal = refl
allowed-turned Le Greater = refl
allowed-turned Gt Less = refl
allowed-turned Gt Equal = refl
allowed-turned Gt Greater = refl
allowed-turned Ge Less = refl
allowed-turned Ge Equal = refl
allowed-turned Ge Greater = refl

turned_truth : (op : CompareOp) (a b : Value) → truth_of (is_allowed (flipped_operator op) (value_cmp b a)) ≡ truth_of (is_allowed op (value_cmp a b))
turned_truth op a b = ap (λ (o : Ordering). truth_of (is_allowed (flipped_operator op) o)) (value_total.antisymm b a) ∙ ap truth_of (allowed-turned op (value_cmp a b))

-- a comparison with its sides swapped
pub comparison-turned : (op : CompareOp) (a b : Value) → comparison (flipped_operator op) b a ≡ comparison op a b
comparison-turned op Null Null = refl
comparison-turned op Null (Int b) = refl
comparison-turned op Null (Text b) = refl
comparison-turned op Null (Day b) = refl
comparison-turned op (Int a) Null = refl
comparison-turned op (Int a) (Int b) = turned_truth op (Int a) (Int b)
comparison-turned op (Int a) (Text b) = refl
comparison-turned op (Int a) (Day b) = refl
comparison-turned op (Text a) Null = refl
comparison-turned op (Text a) (Int b) = refl
comparison-turned op (Text a) (Text b) = turned_truth op (Text a) (Text b)
comparison-turned op (Text a) (Day b) = refl
comparison-turned op (Day a) Null = refl
comparison-turned op (Day a) (Int b) = refl
comparison-turned op (Day a) (Text b) = refl
comparison-turned op (Day a) (Day b) = turned_truth op (Day a) (Day b)

both_true : (a b : Truth) → is_true (truth_and a b) ≡ true → (is_true a ≡ true) × (is_true b ≡ true)
both_true False b e = absurd (false≢true e)
both_true Unknown False e = absurd (false≢true e)
both_true Unknown Unknown e = absurd (false≢true e)
both_true Unknown True e = absurd (false≢true e)
both_true True b e = (refl, e)

module _ (choices : Choices) (rows : Combination) where
  one_holds : (part : CondOf Expr) → list_all (holds choices rows) (part ∷ []) ≡ true → holds choices rows part ≡ true
  one_holds part all = (and_parts (holds choices rows part) true all).0

  alone : (part : CondOf Expr) → holds choices rows part ≡ true → list_all (holds choices rows) (part ∷ []) ≡ true
  alone part true_of = and_from (holds choices rows part) true true_of refl

  pub all-turned : (op : CompareOp) (left right : Expr) → list_all (holds choices rows) (conditions.Compare op left right ∷ []) ≡ true → list_all (holds choices rows) (conditions.Compare (flipped_operator op) right left ∷ []) ≡ true
  all-turned op left right all =
      let value = masked_value choices rows in
      alone (conditions.Compare (flipped_operator op) right left)
      (ap is_true (truth-Compare value (flipped_operator op) right left ∙ comparison-turned op (value left) (value right) ∙ sym (truth-Compare value op left right)) ∙ one_holds (conditions.Compare op left right) all)

  both_ends : (operand low high : Expr) → list_all (holds choices rows) (conditions.Between operand low high ∷ []) ≡ true
      → (is_true (comparison Ge (masked_value choices rows operand) (masked_value choices rows low)) ≡ true) × (is_true (comparison Le (masked_value choices rows operand) (masked_value choices rows high)) ≡ true)
  both_ends operand low high all =
      let value = masked_value choices rows in
      both_true (comparison Ge (value operand) (value low)) (comparison Le (value operand) (value high)) (sym (ap is_true (truth-Between value operand low high)) ∙ one_holds (conditions.Between operand low high) all)

  pub low-end : (operand low high : Expr) → list_all (holds choices rows) (conditions.Between operand low high ∷ []) ≡ true → list_all (holds choices rows) (conditions.Compare Ge operand low ∷ []) ≡ true
  low-end operand low high all = alone (conditions.Compare Ge operand low) (ap is_true (truth-Compare (masked_value choices rows) Ge operand low) ∙ (both_ends operand low high all).0)

  pub high-end : (operand low high : Expr) → list_all (holds choices rows) (conditions.Between operand low high ∷ []) ≡ true → list_all (holds choices rows) (conditions.Compare Le operand high ∷ []) ≡ true
  high-end operand low high all = alone (conditions.Compare Le operand high) (ap is_true (truth-Compare (masked_value choices rows) Le operand high) ∙ (both_ends operand low high all).1)

-- no null is above null
pub over-null : (value : Value) → is_null value ≡ false → is_allowed Gt (value_cmp value Null) ≡ true
over-null Null some = absurd (false≢true (sym some))
over-null (Int number) some = refl
over-null (Text text) some = refl
over-null (Day day) some = refl

module _ (choices : Choices) (sets : List KeyedRows) (slots : List (Option Place)) where
  -- a comparison of a column with a known value
  pub bounded-left : (left right : Expr) (column : Ref) (op : CompareOp) (value : Value) → shown_column left ≡ Some column → IsShownAs choices sets slots right value → IsBoundedBy choices sets slots (conditions.Compare op left right ∷ []) column op value
  bounded-left left right column op value is shown places fits all =
      let rows = chosen_rows sets places in
      let of = masked_value choices rows in
      let said = compared-values op (of left) (of right) (sym (ap is_true (truth-Compare of op left right)) ∙ one_holds choices rows (conditions.Compare op left right) all) in
      let own : of left ≡ raw_value rows column = column-value choices rows left column is said.1.0 in
      let other : of right ≡ value = shown places fits said.1.1 in
      (ap (λ (v : Value). is_allowed op (value_cmp v value)) (sym own) ∙ ap (λ (v : Value). is_allowed op (value_cmp (of left) v)) (sym other) ∙ said.0, ap is_null (sym own) ∙ said.1.0)

  -- an equality bounds a column from both sides
  pub told-bounds : (parts : List (CondOf Expr)) (column : Ref) (value : Value) (above : Bool) → IsFixedBy choices sets slots parts column value → IsBoundedBy choices sets slots parts column (bounding above false) value
  told-bounds parts column value above told places fits all =
      let own : raw_value (chosen_rows sets places) column ≡ value = (told places fits all).0 in
      (ap (λ (v : Value). is_allowed (bounding above false) (value_cmp v value)) own ∙ ap (is_allowed (bounding above false)) (tied_itself value_total value) ∙ allows_equal above, ap is_null own ∙ (told places fits all).1)

  -- the row of a qualifying combination is within the given bounds
  pub keeps : (query : Masked) (table : Place) (set : KeyedRows) (column : Place) (above : Bool) (bound : Option Bound) → slice_get sets table ≡ Some set
      → IfSome bound (λ bound. IsBoundedBy choices sets slots (outer_parts query.cond) (record { table = table; column = column }) (bounding above bound.strict) bound.value.now)
      → (places : List Place) → Fits slots places → stands choices query sets places ≡ true → (place : Place) → slice_get places table ≡ Some place → KeepsBound above bound (value_at_place set column place)
  keeps query table set column above None at_set is places fits counts place at = tt
  keeps query table set column above (Some bound) at_set is places fits counts place at =
      subst (λ (v : Value). is_allowed (bounding above bound.strict) (value_cmp v bound.value.now) ≡ true) (raw-at sets places (record { table = table; column = column }) set place at_set at)
      (is places fits (all-hold choices query sets places counts)).0

  -- qualifying rows are between the two ends
  pub within-edges : (query : Masked) (table : Place) (set : KeyedRows) (front : Key) (column : Place) (low high : Option Bound) (span : Span) → slice_get sets table ≡ Some set
      → IsKeyTold choices sets slots (outer_parts query.cond) table (take (length front) set.key) front
      → IfSome low (λ bound. IsBoundedBy choices sets slots (outer_parts query.cond) (record { table = table; column = column }) (bounding false bound.strict) bound.value.now)
      → IfSome high (λ bound. IsBoundedBy choices sets slots (outer_parts query.cond) (record { table = table; column = column }) (bounding true bound.strict) bound.value.now)
      → IsEdge set front column false low span.start → IsEdge set front column true high span.end → IsWithin choices query sets slots table span
  within-edges query table set front column low high span at_set told of_low of_high start end places fits counts place at =
      let within = below-rows sets places table set place (in-range choices query sets places counts) at_set at in
      let begins : HasFront set front place = told places fits (all-hold choices query sets places counts) ∙ key-at sets places table set place at_set at (take (length front) set.key) in (
        ltb-false _ _ (start place within begins (keeps query table set column false low at_set of_low places fits counts place at)),
        ltb-true _ _ (end place within begins (keeps query table set column true high at_set of_high places fits counts place at)),
      )

-- a bound given by some parts is given by the list that contains them
pub tells-from : (choices : Choices) (sets : List KeyedRows) (slots : List (Option Place)) (part form : CondOf Expr) (parts : List (CondOf Expr)) (column : Ref) (above : Bool) (told : Option Bound) → part ≡ form → ((rows : Combination) → list_all (holds choices rows) (form ∷ []) ≡ true → list_all (holds choices rows) parts ≡ true)
    → GivesBound choices sets slots parts column above told → GivesBound choices sets slots (part ∷ []) column above told
tells-from choices sets slots part form parts column above told is say tells = IfSome_then told tells (λ bound bounded places fits all.
    bounded places fits (say (chosen_rows sets places) (subst (λ (one : CondOf Expr). list_all (holds choices (chosen_rows sets places)) (one ∷ []) ≡ true) is all)))
