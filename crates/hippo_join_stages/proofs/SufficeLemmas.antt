-- What a sufficient tie implies for rows.
use Rattle.std.proofs.Common.{◌≡◌, zero, suc, Bool, true, false, ◌&&◌, not, List, [], ◌∷◌, refl, sym, ap, subst, ◌∙◌, Option, Some, None, unwrap_or, Bor}
use Rattle.std.specs.Prelude.{option_copied, slice_get, slice_set}
use Rattle.std.specs.List.{list_all}
use Rattle.std.specs.Option.{option_map_or}
use Rattle.std.specs.Ordering.{is_eq}
use Rattle.std.specs.Cmp.{tied_itself}
use Rattle.std.specs.declared.cmp.Ordering.{Ordering}
use Rattle.std.proofs.lemmas.Bool.{and_parts, and_from, false≢true}
use Rattle.hippo_values.specs.declared.values.Value.{Value}
use Rattle.hippo_values.specs.declared.values.Value.TheVariants.{Null as NullValue, Int, Text, Day}
use Rattle.hippo_values.specs.declared.truths.CompareOp.TheVariants.{Eq}
use Rattle.hippo_values.specs.OrderLaws.{value_total}
use Rattle.hippo_values.specs.Truths.{truth_of, comparison}
use Rattle.hippo_model.specs.declared.query.CondOf.TheVariants as conditions
use Rattle.hippo_model.specs.declared.query.Expr.{Expr}
use Rattle.hippo_model.specs.declared.query.Expr.TheVariants.{Keep, Null, Aged, Case, Literal}
use Rattle.hippo_model.specs.declared.query.Guard.{Guard}
use Rattle.hippo_model.specs.declared.query.Masked.{Masked}
use Rattle.hippo_model.specs.declared.query.Ref.{Ref}
use Rattle.hippo_model.specs.declared.born_row.BornRow.{BornRow}
use Rattle.hippo_model.specs.Terms.{Combination, Place}
use Rattle.hippo_model.specs.Rows.{cell_at}
use Rattle.hippo_model.specs.Conditions.{is_true, is_null, outer_parts}
use Rattle.hippo_model.specs.Masking.{Choices, raw_value, masked_cell, is_shown_cell, is_guarded, masked_passes}
use Rattle.hippo_model.specs.MaskedTruth.{masked_value}
use Rattle.hippo_model.proofs.HeldParts.{parts-hold}
use Rattle.hippo_model.proofs.Truths.{truth-Compare}
use Rattle.hippo_tables_keyed.specs.RowSets.{KeyedRows, row_at_place, value_at_place}
use Rattle.hippo_join_lookups.specs.declared.ties.Tie.{Tie}
use Rattle.hippo_join_lookups.specs.Known.{is_chosen, is_open}
use Rattle.hippo_join_lookups.specs.Places.{rows_at, stays}
use Rattle.hippo_join_lookups.specs.Ties.{holds, AreEqual}
use Rattle.hippo_join_stages.specs.declared.stages.Stage.{Stage}
use Rattle.hippo_join_stages.specs.Guards.{can_fail}
use Rattle.hippo_join_stages.specs.Stages.{AreTied, suffices}

-- a borrowed value, or the default
pub unwrapped : (lent : Option (Bor Value)) (other : Bor Value) → unwrap_or (option_copied lent) other.now ≡ (unwrap_or lent other).now
unwrapped None other = refl
unwrapped (Some value) other = refl

-- a value that is not null equals itself
itself : (value : Value) → is_null value ≡ false → is_true (comparison Eq value value) ≡ true
itself NullValue some = absurd (false≢true (sym some))
itself (Int a) some = ap (λ (o : Ordering). is_true (truth_of (is_eq o))) (tied_itself value_total (Int a))
itself (Text a) some = ap (λ (o : Ordering). is_true (truth_of (is_eq o))) (tied_itself value_total (Text a))
itself (Day a) some = ap (λ (o : Ordering). is_true (truth_of (is_eq o))) (tied_itself value_total (Day a))

-- an equality of unmasked columns holds when they are equal
pub equality_holds : (choices : Choices) (rows : Combination) (left right : Expr) (a b : Ref) → left ≡ Keep a → right ≡ Keep b → AreEqual rows a b → holds choices rows (conditions.Compare Eq left right) ≡ true
equality_holds choices rows left right a b of_left of_right equal =
    ap is_true (truth-Compare (masked_value choices rows) Eq left right)
    ∙ ap (λ (e : Expr). is_true (comparison Eq (masked_value choices rows e) (masked_value choices rows right))) of_left
    ∙ ap (λ (e : Expr). is_true (comparison Eq (raw_value rows a) (masked_value choices rows e))) of_right
    ∙ ap (λ (v : Value). is_true (comparison Eq v (raw_value rows b))) equal.0 ∙ itself (raw_value rows b) equal.1

-- two columns that are the columns of a tie
pub equal-moved : (rows : Combination) (a b left right : Ref) → left ≡ a → right ≡ b → AreEqual rows a b → AreEqual rows left right
equal-moved rows a b left right one two equal = subst (λ (r : Ref). AreEqual rows left r) (sym two) (subst (λ (l : Ref). AreEqual rows l b) (sym one) equal)

module _ (choices : Choices) (rows : Combination) where
  shown : (expr : Expr) → not (can_fail expr) ≡ true → is_shown_cell (masked_cell choices rows expr) ≡ true
  shown (Keep column) e = refl
  shown (Null rule) e = absurd (false≢true e)
  shown (Aged column rule after) e = absurd (false≢true e)
  shown (Case column subject item rule opt_in after) e = absurd (false≢true e)
  shown (Literal value) e = refl

  none-fails : (guards : List Guard) → list_all (λ guard. not (can_fail guard.expr)) guards ≡ true → list_all (λ guard. is_shown_cell (masked_cell choices rows guard.expr)) guards ≡ true
  none-fails [] all = refl
  none-fails (guard ∷ guards) all =
      let both = and_parts (not (can_fail guard.expr)) (list_all (λ (g : Guard). not (can_fail g.expr)) guards) all in
      and_from (is_shown_cell (masked_cell choices rows guard.expr)) (list_all (λ (g : Guard). is_shown_cell (masked_cell choices rows g.expr)) guards) (shown guard.expr both.0) (none-fails guards both.1)

  -- rows qualify when their guards cannot fail and all parts of the condition hold
  pub rows-count : (query : Masked) → list_all (λ (guard : Guard). not (can_fail guard.expr)) query.guards ≡ true → list_all (holds choices rows) (outer_parts query.cond) ≡ true → stays choices query rows ≡ true
  unfolding stays
  rows-count query guards parts = and_from (is_guarded choices query rows) (masked_passes choices query rows) (none-fails query.guards guards) (sym (parts-hold (masked_value choices rows) query.cond) ∙ parts)

-- the chosen row of a table, and those of the others
row-own : (sets : List KeyedRows) (slots : List (Option Place)) (table place : Place) (set : KeyedRows) → slice_get sets table ≡ Some set → is_open slots table ≡ true → slice_get (rows_at sets (slice_set slots table (Some place))) table ≡ Some (row_at_place set.rows place)
row-own [] slots table place set at still = absurd cc
row-own (first ∷ sets) [] table place set at still = absurd (false≢true still)
row-own (first ∷ sets) (slot ∷ slots) zero place set at still = let P : KeyedRows → Type 0 = λ s. Some (row_at_place first.rows place) ≡ Some (row_at_place s.rows place) in subst P (some_is at) refl
  where
    some_is : {A : Type 0} {a b : A} → Some a ≡ Some b → a ≡ b
    some_is e = cc
row-own (first ∷ sets) (slot ∷ slots) (suc table) place set at still = row-own sets slots table place set at still

row-other : (sets : List KeyedRows) (slots : List (Option Place)) (table other place : Place) → is_open slots table ≡ true → is_chosen slots other ≡ true → slice_get (rows_at sets (slice_set slots table (Some place))) other ≡ slice_get (rows_at sets slots) other
row-other [] slots table other place still known = refl
row-other (first ∷ sets) [] table other place still known = absurd (false≢true still)
row-other (first ∷ sets) (None ∷ slots) zero zero place still known = absurd (false≢true known)
row-other (first ∷ sets) (Some fixed ∷ slots) zero zero place still known = absurd (false≢true still)
row-other (first ∷ sets) (slot ∷ slots) zero (suc other) place still known = refl
row-other (first ∷ sets) (slot ∷ slots) (suc table) zero place still known = refl
row-other (first ∷ sets) (slot ∷ slots) (suc table) (suc other) place still known = row-other sets slots table other place still known

-- the value in a column of the row chosen last
own-value : (sets : List KeyedRows) (slots : List (Option Place)) (table place column : Place) (set : KeyedRows) → slice_get sets table ≡ Some set → is_open slots table ≡ true → raw_value (rows_at sets (slice_set slots table (Some place))) (record { table = table; column = column }) ≡ value_at_place set column place
own-value sets slots table place column set at still = ap (λ o. option_map_or (λ (kept : BornRow). cell_at kept.row column) o NullValue) (row-own sets slots table place set at still)

-- an equality with a literal holds when the column has its value
pub equals_literal : (choices : Choices) (sets : List KeyedRows) (slots : List (Option Place)) (left right : Expr) (column : Ref) (value : Value) (place : Place) (set : KeyedRows) → left ≡ Keep column → right ≡ Literal value → slice_get sets column.table ≡ Some set → is_open slots column.table ≡ true
    → value_at_place set column.column place ≡ value → is_null value ≡ false → holds choices (rows_at sets (slice_set slots column.table (Some place))) (conditions.Compare Eq left right) ≡ true
equals_literal choices sets slots left right column value place set of_left of_right at still has some =
    let rows = rows_at sets (slice_set slots column.table (Some place)) in
    ap is_true (truth-Compare (masked_value choices rows) Eq left right)
    ∙ ap (λ (e : Expr). is_true (comparison Eq (masked_value choices rows e) (masked_value choices rows right))) of_left
    ∙ ap (λ (e : Expr). is_true (comparison Eq (raw_value rows column) (masked_value choices rows e))) of_right
    ∙ ap (λ (v : Value). is_true (comparison Eq v value)) (own-value sets slots column.table place column.column set at still ∙ has) ∙ itself value some

-- a row that has the value of the other column is tied to it
pub rows-tied : (sets : List KeyedRows) (slots : List (Option Place)) (table place column : Place) (other : Ref) (set : KeyedRows) (value : Value) → slice_get sets table ≡ Some set → is_open slots table ≡ true → is_chosen slots other.table ≡ true
    → value_at_place set column place ≡ value → is_null value ≡ false → raw_value (rows_at sets slots) other ≡ value → AreEqual (rows_at sets (slice_set slots table (Some place))) (record { table = table; column = column }) other
rows-tied sets slots table place column other set value at still known has some is =
    let rows = rows_at sets (slice_set slots table (Some place)) in
    let own = own-value sets slots table place column set at still in
    let another : raw_value rows other ≡ raw_value (rows_at sets slots) other = ap (λ o. option_map_or (λ (kept : BornRow). cell_at kept.row other.column) o NullValue) (row-other sets slots table other.table place still known) in
    (own ∙ has ∙ sym is ∙ sym another, ap is_null (another ∙ is) ∙ some)

-- a lookup stage that suffices has no tie
untied : (searched : Bool) (slots : List (Option Place)) (table : Place) (tie : Option Tie) (rows : Combination) → option_map_or (λ (t : Tie). not searched && is_chosen slots t.other.table) tie true ≡ true → searched ≡ true → AreTied table tie rows
untied searched slots table None rows known is = tt
untied searched slots table (Some tie) rows known is = absurd (false≢true (sym (ap not is) ∙ (and_parts (not searched) (is_chosen slots tie.other.table) known).0))

-- a stage whose tie suffices: the other row is chosen
module _ (stage : Stage) (slots : List (Option Place)) (yes : suffices stage slots ≡ true) where
  both : (stage.suffices ≡ true) × (option_map_or (λ (tie : Tie). not stage.is_searched && is_chosen slots tie.other.table) stage.tie true ≡ true)
  both = and_parts stage.suffices (option_map_or (λ (tie : Tie). not stage.is_searched && is_chosen slots tie.other.table) stage.tie true) yes

  pub enough-of : stage.suffices ≡ true
  enough-of = both.0

  pub told : (tie : Tie) → stage.tie ≡ Some tie → is_chosen slots tie.other.table ≡ true
  told tie is = (and_parts (not stage.is_searched) (is_chosen slots tie.other.table) (sym (ap (λ o. option_map_or (λ (t : Tie). not stage.is_searched && is_chosen slots t.other.table) o true) is) ∙ both.1)).1

  pub searched-tied : (rows : Combination) → stage.is_searched ≡ true → AreTied stage.table stage.tie rows
  searched-tied rows searched = untied stage.is_searched slots stage.table stage.tie rows both.1 searched
