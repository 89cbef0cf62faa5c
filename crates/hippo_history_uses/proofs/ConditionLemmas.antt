-- When the conditions of an audit of rows are true of a row.
use Rattle.std.proofs.Common.{◌≡◌, ◌∙◌, sym, ap, refl, ℤ, zero, suc, Bool, true, false, List, [], ◌∷◌, map, get_or}
use Rattle.std.specs.Prelude.{◌&&◌}
use Rattle.std.specs.Cmp.{tied_itself}
use Rattle.std.specs.List.{list_all}
use Rattle.std.specs.Ordering.{is_eq}
use Rattle.std.specs.declared.cmp.Ordering.TheVariants.{Less, Equal, Greater}
use Rattle.std.proofs.lemmas.Bool.{and_parts, and_from}
use Rattle.hippo_values.specs.declared.truths.CompareOp.TheVariants.{Eq}
use Rattle.hippo_values.specs.declared.truths.Truth.{Truth}
use Rattle.hippo_values.specs.declared.truths.Truth.TheVariants.{False, Unknown, True}
use Rattle.hippo_values.specs.declared.values.Value.{Value}
use Rattle.hippo_values.specs.declared.values.Value.TheVariants.{Null, Int, Text, Day}
use Rattle.hippo_values.specs.Order.{value_cmp}
use Rattle.hippo_values.specs.OrderLaws.{value_total}
use Rattle.hippo_values.specs.Truths.{truth_and, truth_of, comparison}
use Rattle.hippo_model.specs.declared.born_row.BornRow.{BornRow}
use Rattle.hippo_model.specs.declared.cells.Cell.TheVariants.{Shown, Denied}
use Rattle.hippo_model.specs.declared.query.CondOf.TheVariants.{Compare}
use Rattle.hippo_model.specs.declared.query.Operand.{Operand}
use Rattle.hippo_model.specs.declared.query.Operand.TheVariants.{Column, Literal}
use Rattle.hippo_model.specs.Answers.{passes, operand_value}
use Rattle.hippo_model.specs.Conditions.{least, is_null, truth, is_true}
use Rattle.hippo_model.specs.Forms.{value_in}
use Rattle.hippo_model.specs.Rows.{cell_at, key_of}
use Rattle.hippo_model.specs.Terms.{Row, ShownRow, Place}
use Rattle.hippo_model.proofs.Truths.{truth-All, truth-Compare, truth-Missing}
use Rattle.hippo_tables_keyed.proofs.Orders.{value_exact}
use Rattle.hippo_eval.specs.Unmasked.{all_shown}
use Rattle.hippo_history_uses.specs.Conditions.{own_column, column_is, key_is}

abbrev pub same_value : Value → Value → Bool
same_value a b = is_eq (value_cmp a b)

pub same_itself : (value : Value) → same_value value value ≡ true
same_itself value = ap is_eq (tied_itself value_total value)

pub same_equal : (a b : Value) → same_value a b ≡ true → a ≡ b
same_equal a b same =
    elim (value_cmp a b) as (λ o. value_cmp a b ≡ o → is_eq o ≡ true → a ≡ b) [
      | Less ↦ λ e wrong. cc
      | Equal ↦ λ e right. value_exact a b e
      | Greater ↦ λ e wrong. cc
    ] refl same

-- ---- one column
value_shown : (row : Row) (column : Place) → value_in (get_or (map Shown row) column (Denied 0)) ≡ cell_at row column
value_shown [] column = refl
value_shown (value ∷ row) zero = refl
value_shown (value ∷ row) (suc column) = value_shown row column

true_of : (test : Bool) → is_true (truth_of test) ≡ test
true_of true = refl
true_of false = refl

null_same : (value : Value) → is_true (truth_of (is_null value)) ≡ same_value value Null
null_same Null = refl
null_same (Int number) = refl
null_same (Text text) = refl
null_same (Day day) = refl

int_same : (value : Value) (number : ℤ) → is_true (comparison Eq value (Int number)) ≡ same_value value (Int number)
int_same Null number = refl
int_same (Int other) number = true_of (same_value (Int other) (Int number))
int_same (Text text) number = refl
int_same (Day day) number = refl

module _ (kept : BornRow) where
  abbrev alone : List ShownRow
  alone = all_shown (kept ∷ [])

  abbrev got : Operand → Value
  got operand = operand_value alone operand

  value_here : (column : Place) → got (Column (own_column column)) ≡ cell_at kept.row column
  value_here column = value_shown kept.row column

  compared : (column : Place) (literal : Value) → ((value : Value) → is_true (comparison Eq value literal) ≡ same_value value literal) → is_true (truth got (Compare Eq (Column (own_column column)) (Literal literal))) ≡ same_value (cell_at kept.row column) literal
  compared column literal same =
      ap is_true (truth-Compare got Eq (Column (own_column column)) (Literal literal))
      ∙ (λ i. is_true (comparison Eq (value_here column i) literal)) ∙ same (cell_at kept.row column)

  -- a column has a value exactly where the row has it there
  pub column-true : (column : Place) (value : Value) → passes (column_is column value) alone ≡ same_value (cell_at kept.row column) value
  column-true column Null = ap is_true (truth-Missing got (Column (own_column column))) ∙ (λ i. is_true (truth_of (is_null (value_here column i)))) ∙ null_same (cell_at kept.row column)
  column-true column (Int number) = compared column (Int number) (λ value. int_same value number)
  column-true column (Text text) = compared column (Text text) same
    where
      same : (value : Value) → is_true (comparison Eq value (Text text)) ≡ same_value value (Text text)
      same Null = refl
      same (Int other) = refl
      same (Text other) = true_of (same_value (Text other) (Text text))
      same (Day other) = refl
  column-true column (Day day) = compared column (Day day) same
    where
      same : (value : Value) → is_true (comparison Eq value (Day day)) ≡ same_value value (Day day)
      same Null = refl
      same (Int other) = refl
      same (Text other) = refl
      same (Day other) = true_of (same_value (Day other) (Day day))

  -- ---- the key's columns
  and_true : (first rest : Truth) → is_true (truth_and first rest) ≡ (is_true first && is_true rest)
  and_true False rest = refl
  and_true Unknown False = refl
  and_true Unknown Unknown = refl
  and_true Unknown True = refl
  and_true True rest = refl

  module _ (row : Row) where
    abbrev same_at : Place → Bool
    same_at place = same_value (cell_at kept.row place) (cell_at row place)

    each_true : (key : List Place) → is_true (least (map (truth got) (map (λ place. column_is place (cell_at row place)) key))) ≡ list_all same_at key
    each_true [] = refl
    each_true (place ∷ key) =
        and_true (truth got (column_is place (cell_at row place))) _
        ∙ (λ i. column-true place (cell_at row place) i && each_true key i)

    key-true : (key : List Place) → passes (key_is key row) alone ≡ list_all same_at key
    key-true key = ap is_true (truth-All got (map (λ place. column_is place (cell_at row place)) key)) ∙ each_true key

    all_equal : (key : List Place) → list_all same_at key ≡ true → key_of key kept.row ≡ key_of key row
    all_equal [] all = refl
    all_equal (place ∷ key) all =
        let both = and_parts (same_at place) (list_all same_at key) all in
        λ i. same_equal (cell_at kept.row place) (cell_at row place) both.0 i ∷ all_equal key both.1 i

    -- a row of which the condition is true has the key
    pub key_equal : (key : List Place) → passes (key_is key row) alone ≡ true → key_of key kept.row ≡ key_of key row
    key_equal key holds = all_equal key (sym (key-true key) ∙ holds)

  all_itself : (key : List Place) → list_all (same_at kept.row) key ≡ true
  all_itself [] = refl
  all_itself (place ∷ key) = and_from (same_at kept.row place) (list_all (same_at kept.row) key) (same_itself (cell_at kept.row place)) (all_itself key)

  -- the condition of a row's own key is true of the row
  pub key_itself : (key : List Place) → passes (key_is key kept.row) alone ≡ true
  key_itself key = key-true kept.row key ∙ all_itself key
