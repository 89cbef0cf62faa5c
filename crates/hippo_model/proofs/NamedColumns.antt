-- The operands and the columns of each kind of condition, by those of its parts.
use Rattle.std.proofs.Common.{◌≡◌, List, [], ◌∷◌, ◌++◌, map, refl, ap, ◌∙◌, append-nil}
use Rattle.std.specs.Prelude.{Bool, ◌||◌, false, true}
use Rattle.std.specs.List.{flat_map, list_any}
use Rattle.std.proofs.lemmas.Grind.{flat_map-append}
use Rattle.std.proofs.Math.Bool.{or-false}
use Rattle.hippo_values.specs.declared.truths.CompareOp.{CompareOp}
use Rattle.hippo_model.specs.declared.query.CondOf.{CondOf}
use Rattle.hippo_model.specs.declared.query.CondOf.TheVariants.{All, Any, Not, Compare, Between, Among, Missing}
use Rattle.hippo_model.specs.declared.query.Operand.{Operand}
use Rattle.hippo_model.specs.declared.query.Ref.{Ref}
use Rattle.hippo_model.specs.Conditions.{operands, operands_layer}
use Rattle.hippo_values.specs.declared.names.Name.{Name}
use Rattle.hippo_model.specs.declared.query.Operand.TheVariants.{Column}
use Rattle.hippo_model.specs.declared.query.Query.{Query}
use Rattle.hippo_model.specs.Terms.{Place}
use Rattle.hippo_model.specs.Columns.{columns_in, condition_columns, named_column, query_columns, same_column}
use Rattle.hippo_model.proofs.FoldedConditions.{folded-All, folded-Any, folded-Not, folded-Compare, folded-Between, folded-Among, folded-Missing}

or_with : (t a b c : Bool) → a ≡ (b || c) → (t || a) ≡ ((t || b) || c)
or_with true a b c e = refl
or_with false a b c e = e

-- whether a member of a list passes a test
module _ {O : Type 0} (test : O → Bool) where
  pub any_of_both : (xs ys : List O) → list_any test (xs ++ ys) ≡ (list_any test xs || list_any test ys)
  any_of_both [] ys = refl
  any_of_both (x ∷ xs) ys = or_with (test x) (list_any test (xs ++ ys)) (list_any test xs) (list_any test ys) (any_of_both xs ys)

  any_of_parts : (parts : List (CondOf O)) → list_any test (flat_map (λ lists. lists) (map operands parts)) ≡ list_any (λ part. list_any test (operands part)) parts
  any_of_parts [] = refl
  any_of_parts (first ∷ rest) = any_of_both (operands first) (flat_map (λ lists. lists) (map operands rest)) ∙ ap (λ b. list_any test (operands first) || b) (any_of_parts rest)

  -- whether an operand of a condition does
  pub any_operand-All : (parts : List (CondOf O)) → list_any test (operands (All parts)) ≡ list_any (λ part. list_any test (operands part)) parts
  any_operand-All parts = ap (list_any test) (folded-All operands_layer parts) ∙ any_of_parts parts

  pub any_operand-Any : (parts : List (CondOf O)) → list_any test (operands (Any parts)) ≡ list_any (λ part. list_any test (operands part)) parts
  any_operand-Any parts = ap (list_any test) (folded-Any operands_layer parts) ∙ any_of_parts parts

  pub any_operand-Not : (part : CondOf O) → list_any test (operands (Not part)) ≡ list_any test (operands part)
  any_operand-Not part = ap (list_any test) (folded-Not operands_layer part)

  pub any_operand-Compare : (op : CompareOp) (left right : O) → list_any test (operands (Compare op left right)) ≡ (test left || test right)
  any_operand-Compare op left right = ap (list_any test) (folded-Compare operands_layer op left right) ∙ ap (λ b. test left || b) (or-false (test right))

  pub any_operand-Between : (operand low high : O) → list_any test (operands (Between operand low high)) ≡ (test operand || (test low || test high))
  any_operand-Between operand low high = ap (list_any test) (folded-Between operands_layer operand low high) ∙ ap (λ b. test operand || (test low || b)) (or-false (test high))

  pub any_operand-Among : (operand : O) (list : List O) → list_any test (operands (Among operand list)) ≡ (test operand || list_any test list)
  any_operand-Among operand list = ap (list_any test) (folded-Among operands_layer operand list)

  pub any_operand-Missing : (operand : O) → list_any test (operands (Missing operand)) ≡ test operand
  any_operand-Missing operand = ap (list_any test) (folded-Missing operands_layer operand) ∙ or-false (test operand)

pub ruleset any_operands = (any_operand-All, any_operand-Any, any_operand-Not, any_operand-Compare, any_operand-Between, any_operand-Among, any_operand-Missing)

columns_of_parts : (parts : List (CondOf Operand)) → flat_map columns_in (flat_map (λ lists. lists) (map operands parts)) ≡ flat_map (λ columns. columns) (map condition_columns parts)
columns_of_parts [] = refl
columns_of_parts (first ∷ rest) = flat_map-append columns_in (operands first) (flat_map (λ lists. lists) (map operands rest)) ∙ ap (λ columns. condition_columns first ++ columns) (columns_of_parts rest)

pub condition_columns-All : (parts : List (CondOf Operand)) → condition_columns (All parts) ≡ flat_map (λ columns. columns) (map condition_columns parts)
condition_columns-All parts = ap (flat_map columns_in) (folded-All operands_layer parts) ∙ columns_of_parts parts

pub condition_columns-Any : (parts : List (CondOf Operand)) → condition_columns (Any parts) ≡ flat_map (λ columns. columns) (map condition_columns parts)
condition_columns-Any parts = ap (flat_map columns_in) (folded-Any operands_layer parts) ∙ columns_of_parts parts

pub condition_columns-Not : (part : CondOf Operand) → condition_columns (Not part) ≡ condition_columns part
condition_columns-Not part = ap (flat_map columns_in) (folded-Not operands_layer part)

pub condition_columns-Compare : (op : CompareOp) (left right : Operand) → condition_columns (Compare op left right) ≡ columns_in left ++ columns_in right
condition_columns-Compare op left right = ap (flat_map columns_in) (folded-Compare operands_layer op left right) ∙ ap (λ columns. columns_in left ++ columns) (append-nil (columns_in right))

pub condition_columns-Between : (operand low high : Operand) → condition_columns (Between operand low high) ≡ columns_in operand ++ (columns_in low ++ columns_in high)
condition_columns-Between operand low high = ap (flat_map columns_in) (folded-Between operands_layer operand low high) ∙ ap (λ columns. columns_in operand ++ (columns_in low ++ columns)) (append-nil (columns_in high))

pub condition_columns-Among : (operand : Operand) (list : List Operand) → condition_columns (Among operand list) ≡ columns_in operand ++ flat_map columns_in list
condition_columns-Among operand list = ap (flat_map columns_in) (folded-Among operands_layer operand list)

pub condition_columns-Missing : (operand : Operand) → condition_columns (Missing operand) ≡ columns_in operand
condition_columns-Missing operand = ap (flat_map columns_in) (folded-Missing operands_layer operand) ∙ append-nil (columns_in operand)

pub ruleset named_columns = (condition_columns-All, condition_columns-Any, condition_columns-Not, condition_columns-Compare, condition_columns-Between, condition_columns-Among, condition_columns-Missing)

-- an operand that is a column has that column alone
pub any_of_one : (test : Ref → Bool) (column : Ref) → list_any test (columns_in (Column column)) ≡ test column
any_of_one test column = or-false (test column)

-- a member of one of several lists
pub any_in_each : {A B : Type 0} (test : B → Bool) (lists : A → List B) (members : List A) → list_any test (flat_map lists members) ≡ list_any (λ member. list_any test (lists member)) members
any_in_each test lists [] = refl
any_in_each test lists (first ∷ rest) = any_of_both test (lists first) (flat_map lists rest) ∙ ap (λ b. list_any test (lists first) || b) (any_in_each test lists rest)

pub any_mapped : {A B : Type 0} (test : B → Bool) (f : A → B) (members : List A) → list_any test (map f members) ≡ list_any (λ member. test (f member)) members
any_mapped test f [] = refl
any_mapped test f (first ∷ rest) = ap (λ b. test (f first) || b) (any_mapped test f rest)

-- a query names a column in its select list or in an operand of its condition
pub any_of_query : (query : Query) (column : Name × Place) → list_any (same_column column) (query_columns query) ≡ (list_any (λ one. same_column column (named_column query.tables one)) query.items || list_any (λ operand. list_any (λ one. same_column column (named_column query.tables one)) (columns_in operand)) (operands query.cond))
any_of_query query column =
    any_mapped (same_column column) (named_column query.tables) (query.items ++ condition_columns query.cond)
    ∙ any_of_both (λ one. same_column column (named_column query.tables one)) query.items (condition_columns query.cond)
    ∙ ap (λ b. list_any (λ one. same_column column (named_column query.tables one)) query.items || b) (any_in_each (λ one. same_column column (named_column query.tables one)) columns_in (operands query.cond))
