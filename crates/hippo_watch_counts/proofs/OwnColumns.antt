-- Whether a condition's columns all belong to a table, by those of its parts; and which rows own
-- conditions let pass.
use Rattle.std.proofs.Common.{◌≡◌, Bool, true, false, not, ◌&&◌, ◌||◌, cond, List, [], ◌∷◌, ◌++◌, map, refl, ap, ◌∙◌}
use Rattle.std.specs.Prelude.{filter, ◌==◌}
use Rattle.std.specs.List.{flat_map, list_all}
use Rattle.std.proofs.lemmas.List.Folds.{list_all-append}
use Rattle.hippo_values.specs.declared.truths.CompareOp.{CompareOp}
use Rattle.hippo_model.specs.declared.query.Operand.{Operand}
use Rattle.hippo_model.specs.declared.query.Ref.{Ref}
use Rattle.hippo_model.specs.declared.query.CondOf.{CondOf}
use Rattle.hippo_model.specs.declared.query.CondOf.TheVariants.{All, Any, Not, Compare, Between, Among, Missing}
use Rattle.hippo_model.specs.Terms.{Place}
use Rattle.hippo_model.specs.Columns.{columns_in, condition_columns}
use Rattle.hippo_model.proofs.NamedColumns.{condition_columns-All, condition_columns-Any, condition_columns-Not, condition_columns-Compare, condition_columns-Between, condition_columns-Among, condition_columns-Missing}
use Rattle.hippo_watch_counts.specs.Rows.{are_of}

and_grouped : (first second third : Bool) → (first && (second && third)) ≡ ((first && second) && third)
and_grouped true second third = refl
and_grouped false second third = refl

module _ (table : Place) where
  own_append : (xs ys : List Ref) → are_of table (xs ++ ys) ≡ (are_of table xs && are_of table ys)
  own_append xs ys = list_all-append (λ column. column.table == table) xs ys

  own_parts : (parts : List (CondOf Operand)) → are_of table (flat_map (λ (columns : List Ref). columns) (map condition_columns parts)) ≡ list_all (λ part. are_of table (condition_columns part)) parts
  own_parts [] = refl
  own_parts (first ∷ rest) = own_append (condition_columns first) (flat_map (λ (columns : List Ref). columns) (map condition_columns rest)) ∙ ap (λ b. are_of table (condition_columns first) && b) (own_parts rest)

  own_operands : (list : List Operand) → are_of table (flat_map columns_in list) ≡ list_all (λ operand. are_of table (columns_in operand)) list
  own_operands [] = refl
  own_operands (first ∷ rest) = own_append (columns_in first) (flat_map columns_in rest) ∙ ap (λ b. are_of table (columns_in first) && b) (own_operands rest)

  pub own-All : (parts : List (CondOf Operand)) → are_of table (condition_columns (All parts)) ≡ list_all (λ part. are_of table (condition_columns part)) parts
  own-All parts = ap (are_of table) (condition_columns-All parts) ∙ own_parts parts

  pub own-Any : (parts : List (CondOf Operand)) → are_of table (condition_columns (Any parts)) ≡ list_all (λ part. are_of table (condition_columns part)) parts
  own-Any parts = ap (are_of table) (condition_columns-Any parts) ∙ own_parts parts

  pub own-Not : (part : CondOf Operand) → are_of table (condition_columns (Not part)) ≡ are_of table (condition_columns part)
  own-Not part = ap (are_of table) (condition_columns-Not part)

  pub own-Compare : (op : CompareOp) (left right : Operand) → are_of table (condition_columns (Compare op left right)) ≡ (are_of table (columns_in left) && are_of table (columns_in right))
  own-Compare op left right = ap (are_of table) (condition_columns-Compare op left right) ∙ own_append (columns_in left) (columns_in right)

  pub own-Between : (operand low high : Operand) → are_of table (condition_columns (Between operand low high)) ≡ (are_of table (columns_in operand) && are_of table (columns_in low) && are_of table (columns_in high))
  own-Between operand low high =
      ap (are_of table) (condition_columns-Between operand low high)
      ∙ own_append (columns_in operand) (columns_in low ++ columns_in high)
      ∙ ap (λ b. are_of table (columns_in operand) && b) (own_append (columns_in low) (columns_in high))
      ∙ and_grouped (are_of table (columns_in operand)) (are_of table (columns_in low)) (are_of table (columns_in high))

  pub own-Among : (operand : Operand) (list : List Operand) → are_of table (condition_columns (Among operand list)) ≡ (are_of table (columns_in operand) && list_all (λ one. are_of table (columns_in one)) list)
  own-Among operand list =
      ap (are_of table) (condition_columns-Among operand list)
      ∙ own_append (columns_in operand) (flat_map columns_in list) ∙ ap (λ b. are_of table (columns_in operand) && b) (own_operands list)

  pub own-Missing : (operand : Operand) → are_of table (condition_columns (Missing operand)) ≡ are_of table (columns_in operand)
  own-Missing operand = ap (are_of table) (condition_columns-Missing operand)

pub ruleset all_own = (own-All, own-Any, own-Not, own-Compare, own-Between, own-Among, own-Missing)

module _ {A : Type 0} (counts test : A → Bool) where
  passed : (own : Bool) (first : A) (rest : List A) → own ≡ counts first → list_all test (filter counts rest) ≡ list_all (λ x. not (counts x) || test x) rest
      → list_all test (cond own (first ∷ filter counts rest) (filter counts rest)) ≡ ((not own || test first) && list_all (λ x. not (counts x) || test x) rest)
  passed true first rest is remaining = ap (λ b. test first && b) remaining
  passed false first rest is remaining = remaining

  -- the members that count all pass a test exactly when each member passes it or does not count
  pub all_of_those : (xs : List A) → list_all test (filter counts xs) ≡ list_all (λ x. not (counts x) || test x) xs
  all_of_those [] = refl
  all_of_those (x ∷ xs) = passed (counts x) x xs refl (all_of_those xs)
