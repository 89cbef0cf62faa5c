-- What follows a part of the grammar is a suffix of the part's tokens.
use Rattle.std.proofs.Common.{◌≡◌, List, [], ◌∷◌, ◌++◌, Option, refl, ap}
use Rattle.hippo_values.specs.declared.keywords.Keyword as words
use Rattle.hippo_values.specs.declared.values.Value.{Value}
use Rattle.hippo_stmt_ast.specs.declared.statement.RawColumn.{RawColumn}
use Rattle.hippo_stmt_ast.specs.declared.statement.RawItem.{RawItem}
use Rattle.hippo_stmt_ast.specs.declared.statement.RawOut.{RawOut}
use Rattle.hippo_stmt_ast.specs.declared.statement.RawOperand.{RawOperand}
use Rattle.hippo_stmt_ast.specs.declared.statement.RawSelect.{RawSelect}
use Rattle.hippo_lexer.specs.declared.kinds.TokenKind.{TokenKind}
use Rattle.hippo_spj_reader.specs.declared.selects.Scope.{Scope}
use Rattle.hippo_spj_reader.specs.ConditionGrammar as conditions
use Rattle.hippo_spj_reader.specs.ConditionGrammar.{RawCond, IsColumn, bare, qualified, IsLiteral, number, quoted_literal, day, null, IsOperand, column, literal, IsCondition, disjunction, IsConjunction, conjunction, AreJoinedBy, last_joined, more_joined, IsJoinedBy, disjunct, conjunct, IsNegation, negated, IsPrimary, parentheses, comparison, between, not_between, among, not_among, missing, present}
use Rattle.hippo_spj_reader.specs.ListGrammar.{IsListOf, last_part, more_parts}
use Rattle.hippo_spj_reader.specs.SelectGrammar.{IsItem, one_column, all_of_table, AreItems, star, listed_items, AreJoined, no_more, comma_table, join, inner_join, IsWhere, no_where, condition, IsScope, scope, IsOut, column_out, minimum, maximum, IsSelect, plain_select, distinct, grouped_select}

-- the rest is what remains after some of the tokens
pub data IsSuffix (rest : List TokenKind) : List TokenKind → Type 0 where
  all_left : IsSuffix rest rest
  remaining : {first : TokenKind} {tokens : List TokenKind} → IsSuffix rest tokens → IsSuffix rest (first ∷ tokens)

pub within : {b a c : List TokenKind} → IsSuffix b a → IsSuffix c b → IsSuffix c a
within all_left s = s
within (remaining r) s = remaining (within r s)

-- after one more token
pub next : {a b : List TokenKind} {first : TokenKind} → IsSuffix (first ∷ b) a → IsSuffix b a
next s = within s (remaining all_left)

pub front_of : {rest tokens : List TokenKind} → IsSuffix rest tokens → (front : List TokenKind) × (tokens ≡ front ++ rest)
front_of all_left = ([], refl)
front_of (remaining {first = first} s) = let f = front_of s in (first ∷ f.0, ap (λ (ks : List TokenKind). first ∷ ks) f.1)

column_suffix : {tokens rest : List TokenKind} {c : RawColumn} → IsColumn tokens c rest → IsSuffix rest tokens
column_suffix bare = remaining all_left
column_suffix qualified = remaining (remaining (remaining all_left))

literal_suffix : {tokens rest : List TokenKind} {v : Value} → IsLiteral tokens v rest → IsSuffix rest tokens
literal_suffix number = remaining all_left
literal_suffix quoted_literal = remaining all_left
literal_suffix day = remaining all_left
literal_suffix null = remaining all_left

operand_suffix : {tokens rest : List TokenKind} {o : RawOperand} → IsOperand tokens o rest → IsSuffix rest tokens
operand_suffix (column c) = column_suffix c
operand_suffix (literal l) = literal_suffix l

module _ {X : Type 0} (IsPart : List TokenKind → X → List TokenKind → Type 0) (separator : TokenKind)
    (part_suffix : (tokens rest : List TokenKind) (x : X) → IsPart tokens x rest → IsSuffix rest tokens) where
  list_suffix : {tokens rest : List TokenKind} {xs : List X} → IsListOf IsPart separator tokens xs rest → IsSuffix rest tokens
  list_suffix (last_part d) = part_suffix _ _ _ d
  list_suffix (more_parts d ds) = within (next (part_suffix _ _ _ d)) (list_suffix ds)

mutual
  condition_suffix : {tokens rest : List TokenKind} {c : RawCond} → IsCondition tokens c rest → IsSuffix rest tokens
  condition_suffix (disjunction ds e) = parts_suffix ds

  conjunction_suffix : {tokens rest : List TokenKind} {c : RawCond} → IsConjunction tokens c rest → IsSuffix rest tokens
  conjunction_suffix (conjunction ds e) = parts_suffix ds

  parts_suffix : {keyword : words.Keyword} {tokens rest : List TokenKind} {cs : List RawCond} → AreJoinedBy keyword tokens cs rest → IsSuffix rest tokens
  parts_suffix (last_joined d) = part_suffix d
  parts_suffix (more_joined d ds) = within (next (part_suffix d)) (parts_suffix ds)

  part_suffix : {keyword : words.Keyword} {tokens rest : List TokenKind} {c : RawCond} → IsJoinedBy keyword tokens c rest → IsSuffix rest tokens
  part_suffix (disjunct d) = conjunction_suffix d
  part_suffix (conjunct d) = negation_suffix d

  negation_suffix : {tokens rest : List TokenKind} {c : RawCond} → IsNegation tokens c rest → IsSuffix rest tokens
  negation_suffix (negated d e) = remaining (negation_suffix d)
  negation_suffix (conditions.plain d) = primary_suffix d

  primary_suffix : {tokens rest : List TokenKind} {c : RawCond} → IsPrimary tokens c rest → IsSuffix rest tokens
  primary_suffix (parentheses d) = remaining (next (condition_suffix d))
  primary_suffix (comparison a op b) = within (next (operand_suffix a)) (operand_suffix b)
  primary_suffix (between a b d) = within (next (operand_suffix a)) (within (next (operand_suffix b)) (operand_suffix d))
  primary_suffix (not_between a b d e) = within (next (next (operand_suffix a))) (within (next (operand_suffix b)) (operand_suffix d))
  primary_suffix (among a b) = within (next (next (operand_suffix a))) (next (list_suffix IsOperand _ (λ _ _ _ d. operand_suffix d) b))
  primary_suffix (not_among a b e) = within (next (next (next (operand_suffix a)))) (next (list_suffix IsOperand _ (λ _ _ _ d. operand_suffix d) b))
  primary_suffix (missing a) = next (next (operand_suffix a))
  primary_suffix (present a e) = next (next (next (operand_suffix a)))

item_suffix : {tokens rest : List TokenKind} {i : RawItem} → IsItem tokens i rest → IsSuffix rest tokens
item_suffix (one_column c) = column_suffix c
item_suffix all_of_table = remaining (remaining (remaining all_left))

items_suffix : {tokens rest : List TokenKind} {items : List RawItem} → AreItems tokens items rest → IsSuffix rest tokens
items_suffix star = remaining all_left
items_suffix (listed_items ds) = list_suffix IsItem _ (λ _ _ _ d. item_suffix d) ds

out_suffix : {tokens rest : List TokenKind} {o : RawOut} → IsOut tokens o rest → IsSuffix rest tokens
out_suffix (column_out c) = column_suffix c
out_suffix (minimum c) = remaining (remaining (next (column_suffix c)))
out_suffix (maximum c) = remaining (remaining (next (column_suffix c)))

joined_suffix : {tokens rest : List TokenKind} {tables : List _} {conditions : List RawCond} → AreJoined tokens tables conditions rest → IsSuffix rest tokens
joined_suffix no_more = all_left
joined_suffix (comma_table d) = remaining (remaining (joined_suffix d))
joined_suffix (join c d) = remaining (remaining (remaining (within (condition_suffix c) (joined_suffix d))))
joined_suffix (inner_join c d) = remaining (remaining (remaining (remaining (within (condition_suffix c) (joined_suffix d)))))

where_suffix : {tokens rest : List TokenKind} {last : Option RawCond} → IsWhere tokens last rest → IsSuffix rest tokens
where_suffix no_where = all_left
where_suffix (condition c) = remaining (condition_suffix c)

scope_suffix : {tokens rest : List TokenKind} {s : Scope} → IsScope tokens s rest → IsSuffix rest tokens
scope_suffix (scope are_joined is_where is_whole) = remaining (remaining (within (joined_suffix are_joined) (where_suffix is_where)))

-- what follows a select is a suffix of its tokens
pub select_suffix : {tokens rest : List TokenKind} {s : RawSelect} → IsSelect tokens s rest → IsSuffix rest tokens
select_suffix (plain_select are_items is_scope) = remaining (within (items_suffix are_items) (scope_suffix is_scope))
select_suffix (distinct are_items is_scope) = remaining (remaining (within (items_suffix are_items) (scope_suffix is_scope)))
select_suffix (grouped_select are_outs is_scope are_columns) =
    remaining (within (list_suffix IsOut _ (λ _ _ _ d. out_suffix d) are_outs)
    (within (next (next (scope_suffix is_scope))) (list_suffix IsColumn _ (λ _ _ _ d. column_suffix d) are_columns)))
