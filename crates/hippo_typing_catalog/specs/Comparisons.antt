-- What a condition compares, and why it is refused.
use Rattle.std.specs.Prelude.{Bool, true, false, not, List, [], ◌∷◌, filter_map, flat_map, Option, option_map}
use Rattle.std.specs.List.{list_any, list_all}
use Rattle.hippo_model.specs.declared.name_fault.NameFault.{NameFault}
use Rattle.hippo_model.specs.declared.name_fault.NameFault.TheVariants.{TypeMismatch, BadText}
use Rattle.hippo_model.specs.declared.query.Operand.{Operand}
use Rattle.hippo_model.specs.declared.query.Operand.TheVariants.{Column as ColumnOperand, Literal}
use Rattle.hippo_model.specs.declared.query.CondOf.{CondOf, CondOf-F, fold-CondOf}
use Rattle.hippo_model.specs.declared.query.CondOf.TheOpen.{All, Any, Not, Compare, Between, Among, Missing}
use Rattle.hippo_model.specs.declared.schema.ColumnKind.{ColumnKind}
use Rattle.hippo_model.specs.declared.schema.Schema.{Schema}
use Rattle.hippo_stmt_ast.specs.declared.statement.RawOperand.{RawOperand}
use Rattle.hippo_stmt_ast.specs.declared.statement.RawOperand.TheVariants.{Column as WrittenColumn, Literal as WrittenLiteral}
use Rattle.hippo_model.specs.Conditions.{changed_operands}
use Rattle.hippo_typing_catalog.specs.Kinds.{kind_of, same_kind, is_bad_text}
use Rattle.hippo_typing_catalog.specs.Refusals.{fault_if}
use Rattle.hippo_typing_catalog.specs.WrittenColumns.{column_refused, column_of, column_at}

-- the lists of operands that a condition compares, given those of its parts
abbrev pub comparisons_layer : {O : Type 0} → CondOf-F O (List (List O)) → List (List O)
comparisons_layer (All parts) = flat_map (λ lists. lists) parts
comparisons_layer (Any parts) = flat_map (λ lists. lists) parts
comparisons_layer (Not part) = part
comparisons_layer (Compare op left right) = (left ∷ right ∷ []) ∷ []
comparisons_layer (Between operand low high) = (operand ∷ low ∷ high ∷ []) ∷ []
comparisons_layer (Among operand list) = (operand ∷ list) ∷ []
comparisons_layer (Missing operand) = (operand ∷ []) ∷ []

-- the lists of operands that a condition compares with one another, in text order; the operand of
-- IS NULL is a list of its own
abbrev pub comparisons : {O : Type 0} → CondOf O → List (List O)
comparisons {O} condition = fold-CondOf O (List (List O)) comparisons_layer condition

abbrev pub operand_refused : List Schema → RawOperand → List NameFault
operand_refused schemas (WrittenColumn written) = column_refused schemas written
operand_refused schemas (WrittenLiteral value) = []

-- columns of a condition that no table of the statement has, or several have
abbrev pub operands_refused : List Schema → CondOf RawOperand → List NameFault
operands_refused schemas condition =
    flat_map (flat_map (operand_refused schemas)) (comparisons condition)

abbrev pub operand_of : List Schema → RawOperand → Operand
operand_of schemas (WrittenColumn written) = ColumnOperand (column_of schemas written)
operand_of schemas (WrittenLiteral value) = Literal value

-- a condition with its columns resolved
abbrev pub condition_of : List Schema → CondOf RawOperand → CondOf Operand
condition_of schemas condition = changed_operands (operand_of schemas) condition

-- the kind of an operand; NULL has none
abbrev pub operand_kind : List Schema → Operand → Option ColumnKind
operand_kind schemas (ColumnOperand reference) =
    option_map (λ column. column.kind) (column_at schemas reference)
operand_kind schemas (Literal value) = kind_of value

abbrev pub are_alike : List ColumnKind → Bool
are_alike [] = true
are_alike (first ∷ rest) = list_all (same_kind first) rest

-- whether compared operands have different kinds, ignoring those without a kind
abbrev pub mixes_kinds : List Schema → List Operand → Bool
mixes_kinds schemas compared = not (are_alike (filter_map (operand_kind schemas) compared))

abbrev pub kinds_refused : List Schema → CondOf Operand → List NameFault
kinds_refused schemas condition =
    fault_if (list_any (mixes_kinds schemas) (comparisons condition)) TypeMismatch

abbrev pub has_bad_text : Operand → Bool
has_bad_text (ColumnOperand reference) = false
has_bad_text (Literal value) = is_bad_text value

abbrev pub texts_refused : CondOf Operand → List NameFault
texts_refused condition =
    fault_if (list_any (list_any has_bad_text) (comparisons condition)) BadText
