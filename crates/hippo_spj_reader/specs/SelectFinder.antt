-- The longest select at the front of a list of tokens, part by part.
use Rattle.std.specs.Prelude.{ℕ, zero, suc, Bool, true, false, if◌then◌else◌, codes, List, [], ◌∷◌, ◌++◌, length, option_to_list, Option, Some, None}
use Rattle.std.specs.List.{flat_map}
use Rattle.hippo_values.specs.declared.names.Name.{Name}
use Rattle.hippo_stmt_ast.specs.declared.statement.RawColumn.{RawColumn}
use Rattle.hippo_stmt_ast.specs.declared.statement.RawItem.{RawItem}
use Rattle.hippo_stmt_ast.specs.declared.statement.RawItem.TheVariants as item
use Rattle.hippo_stmt_ast.specs.declared.statement.RawForm.TheVariants.{Plain, Distinct, Grouped}
use Rattle.hippo_stmt_ast.specs.declared.statement.RawOut.{RawOut}
use Rattle.hippo_stmt_ast.specs.declared.statement.RawOut.TheVariants as out
use Rattle.hippo_stmt_ast.specs.declared.statement.RawSelect.{RawSelect}
use Rattle.hippo_values.specs.declared.keywords.Keyword.TheVariants.{KDistinct, KFrom, KGroup, KInner, KJoin, KMax, KMin, KOn, KSelect, KWhere}
use Rattle.hippo_values.specs.Options.{◌>>=◌}
use Rattle.hippo_model.specs.Conditions.{outer_parts}
use Rattle.hippo_lexer.specs.declared.kinds.Symbol.TheVariants.{Comma, Dot, LeftParen, RightParen, Star}
use Rattle.hippo_spj_reader.specs.declared.selects.Draft.{Draft}
use Rattle.hippo_spj_reader.specs.declared.selects.JoinedTable.{JoinedTable}
use Rattle.hippo_spj_reader.specs.declared.selects.Member.{Member}
use Rattle.hippo_spj_reader.specs.declared.selects.Member.TheVariants as member
use Rattle.hippo_spj_reader.specs.declared.selects.Scope.{Scope}
use Rattle.hippo_spj_reader.specs.declared.selects.Sources.{Sources}
use Rattle.hippo_spj_reader.specs.Promises.{either}
use Rattle.hippo_spj_reader.specs.ConditionGrammar.{RawCond}
use Rattle.hippo_spj_reader.specs.ConditionFinder.{leading_column, leading_condition}
use Rattle.hippo_spj_reader.specs.Front.{Kinds, Finder, after_keyword, after_symbol, after_word, leading_name}
use Rattle.hippo_spj_reader.specs.ListFinder.{leading_list}
use Rattle.hippo_spj_reader.specs.SelectGrammar.{select_with}

-- the table of `t.*`
abbrev pub leading_whole_table : Finder Name
leading_whole_table tokens = do
  table ← leading_name tokens
  remaining ← after_symbol Dot table.1
  rest ← after_symbol Star remaining
  Some (table.0, rest)

unfoldable pub leading_item : Finder RawItem
leading_item tokens =
    either (leading_whole_table tokens) (λ table. Some (item.AllOf table.0, table.1))
    (leading_column tokens >>= λ c. Some (item.One c.0, c.1))

-- "(" column ")", which follows MIN or MAX
unfoldable pub leading_argument : Finder RawColumn
leading_argument tokens = do
  inside ← after_symbol LeftParen tokens
  c ← leading_column inside
  rest ← after_symbol RightParen c.1
  Some (c.0, rest)

-- a member of a select list, before it is known whether the select is grouped
unfoldable pub leading_member : Finder Member
leading_member tokens =
    either (after_keyword KMin tokens) (λ remaining. leading_argument remaining >>=
    λ c. Some (member.Min c.0, c.1))
    (either (after_keyword KMax tokens) (λ remaining. leading_argument remaining >>=
    λ c. Some (member.Max c.0, c.1))
    (leading_item tokens >>= λ i. Some (member.Item i.0, i.1)))

unfoldable pub leading_members : Finder (List Member)
leading_members tokens =
    either (after_symbol Star tokens) (λ rest. Some (member.Item item.All ∷ [], rest))
    (leading_list leading_member (after_symbol Comma) tokens)

-- the member as an item of a select that is not grouped
abbrev pub ungrouped_item : Member → Option RawItem
ungrouped_item (member.Item i) = Some i
ungrouped_item m = None

-- the member as an item of a grouped select
abbrev pub out_of : Member → Option RawOut
out_of (member.Item (item.One c)) = Some (out.Column c)
out_of (member.Min c) = Some (out.Min c)
out_of (member.Max c) = Some (out.Max c)
out_of m = None

-- the results for all members, if each has one
abbrev pub each_of : {X Y : Type 0} → (X → Option Y) → List X → Option (List Y)
each_of f [] = Some []
each_of f (x ∷ xs) = do
  y ← f x
  ys ← each_of f xs
  Some (y ∷ ys)

-- what follows [INNER] JOIN, if that comes first
abbrev pub after_join : Kinds → Option Kinds
after_join tokens =
    either (after_keyword KInner tokens) (after_keyword KJoin) (after_keyword KJoin tokens)

abbrev pub joined_table : Name → Option RawCond → JoinedTable
joined_table table on = record { table = table; on = on }

abbrev pub leading_joined_by_comma : Finder JoinedTable
leading_joined_by_comma tokens =
    leading_name tokens >>= λ table. Some (joined_table table.0 None, table.1)

abbrev pub leading_joined_on : Finder JoinedTable
leading_joined_on tokens = do
  table ← leading_name tokens
  on ← after_keyword KOn table.1
  condition ← leading_condition on
  Some (joined_table table.0 (Some condition.0), condition.1)

-- one more table, if a comma or a JOIN comes first
unfoldable pub leading_joined : Kinds → Option (Option (JoinedTable × Kinds))
leading_joined tokens =
    either (after_symbol Comma tokens) (λ remaining. leading_joined_by_comma remaining >>=
    λ found. Some (Some found))
    (either (after_join tokens)
    (λ remaining. leading_joined_on remaining >>= λ found. Some (Some found))
    (Some None))

abbrev pub no_sources : Sources
no_sources = record { names = []; conditions = [] }

-- a table put before the others
abbrev pub with_first_table : Name → Option RawCond → Sources → Sources
with_first_table table on others =
    record { names = table ∷ others.names; conditions = option_to_list on ++ others.conditions }

-- the tables and conditions of up to this many joins
abbrev pub leading_all_joined : ℕ → Finder Sources
leading_all_joined zero tokens = None
leading_all_joined (suc n) tokens = leading_joined tokens >>= λ found. either found (λ one. do
  others ← leading_all_joined n one.1
  Some (with_first_table one.0.table one.0.on others.0, others.1)) (Some (no_sources, tokens))

unfoldable pub leading_sources : Finder Sources
leading_sources tokens = do
  table ← leading_name tokens
  others ← leading_all_joined (suc (length table.1)) table.1
  Some (with_first_table table.0 None others.0, others.1)

unfoldable pub leading_where : Finder (Option RawCond)
leading_where tokens =
    either (after_keyword KWhere tokens)
    (λ remaining. leading_condition remaining >>= λ c. Some (Some c.0, c.1))
    (Some (None, tokens))

-- the tables, and the parts of the conditions of ON and WHERE
abbrev pub whole_scope : Sources → Option RawCond → Scope
whole_scope sources last = record {
  tables = sources.names;
  parts = flat_map outer_parts (sources.conditions ++ option_to_list last);
}

-- the tables and the parts of the condition, from FROM onwards
unfoldable pub leading_scope : Finder Scope
leading_scope tokens = do
  named ← after_keyword KFrom tokens
  sources ← leading_sources named
  last ← leading_where sources.1
  let parts = flat_map outer_parts (sources.0.conditions ++ option_to_list last.0)
  Some (record { tables = sources.0.names; parts = parts }, last.1)

abbrev pub draft_of : Bool → List Member → Scope → Draft
draft_of distinct members scope = record { distinct = distinct; members = members; scope = scope }

-- a select after SELECT or DISTINCT, as far as GROUP
unfoldable pub leading_draft_of : Bool → Finder Draft
leading_draft_of distinct tokens = do
  members ← leading_members tokens
  scope ← leading_scope members.1
  Some (draft_of distinct members.0 scope.0, scope.1)

-- a select as far as GROUP
unfoldable pub leading_draft : Finder Draft
leading_draft tokens = do
  remaining ← after_keyword KSelect tokens
  either (after_keyword KDistinct remaining) (leading_draft_of true)
      (leading_draft_of false remaining)

-- a select without GROUP
unfoldable pub ungrouped_select : Draft → Option RawSelect
ungrouped_select draft = do
  items ← each_of ungrouped_item draft.members
  Some (select_with items draft.scope (if draft.distinct then Distinct else Plain))

-- a select with the groups of these columns, and what follows them
abbrev pub select_by : Draft → List RawColumn → Kinds → Option (RawSelect × Kinds)
select_by draft by rest = do
  outs ← if draft.distinct then None else each_of out_of draft.members
  Some (select_with [] draft.scope (Grouped outs by), rest)

-- the rest of a select after GROUP
unfoldable pub leading_grouped : Draft → Finder RawSelect
leading_grouped draft tokens = do
  columns ← after_word (codes "by") tokens
  by ← leading_list leading_column (after_symbol Comma) columns
  outs ← if draft.distinct then None else each_of out_of draft.members
  Some (select_with [] draft.scope (Grouped outs by.0), by.1)

-- the longest select at the front
unfoldable pub leading_select : Finder RawSelect
leading_select tokens = do
  draft ← leading_draft tokens
  either (after_keyword KGroup draft.1) (leading_grouped draft.0)
      (ungrouped_select draft.0 >>= λ s. Some (s, draft.1))
