-- The grammar of selects. Each relation says that the tokens begin with such a part, how the part
-- reads, and what follows it.
use Rattle.std.specs.Prelude.{◌≡◌, List, [], ◌∷◌, ◌++◌, codes, option_to_list, Option, Some, None}
use Rattle.std.specs.List.{flat_map}
use Rattle.hippo_values.specs.declared.names.Name.{Name}
use Rattle.hippo_model.specs.declared.query.CondOf.{All}
use Rattle.hippo_stmt_ast.specs.declared.statement.RawColumn.{RawColumn}
use Rattle.hippo_stmt_ast.specs.declared.statement.RawItem.{RawItem}
use Rattle.hippo_stmt_ast.specs.declared.statement.RawItem.TheVariants as item
use Rattle.hippo_stmt_ast.specs.declared.statement.RawForm.{RawForm}
use Rattle.hippo_stmt_ast.specs.declared.statement.RawForm.TheVariants.{Plain, Distinct, Grouped}
use Rattle.hippo_stmt_ast.specs.declared.statement.RawOut.{RawOut}
use Rattle.hippo_stmt_ast.specs.declared.statement.RawOut.TheVariants as out
use Rattle.hippo_stmt_ast.specs.declared.statement.RawSelect.{RawSelect}
use Rattle.hippo_values.specs.declared.keywords.Keyword.TheVariants.{KDistinct, KFrom, KGroup, KInner, KJoin, KMax, KMin, KOn, KSelect, KWhere}
use Rattle.hippo_lexer.specs.declared.kinds.Symbol.TheVariants.{Comma, Dot, LeftParen, RightParen, Star}
use Rattle.hippo_lexer.specs.declared.kinds.TokenKind.TheVariants.{Word, Keyword, Symbol}
use Rattle.hippo_model.specs.Conditions.{outer_parts}
use Rattle.hippo_spj_reader.specs.Front.{Kinds}
use Rattle.hippo_spj_reader.specs.declared.selects.Scope.{Scope}
use Rattle.hippo_spj_reader.specs.ConditionGrammar.{RawCond, IsColumn, IsCondition}
use Rattle.hippo_spj_reader.specs.ListGrammar.{IsListOf}

-- item = column | t "." "*"
pub data IsItem : Kinds → RawItem → Kinds → Type 0 where
  one_column : {c : RawColumn} {tokens rest : Kinds} → IsColumn tokens c rest
      → IsItem tokens (item.One c) rest
  all_of_table : {table : Name} {rest : Kinds} →
      IsItem (Word table ∷ Symbol Dot ∷ Symbol Star ∷ rest) (item.AllOf table) rest

-- items = "*" | item {"," item}
pub data AreItems : Kinds → List RawItem → Kinds → Type 0 where
  star : {rest : Kinds} → AreItems (Symbol Star ∷ rest) (item.All ∷ []) rest
  listed_items : {items : List RawItem} {tokens rest : Kinds} →
      IsListOf IsItem (Symbol Comma) tokens items rest → AreItems tokens items rest

-- {"," t | [INNER] JOIN t ON cond}: the tables, and the conditions of ON
pub data AreJoined : Kinds → List Name → List RawCond → Kinds → Type 0 where
  no_more : {rest : Kinds} → AreJoined rest [] [] rest
  comma_table : {table : Name} {tables : List Name} {conditions : List RawCond}
      {others rest : Kinds} →
      AreJoined others tables conditions rest →
      AreJoined (Symbol Comma ∷ Word table ∷ others) (table ∷ tables) conditions rest
  join : {table : Name} {tables : List Name} {condition : RawCond} {conditions : List RawCond}
      {on others rest : Kinds} →
      IsCondition on condition others → AreJoined others tables conditions rest →
      AreJoined (Keyword KJoin ∷ Word table ∷ Keyword KOn ∷ on) (table ∷ tables)
      (condition ∷ conditions) rest
  inner_join : {table : Name} {tables : List Name} {condition : RawCond} {conditions : List RawCond}
      {on others rest : Kinds} →
      IsCondition on condition others → AreJoined others tables conditions rest →
      AreJoined (Keyword KInner ∷ Keyword KJoin ∷ Word table ∷ Keyword KOn ∷ on)
      (table ∷ tables) (condition ∷ conditions) rest

-- [WHERE cond]: the condition, if there is one
pub data IsWhere : Kinds → Option RawCond → Kinds → Type 0 where
  no_where : {rest : Kinds} → IsWhere rest None rest
  condition : {condition : RawCond} {tokens rest : Kinds} →
      IsCondition tokens condition rest → IsWhere (Keyword KWhere ∷ tokens) (Some condition) rest

-- the conditions of ON and WHERE form one All; an All among them is replaced by its parts
abbrev pub whole_condition : List RawCond → RawCond
whole_condition conditions = All (flat_map outer_parts conditions)

-- FROM t {"," t | [INNER] JOIN t ON cond} [WHERE cond]: the tables, and the parts of the condition
pub data IsScope : Kinds → Scope → Kinds → Type 0 where
  scope : {table : Name} {tables : List Name} {parts conditions : List RawCond}
      {last : Option RawCond} {joined remaining rest : Kinds} →
      AreJoined joined tables conditions remaining → IsWhere remaining last rest →
      parts ≡ flat_map outer_parts (conditions ++ option_to_list last) →
      IsScope (Keyword KFrom ∷ Word table ∷ joined)
      (record { tables = table ∷ tables; parts = parts }) rest

-- a select with these items and of this form; the parts of its condition form one All
abbrev pub select_with : List RawItem → Scope → RawForm → RawSelect
select_with items in_scope form =
    record { items = items; tables = in_scope.tables; cond = All in_scope.parts; form = form }

-- gitem = column | (MIN | MAX) "(" column ")"
pub data IsOut : Kinds → RawOut → Kinds → Type 0 where
  column_out : {c : RawColumn} {tokens rest : Kinds} → IsColumn tokens c rest
      → IsOut tokens (out.Column c) rest
  minimum : {c : RawColumn} {tokens rest : Kinds} →
      IsColumn tokens c (Symbol RightParen ∷ rest) →
      IsOut (Keyword KMin ∷ Symbol LeftParen ∷ tokens) (out.Min c) rest
  maximum : {c : RawColumn} {tokens rest : Kinds} →
      IsColumn tokens c (Symbol RightParen ∷ rest) →
      IsOut (Keyword KMax ∷ Symbol LeftParen ∷ tokens) (out.Max c) rest

-- select = SELECT [DISTINCT] items FROM sources [WHERE cond]
--        | SELECT gitem {"," gitem} FROM sources [WHERE cond] GROUP by column {"," column}
pub data IsSelect : Kinds → RawSelect → Kinds → Type 0 where
  plain_select : {items : List RawItem} {in_scope : Scope} {tokens from rest : Kinds} →
      AreItems tokens items from → IsScope from in_scope rest →
      IsSelect (Keyword KSelect ∷ tokens) (select_with items in_scope Plain) rest
  distinct : {items : List RawItem} {in_scope : Scope} {tokens from rest : Kinds} →
      AreItems tokens items from → IsScope from in_scope rest →
      IsSelect (Keyword KSelect ∷ Keyword KDistinct ∷ tokens) (select_with items in_scope Distinct)
      rest
  grouped_select : {outs : List RawOut} {by : List RawColumn} {in_scope : Scope}
      {tokens from columns rest : Kinds} →
      IsListOf IsOut (Symbol Comma) tokens outs from →
      IsScope from in_scope (Keyword KGroup ∷ Word (codes "by") ∷ columns) →
      IsListOf IsColumn (Symbol Comma) columns by rest →
      IsSelect (Keyword KSelect ∷ tokens) (select_with [] in_scope (Grouped outs by)) rest
