-- A part of the grammar takes a front of the tokens, and is the same part whatever follows this
-- front.
use Rattle.std.proofs.Common.{◌≡◌, List, [], ◌∷◌, ◌++◌, Option, codes, refl, sym, ap, subst, ◌∙◌}
use Rattle.std.proofs.lemmas.List.{append_assoc}
use Rattle.hippo_values.specs.declared.values.Value.{Value}
use Rattle.hippo_values.specs.declared.keywords.Keyword as words
use Rattle.hippo_values.specs.declared.keywords.Keyword.TheVariants.{KAnd, KBetween, KDistinct, KFrom, KGroup, KIn, KInner, KIs, KJoin, KMax, KMin, KNot, KNull, KOn, KSelect, KWhere}
use Rattle.hippo_stmt_ast.specs.declared.statement.RawColumn.{RawColumn}
use Rattle.hippo_stmt_ast.specs.declared.statement.RawItem.{RawItem}
use Rattle.hippo_stmt_ast.specs.declared.statement.RawOut.{RawOut}
use Rattle.hippo_stmt_ast.specs.declared.statement.RawOperand.{RawOperand}
use Rattle.hippo_stmt_ast.specs.declared.statement.RawSelect.{RawSelect}
use Rattle.hippo_lexer.specs.declared.kinds.Symbol.TheVariants.{Comma, Dot, LeftParen, RightParen, Star}
use Rattle.hippo_lexer.specs.declared.kinds.TokenKind.{TokenKind}
use Rattle.hippo_lexer.specs.declared.kinds.TokenKind.TheVariants.{Word, Keyword, Number, Quoted, Day, Symbol}
use Rattle.hippo_spj_reader.specs.ConditionGrammar as conditions
use Rattle.hippo_spj_reader.specs.ConditionGrammar.{RawCond, IsColumn, bare, qualified, IsLiteral, number, quoted_literal, day, null, IsOperand, column, literal, IsCondition, disjunction, IsConjunction, conjunction, AreJoinedBy, last_joined, more_joined, IsJoinedBy, disjunct, conjunct, IsNegation, negated, IsPrimary, parentheses, comparison, between, not_between, among, not_among, missing, present}
use Rattle.hippo_spj_reader.specs.Front.{Kinds}
use Rattle.hippo_spj_reader.specs.ListGrammar.{IsListOf, last_part, more_parts}
use Rattle.hippo_spj_reader.specs.SelectGrammar.{IsItem, one_column, all_of_table, AreItems, star, listed_items, AreJoined, no_more, comma_table, join, inner_join, IsWhere, no_where, condition, IsScope, scope, IsOut, column_out, minimum, maximum, IsSelect, plain_select, distinct, grouped_select}

-- a part of the grammar takes a front of the tokens, whatever follows
pub record TakesFront (IsPart : Kinds → Kinds → Type 0) (tokens rest : Kinds) : Type 0 where
  pub front : Kinds
  pub parts : tokens ≡ front ++ rest
  pub again : (other : Kinds) → IsPart (front ++ other) other

-- these tokens on their own are the part
alone : {IsPart : Kinds → Kinds → Type 0} (front : Kinds) {rest : Kinds} → ((other : Kinds) → IsPart (front ++ other) other) → TakesFront IsPart (front ++ rest) rest
alone front again = record { front = front; parts = refl; again = again }

-- tokens before and after a part are taken with it
around : {IsPart IsWhole : Kinds → Kinds → Type 0} (before remaining : Kinds) {tokens rest : Kinds} →
    TakesFront IsPart tokens (remaining ++ rest) → ((tokens other : Kinds) → IsPart tokens (remaining ++ other) → IsWhole (before ++ tokens) other) → TakesFront IsWhole (before ++ tokens) rest
around {IsWhole = IsWhole} before remaining {tokens = tokens} {rest = rest} part whole =
    let grouped_by : (other : Kinds) → before ++ (part.front ++ (remaining ++ other)) ≡ before ++ (part.front ++ remaining) ++ other =
    λ other. ap (λ (k : Kinds). before ++ k) (sym (append_assoc part.front remaining other)) ∙ sym (append_assoc before (part.front ++ remaining) other) in
    record {
      front = before ++ (part.front ++ remaining);
      parts = ap (λ (k : Kinds). before ++ k) part.parts ∙ grouped_by rest;
      again = λ other. subst (λ (k : Kinds). IsWhole k other) (grouped_by other) (whole (part.front ++ (remaining ++ other)) other (part.again (remaining ++ other)));
    }

-- a part, some tokens, and then a second part
both : {IsPart IsNext IsWhole : Kinds → Kinds → Type 0} (middle : Kinds) {tokens others rest : Kinds} →
    TakesFront IsPart tokens (middle ++ others) → TakesFront IsNext others rest →
    ((tokens others other : Kinds) → IsPart tokens (middle ++ others) → IsNext others other → IsWhole tokens other) → TakesFront IsWhole tokens rest
both {IsWhole = IsWhole} middle {tokens = tokens} {others = others} {rest = rest} part next whole =
    let grouped_by : (other : Kinds) → part.front ++ (middle ++ (next.front ++ other)) ≡ part.front ++ (middle ++ next.front) ++ other =
    λ other. ap (λ (k : Kinds). part.front ++ k) (sym (append_assoc middle next.front other)) ∙ sym (append_assoc part.front (middle ++ next.front) other) in
    record {
      front = part.front ++ (middle ++ next.front);
      parts = part.parts ∙ (ap (λ (k : Kinds). part.front ++ (middle ++ k)) next.parts ∙ grouped_by rest);
      again = λ other. subst (λ (k : Kinds). IsWhole k other) (grouped_by other)
          (whole (part.front ++ (middle ++ (next.front ++ other))) (next.front ++ other) other (part.again (middle ++ (next.front ++ other))) (next.again other));
    }

-- two parts, and what follows the first of them
abbrev Follow : (Kinds → Kinds → Type 0) → Kinds → (Kinds → Kinds → Type 0) → Kinds → Kinds → Type 0
Follow IsPart middle IsNext tokens rest = (others : Kinds) × IsPart tokens (middle ++ others) × IsNext others rest

followed : {IsPart IsNext : Kinds → Kinds → Type 0} (middle : Kinds) {tokens others rest : Kinds} →
    TakesFront IsPart tokens (middle ++ others) → TakesFront IsNext others rest → TakesFront (Follow IsPart middle IsNext) tokens rest
followed middle part next = both middle part next (λ tokens others other d ds. (others, d, ds))

abbrev Takes : {X : Type 0} → (Kinds → X → Kinds → Type 0) → X → Kinds → Kinds → Type 0
Takes IsPart x tokens rest = TakesFront (λ some other. IsPart some x other) tokens rest

takes-column : {tokens rest : Kinds} {c : RawColumn} → IsColumn tokens c rest → Takes IsColumn c tokens rest
takes-column (bare {column = c}) = alone (Word c ∷ []) (λ other. bare)
takes-column (qualified {table = t} {column = c}) = alone (Word t ∷ Symbol Dot ∷ Word c ∷ []) (λ other. qualified)

takes-literal : {tokens rest : Kinds} {v : Value} → IsLiteral tokens v rest → Takes IsLiteral v tokens rest
takes-literal (number {n = n}) = alone (Number n ∷ []) (λ other. number)
takes-literal (quoted_literal {text = text}) = alone (Quoted text ∷ []) (λ other. quoted_literal)
takes-literal (day {d = d}) = alone (Day d ∷ []) (λ other. day)
takes-literal null = alone (Keyword KNull ∷ []) (λ other. null)

takes-operand : {tokens rest : Kinds} {o : RawOperand} → IsOperand tokens o rest → Takes IsOperand o tokens rest
takes-operand (column c) = around [] [] (takes-column c) (λ tokens other c. column c)
takes-operand (literal l) = around [] [] (takes-literal l) (λ tokens other l. literal l)

takes-list : {X : Type 0} (IsPart : Kinds → X → Kinds → Type 0) (separator : TokenKind) →
    ((tokens rest : Kinds) (x : X) → IsPart tokens x rest → Takes IsPart x tokens rest) →
    {tokens rest : Kinds} {xs : List X} → IsListOf IsPart separator tokens xs rest → Takes (IsListOf IsPart separator) xs tokens rest
takes-list IsPart separator takes (last_part d) = around [] [] (takes _ _ _ d) (λ tokens other d. last_part d)
takes-list IsPart separator takes (more_parts d ds) = both (separator ∷ []) (takes _ _ _ d) (takes-list IsPart separator takes ds) (λ tokens others other d ds. more_parts d ds)

takes-operands : {tokens rest : Kinds} {os : List RawOperand} → IsListOf IsOperand (Symbol Comma) tokens os rest → Takes (IsListOf IsOperand (Symbol Comma)) os tokens rest
takes-operands ds = takes-list IsOperand (Symbol Comma) (λ _ _ _ d. takes-operand d) ds

takes-columns : {tokens rest : Kinds} {cs : List RawColumn} → IsListOf IsColumn (Symbol Comma) tokens cs rest → Takes (IsListOf IsColumn (Symbol Comma)) cs tokens rest
takes-columns ds = takes-list IsColumn (Symbol Comma) (λ _ _ _ d. takes-column d) ds

mutual
  takes-condition : {tokens rest : Kinds} {c : RawCond} → IsCondition tokens c rest → Takes IsCondition c tokens rest
  takes-condition (disjunction ds e) = around [] [] (takes-parts ds) (λ tokens other ds. disjunction ds e)

  takes-conjunction : {tokens rest : Kinds} {c : RawCond} → IsConjunction tokens c rest → Takes IsConjunction c tokens rest
  takes-conjunction (conjunction ds e) = around [] [] (takes-parts ds) (λ tokens other ds. conjunction ds e)

  takes-parts : {keyword : words.Keyword} {tokens rest : Kinds} {cs : List RawCond} → AreJoinedBy keyword tokens cs rest → Takes (AreJoinedBy keyword) cs tokens rest
  takes-parts (last_joined d) = around [] [] (takes-part d) (λ tokens other d. last_joined d)
  takes-parts (more_joined {keyword = keyword} d ds) = both (Keyword keyword ∷ []) (takes-part d) (takes-parts ds) (λ tokens others other d ds. more_joined d ds)

  takes-part : {keyword : words.Keyword} {tokens rest : Kinds} {c : RawCond} → IsJoinedBy keyword tokens c rest → Takes (IsJoinedBy keyword) c tokens rest
  takes-part (disjunct d) = around [] [] (takes-conjunction d) (λ tokens other d. disjunct d)
  takes-part (conjunct d) = around [] [] (takes-negation d) (λ tokens other d. conjunct d)

  takes-negation : {tokens rest : Kinds} {c : RawCond} → IsNegation tokens c rest → Takes IsNegation c tokens rest
  takes-negation (negated d e) = around (Keyword KNot ∷ []) [] (takes-negation d) (λ tokens other d. negated d e)
  takes-negation (conditions.plain d) = around [] [] (takes-primary d) (λ tokens other d. conditions.plain d)

  takes-primary : {tokens rest : Kinds} {c : RawCond} → IsPrimary tokens c rest → Takes IsPrimary c tokens rest
  takes-primary (parentheses d) = around (Symbol LeftParen ∷ []) (Symbol RightParen ∷ []) (takes-condition d) (λ tokens other d. parentheses d)
  takes-primary (comparison {sign = sign} a op b) = both (Symbol sign ∷ []) (takes-operand a) (takes-operand b) (λ tokens others other a b. comparison a op b)
  takes-primary (between a b d) = both (Keyword KBetween ∷ []) (takes-operand a) (followed (Keyword KAnd ∷ []) (takes-operand b) (takes-operand d)) (λ tokens others other a bounds. between a bounds.1 bounds.2)
  takes-primary (not_between a b d e) =
      both (Keyword KNot ∷ Keyword KBetween ∷ []) (takes-operand a) (followed (Keyword KAnd ∷ []) (takes-operand b) (takes-operand d)) (λ tokens others other a bounds. not_between a bounds.1 bounds.2 e)
  takes-primary (among a ds) =
      both (Keyword KIn ∷ Symbol LeftParen ∷ []) (takes-operand a) (around [] (Symbol RightParen ∷ []) (takes-operands ds) (λ tokens other ds. ds)) (λ tokens others other a ds. among a ds)
  takes-primary (not_among a ds e) =
      both (Keyword KNot ∷ Keyword KIn ∷ Symbol LeftParen ∷ []) (takes-operand a) (around [] (Symbol RightParen ∷ []) (takes-operands ds) (λ tokens other ds. ds)) (λ tokens others other a ds. not_among a ds e)
  takes-primary (missing a) = around [] (Keyword KIs ∷ Keyword KNull ∷ []) (takes-operand a) (λ tokens other a. missing a)
  takes-primary (present a e) = around [] (Keyword KIs ∷ Keyword KNot ∷ Keyword KNull ∷ []) (takes-operand a) (λ tokens other a. present a e)

takes-item : {tokens rest : Kinds} {i : RawItem} → IsItem tokens i rest → Takes IsItem i tokens rest
takes-item (one_column c) = around [] [] (takes-column c) (λ tokens other c. one_column c)
takes-item (all_of_table {table = t}) = alone (Word t ∷ Symbol Dot ∷ Symbol Star ∷ []) (λ other. all_of_table)

takes-items : {tokens rest : Kinds} {items : List RawItem} → AreItems tokens items rest → Takes AreItems items tokens rest
takes-items star = alone (Symbol Star ∷ []) (λ other. star)
takes-items (listed_items ds) = around [] [] (takes-list IsItem (Symbol Comma) (λ _ _ _ d. takes-item d) ds) (λ tokens other ds. listed_items ds)

takes-out : {tokens rest : Kinds} {o : RawOut} → IsOut tokens o rest → Takes IsOut o tokens rest
takes-out (column_out c) = around [] [] (takes-column c) (λ tokens other c. column_out c)
takes-out (minimum c) = around (Keyword KMin ∷ Symbol LeftParen ∷ []) (Symbol RightParen ∷ []) (takes-column c) (λ tokens other c. minimum c)
takes-out (maximum c) = around (Keyword KMax ∷ Symbol LeftParen ∷ []) (Symbol RightParen ∷ []) (takes-column c) (λ tokens other c. maximum c)

takes-joined : {tokens rest : Kinds} {tables : List _} {conditions : List RawCond} → AreJoined tokens tables conditions rest → TakesFront (λ some other. AreJoined some tables conditions other) tokens rest
takes-joined no_more = alone [] (λ other. no_more)
takes-joined (comma_table {table = t} d) = around (Symbol Comma ∷ Word t ∷ []) [] (takes-joined d) (λ tokens other d. comma_table d)
takes-joined (join {table = t} d ds) =
    around (Keyword KJoin ∷ Word t ∷ Keyword KOn ∷ []) [] (followed [] (takes-condition d) (takes-joined ds)) (λ tokens other on. join on.1 on.2)
takes-joined (inner_join {table = t} d ds) =
    around (Keyword KInner ∷ Keyword KJoin ∷ Word t ∷ Keyword KOn ∷ []) [] (followed [] (takes-condition d) (takes-joined ds)) (λ tokens other on. inner_join on.1 on.2)

takes-where : {tokens rest : Kinds} {last : Option RawCond} → IsWhere tokens last rest → Takes IsWhere last tokens rest
takes-where no_where = alone [] (λ other. no_where)
takes-where (condition d) = around (Keyword KWhere ∷ []) [] (takes-condition d) (λ tokens other d. condition d)

takes-scope : {tokens rest : Kinds} {s : _} → IsScope tokens s rest → Takes IsScope s tokens rest
takes-scope (scope {table = t} are_joined is_where is_whole) =
    around (Keyword KFrom ∷ Word t ∷ []) [] (followed [] (takes-joined are_joined) (takes-where is_where)) (λ tokens other sources. scope sources.1 sources.2 is_whole)

-- a select takes a front of the tokens, and is the same select whatever follows
pub takes-select : {tokens rest : Kinds} {s : RawSelect} → IsSelect tokens s rest → Takes IsSelect s tokens rest
takes-select (plain_select are_items is_scope) =
    around (Keyword KSelect ∷ []) [] (followed [] (takes-items are_items) (takes-scope is_scope)) (λ tokens other parts. plain_select parts.1 parts.2)
takes-select (distinct are_items is_scope) =
    around (Keyword KSelect ∷ Keyword KDistinct ∷ []) [] (followed [] (takes-items are_items) (takes-scope is_scope)) (λ tokens other parts. distinct parts.1 parts.2)
takes-select (grouped_select are_outs is_scope are_columns) =
    around (Keyword KSelect ∷ []) []
    (followed [] (takes-list IsOut (Symbol Comma) (λ _ _ _ d. takes-out d) are_outs)
    (followed (Keyword KGroup ∷ Word (codes "by") ∷ []) (takes-scope is_scope) (takes-columns are_columns)))
    (λ tokens other parts. grouped_select parts.1 parts.2.1 parts.2.2)
