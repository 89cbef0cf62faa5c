-- The members of a select list that are found are the grammar's, once the select's form is known.
use Rattle.std.proofs.Common.{◌≡◌, suc, ◌<◌, List, [], ◌∷◌, length, map, Option, Some, None, refl, arith}
use Rattle.std.proofs.lemmas.Option.{none-some, same_Some, some_pair_parts}
use Rattle.hippo_stmt_ast.specs.declared.statement.RawColumn.{RawColumn}
use Rattle.hippo_stmt_ast.specs.declared.statement.RawItem.{RawItem}
use Rattle.hippo_stmt_ast.specs.declared.statement.RawItem.TheVariants as item
use Rattle.hippo_stmt_ast.specs.declared.statement.RawOut.{RawOut}
use Rattle.hippo_stmt_ast.specs.declared.statement.RawOut.TheVariants as out
use Rattle.hippo_values.specs.declared.keywords.Keyword as words
use Rattle.hippo_values.specs.declared.keywords.Keyword.TheVariants.{KDistinct, KMax, KMin}
use Rattle.hippo_lexer.specs.declared.kinds.Symbol.TheVariants.{Comma, Dot, LeftParen, RightParen, Star}
use Rattle.hippo_lexer.specs.declared.kinds.TokenKind.{TokenKind}
use Rattle.hippo_lexer.specs.declared.kinds.TokenKind.TheVariants.{Keyword, Symbol}
use Rattle.hippo_spj_reader.specs.declared.selects.Member.{Member}
use Rattle.hippo_spj_reader.specs.declared.selects.Member.TheVariants as member
use Rattle.hippo_spj_reader.specs.Front.{after_keyword, after_symbol}
use Rattle.hippo_spj_reader.specs.ConditionGrammar.{IsColumn, bare, qualified}
use Rattle.hippo_spj_reader.specs.ConditionFinder.{leading_column}
use Rattle.hippo_spj_reader.specs.ListGrammar.{IsListOf, last_part, more_parts}
use Rattle.hippo_spj_reader.specs.SelectGrammar.{IsItem, one_column, all_of_table, AreItems, star, listed_items, IsOut, column_out, minimum, maximum}
use Rattle.hippo_spj_reader.specs.SelectFinder.{leading_whole_table, leading_item, leading_argument, leading_member, leading_members, ungrouped_item, out_of, each_of}
use Rattle.hippo_spj_reader.proofs.FrontTheorem.{found_then, choice, symbol_then, name_then, keyword_choice, symbol_choice, after_symbol-some, read_as}
use Rattle.hippo_spj_reader.proofs.ListTheorem.{parts_found, list_complete}
use Rattle.hippo_spj_reader.proofs.OperandTheorem.{column_found, column_complete, column_shorter}

-- an item, MIN or MAX
pub data IsMember : List TokenKind → Member → List TokenKind → Type 0 where
  of_item : {i : RawItem} {tokens rest : List TokenKind} → IsItem tokens i rest → IsMember tokens (member.Item i) rest
  of_min : {c : RawColumn} {tokens rest : List TokenKind} →
      IsColumn tokens c (Symbol RightParen ∷ rest) → IsMember (Keyword KMin ∷ Symbol LeftParen ∷ tokens) (member.Min c) rest
  of_max : {c : RawColumn} {tokens rest : List TokenKind} →
      IsColumn tokens c (Symbol RightParen ∷ rest) → IsMember (Keyword KMax ∷ Symbol LeftParen ∷ tokens) (member.Max c) rest

-- a star, or members separated by commas
pub data AreMembers : List TokenKind → List Member → List TokenKind → Type 0 where
  star_member : {rest : List TokenKind} → AreMembers (Symbol Star ∷ rest) (member.Item item.All ∷ []) rest
  listed_members : {members : List Member} {tokens rest : List TokenKind} → IsListOf IsMember (Symbol Comma) tokens members rest → AreMembers tokens members rest

item_found : (tokens : List TokenKind) (i : RawItem) (rest : List TokenKind) → leading_item tokens ≡ Some (i, rest) → IsItem tokens i rest
unfolding leading_item
item_found tokens i rest e =
    choice (leading_whole_table tokens) _ _ _ e
    (λ table found e.
    name_then tokens _ _ found (λ name remaining is_name found.
    symbol_then Dot remaining _ _ found (λ after is_dot found.
    symbol_then Star after _ _ found (λ left is_star found.
    let whole = some_pair_parts name table.0 left table.1 found in
    rw (is_name, is_dot, is_star, whole.0, whole.1) (read_as IsItem _ _ _ _ _ e all_of_table)))))
    (λ _ e. found_then (leading_column tokens) _ _ e (λ c found e. read_as IsItem tokens _ _ _ _ e (one_column (column_found tokens c.0 c.1 found))))

argument_found : {P : Type 0} (tokens : List TokenKind) (c : RawColumn) (rest : List TokenKind) → leading_argument tokens ≡ Some (c, rest) →
    ((inside : List TokenKind) → tokens ≡ Symbol LeftParen ∷ inside → IsColumn inside c (Symbol RightParen ∷ rest) → P) → P
unfolding leading_argument
argument_found tokens c rest e next =
    symbol_then LeftParen tokens _ _ e (λ inside is_open e.
    found_then (leading_column inside) _ _ e (λ column found e.
    symbol_then RightParen column.1 _ _ e (λ left is_close e.
    let whole = some_pair_parts column.0 c left rest e in
    let is_column : IsColumn inside c (Symbol RightParen ∷ rest) = rw (is_close, whole.0, whole.1) at (column_found inside column.0 column.1 found) in
    next inside is_open is_column)))

member_found : (tokens : List TokenKind) (m : Member) (rest : List TokenKind) → leading_member tokens ≡ Some (m, rest) → IsMember tokens m rest
unfolding leading_member
member_found tokens m rest e =
    keyword_choice KMin tokens _ _ _ e
    (λ remaining is_min e. found_then (leading_argument remaining) _ _ e (λ c found e.
    argument_found remaining c.0 c.1 found (λ inside is_open is_column. rw (is_min, is_open) (read_as IsMember _ _ _ _ _ e (of_min is_column)))))
    (λ _ e. keyword_choice KMax tokens _ _ _ e
    (λ remaining is_max e. found_then (leading_argument remaining) _ _ e (λ c found e.
    argument_found remaining c.0 c.1 found (λ inside is_open is_column. rw (is_max, is_open) (read_as IsMember _ _ _ _ _ e (of_max is_column)))))
    (λ _ e. found_then (leading_item tokens) _ _ e (λ i found e. read_as IsMember tokens _ _ _ _ e (of_item (item_found tokens i.0 i.1 found)))))

pub members_found : (tokens : List TokenKind) (members : List Member) (rest : List TokenKind) → leading_members tokens ≡ Some (members, rest) → AreMembers tokens members rest
unfolding leading_members
members_found tokens members rest e =
    symbol_choice Star tokens _ _ _ e
    (λ left is_star e. rw is_star (read_as AreMembers _ _ _ _ _ e star_member))
    (λ _ e. listed_members (parts_found leading_member (after_symbol Comma) IsMember (Symbol Comma) (IsListOf IsMember (Symbol Comma)) member_found (after_symbol-some Comma)
    (λ _ _ _ d. last_part d) (λ _ _ _ _ _ d ds. more_parts d ds) (suc (length tokens)) tokens members rest e))

-- a list of parts of one kind, each of which is also of another kind
module _ {X Y : Type 0} (IsX : List TokenKind → X → List TokenKind → Type 0) (IsY : List TokenKind → Y → List TokenKind → Type 0) (separator : TokenKind) (f : X → Option Y)
    (turned : (tokens : List TokenKind) (x : X) (y : Y) (rest : List TokenKind) → IsX tokens x rest → f x ≡ Some y → IsY tokens y rest) where
  list_as : (tokens : List TokenKind) (xs : List X) (ys : List Y) (rest : List TokenKind) → IsListOf IsX separator tokens xs rest → each_of f xs ≡ Some ys → IsListOf IsY separator tokens ys rest
  list_as tokens _ ys rest (last_part {part = x} d) e =
      found_then (f x) _ _ e (λ y is_y e. rw (← same_Some (y ∷ []) ys e) (last_part (turned tokens x y rest d is_y)))
  list_as tokens _ ys rest (more_parts {part = x} {parts = xs} {others = others} d ds) e =
      found_then (f x) _ _ e (λ y is_y e.
      found_then (each_of f xs) _ _ e (λ left is_left e.
      rw (← same_Some (y ∷ left) ys e) (more_parts (turned tokens x y _ d is_y) (list_as others xs left rest ds is_left))))

as_item : (tokens : List TokenKind) (m : Member) (i : RawItem) (rest : List TokenKind) → IsMember tokens m rest → ungrouped_item m ≡ Some i → IsItem tokens i rest
as_item tokens m i rest (of_item {i = j} d) e = rw (← same_Some j i e) d
as_item tokens m i rest (of_min d) e = absurd (none-some i e)
as_item tokens m i rest (of_max d) e = absurd (none-some i e)

as_out : (tokens : List TokenKind) (m : Member) (o : RawOut) (rest : List TokenKind) → IsMember tokens m rest → out_of m ≡ Some o → IsOut tokens o rest
as_out tokens m o rest (of_item (one_column {c = c} d)) e = rw (← same_Some (out.Column c) o e) (column_out d)
as_out tokens m o rest (of_item all_of_table) e = absurd (none-some o e)
as_out tokens m o rest (of_min {c = c} d) e = rw (← same_Some (out.Min c) o e) (minimum d)
as_out tokens m o rest (of_max {c = c} d) e = rw (← same_Some (out.Max c) o e) (maximum d)

pub as_items : (tokens : List TokenKind) (members : List Member) (items : List RawItem) (rest : List TokenKind) → AreMembers tokens members rest → each_of ungrouped_item members ≡ Some items → AreItems tokens items rest
as_items tokens _ items rest star_member e = rw (← same_Some (item.All ∷ []) items e) star
as_items tokens members items rest (listed_members ds) e = listed_items (list_as IsMember IsItem (Symbol Comma) ungrouped_item as_item tokens members items rest ds e)

pub as_outs : (tokens : List TokenKind) (members : List Member) (outs : List RawOut) (rest : List TokenKind) → AreMembers tokens members rest → each_of out_of members ≡ Some outs → IsListOf IsOut (Symbol Comma) tokens outs rest
as_outs tokens _ outs rest star_member e = absurd (none-some outs e)
as_outs tokens members outs rest (listed_members ds) e = list_as IsMember IsOut (Symbol Comma) out_of as_out tokens members outs rest ds e

item_complete : (tokens : List TokenKind) (i : RawItem) (rest : List TokenKind) → IsItem tokens i rest → after_symbol Dot rest ≡ None → leading_item tokens ≡ Some (i, rest)
unfolding leading_item
item_complete tokens i rest (one_column bare) no_dot = rw no_dot refl
item_complete tokens i rest (one_column qualified) no_dot = refl
item_complete tokens i rest all_of_table no_dot = refl

-- an item begins with a name
item-no_keyword : (keyword : words.Keyword) (tokens : List TokenKind) (i : RawItem) (rest : List TokenKind) → IsItem tokens i rest → after_keyword keyword tokens ≡ None
item-no_keyword keyword tokens i rest (one_column bare) = refl
item-no_keyword keyword tokens i rest (one_column qualified) = refl
item-no_keyword keyword tokens i rest all_of_table = refl

item-no_star : (tokens : List TokenKind) (i : RawItem) (rest : List TokenKind) → IsItem tokens i rest → after_symbol Star tokens ≡ None
item-no_star tokens i rest (one_column bare) = refl
item-no_star tokens i rest (one_column qualified) = refl
item-no_star tokens i rest all_of_table = refl

member_complete : (tokens : List TokenKind) (m : Member) (rest : List TokenKind) → IsMember tokens m rest → after_symbol Dot rest ≡ None → leading_member tokens ≡ Some (m, rest)
unfolding leading_member leading_argument
member_complete tokens m rest (of_item d) no_dot = rw (item-no_keyword KMin tokens _ rest d, item-no_keyword KMax tokens _ rest d, item_complete tokens _ rest d no_dot) refl
member_complete _ m rest (of_min {tokens = tokens} d) no_dot = rw (column_complete tokens _ (Symbol RightParen ∷ rest) d refl) refl
member_complete _ m rest (of_max {tokens = tokens} d) no_dot = rw (column_complete tokens _ (Symbol RightParen ∷ rest) d refl) refl

member_shorter : (tokens : List TokenKind) (m : Member) (rest : List TokenKind) → IsMember tokens m rest → length rest < length tokens
member_shorter tokens m rest (of_item (one_column c)) = column_shorter tokens _ rest c
member_shorter tokens m rest (of_item all_of_table) = omega arith
member_shorter _ m rest (of_min {tokens = tokens} d) =
    let inside : length (Symbol RightParen ∷ rest) < length tokens = column_shorter tokens _ (Symbol RightParen ∷ rest) d in
    omega (arith, inside)
member_shorter _ m rest (of_max {tokens = tokens} d) =
    let inside : length (Symbol RightParen ∷ rest) < length tokens = column_shorter tokens _ (Symbol RightParen ∷ rest) d in
    omega (arith, inside)

member-no_star : (tokens : List TokenKind) (m : Member) (rest : List TokenKind) → IsMember tokens m rest → after_symbol Star tokens ≡ None
member-no_star tokens m rest (of_item d) = item-no_star tokens _ rest d
member-no_star tokens m rest (of_min d) = refl
member-no_star tokens m rest (of_max d) = refl

member-no_distinct : (tokens : List TokenKind) (m : Member) (rest : List TokenKind) → IsMember tokens m rest → after_keyword KDistinct tokens ≡ None
member-no_distinct tokens m rest (of_item d) = item-no_keyword KDistinct tokens _ rest d
member-no_distinct tokens m rest (of_min d) = refl
member-no_distinct tokens m rest (of_max d) = refl

list-no_star : (tokens : List TokenKind) (members : List Member) (rest : List TokenKind) → IsListOf IsMember (Symbol Comma) tokens members rest → after_symbol Star tokens ≡ None
list-no_star tokens members rest (last_part d) = member-no_star tokens _ rest d
list-no_star tokens members rest (more_parts d ds) = member-no_star tokens _ _ d

-- the members of a list do not begin with DISTINCT
pub members-no_distinct : (tokens : List TokenKind) (members : List Member) (rest : List TokenKind) → AreMembers tokens members rest → after_keyword KDistinct tokens ≡ None
members-no_distinct _ members rest star_member = refl
members-no_distinct tokens _ rest (listed_members (last_part d)) = member-no_distinct tokens _ rest d
members-no_distinct tokens _ rest (listed_members (more_parts d ds)) = member-no_distinct tokens _ _ d

pub members_complete : (tokens : List TokenKind) (members : List Member) (rest : List TokenKind) → AreMembers tokens members rest → after_symbol Dot rest ≡ None → after_symbol Comma rest ≡ None → leading_members tokens ≡ Some (members, rest)
unfolding leading_members
members_complete _ members rest star_member no_dot no_comma = refl
members_complete tokens members rest (listed_members ds) no_dot no_comma =
    rw (list-no_star tokens members rest ds)
    (list_complete leading_member (after_symbol Comma) IsMember (Symbol Comma) (λ rest. after_symbol Dot rest ≡ None) member_complete (λ _. refl) (λ _ _ _ _. refl) member_shorter
    tokens members rest ds no_dot no_comma)

-- conversely: a list of the other kind, in which each part is found again
module _ {X Y : Type 0} (IsX : List TokenKind → X → List TokenKind → Type 0) (IsY : List TokenKind → Y → List TokenKind → Type 0) (separator : TokenKind) (g : Y → X)
    (from : (tokens : List TokenKind) (y : Y) (rest : List TokenKind) → IsY tokens y rest → IsX tokens (g y) rest) where
  list_from : (tokens : List TokenKind) (ys : List Y) (rest : List TokenKind) → IsListOf IsY separator tokens ys rest → IsListOf IsX separator tokens (map g ys) rest
  list_from tokens _ rest (last_part {part = y} d) = last_part (from tokens y rest d)
  list_from tokens _ rest (more_parts {part = y} {parts = ys} {others = others} d ds) = more_parts (from tokens y _ d) (list_from others ys rest ds)

each_back : {X Y : Type 0} (f : X → Option Y) (g : Y → X) (back : (y : Y) → f (g y) ≡ Some y) (ys : List Y) → each_of f (map g ys) ≡ Some ys
each_back f g back [] = refl
each_back f g back (y ∷ ys) = rw (back y, each_back f g back ys) refl

abbrev pub member_of_out : RawOut → Member
member_of_out (out.Column c) = member.Item (item.One c)
member_of_out (out.Min c) = member.Min c
member_of_out (out.Max c) = member.Max c

from_out : (tokens : List TokenKind) (o : RawOut) (rest : List TokenKind) → IsOut tokens o rest → IsMember tokens (member_of_out o) rest
from_out tokens o rest (column_out d) = of_item (one_column d)
from_out tokens o rest (minimum d) = of_min d
from_out tokens o rest (maximum d) = of_max d

out_back : (o : RawOut) → out_of (member_of_out o) ≡ Some o
out_back (out.Column c) = refl
out_back (out.Min c) = refl
out_back (out.Max c) = refl

pub from_items : (tokens : List TokenKind) (items : List RawItem) (rest : List TokenKind) → AreItems tokens items rest → AreMembers tokens (map member.Item items) rest
from_items tokens _ rest star = star_member
from_items tokens items rest (listed_items ds) = listed_members (list_from IsMember IsItem (Symbol Comma) (λ i. member.Item i) (λ _ _ _ d. of_item d) tokens items rest ds)

pub items_back : (items : List RawItem) → each_of ungrouped_item (map member.Item items) ≡ Some items
items_back items = each_back ungrouped_item (λ i. member.Item i) (λ i. refl) items

pub from_outs : (tokens : List TokenKind) (outs : List RawOut) (rest : List TokenKind) → IsListOf IsOut (Symbol Comma) tokens outs rest → AreMembers tokens (map member_of_out outs) rest
from_outs tokens outs rest ds = listed_members (list_from IsMember IsOut (Symbol Comma) member_of_out from_out tokens outs rest ds)

pub outs_back : (outs : List RawOut) → each_of out_of (map member_of_out outs) ≡ Some outs
outs_back outs = each_back out_of member_of_out out_back outs
