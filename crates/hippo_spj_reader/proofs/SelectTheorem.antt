-- The select that is found is the grammar's.
use Rattle.std.proofs.Common.{◌≡◌, ℕ, zero, suc, ◌<◌, Bool, true, false, List, [], ◌∷◌, ◌++◌, length, map, codes, option_to_list, Option, Some, None, refl, sym, ◌∙◌, arith}
use Rattle.std.proofs.lemmas.Option.{none-some, same_Some, some_pair_parts}
use Rattle.hippo_stmt_ast.specs.declared.statement.RawForm.TheVariants.{Plain, Distinct}
use Rattle.hippo_stmt_ast.specs.declared.statement.RawSelect.{RawSelect}
use Rattle.hippo_values.specs.declared.keywords.Keyword.TheVariants.{KDistinct, KFrom, KGroup, KInner, KJoin, KOn, KSelect, KWhere}
use Rattle.hippo_lexer.specs.declared.kinds.Symbol.TheVariants.{Comma, Dot, Semicolon}
use Rattle.hippo_lexer.specs.declared.kinds.TokenKind.{TokenKind}
use Rattle.hippo_lexer.specs.declared.kinds.TokenKind.TheVariants.{Word, Keyword, Symbol}
use Rattle.hippo_spj_reader.specs.declared.selects.Draft.{Draft}
use Rattle.hippo_spj_reader.specs.declared.selects.JoinedTable.{JoinedTable}
use Rattle.hippo_spj_reader.specs.declared.selects.Member.{Member}
use Rattle.hippo_spj_reader.specs.declared.selects.Member.TheVariants as member
use Rattle.hippo_spj_reader.specs.declared.selects.Scope.{Scope}
use Rattle.hippo_spj_reader.specs.declared.selects.Sources.{Sources}
use Rattle.hippo_spj_reader.specs.Front.{after_keyword, after_symbol}
use Rattle.hippo_spj_reader.specs.ConditionGrammar.{RawCond, IsCondition}
use Rattle.hippo_spj_reader.specs.ConditionFinder.{leading_column, leading_condition}
use Rattle.hippo_spj_reader.specs.ListFinder.{leading_list}
use Rattle.hippo_spj_reader.specs.SelectGrammar.{AreJoined, no_more, comma_table, join, inner_join, IsWhere, no_where, condition, IsScope, scope, select_with, IsSelect, plain_select, distinct, grouped_select}
use Rattle.hippo_spj_reader.specs.SelectFinder.{ungrouped_item, out_of, each_of, after_join, joined_table, leading_joined_by_comma, leading_joined_on, leading_joined, no_sources, with_first_table, leading_all_joined, leading_sources, leading_where, leading_scope, draft_of, leading_draft_of, leading_draft, leading_members, ungrouped_select, leading_grouped, leading_select}
use Rattle.hippo_spj_reader.proofs.FrontTheorem.{found_then, choice, keyword_then, word_then, name_then, keyword_choice, symbol_choice, after_keyword-some, read_as}
use Rattle.hippo_spj_reader.proofs.NameTheorem.{columns_found, columns_complete}
use Rattle.hippo_spj_reader.proofs.MemberTheorem.{AreMembers, members_found, as_items, as_outs, members-no_distinct, members_complete, from_items, items_back, from_outs, outs_back, member_of_out}
use Rattle.hippo_spj_reader.proofs.ConditionTheorem as theorem
use Rattle.hippo_spj_reader.proofs.ConditionTheorem.{Ends}

on_found : {P : Type 0} (tokens : List TokenKind) (entry : JoinedTable) (left : List TokenKind) → leading_joined_on tokens ≡ Some (entry, left) →
    ((remaining : List TokenKind) (c : RawCond) (table : List ℕ) → tokens ≡ Word table ∷ Keyword KOn ∷ remaining → IsCondition remaining c left → entry ≡ joined_table table (Some c) → P) → P
on_found tokens entry left e next =
    name_then tokens _ _ e (λ name remaining is_name e.
    keyword_then KOn remaining _ _ e (λ conditions is_on e.
    found_then (leading_condition conditions) _ _ e (λ c found e.
    let whole = some_pair_parts (joined_table name (Some c.0)) entry c.1 left e in
    let is_condition : IsCondition conditions c.0 left = rw whole.1 at (theorem.found conditions c.0 c.1 found) in
    next conditions c.0 name (rw (is_name, is_on) refl) is_condition (sym whole.0))))

after_join_found : {P : Type 0} (tokens remaining : List TokenKind) → after_join tokens ≡ Some remaining →
    (tokens ≡ Keyword KJoin ∷ remaining → P) → (tokens ≡ Keyword KInner ∷ Keyword KJoin ∷ remaining → P) → P
after_join_found tokens remaining e alone inner =
    keyword_choice KInner tokens _ _ _ e
    (λ after is_inner e. inner (rw (is_inner, after_keyword-some KJoin after remaining e) refl))
    (λ _ e. alone (after_keyword-some KJoin tokens remaining e))

none_found : {A : Type 0} (x : A) → ◌≡◌ {A = Option A} None (Some x) → ⊥
none_found x e = none-some x e

found_is : {A : Type 0} {found : Option A} {x y : A} → found ≡ Some x → ◌≡◌ {A = Option A} (Some x) (Some y) → found ≡ Some y
found_is is same = is ∙ same

-- one more table, before the tables that follow it
joined_found : (tokens left : List TokenKind) (entry : JoinedTable) → leading_joined tokens ≡ Some (Some (entry, left)) →
    (tables : List (List ℕ)) (conditions : List RawCond) (rest : List TokenKind) → AreJoined left tables conditions rest →
    AreJoined tokens (entry.table ∷ tables) (option_to_list entry.on ++ conditions) rest
unfolding leading_joined
joined_found tokens left entry e tables conditions rest others =
    symbol_choice Comma tokens _ _ _ e
    (λ remaining is_comma e. found_then (leading_joined_by_comma remaining) _ _ e (λ one found e.
    name_then remaining _ _ found (λ name after is_name found.
    let whole = some_pair_parts (joined_table name None) entry after left (found_is found (same_Some _ _ e)) in
    rw (is_comma, is_name, ← whole.0, whole.1) (comma_table others))))
    (λ _ e. choice (after_join tokens) _ _ _ e
    (λ remaining is_join e. found_then (leading_joined_on remaining) _ _ e (λ one found e.
    on_found remaining entry left (found_is found (same_Some _ _ e)) (λ after c table is_on is_condition is.
    after_join_found tokens remaining is_join
    (λ is_join. rw (is_join, is_on, is) (join is_condition others))
    (λ is_join. rw (is_join, is_on, is) (inner_join is_condition others)))))
    (λ _ e. absurd (none_found _ (same_Some _ _ e))))

all_joined_found : (n : ℕ) (tokens : List TokenKind) (s : Sources) (rest : List TokenKind) → leading_all_joined n tokens ≡ Some (s, rest) → AreJoined tokens s.names s.conditions rest
all_joined_found zero tokens s rest e = absurd (none-some _ e)
all_joined_found (suc n) tokens s rest e =
    found_then (leading_joined tokens) _ _ e (λ found is e. choice found _ _ _ e
    (λ one is_one e. found_then (leading_all_joined n one.1) _ _ e (λ others others_found e.
    let whole = some_pair_parts (with_first_table one.0.table one.0.on others.0) s others.1 rest e in
    rw (← whole.0, ← whole.1)
    (joined_found tokens one.1 one.0 (rw is_one at is) others.0.names others.0.conditions others.1 (all_joined_found n one.1 others.0 others.1 others_found))))
    (λ none e.
    let whole = some_pair_parts no_sources s tokens rest e in
    rw (← whole.0, whole.1) no_more))

pub where_found : (tokens : List TokenKind) (last : Option RawCond) (rest : List TokenKind) → leading_where tokens ≡ Some (last, rest) → IsWhere tokens last rest
unfolding leading_where
where_found tokens last rest e =
    keyword_choice KWhere tokens _ _ _ e
    (λ remaining is_where e. found_then (leading_condition remaining) _ _ e (λ c found e. rw is_where (read_as IsWhere _ _ _ _ _ e (condition (theorem.found remaining c.0 c.1 found)))))
    (λ _ e. read_as IsWhere tokens _ _ _ _ e no_where)

scope_found : (tokens : List TokenKind) (s : Scope) (rest : List TokenKind) → leading_scope tokens ≡ Some (s, rest) → IsScope tokens s rest
unfolding leading_scope leading_sources
scope_found tokens s rest e =
    keyword_then KFrom tokens _ _ e (λ named is_from e.
    found_then (leading_sources named) _ _ e (λ sources sources_is e.
    found_then (leading_where sources.1) _ _ e (λ last last_is e.
    name_then named _ _ sources_is (λ table joined is_name sources_is.
    found_then (leading_all_joined (suc (length joined)) joined) _ _ sources_is (λ others others_is sources_is.
    let whole = some_pair_parts (with_first_table table None others.0) sources.0 others.1 sources.1 sources_is in
    let are_joined : AreJoined joined others.0.names others.0.conditions sources.1 = rw whole.1 at (all_joined_found (suc (length joined)) joined others.0 others.1 others_is) in
    rw (is_from, is_name) (read_as IsScope _ _ _ _ _ e (rw (← whole.0) (scope are_joined (where_found sources.1 last.0 last.1 last_is) refl))))))))

-- a select as far as GROUP
data IsDraft : List TokenKind → Draft → List TokenKind → Type 0 where
  each_row : {members : List Member} {s : Scope} {tokens from rest : List TokenKind} →
      AreMembers tokens members from → IsScope from s rest → IsDraft (Keyword KSelect ∷ tokens) (draft_of false members s) rest
  without_repeats : {members : List Member} {s : Scope} {tokens from rest : List TokenKind} →
      AreMembers tokens members from → IsScope from s rest → IsDraft (Keyword KSelect ∷ Keyword KDistinct ∷ tokens) (draft_of true members s) rest

draft_of_found : {P : Type 0} (once : Bool) (tokens : List TokenKind) (d : Draft) (rest : List TokenKind) → leading_draft_of once tokens ≡ Some (d, rest) →
    ((members : List Member) (s : Scope) (from : List TokenKind) → AreMembers tokens members from → IsScope from s rest → d ≡ draft_of once members s → P) → P
unfolding leading_draft_of
draft_of_found once tokens d rest e next =
    found_then (leading_members tokens) _ _ e (λ members members_is e.
    found_then (leading_scope members.1) _ _ e (λ s scope_is e.
    let whole = some_pair_parts (draft_of once members.0 s.0) d s.1 rest e in
    let is_scope : IsScope members.1 s.0 rest = rw whole.1 at (scope_found members.1 s.0 s.1 scope_is) in
    next members.0 s.0 members.1 (members_found tokens members.0 members.1 members_is) is_scope (sym whole.0)))

draft_found : (tokens : List TokenKind) (d : Draft) (rest : List TokenKind) → leading_draft tokens ≡ Some (d, rest) → IsDraft tokens d rest
unfolding leading_draft
draft_found tokens d rest e =
    keyword_then KSelect tokens _ _ e (λ remaining is_select e.
    keyword_choice KDistinct remaining _ _ _ e
    (λ after is_distinct e. draft_of_found true after d rest e (λ members s from are_members is_scope is. rw (is_select, is_distinct, is) (without_repeats are_members is_scope)))
    (λ _ e. draft_of_found false remaining d rest e (λ members s from are_members is_scope is. rw (is_select, is) (each_row are_members is_scope))))

ungrouped_found : (tokens : List TokenKind) (d : Draft) (rest : List TokenKind) (s : RawSelect) → IsDraft tokens d rest → ungrouped_select d ≡ Some s → IsSelect tokens s rest
unfolding ungrouped_select
ungrouped_found _ _ rest s (each_row {members = members} {s = in_scope} {tokens = tokens} {from = from} are_members is_scope) e =
    found_then (each_of ungrouped_item members) _ _ e (λ items items_are e.
    rw (← same_Some (select_with items in_scope Plain) s e) (plain_select (as_items tokens members items from are_members items_are) is_scope))
ungrouped_found _ _ rest s (without_repeats {members = members} {s = in_scope} {tokens = tokens} {from = from} are_members is_scope) e =
    found_then (each_of ungrouped_item members) _ _ e (λ items items_are e.
    rw (← same_Some (select_with items in_scope Distinct) s e) (distinct (as_items tokens members items from are_members items_are) is_scope))

grouped_found : (tokens : List TokenKind) (d : Draft) (remaining rest : List TokenKind) (s : RawSelect) → IsDraft tokens d (Keyword KGroup ∷ remaining) → leading_grouped d remaining ≡ Some (s, rest) → IsSelect tokens s rest
unfolding leading_grouped
grouped_found _ _ remaining rest s (each_row {members = members} {s = in_scope} {tokens = tokens} {from = from} are_members is_scope) e =
    word_then (codes "by") remaining _ _ e (λ columns is_by e.
    found_then (leading_list leading_column (after_symbol Comma) columns) _ _ e (λ by by_is e.
    found_then (each_of out_of members) _ _ e (λ outs outs_are e.
    let in_group : IsScope from in_scope (Keyword KGroup ∷ Word (codes "by") ∷ columns) = rw is_by at is_scope in
    read_as IsSelect _ _ _ _ _ e (grouped_select (as_outs tokens members outs from are_members outs_are) in_group (columns_found columns by.0 by.1 by_is)))))
grouped_found _ _ remaining rest s (without_repeats are_members is_scope) e =
    word_then (codes "by") remaining _ _ e (λ columns is_by e.
    found_then (leading_list leading_column (after_symbol Comma) columns) _ _ e (λ by by_is e. absurd (none-some _ e)))

-- what is found is a select of the grammar
pub found : (tokens : List TokenKind) (s : RawSelect) (rest : List TokenKind) → leading_select tokens ≡ Some (s, rest) → IsSelect tokens s rest
unfolding leading_select
found tokens s rest e =
    found_then (leading_draft tokens) _ _ e (λ draft draft_is e.
    let is_draft : IsDraft tokens draft.0 draft.1 = draft_found tokens draft.0 draft.1 draft_is in
    keyword_choice KGroup draft.1 _ _ _ e
    (λ remaining is_group e. grouped_found tokens draft.0 remaining rest s (rw is_group at is_draft) e)
    (λ _ e. found_then (ungrouped_select draft.0) _ _ e (λ one one_is e. read_as IsSelect tokens _ _ _ _ e (ungrouped_found tokens draft.0 draft.1 one is_draft one_is))))

-- what cannot follow the tables of FROM and their conditions
pub record JoinsEnd (rest : List TokenKind) : Type 0 where
  pub condition_ends : Ends rest
  pub no_comma : after_symbol Comma rest ≡ None
  pub no_inner : after_keyword KInner rest ≡ None
  pub no_join : after_keyword KJoin rest ≡ None

-- what cannot follow the tables and the condition of a select
pub record ScopeEnds (rest : List TokenKind) : Type 0 where
  pub joins_end : JoinsEnd rest
  pub no_where : after_keyword KWhere rest ≡ None

-- what cannot follow a whole select
pub record SelectEnds (rest : List TokenKind) : Type 0 where
  pub scope_ends : ScopeEnds rest
  pub no_group : after_keyword KGroup rest ≡ None

-- nothing, or a semicolon, may follow it
pub ends-nothing : SelectEnds []
ends-nothing = record {
  scope_ends = record {
    joins_end = record { condition_ends = record { no_dot = refl; no_and = refl; no_or = refl }; no_comma = refl; no_inner = refl; no_join = refl };
    no_where = refl;
  };
  no_group = refl;
}

pub ends-semicolon : (rest : List TokenKind) → SelectEnds (Symbol Semicolon ∷ rest)
ends-semicolon rest = record {
  scope_ends = record {
    joins_end = record { condition_ends = record { no_dot = refl; no_and = refl; no_or = refl }; no_comma = refl; no_inner = refl; no_join = refl };
    no_where = refl;
  };
  no_group = refl;
}

-- a select's condition ends before GROUP
scope_ends-group : (rest : List TokenKind) → ScopeEnds (Keyword KGroup ∷ rest)
scope_ends-group rest = record {
  joins_end = record { condition_ends = record { no_dot = refl; no_and = refl; no_or = refl }; no_comma = refl; no_inner = refl; no_join = refl };
  no_where = refl;
}

joined-ends : (tokens : List TokenKind) (tables : List (List ℕ)) (conditions : List RawCond) (rest : List TokenKind) → AreJoined tokens tables conditions rest → JoinsEnd rest → Ends tokens
joined-ends tokens tables conditions rest no_more ends = ends.condition_ends
joined-ends tokens tables conditions rest (comma_table d) ends = record { no_dot = refl; no_and = refl; no_or = refl }
joined-ends tokens tables conditions rest (join c d) ends = record { no_dot = refl; no_and = refl; no_or = refl }
joined-ends tokens tables conditions rest (inner_join c d) ends = record { no_dot = refl; no_and = refl; no_or = refl }

all_joined_complete : (n : ℕ) (tokens : List TokenKind) (tables : List (List ℕ)) (conditions : List RawCond) (rest : List TokenKind) → AreJoined tokens tables conditions rest → JoinsEnd rest → length tokens < n →
    leading_all_joined n tokens ≡ Some (record { names = tables; conditions = conditions }, rest)
unfolding leading_joined
all_joined_complete zero tokens tables conditions rest d ends enough = absurd (omega arith)
all_joined_complete (suc n) tokens tables conditions rest no_more ends enough = rw (ends.no_comma, ends.no_inner, ends.no_join) refl
all_joined_complete (suc n) _ _ conditions rest (comma_table {tables = tables} {others = others} d) ends enough =
    rw (all_joined_complete n others tables conditions rest d ends (omega arith)) refl
all_joined_complete (suc n) _ _ _ rest (join {tables = tables} {condition = c} {conditions = conditions} {on = on} {others = others} is_condition d) ends enough =
    let shorter : length others < length on = theorem.condition_shorter on c others is_condition in
    rw (theorem.complete on c others is_condition (joined-ends others tables conditions rest d ends), all_joined_complete n others tables conditions rest d ends (omega (arith, shorter))) refl
all_joined_complete (suc n) _ _ _ rest (inner_join {tables = tables} {condition = c} {conditions = conditions} {on = on} {others = others} is_condition d) ends enough =
    let shorter : length others < length on = theorem.condition_shorter on c others is_condition in
    rw (theorem.complete on c others is_condition (joined-ends others tables conditions rest d ends), all_joined_complete n others tables conditions rest d ends (omega (arith, shorter))) refl

where-ends : (tokens : List TokenKind) (last : Option RawCond) (rest : List TokenKind) → IsWhere tokens last rest → JoinsEnd rest → JoinsEnd tokens
where-ends tokens last rest no_where ends = ends
where-ends tokens last rest (condition d) ends = record { condition_ends = record { no_dot = refl; no_and = refl; no_or = refl }; no_comma = refl; no_inner = refl; no_join = refl }

pub where_complete : (tokens : List TokenKind) (last : Option RawCond) (rest : List TokenKind) → IsWhere tokens last rest → Ends rest → after_keyword KWhere rest ≡ None → leading_where tokens ≡ Some (last, rest)
unfolding leading_where
where_complete tokens last rest no_where ends no_more_where = rw no_more_where refl
where_complete _ _ rest (condition {condition = c} {tokens = tokens} d) ends no_more_where = rw (theorem.complete tokens c rest d ends) refl

scope_complete : (tokens : List TokenKind) (s : Scope) (rest : List TokenKind) → IsScope tokens s rest → ScopeEnds rest → leading_scope tokens ≡ Some (s, rest)
unfolding leading_scope leading_sources
scope_complete _ _ rest (scope {tables = tables} {conditions = conditions} {last = last} {joined = joined} {remaining = remaining} are_joined is_where is_whole) ends =
    let joins_end : JoinsEnd remaining = where-ends remaining last rest is_where ends.joins_end in
    rw (
      all_joined_complete (suc (length joined)) joined tables conditions remaining are_joined joins_end (omega arith),
      where_complete remaining last rest is_where ends.joins_end.condition_ends ends.no_where,
      is_whole,
    ) refl

scope-no_dot : (tokens : List TokenKind) (s : Scope) (rest : List TokenKind) → IsScope tokens s rest → after_symbol Dot tokens ≡ None
scope-no_dot _ _ rest (scope are_joined _ is_whole) = refl

scope-no_comma : (tokens : List TokenKind) (s : Scope) (rest : List TokenKind) → IsScope tokens s rest → after_symbol Comma tokens ≡ None
scope-no_comma _ _ rest (scope are_joined _ is_whole) = refl

draft_of_complete : (once : Bool) (tokens : List TokenKind) (members : List Member) (from : List TokenKind) (s : Scope) (rest : List TokenKind) →
    AreMembers tokens members from → IsScope from s rest → ScopeEnds rest → leading_draft_of once tokens ≡ Some (draft_of once members s, rest)
unfolding leading_draft_of
draft_of_complete once tokens members from s rest are_members is_scope ends =
    rw (
      members_complete tokens members from are_members (scope-no_dot from s rest is_scope) (scope-no_comma from s rest is_scope),
      scope_complete from s rest is_scope ends,
    ) refl

-- the whole select is found if nothing after it continues it
pub complete : (tokens : List TokenKind) (s : RawSelect) (rest : List TokenKind) → IsSelect tokens s rest → SelectEnds rest → leading_select tokens ≡ Some (s, rest)
unfolding leading_select leading_draft ungrouped_select leading_grouped
complete _ _ rest (plain_select {items = items} {in_scope = in_scope} {tokens = tokens} {from = from} are_items is_scope) ends =
    rw (
      members-no_distinct tokens (map member.Item items) from (from_items tokens items from are_items),
      draft_of_complete false tokens (map member.Item items) from in_scope rest (from_items tokens items from are_items) is_scope ends.scope_ends,
      ends.no_group,
      items_back items,
    ) refl
complete _ _ rest (distinct {items = items} {in_scope = in_scope} {tokens = tokens} {from = from} are_items is_scope) ends =
    rw (
      draft_of_complete true tokens (map member.Item items) from in_scope rest (from_items tokens items from are_items) is_scope ends.scope_ends,
      ends.no_group,
      items_back items,
    ) refl
complete _ _ rest (grouped_select {outs = outs} {by = by} {in_scope = in_scope} {tokens = tokens} {from = from} {columns = columns} are_outs is_scope are_columns) ends =
    let remaining : List TokenKind = Keyword KGroup ∷ Word (codes "by") ∷ columns in
    rw (
      members-no_distinct tokens (map member_of_out outs) from (from_outs tokens outs from are_outs),
      draft_of_complete false tokens (map member_of_out outs) from in_scope remaining (from_outs tokens outs from are_outs) is_scope (scope_ends-group (Word (codes "by") ∷ columns)),
      columns_complete columns by rest are_columns ends.scope_ends.joins_end.condition_ends.no_dot ends.scope_ends.joins_end.no_comma,
      outs_back outs,
    ) refl
