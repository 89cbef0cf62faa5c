-- Expressions that are equal when the parts of a condition hold, and parts that are moved from one
-- to the other.
use Rattle.std.proofs.Common.{◌≡◌, ◌⊎◌, inl, inr, Bool, true, false, not, ◌&&◌, ◌||◌, List, [], ◌∷◌, map, refl, sym, ap, subst, ◌∙◌, Option, Some, None}
use Rattle.std.specs.Prelude.{◌==◌, is_some, if◌then◌else◌}
use Rattle.std.specs.Bool.{then_some}
use Rattle.std.specs.List.{list_all, AllByRecursion}
use Rattle.std.specs.Option.{option_map_or}
use Rattle.std.proofs.lemmas.Bool.{and_parts, eqb-true, false≢true}
use Rattle.hippo_values.specs.declared.values.Value.{Value}
use Rattle.hippo_values.specs.declared.values.Value.TheVariants.{Int, Text, Day}
use Rattle.hippo_values.specs.declared.truths.Truth.{Truth}
use Rattle.hippo_values.specs.declared.truths.Truth.TheVariants.{False, Unknown, True}
use Rattle.hippo_values.specs.declared.truths.CompareOp.{CompareOp}
use Rattle.hippo_values.specs.declared.truths.CompareOp.TheVariants.{Eq, Ne, Lt, Le, Gt, Ge}
use Rattle.hippo_values.specs.Truths.{truth_and, truth_or, comparison}
use Rattle.hippo_model.specs.declared.query.CondOf.{CondOf, CondOf-F, roll-CondOf, ind-CondOf, out-roll-CondOf}
use Rattle.hippo_model.specs.declared.query.CondOf.TheOpen.{All, Any, Not, Compare, Between, Among, Missing}
use Rattle.hippo_model.specs.declared.query.CondOf.TheVariants as conditions
use Rattle.hippo_model.specs.declared.query.Expr.{Expr}
use Rattle.hippo_model.specs.declared.query.Expr.TheVariants.{Keep, Null, Aged, Case, Literal}
use Rattle.hippo_model.specs.declared.query.Ref.{Ref}
use Rattle.hippo_model.specs.Terms.{Combination}
use Rattle.hippo_model.specs.Conditions.{greatest, is_true, is_null, changed_layer}
use Rattle.hippo_model.specs.Masking.{Choices}
use Rattle.hippo_model.specs.MaskedTruth.{masked_value}
use Rattle.hippo_model.proofs.Truths.{truth-Compare, truth-Between, truth-Among}
use Rattle.hippo_model.proofs.FoldedConditions.{folded-Compare, folded-Between, folded-Among}
use Rattle.hippo_join_lookups.specs.Lists.{is_literal}
use Rattle.hippo_join_lookups.specs.Ties.{shown_column, holds}
use Rattle.hippo_join_lookups.proofs.PartLemmas.{equal-values, column-value}
use Rattle.hippo_join_implied.specs.Implied.{is_same_ref, show_same, equates, column_if, compared_side, compared_expr, moved_expr, moved_part, shows_reached, beyond, beyond_by}

is_same_ref-is : (column other : Ref) → is_same_ref column other ≡ true → column ≡ other
is_same_ref-is column other same =
    let both = and_parts (column.table == other.table) (column.column == other.column) same in
    let tables : column.table ≡ other.table = eqb-true column.table other.table both.0 in
    let columns : column.column ≡ other.column = eqb-true column.column other.column both.1 in
    λ i. record { table = tables i; column = columns i }

some_is : {A : Type 0} {a b : A} → Some a ≡ Some b → a ≡ b
some_is e = cc

-- both show one column
shown-both : (first second : Option Ref) → option_map_or (λ column. option_map_or (is_same_ref column) second false) first false ≡ true
    → (column : Ref) × (first ≡ Some column) × (second ≡ Some column)
shown-both None second e = absurd (false≢true e)
shown-both (Some a) None e = absurd (false≢true e)
shown-both (Some a) (Some b) e = (a, refl, ap Some (sym (is_same_ref-is a b e)))

-- a literal shows no column
never : (first : Option Ref) → option_map_or (λ column. false) first false ≡ false
never None = refl
never (Some column) = refl

literal-apart : (from expr : Expr) → is_literal expr ≡ true → show_same from expr ≡ false
literal-apart from (Keep column) literal = absurd (false≢true literal)
literal-apart from (Null rule) literal = absurd (false≢true literal)
literal-apart from (Aged column rule after) literal = absurd (false≢true literal)
literal-apart from (Case column subject item rule opt_in after) literal = absurd (false≢true literal)
literal-apart from (Literal value) literal = never (shown_column from)

-- the expression that is compared, and what is told of the other ones
column-if-is : (test shown : Bool) (expr from : Expr) → then_some (test && shown) expr ≡ Some from → (test ≡ true) × (expr ≡ from)
column-if-is true true expr from e = (refl, some_is e)
column-if-is true false expr from e = absurd cc
column-if-is false shown expr from e = absurd cc

one_of : (a b : Bool) → (a || b) ≡ true → (a ≡ true) ⊎ (b ≡ true)
one_of true b e = inl refl
one_of false b e = inr e

module _ (choices : Choices) (rows : Combination) where
  abbrev value : Expr → Value
  value expr = masked_value choices rows expr

  same-values : (a b : Expr) → show_same a b ≡ true → is_null (value a) ≡ false → is_null (value b) ≡ false → value a ≡ value b
  same-values a b same a_known b_known =
      let both = shown-both (shown_column a) (shown_column b) same in
      column-value choices rows a both.0 both.1 a_known ∙ sym (column-value choices rows b both.0 both.2 b_known)

  -- all these expressions have a value
  abbrev pub Have : Value → List Expr → Type 0
  Have common exprs = AllByRecursion (λ expr. value expr ≡ common) exprs

  -- an expression whose column is reached has the value, unless it is null
  reached-value : (common : Value) → is_null common ≡ false → (reached : List Expr) → Have common reached → (expr : Expr) → is_null (value expr) ≡ false → shows_reached reached expr ≡ true → value expr ≡ common
  reached-value common known [] have expr shown e = absurd (false≢true e)
  reached-value common known (own ∷ reached) have expr shown e = elim (one_of (show_same own expr) (shows_reached reached expr) e) [
    | inl same ↦ sym (same-values own expr same (ap is_null have.0 ∙ known) shown) ∙ have.0
    | inr later ↦ reached-value common known reached have.1 expr shown later
  ]

  abbrev beyond_if : Bool → Bool → Expr → Expr → Option Expr
  beyond_if of_left of_right left right = if of_left then then_some (not of_right) right else then_some of_right left

  beyond-if-value : (common : Value) (of_left of_right : Bool) (left right other : Expr) → (of_left ≡ true → value left ≡ common) → (of_right ≡ true → value right ≡ common) → value left ≡ value right
      → beyond_if of_left of_right left right ≡ Some other → value other ≡ common
  beyond-if-value common true true left right other on_left on_right equal e = absurd cc
  beyond-if-value common true false left right other on_left on_right equal e = ap value (sym (some_is e)) ∙ sym equal ∙ on_left refl
  beyond-if-value common false true left right other on_left on_right equal e = ap value (sym (some_is e)) ∙ equal ∙ on_right refl
  beyond-if-value common false false left right other on_left on_right equal e = absurd cc

  -- the sides of an equality that holds
  equal-sides : (op : CompareOp) (left right : Expr) → equates op left right ≡ true → holds choices rows (conditions.Compare op left right) ≡ true → (value left ≡ value right) × (is_null (value right) ≡ false)
  equal-sides Eq left right equal held = equal-values (value left) (value right) (sym (ap is_true (truth-Compare value Eq left right)) ∙ held)
  equal-sides Ne left right equal held = absurd (false≢true equal)
  equal-sides Lt left right equal held = absurd (false≢true equal)
  equal-sides Le left right equal held = absurd (false≢true equal)
  equal-sides Gt left right equal held = absurd (false≢true equal)
  equal-sides Ge left right equal held = absurd (false≢true equal)

  beyond-equal : (common : Value) → is_null common ≡ false → (reached : List Expr) → Have common reached → (op : CompareOp) (left right other : Expr) → (equal : Bool) → equates op left right ≡ equal
      → holds choices rows (conditions.Compare op left right) ≡ true → (if equal then beyond reached left right else None) ≡ Some other → value other ≡ common
  beyond-equal common known reached have op left right other false equal held e = absurd cc
  beyond-equal common known reached have op left right other true equal held e =
      let sides = equal-sides op left right equal held in
      beyond-if-value common (shows_reached reached left) (shows_reached reached right) left right other
      (reached-value common known reached have left (ap is_null sides.0 ∙ sides.1))
      (reached-value common known reached have right sides.1) sides.0 e

  -- what follows from a true part that compares an expression with literals
  pub record Moves (part : CondOf Expr) (from : Expr) : Type 0 where
    pub known : is_null (value from) ≡ false
    pub moved : (other : Expr) → value other ≡ value from → holds choices rows (moved_part from other part) ≡ true

  kept-own : (test : Bool) (from other : Expr) → value other ≡ value from → value (if test then other else from) ≡ value from
  kept-own true from other same = same
  kept-own false from other same = refl

  -- an operand keeps its value
  own-kept : (from other expr : Expr) → value other ≡ value from → expr ≡ from → value (moved_expr from other expr) ≡ value expr
  own-kept from other expr same is = subst (λ (e : Expr). value (moved_expr from other e) ≡ value e) (sym is) (kept-own (show_same from from) from other same)

  literal-kept : (from other expr : Expr) → is_literal expr ≡ true → value (moved_expr from other expr) ≡ value expr
  literal-kept from other expr literal = ap (λ (test : Bool). value (if test then other else expr)) (literal-apart from expr literal)

  not-null : (op : CompareOp) (a b : Value) → is_true (comparison op a b) ≡ true → (is_null a ≡ false) × (is_null b ≡ false)
  not-null op (Int a) (Int b) e = (refl, refl)
  not-null op (Text a) (Text b) e = (refl, refl)
  not-null op (Day a) (Day b) e = (refl, refl)
  not-null op a b e = absurd (false≢true e)

  -- a comparison whose operands keep their values
  moved-Compare : (op : CompareOp) (from other left right : Expr) → value (moved_expr from other left) ≡ value left → value (moved_expr from other right) ≡ value right
      → holds choices rows (conditions.Compare op left right) ≡ true → holds choices rows (moved_part from other (conditions.Compare op left right)) ≡ true
  moved-Compare op from other left right on_left on_right held =
      ap (holds choices rows) (folded-Compare (changed_layer (moved_expr from other)) op left right)
      ∙ ap is_true (truth-Compare value op (moved_expr from other left) (moved_expr from other right) ∙ (λ i. comparison op (on_left i) (on_right i)) ∙ sym (truth-Compare value op left right))
      ∙ held

  compared-values : (op : CompareOp) (left right : Expr) → holds choices rows (conditions.Compare op left right) ≡ true → (is_null (value left) ≡ false) × (is_null (value right) ≡ false)
  compared-values op left right held = not-null op (value left) (value right) (sym (ap is_true (truth-Compare value op left right)) ∙ held)

  -- one side is compared, and the other one is a literal
  sides-Compare : (op : CompareOp) (left right from : Expr) (of_right : Bool) → is_literal right ≡ of_right
      → (if of_right then column_if true left else column_if (is_literal left) right) ≡ Some from
      → holds choices rows (conditions.Compare op left right) ≡ true → Moves (conditions.Compare op left right) from
  sides-Compare op left right from true literal e held =
      let is = column-if-is true (is_some (shown_column left)) left from e in
      let null = compared-values op left right held in
      record {
        known = sym (ap (λ (expr : Expr). is_null (value expr)) is.1) ∙ null.0;
        moved = λ other same. moved-Compare op from other left right (own-kept from other left same is.1) (literal-kept from other right literal) held;
      }
  sides-Compare op left right from false literal e held =
      let is = column-if-is (is_literal left) (is_some (shown_column right)) right from e in
      let null = compared-values op left right held in
      record {
        known = sym (ap (λ (expr : Expr). is_null (value expr)) is.1) ∙ null.1;
        moved = λ other same. moved-Compare op from other left right (literal-kept from other left is.0) (own-kept from other right same is.1) held;
      }

  moves-Compare : (op : CompareOp) (left right from : Expr) → compared_side op left right ≡ Some from → holds choices rows (conditions.Compare op left right) ≡ true → Moves (conditions.Compare op left right) from
  moves-Compare Eq left right from e held = sides-Compare Eq left right from (is_literal right) refl e held
  moves-Compare Ne left right from e held = absurd cc
  moves-Compare Lt left right from e held = sides-Compare Lt left right from (is_literal right) refl e held
  moves-Compare Le left right from e held = sides-Compare Le left right from (is_literal right) refl e held
  moves-Compare Gt left right from e held = sides-Compare Gt left right from (is_literal right) refl e held
  moves-Compare Ge left right from e held = sides-Compare Ge left right from (is_literal right) refl e held

  first_true : (a b : Truth) → is_true (truth_and a b) ≡ true → is_true a ≡ true
  first_true False b e = absurd (false≢true e)
  first_true Unknown False e = absurd (false≢true e)
  first_true Unknown Unknown e = absurd (false≢true e)
  first_true Unknown True e = absurd (false≢true e)
  first_true True b e = refl

  moves-Between : (operand low high from : Expr) → column_if (is_literal low && is_literal high) operand ≡ Some from → holds choices rows (conditions.Between operand low high) ≡ true → Moves (conditions.Between operand low high) from
  moves-Between operand low high from e held =
      let is = column-if-is (is_literal low && is_literal high) (is_some (shown_column operand)) operand from e in
      let ends = and_parts (is_literal low) (is_literal high) is.0 in
      let above = first_true (comparison Ge (value operand) (value low)) (comparison Le (value operand) (value high)) (sym (ap is_true (truth-Between value operand low high)) ∙ held) in
      record {
        known = sym (ap (λ (expr : Expr). is_null (value expr)) is.1) ∙ (not-null Ge (value operand) (value low) above).0;
        moved = λ other same.
            ap (holds choices rows) (folded-Between (changed_layer (moved_expr from other)) operand low high)
            ∙ ap is_true (truth-Between value (moved_expr from other operand) (moved_expr from other low) (moved_expr from other high)
            ∙ (λ i. truth_and (comparison Ge (own-kept from other operand same is.1 i) (literal-kept from other low ends.0 i)) (comparison Le (own-kept from other operand same is.1 i) (literal-kept from other high ends.1 i)))
            ∙ sym (truth-Between value operand low high))
            ∙ held;
      }

  abbrev equal_to : Value → List Expr → List Truth
  equal_to own list = map (λ member. comparison Eq own (value member)) list

  one_true : (a b : Truth) → is_true (truth_or a b) ≡ true → (is_true a ≡ true) ⊎ (is_true b ≡ true)
  one_true False b e = inr e
  one_true Unknown False e = absurd (false≢true e)
  one_true Unknown Unknown e = absurd (false≢true e)
  one_true Unknown True e = inr refl
  one_true True b e = inl refl

  listed-known : (own : Value) (list : List Expr) → is_true (greatest (equal_to own list)) ≡ true → is_null own ≡ false
  listed-known own [] e = absurd (false≢true e)
  listed-known own (member ∷ list) e = elim (one_true (comparison Eq own (value member)) (greatest (equal_to own list)) e) [
    | inl first ↦ (not-null Eq own (value member) first).0
    | inr later ↦ listed-known own list later
  ]

  list-kept : (from other : Expr) (own : Value) (list : List Expr) → list_all is_literal list ≡ true → greatest (equal_to own (map (moved_expr from other) list)) ≡ greatest (equal_to own list)
  list-kept from other own [] literals = refl
  list-kept from other own (member ∷ list) literals =
      let both = and_parts (is_literal member) (list_all is_literal list) literals in
      λ i. truth_or (comparison Eq own (literal-kept from other member both.0 i)) (list-kept from other own list both.1 i)

  moves-Among : (operand : Expr) (list : List Expr) (from : Expr) → column_if (list_all is_literal list) operand ≡ Some from → holds choices rows (conditions.Among operand list) ≡ true → Moves (conditions.Among operand list) from
  moves-Among operand list from e held =
      let is = column-if-is (list_all is_literal list) (is_some (shown_column operand)) operand from e in
      record {
        known = sym (ap (λ (expr : Expr). is_null (value expr)) is.1) ∙ listed-known (value operand) list (sym (ap is_true (truth-Among value operand list)) ∙ held);
        moved = λ other same.
            ap (holds choices rows) (folded-Among (changed_layer (moved_expr from other)) operand list)
            ∙ ap is_true (truth-Among value (moved_expr from other operand) (map (moved_expr from other) list)
            ∙ ap (λ (own : Value). greatest (equal_to own (map (moved_expr from other) list))) (own-kept from other operand same is.1)
            ∙ list-kept from other (value operand) list is.0
            ∙ sym (truth-Among value operand list))
            ∙ held;
      }

  -- a part of any kind
  abbrev compared_in : CondOf-F Expr (CondOf Expr) → Option Expr
  compared_in layer = elim layer [
    | Compare op left right ↦ compared_side op left right
    | Between operand low high ↦ column_if (is_literal low && is_literal high) operand
    | Among operand list ↦ column_if (list_all is_literal list) operand
    | _ ↦ None
  ]

  abbrev MovesIf : CondOf Expr → Expr → Type 0
  MovesIf part from = holds choices rows part ≡ true → Moves part from

  by_layer : (layer : CondOf-F Expr (CondOf Expr)) (from : Expr) → compared_in layer ≡ Some from → MovesIf (roll-CondOf Expr layer) from
  by_layer (All parts) from e = absurd cc
  by_layer (Any parts) from e = absurd cc
  by_layer (Not part) from e = absurd cc
  by_layer (Compare op left right) from e = subst (λ (part : CondOf Expr). MovesIf part from) (sym (conditions.rolls-Compare op left right)) (moves-Compare op left right from e)
  by_layer (Between operand low high) from e = subst (λ (part : CondOf Expr). MovesIf part from) (sym (conditions.rolls-Between operand low high)) (moves-Between operand low high from e)
  by_layer (Among operand list) from e = subst (λ (part : CondOf Expr). MovesIf part from) (sym (conditions.rolls-Among operand list)) (moves-Among operand list from e)
  by_layer (Missing operand) from e = absurd cc

  pub moves : (part : CondOf Expr) (from : Expr) → compared_expr part ≡ Some from → MovesIf part from
  moves = ind-CondOf Expr (λ part. (from : Expr) → compared_expr part ≡ Some from → MovesIf part from)
      (λ layer parts is from e. by_layer layer from (sym (ap compared_in (out-roll-CondOf Expr layer)) ∙ e))

  -- an equality of any kind
  abbrev beyond_in : List Expr → CondOf-F Expr (CondOf Expr) → Option Expr
  beyond_in reached layer = elim layer [ Compare op left right ↦ if equates op left right then beyond reached left right else None | _ ↦ None ]

  abbrev LeadsTo : Value → List Expr → CondOf Expr → Expr → Type 0
  LeadsTo common reached part other = is_null common ≡ false → Have common reached → holds choices rows part ≡ true → value other ≡ common

  leads-layer : (common : Value) (reached : List Expr) (other : Expr) (layer : CondOf-F Expr (CondOf Expr)) → beyond_in reached layer ≡ Some other → LeadsTo common reached (roll-CondOf Expr layer) other
  leads-layer common reached other (All parts) e = absurd cc
  leads-layer common reached other (Any parts) e = absurd cc
  leads-layer common reached other (Not part) e = absurd cc
  leads-layer common reached other (Compare op left right) e = subst (λ (part : CondOf Expr). LeadsTo common reached part other) (sym (conditions.rolls-Compare op left right))
      (λ known have held. beyond-equal common known reached have op left right other (equates op left right) refl held e)
  leads-layer common reached other (Between operand low high) e = absurd cc
  leads-layer common reached other (Among operand list) e = absurd cc
  leads-layer common reached other (Missing operand) e = absurd cc

  pub leads : (common : Value) (reached : List Expr) (other : Expr) (part : CondOf Expr) → beyond_by reached part ≡ Some other → LeadsTo common reached part other
  leads common reached other = ind-CondOf Expr (λ part. beyond_by reached part ≡ Some other → LeadsTo common reached part other)
      (λ layer parts is e. leads-layer common reached other layer (sym (ap (beyond_in reached) (out-roll-CondOf Expr layer)) ∙ e))
