-- What a condition implies is true where the condition is.
use Rattle.std.proofs.Common.{◌≡◌, ℕ, zero, suc, ◌-◌, ◌⊎◌, inl, inr, Bool, true, false, cond, ◌&&◌, List, [], ◌∷◌, ◌++◌, map, filter, take, length, refl, sym, ap, subst, ◌∙◌, Option, Some, None}
use Rattle.std.specs.List.{list_all}
use Rattle.std.specs.Option.{option_map_or, option_or}
use Rattle.std.proofs.lemmas.Bool.{and_parts, and_from}
use Rattle.std.proofs.lemmas.List.Folds.{list_all-append}
use Rattle.hippo_values.specs.declared.values.Value.{Value}
use Rattle.hippo_model.specs.declared.query.CondOf.{CondOf, CondOf-F, roll-CondOf, ind-CondOf, out-roll-CondOf}
use Rattle.hippo_model.specs.declared.query.CondOf.TheOpen.{All, Any, Not, Compare, Between, Among, Missing}
use Rattle.hippo_model.specs.declared.query.CondOf.TheVariants as conditions
use Rattle.hippo_model.specs.declared.query.Expr.{Expr}
use Rattle.hippo_model.specs.Terms.{Combination}
use Rattle.hippo_model.specs.Answers.{product}
use Rattle.hippo_model.specs.Conditions.{is_null}
use Rattle.hippo_model.specs.Masking.{Choices, is_guarded, masked_items}
use Rattle.hippo_model.specs.MaskedTruth.{masked_value}
use Rattle.hippo_model.proofs.HeldParts.{parts-hold}
use Rattle.hippo_model.proofs.OuterParts.{outer_parts-All}
use Rattle.hippo_join_lookups.specs.Ties.{holds}
use Rattle.hippo_join_implied.specs.Implied.{equality_limit, implied_limit, is_equality, compared_expr, moved_part, beyond_by, next_beyond, all_beyond, implied_by, implied_from, implied_parts, with_implied}
use Rattle.hippo_join_implied.specs.ImpliedLaws.{ImpliedHolds, ImpliedAnswers}
use Rattle.hippo_join_implied.proofs.MovedLemmas.{Have, Moves, moves, leads}

-- some of the members pass if all do
if-kept : {A : Type 0} (test : A → Bool) (keeps : Bool) (first : A) (rest : List A) → test first ≡ true → list_all test rest ≡ true → list_all test (cond keeps (first ∷ rest) rest) ≡ true
if-kept test true first rest own all = and_from (test first) (list_all test rest) own all
if-kept test false first rest own all = all

all-of-filter : {A : Type 0} (test keeps : A → Bool) (members : List A) → list_all test members ≡ true → list_all test (filter keeps members) ≡ true
all-of-filter test keeps [] all = refl
all-of-filter test keeps (first ∷ rest) all =
    let both = and_parts (test first) (list_all test rest) all in
    if-kept test (keeps first) first (filter keeps rest) both.0 (all-of-filter test keeps rest both.1)

all-of-take : {A : Type 0} (test : A → Bool) (n : ℕ) (members : List A) → list_all test members ≡ true → list_all test (take n members) ≡ true
all-of-take test zero members all = refl
all-of-take test (suc n) [] all = refl
all-of-take test (suc n) (first ∷ rest) all =
    let both = and_parts (test first) (list_all test rest) all in
    and_from (test first) (list_all test (take n rest)) both.0 (all-of-take test n rest both.1)

module _ (choices : Choices) (rows : Combination) where
  abbrev value : Expr → Value
  value expr = masked_value choices rows expr

  abbrev are_held : List (CondOf Expr) → Bool
  are_held parts = list_all (holds choices rows) parts

  some_is : {A : Type 0} {a b : A} → Some a ≡ Some b → a ≡ b
  some_is e = cc

  -- the next expression has the value of those that are reached
  option-first : (first later : Option Expr) (other : Expr) → option_or first later ≡ Some other → (first ≡ Some other) ⊎ (later ≡ Some other)
  option-first None later other e = inr e
  option-first (Some expr) later other e = inl e

  next-value : (common : Value) → is_null common ≡ false → (reached : List Expr) → Have choices rows common reached → (equalities : List (CondOf Expr)) → are_held equalities ≡ true
      → (other : Expr) → next_beyond equalities reached ≡ Some other → value other ≡ common
  next-value common known reached have [] held other e = absurd cc
  next-value common known reached have (part ∷ equalities) held other e =
      let both = and_parts (holds choices rows part) (are_held equalities) held in
      elim (option-first (beyond_by reached part) (next_beyond equalities reached) other e) [
        | inl here ↦ leads choices rows common reached other part here known have both.0
        | inr later ↦ next-value common known reached have equalities both.1 other later
      ]

  have-more : (common : Value) (reached : List Expr) (other : Expr) → Have choices rows common reached → value other ≡ common → Have choices rows common (reached ++ other ∷ [])
  have-more common [] other have own = (own, tt)
  have-more common (first ∷ reached) other have own = (have.0, have-more common reached other have.1 own)

  -- all expressions that equalities lead to have the value
  beyond-next : (common : Value) (most : ℕ) (equalities : List (CondOf Expr)) (reached : List Expr) → Have choices rows common reached
      → ((more : List Expr) → Have choices rows common more → Have choices rows common (all_beyond most equalities more))
      → (next : Option Expr) → ((other : Expr) → next ≡ Some other → value other ≡ common)
      → Have choices rows common (option_map_or (λ other. other ∷ all_beyond most equalities (reached ++ other ∷ [])) next [])
  beyond-next common most equalities reached have later None is = tt
  beyond-next common most equalities reached have later (Some other) is = (is other refl, later (reached ++ other ∷ []) (have-more common reached other have (is other refl)))

  all-beyond-value : (common : Value) → is_null common ≡ false → (equalities : List (CondOf Expr)) → are_held equalities ≡ true → (most : ℕ) (reached : List Expr) → Have choices rows common reached
      → Have choices rows common (all_beyond most equalities reached)
  all-beyond-value common known equalities held zero reached have = tt
  all-beyond-value common known equalities held (suc most) reached have =
      beyond-next common most equalities reached have (λ more have_more. all-beyond-value common known equalities held most more have_more)
      (next_beyond equalities reached) (λ other e. next-value common known reached have equalities held other e)

  all-moved : (part : CondOf Expr) (from : Expr) → Moves choices rows part from → (others : List Expr) → Have choices rows (value from) others → are_held (map (λ other. moved_part from other part) others) ≡ true
  all-moved part from moves [] have = refl
  all-moved part from moves (other ∷ others) have =
      and_from (holds choices rows (moved_part from other part)) (are_held (map (λ other. moved_part from other part) others)) (moves.moved other have.0) (all-moved part from moves others have.1)

  -- what one part implies is true
  by-one : (most : ℕ) (equalities : List (CondOf Expr)) → are_held equalities ≡ true → (part : CondOf Expr) → holds choices rows part ≡ true
      → (compared : Option Expr) → compared_expr part ≡ compared
      → are_held (option_map_or (λ from. map (λ other. moved_part from other part) (all_beyond most equalities (from ∷ []))) compared []) ≡ true
  by-one most equalities held part own None e = refl
  by-one most equalities held part own (Some from) e =
      let told : Moves choices rows part from = moves choices rows part from e own in
      all-moved part from told (all_beyond most equalities (from ∷ [])) (all-beyond-value (value from) told.known equalities held most (from ∷ []) (refl, tt))

  implied-by-held : (most : ℕ) (equalities : List (CondOf Expr)) → are_held equalities ≡ true → (part : CondOf Expr) → holds choices rows part ≡ true → are_held (implied_by most equalities part) ≡ true
  implied-by-held most equalities held part own = by-one most equalities held part own (compared_expr part) refl

  implied-from-held : (most : ℕ) (equalities : List (CondOf Expr)) → are_held equalities ≡ true → (parts : List (CondOf Expr)) → are_held parts ≡ true → are_held (implied_from most equalities parts) ≡ true
  implied-from-held most equalities held [] all = refl
  implied-from-held most equalities held (part ∷ parts) all =
      let both = and_parts (holds choices rows part) (are_held parts) all in
      let own : List (CondOf Expr) = implied_by most equalities part in
      let later : List (CondOf Expr) = implied_from (most - length own) equalities parts in
      list_all-append (holds choices rows) own later
      ∙ and_from (are_held own) (are_held later) (implied-by-held most equalities held part both.0) (implied-from-held (most - length own) equalities held parts both.1)

  -- what some parts imply is true if they are
  implied-held : (parts : List (CondOf Expr)) → are_held parts ≡ true → are_held (implied_parts parts) ≡ true
  implied-held parts all =
      implied-from-held implied_limit (take equality_limit (filter is_equality parts))
      (all-of-take (holds choices rows) equality_limit (filter is_equality parts) (all-of-filter (holds choices rows) is_equality parts all)) parts all

  if-both : (own more : Bool) → (own ≡ true → more ≡ true) → (own && more) ≡ own
  if-both true more so = so refl
  if-both false more so = refl

  parts-alike : (parts : List (CondOf Expr)) → are_held (parts ++ implied_parts parts) ≡ are_held parts
  parts-alike parts = list_all-append (holds choices rows) parts (implied_parts parts) ∙ if-both (are_held parts) (are_held (implied_parts parts)) (implied-held parts)

  all-parts : (parts : List (CondOf Expr)) → holds choices rows (conditions.All parts) ≡ are_held parts
  all-parts parts = sym (parts-hold value (conditions.All parts)) ∙ ap are_held (outer_parts-All parts)

  -- a condition of any kind
  abbrev implied_in : CondOf-F Expr (CondOf Expr) → CondOf Expr → CondOf Expr
  implied_in layer condition = elim layer [ All parts ↦ conditions.All (parts ++ implied_parts parts) | _ ↦ condition ]

  abbrev IsAlike : CondOf Expr → CondOf Expr → Type 0
  IsAlike made condition = holds choices rows made ≡ holds choices rows condition

  by_layer : (layer : CondOf-F Expr (CondOf Expr)) → IsAlike (implied_in layer (roll-CondOf Expr layer)) (roll-CondOf Expr layer)
  by_layer (All parts) = all-parts (parts ++ implied_parts parts) ∙ parts-alike parts ∙ sym (all-parts parts) ∙ ap (holds choices rows) (sym (conditions.rolls-All parts))
  by_layer (Any parts) = refl
  by_layer (Not part) = refl
  by_layer (Compare op left right) = refl
  by_layer (Between operand low high) = refl
  by_layer (Among operand list) = refl
  by_layer (Missing operand) = refl

  opened : (layer : CondOf-F Expr (CondOf Expr)) → IsAlike (with_implied (roll-CondOf Expr layer)) (roll-CondOf Expr layer)
  opened layer = subst (λ (l : CondOf-F Expr (CondOf Expr)). IsAlike (implied_in l (roll-CondOf Expr layer)) (roll-CondOf Expr layer)) (sym (out-roll-CondOf Expr layer)) (by_layer layer)

  -- a condition is true with what it implies where it is true without
  pub holds-with_implied : (condition : CondOf Expr) → IsAlike (with_implied condition) condition
  holds-with_implied = ind-CondOf Expr (λ condition. IsAlike (with_implied condition) condition) (λ layer parts is. opened layer)

pub implied_holds : ImpliedHolds
implied_holds = holds-with_implied

pub implied_answers : ImpliedAnswers
implied_answers choices query tables =
    λ i. map (masked_items choices query) (filter (λ (rows : Combination). is_guarded choices query rows && holds-with_implied choices rows query.cond i) (product tables))
