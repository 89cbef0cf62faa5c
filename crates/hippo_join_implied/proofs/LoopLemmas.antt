-- The steps of the loops over equalities, and over the parts of a condition.
use Rattle.std.proofs.Common.{◌≡◌, ℕ, zero, suc, ◌+◌, ◌-◌, ◌<◌, ◌≤◌, true, false, List, [], ◌∷◌, ◌++◌, map, drop, get_or, length, refl, sym, ap, ◌∙◌, append_assoc, length-append, add-one, Option, Some, None, arith}
use Rattle.std.specs.Prelude.{◌||◌, slice_get}
use Rattle.std.specs.Option.{option_map_or, option_or}
use Rattle.std.proofs.Math.Seq.{drop-cons}
use Rattle.std.proofs.lemmas.List.{append-nil, drop_all, nil_from_length}
use Rattle.hippo_model.specs.declared.query.CondOf.{CondOf}
use Rattle.hippo_model.specs.declared.query.Expr.{Expr}
use Rattle.hippo_join_implied.specs.Implied.{implied_limit, show_same, compared_expr, moved_part, shows_reached, beyond_by, next_beyond, all_beyond, implied_by, implied_from}
use Rattle.hippo_join_implied.proofs.ListLemmas.{member-then}

part-then : (parts : List (CondOf Expr)) (place : ℕ) (part : CondOf Expr) → place < length parts → part ≡ get_or parts place part → drop place parts ≡ part ∷ drop (place + 1) parts
part-then parts place part within at = rw (add-one) (drop-cons parts place part within ∙ ap (λ first. first ∷ drop (suc place) parts) (sym at))

-- ---- one expression or equality more
module _ (reached : List Expr) (place : ℕ) (own expr : Expr) (at : slice_get reached place ≡ Some own) where
  pub reached-here : show_same own expr ≡ true → shows_reached (drop place reached) expr ≡ true
  reached-here same = ap (λ (left : List Expr). shows_reached left expr) (member-then reached place own at) ∙ (λ i. same i || shows_reached (drop (place + 1) reached) expr)

  pub reached-later : show_same own expr ≡ false → shows_reached (drop place reached) expr ≡ shows_reached (drop (place + 1) reached) expr
  reached-later other = ap (λ (left : List Expr). shows_reached left expr) (member-then reached place own at) ∙ (λ i. other i || shows_reached (drop (place + 1) reached) expr)

module _ (equalities : List (CondOf Expr)) (reached : List Expr) (place : ℕ) (part : CondOf Expr) (at : slice_get equalities place ≡ Some part) where
  from-here : next_beyond (drop place equalities) reached ≡ option_or (beyond_by reached part) (next_beyond (drop (place + 1) equalities) reached)
  from-here = ap (λ (left : List (CondOf Expr)). next_beyond left reached) (member-then equalities place part at)

  pub beyond-here : (expr : Expr) → Some expr ≡ beyond_by reached part → Some expr ≡ next_beyond (drop place equalities) reached
  beyond-here expr found = (λ i. option_or (found i) (next_beyond (drop (place + 1) equalities) reached)) ∙ sym from-here

  pub beyond-later : None ≡ beyond_by reached part → next_beyond (drop (place + 1) equalities) reached ≡ next_beyond (drop place equalities) reached
  beyond-later none = (λ i. option_or (none i) (next_beyond (drop (place + 1) equalities) reached)) ∙ sym from-here

-- ---- one column more
module _ (made_of : Expr → CondOf Expr) (equalities : List (CondOf Expr)) (reached : List Expr) (implied : List (CondOf Expr)) where
  abbrev those_of : ℕ → List Expr → List (CondOf Expr)
  those_of most others = map made_of (all_beyond most equalities others)

  pub led-more : (other : Expr) (made : CondOf Expr) → length implied < implied_limit → made ≡ made_of other → next_beyond equalities reached ≡ Some other
      → (implied ++ made ∷ []) ++ those_of (implied_limit - length (implied ++ made ∷ [])) (reached ++ other ∷ []) ≡ implied ++ those_of (implied_limit - length implied) reached
  led-more other made below is next =
      let fewer : ℕ = implied_limit - length (implied ++ made ∷ []) in
      let one_more : length (implied ++ made ∷ []) ≡ length implied + 1 = length-append implied (made ∷ []) in
      let count : implied_limit - length implied ≡ suc fewer = omega (arith, one_more, below) in
      append_assoc implied (made ∷ []) (those_of fewer (reached ++ other ∷ []))
      ∙ (λ i. implied ++ (is i ∷ those_of fewer (reached ++ other ∷ [])))
      ∙ sym ((λ i. implied ++ those_of (count i) reached)
      ∙ (λ i. implied ++ map made_of (option_map_or (λ (expr : Expr). expr ∷ all_beyond fewer equalities (reached ++ expr ∷ [])) (next i) [])))

-- ---- one part more
module _ (equalities parts : List (CondOf Expr)) (place : ℕ) (implied : List (CondOf Expr)) where
  abbrev those_from : List (CondOf Expr) → List (CondOf Expr) → List (CondOf Expr)
  those_from found later = found ++ implied_from (implied_limit - length found) equalities later

  one-more : (part : CondOf Expr) (later made : List (CondOf Expr)) → made ≡ implied ++ implied_by (implied_limit - length implied) equalities part → those_from made later ≡ those_from implied (part ∷ later)
  one-more part later made is =
      let own : List (CondOf Expr) = implied_by (implied_limit - length implied) equalities part in
      let longer : length (implied ++ own) ≡ length implied + length own = length-append implied own in
      let count : implied_limit - length (implied ++ own) ≡ (implied_limit - length implied) - length own = omega (arith, longer) in
      ap (λ (found : List (CondOf Expr)). those_from found later) is
      ∙ append_assoc implied own (implied_from (implied_limit - length (implied ++ own)) equalities later)
      ∙ (λ i. implied ++ (own ++ implied_from (count i) equalities later))

  pub implied-more : (part : CondOf Expr) (made : List (CondOf Expr)) → place < length parts → part ≡ get_or parts place part → made ≡ implied ++ implied_by (implied_limit - length implied) equalities part
      → those_from made (drop (place + 1) parts) ≡ those_from implied (drop place parts)
  implied-more part made within at is =
      one-more part (drop (place + 1) parts) made is ∙ ap (those_from implied) (sym (part-then parts place part within at))

  pub implied-all : (whole : List (CondOf Expr)) → length parts ≤ place → those_from implied (drop place parts) ≡ whole → implied ≡ whole
  implied-all whole beyond told = sym (append-nil implied) ∙ sym (ap (those_from implied) (drop_all place parts beyond)) ∙ told

-- ---- without an equality
none-beyond : (most : ℕ) (reached : List Expr) → all_beyond most [] reached ≡ []
none-beyond zero reached = refl
none-beyond (suc most) reached = refl

none-by : (most : ℕ) (part : CondOf Expr) (compared : Option Expr) → option_map_or (λ from. map (λ other. moved_part from other part) (all_beyond most [] (from ∷ []))) compared [] ≡ []
none-by most part None = refl
none-by most part (Some from) = ap (map (λ other. moved_part from other part)) (none-beyond most (from ∷ []))

none-from : (most : ℕ) (parts : List (CondOf Expr)) → implied_from most [] parts ≡ []
none-from most [] = refl
none-from most (part ∷ parts) =
    ap (λ (own : List (CondOf Expr)). own ++ implied_from (most - length own) [] parts) (none-by most part (compared_expr part)) ∙ none-from (most - 0) parts

pub none-implied : (equalities parts : List (CondOf Expr)) → length equalities ≡ 0 → [] ≡ implied_from implied_limit equalities parts
none-implied equalities parts none =
    sym (none-from implied_limit parts) ∙ ap (λ (found : List (CondOf Expr)). implied_from implied_limit found parts) (sym (nil_from_length equalities none))
