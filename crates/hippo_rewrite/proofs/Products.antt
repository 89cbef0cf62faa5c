-- The product of lists whose members are filtered and mapped, in terms of the product of the
-- original lists.
use Rattle.std.proofs.Common.{◌≡◌, ◌∙◌, sym, refl, ap, arith, Bool, true, false, cond, ◌&&◌, List, [], ◌∷◌, ◌++◌, map, length}
use Rattle.std.specs.Prelude.{filter, filter_map, flat_map}
use Rattle.std.specs.Bool.{then_some}
use Rattle.std.specs.List.{cons_option}
use Rattle.std.proofs.lemmas.List.{map-append}
use Rattle.std.proofs.lemmas.List.Elements.{filter-append}
use Rattle.hippo_model.specs.Answers.{product}

filter-none : {X : Type 0} (xs : List X) → filter (λ x. false) xs ≡ []
filter-none [] = refl
filter-none (x ∷ xs) = filter-none xs

-- a test that all members share
filter-shared : {X : Type 0} (shared : Bool) (test : X → Bool) (xs : List X) → filter (λ x. shared && test x) xs ≡ cond shared (filter test xs) []
filter-shared true test xs = refl
filter-shared false test xs = filter-none xs

filter-of_map : {X Y : Type 0} (test : Y → Bool) (f : X → Y) (xs : List X) → filter test (map f xs) ≡ map f (filter (λ x. test (f x)) xs)
filter-of_map test f [] = refl
filter-of_map {X} {Y} test f (x ∷ xs) =
    elim (test (f x)) as (λ passes. cond passes (f x ∷ filter test (map f xs)) (filter test (map f xs)) ≡ map f (cond passes (x ∷ filter (λ x. test (f x)) xs) (filter (λ x. test (f x)) xs))) [
      | true ↦ ap (λ (rest : List Y). f x ∷ rest) (filter-of_map test f xs)
      | false ↦ filter-of_map test f xs
    ]

map-twice : {X Y Z : Type 0} (g : Y → Z) (f : X → Y) (xs : List X) → map g (map f xs) ≡ map (λ x. g (f x)) xs
map-twice g f [] = refl
map-twice {X} {Y} {Z} g f (x ∷ xs) = ap (λ (rest : List Z). g (f x) ∷ rest) (map-twice g f xs)

module _ {R A B : Type 0} (test : R → A → Bool) (change : R → A → B) where
  -- the members that pass, mapped
  abbrev pub kept_of : List R → List (List A) → List (List B)
  kept_of (r ∷ rules) (members ∷ lists) = filter_map (λ a. then_some (test r a) (change r a)) members ∷ kept_of rules lists
  kept_of rules lists = []

  -- the test and the map of a combination
  abbrev pub all_pass : List R → List A → Bool
  all_pass (r ∷ rules) (a ∷ members) = test r a && all_pass rules members
  all_pass rules members = true

  abbrev pub all_changed : List R → List A → List B
  all_changed (r ∷ rules) (a ∷ members) = change r a ∷ all_changed rules members
  all_changed rules members = []

  abbrev with_first : {X : Type 0} → X → List (List X) → List (List X)
  with_first first rest = map (λ others. first ∷ others) rest

  module _ (r : R) (rules : List R) (rest : List (List A)) (changed_rest : List (List B)) (is : changed_rest ≡ map (all_changed rules) (filter (all_pass rules) rest)) where
    -- the combinations that begin with one member
    one_member : (a : A) → map (all_changed (r ∷ rules)) (filter (all_pass (r ∷ rules)) (with_first a rest)) ≡ cond (test r a) (with_first (change r a) changed_rest) []
    one_member a =
        ap (map (all_changed (r ∷ rules))) (filter-of_map (all_pass (r ∷ rules)) (λ (others : List A). a ∷ others) rest ∙ ap (with_first a) (filter-shared (test r a) (all_pass rules) rest))
        ∙ by_test (test r a)
      where
        by_test : (passes : Bool) → map (all_changed (r ∷ rules)) (with_first a (cond passes (filter (all_pass rules) rest) [])) ≡ cond passes (with_first (change r a) changed_rest) []
        by_test false = refl
        by_test true =
            map-twice (all_changed (r ∷ rules)) (λ (others : List A). a ∷ others) (filter (all_pass rules) rest)
            ∙ sym (map-twice (λ (others : List B). change r a ∷ others) (all_changed rules) (filter (all_pass rules) rest))
            ∙ ap (with_first (change r a)) (sym is)

    one_more : (passes : Bool) (b : B) (others : List B) (combinations : List (List B)) → flat_map (λ first. with_first first changed_rest) others ≡ combinations
        → flat_map (λ first. with_first first changed_rest) (cons_option (then_some passes b) others) ≡ cond passes (with_first b changed_rest) [] ++ combinations
    one_more true b others combinations e = ap (λ (more : List (List B)). with_first b changed_rest ++ more) e
    one_more false b others combinations e = e

    one_list : (members : List A) → flat_map (λ first. with_first first changed_rest) (filter_map (λ a. then_some (test r a) (change r a)) members)
        ≡ map (all_changed (r ∷ rules)) (filter (all_pass (r ∷ rules)) (flat_map (λ first. with_first first rest) members))
    one_list [] = refl
    one_list (a ∷ members) =
        let later : List (List A) = flat_map (λ first. with_first first rest) members in
        let split : map (all_changed (r ∷ rules)) (filter (all_pass (r ∷ rules)) (with_first a rest ++ later))
        ≡ map (all_changed (r ∷ rules)) (filter (all_pass (r ∷ rules)) (with_first a rest)) ++ map (all_changed (r ∷ rules)) (filter (all_pass (r ∷ rules)) later) =
        ap (map (all_changed (r ∷ rules))) (filter-append (all_pass (r ∷ rules)) (with_first a rest) later)
        ∙ map-append (all_changed (r ∷ rules)) (filter (all_pass (r ∷ rules)) (with_first a rest)) (filter (all_pass (r ∷ rules)) later) in
        one_more (test r a) (change r a) (filter_map (λ a. then_some (test r a) (change r a)) members) (map (all_changed (r ∷ rules)) (filter (all_pass (r ∷ rules)) later)) (one_list members)
        ∙ ap (λ (front : List (List B)). front ++ map (all_changed (r ∷ rules)) (filter (all_pass (r ∷ rules)) later)) (sym (one_member a))
        ∙ sym split

  pub product-kept_of : (rules : List R) (lists : List (List A)) → length rules ≡ length lists
      → product (kept_of rules lists) ≡ map (all_changed rules) (filter (all_pass rules) (product lists))
  product-kept_of [] [] same = refl
  product-kept_of [] (members ∷ lists) same = absurd (omega arith)
  product-kept_of (r ∷ rules) [] same = absurd (omega arith)
  product-kept_of (r ∷ rules) (members ∷ lists) same =
      let later : length rules ≡ length lists = omega arith in
      one_list r rules (product lists) (product (kept_of rules lists)) (product-kept_of rules lists later) members
