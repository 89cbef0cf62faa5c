-- The product of tables by places: each combination once, in ascending order.
use Rattle.std.proofs.Common.{◌≡◌, ℕ, zero, suc, ◌+◌, ◌<◌, Bool, true, false, ◌&&◌, ◌||◌, cond, List, [], ◌∷◌, ◌++◌, map, length, nat_eq, nat_lt, not, refl, sym, ap, ◌∙◌, arith, add-one}
use Rattle.std.specs.Prelude.{filter}
use Rattle.std.specs.List.{list_any, flat_map, range_with_len, AllByRecursion}
use Rattle.std.specs.List.Sorted.{IsStrictlySortedBy}
use Rattle.std.specs.Ordering.{is_eq, nat_cmp, ordering_then}
use Rattle.std.specs.declared.cmp.Ordering.{Ordering}
use Rattle.std.specs.declared.cmp.Ordering.TheVariants.{Less, Equal}
use Rattle.std.specs.Cmp.Lexicographic.{slice_cmp}
use Rattle.std.proofs.lemmas.Bool.Decides.{nat_tests}
use Rattle.std.proofs.lemmas.List.Folds.{list_any-append, flat_map-map}
use Rattle.hippo_model.specs.declared.born_row.BornRow.{BornRow}
use Rattle.hippo_model.specs.Terms.{Combination, Place}
use Rattle.hippo_tables_keyed.specs.RowSets.{KeyedRows}
use Rattle.hippo_model.specs.Answers.{product}
use Rattle.hippo_eval.specs.Walks.{rows_of}
use Rattle.hippo_join_stages.specs.Finding.{has_places, IsRising}
use Rattle.hippo_join_lookups.specs.Places.{row_at_place, chosen_rows, in_range, places_of}

module _ {A B : Type 0} where
  pub map-flat_map : {X : Type 0} (f : A → B) (g : X → List A) (xs : List X) → map f (flat_map g xs) ≡ flat_map (λ x. map f (g x)) xs
  map-flat_map f g [] = refl
  map-flat_map f g (x ∷ xs) = map-append f (g x) (flat_map g xs) ∙ ap (λ l. map f (g x) ++ l) (map-flat_map f g xs)
    where
      map-append : (f : A → B) (xs ys : List A) → map f (xs ++ ys) ≡ map f xs ++ map f ys
      map-append f [] ys = refl
      map-append f (x ∷ xs) ys = ap (λ l. f x ∷ l) (map-append f xs ys)

  pub map-map : {C : Type 0} (g : B → C) (f : A → B) (xs : List A) → map g (map f xs) ≡ map (λ x. g (f x)) xs
  map-map g f [] = refl
  map-map g f (x ∷ xs) = ap (λ l. g (f x) ∷ l) (map-map g f xs)

  pub filter-map : (p : B → Bool) (f : A → B) (xs : List A) → filter p (map f xs) ≡ map f (filter (λ x. p (f x)) xs)
  filter-map p f [] = refl
  filter-map p f (x ∷ xs) = taken (p (f x)) x (filter (λ y. p (f y)) xs) (filter p (map f xs)) (filter-map p f xs)
    where
      taken : (test : Bool) (x : A) (some : List A) (ys : List B) → ys ≡ map f some → cond test (f x ∷ ys) ys ≡ map f (cond test (x ∷ some) some)
      taken true x some ys e = ap (λ l. f x ∷ l) e
      taken false x some ys e = e

flat_map_same : {X A : Type 0} (f g : X → List A) → ((x : X) → f x ≡ g x) → (xs : List X) → flat_map f xs ≡ flat_map g xs
flat_map_same f g same [] = refl
flat_map_same f g same (x ∷ xs) = λ i. same x i ++ flat_map_same f g same xs i

-- the rows at all places of a table are its rows
shifted : {X : Type 0} (f : ℕ → X) (a n : ℕ) → map f (range_with_len (a + 1) n) ≡ map (λ k. f (suc k)) (range_with_len a n)
shifted f a zero = refl
shifted f a (suc n) = rw add-one (ap (λ l. f (suc a) ∷ l) (rw (← add-one a) (shifted f (a + 1) n)))

pub each_row : (rows : List BornRow) → map (row_at_place rows) (range_with_len 0 (length rows)) ≡ rows
each_row [] = refl
each_row (row ∷ rows) = ap (λ l. row ∷ l) (shifted (row_at_place (row ∷ rows)) 0 (length rows) ∙ each_row rows)

-- one table before the others
one_more : (set : KeyedRows) (sets : List KeyedRows) (place : Place) (some : List (List Place)) → map (chosen_rows (set ∷ sets)) (map (λ others. place ∷ others) some) ≡ map (λ others. row_at_place set.rows place ∷ others) (map (chosen_rows sets) some)
one_more set sets place [] = refl
one_more set sets place (places ∷ some) = ap (λ l. (row_at_place set.rows place ∷ chosen_rows sets places) ∷ l) (one_more set sets place some)

-- the product of rows is that of their places
pub product-rows : (sets : List KeyedRows) → product (rows_of sets) ≡ map (chosen_rows sets) (places_of sets)
product-rows [] = refl
product-rows (set ∷ sets) =
    let after : BornRow → List Combination = λ row. map (λ others. row ∷ others) (product (rows_of sets)) in
    let later : Place → List Combination = λ place. map (λ others. row_at_place set.rows place ∷ others) (map (chosen_rows sets) (places_of sets)) in
    ap (flat_map after) (sym (each_row set.rows)) ∙ flat_map-map after (row_at_place set.rows) (range_with_len 0 (length set.rows))
    ∙ flat_map_same (λ place. after (row_at_place set.rows place)) (λ place. map (chosen_rows (set ∷ sets)) (map (λ others. place ∷ others) (places_of sets)))
    (λ place. ap (map (λ others. row_at_place set.rows place ∷ others)) (product-rows sets) ∙ sym (one_more set sets place (places_of sets))) (range_with_len 0 (length set.rows))
    ∙ sym (map-flat_map (chosen_rows (set ∷ sets)) (λ place. map (λ others. place ∷ others) (places_of sets)) (range_with_len 0 (length set.rows)))

-- whether a list contains places after a first one
remaining : (a p : Place) (rest : List Place) (some : List (List Place)) → has_places (a ∷ rest) (map (λ others. p ∷ others) some) ≡ (nat_eq a p && has_places rest some)
remaining a p rest [] = by_cases (nat_eq a p)
  where
    by_cases : (b : Bool) → false ≡ (b && false)
    by_cases true = refl
    by_cases false = refl
remaining a p rest (others ∷ some) = rw (remaining a p rest some, first_same a p (slice_cmp nat_cmp rest others)) (spread (nat_eq a p) (is_eq (slice_cmp nat_cmp rest others)) (has_places rest some))
  where
    first_same : (a p : Place) (o : Ordering) → is_eq (ordering_then (nat_cmp a p) o) ≡ (nat_eq a p && is_eq o)
    first_same a p o = grind (arith, nat_tests)

    spread : (b x y : Bool) → ((b && x) || (b && y)) ≡ (b && (x || y))
    spread true x y = refl
    spread false x y = refl

nothing_after : (p : Place) (some : List (List Place)) → has_places [] (map (λ others. p ∷ others) some) ≡ false
nothing_after p [] = refl
nothing_after p (others ∷ some) = nothing_after p some

none_in_product : (range : List Place) (some : List (List Place)) → has_places [] (flat_map (λ p. map (λ others. p ∷ others) some) range) ≡ false
none_in_product [] some = refl
none_in_product (p ∷ range) some =
    list_any-append (λ other. is_eq (slice_cmp nat_cmp [] other)) (map (λ others. p ∷ others) some) (flat_map (λ p. map (λ others. p ∷ others) some) range)
    ∙ rw (nothing_after p some) (none_in_product range some)

in_product : (a : Place) (rest : List Place) (range : List Place) (some : List (List Place)) → has_places (a ∷ rest) (flat_map (λ p. map (λ others. p ∷ others) some) range) ≡ (list_any (nat_eq a) range && has_places rest some)
in_product a rest [] some = refl
in_product a rest (p ∷ range) some =
    list_any-append (λ other. is_eq (slice_cmp nat_cmp (a ∷ rest) other)) (map (λ others. p ∷ others) some) (flat_map (λ p. map (λ others. p ∷ others) some) range)
    ∙ rw (remaining a p rest some, in_product a rest range some) (spread (nat_eq a p) (list_any (nat_eq a) range) (has_places rest some))
  where
    spread : (x y b : Bool) → ((x && b) || (y && b)) ≡ ((x || y) && b)
    spread true true true = refl
    spread true true false = refl
    spread true false true = refl
    spread true false false = refl
    spread false y b = refl

in_a_range : (a start n : ℕ) → list_any (nat_eq a) (range_with_len start n) ≡ (not (nat_lt a start) && nat_lt a (start + n))
in_a_range a start zero = grind (arith, nat_tests)
in_a_range a start (suc n) = rw (in_a_range a (start + 1) n) (grind (arith, nat_tests))

-- the product contains a combination exactly when its places are in range
pub has-places_of : (sets : List KeyedRows) (places : List Place) → has_places places (places_of sets) ≡ in_range sets places
has-places_of [] [] = refl
has-places_of [] (place ∷ places) = refl
has-places_of (set ∷ sets) [] = none_in_product (range_with_len 0 (length set.rows)) (places_of sets)
has-places_of (set ∷ sets) (place ∷ places) =
    in_product place places (range_with_len 0 (length set.rows)) (places_of sets)
    ∙ rw (has-places_of sets places, in_a_range place 0 (length set.rows)) (ap (λ t. t && in_range sets places) (from_zero place (length set.rows)))
  where
    from_zero : (a n : ℕ) → (not (nat_lt a 0) && nat_lt a (0 + n)) ≡ nat_lt a n
    from_zero a n = grind (arith, nat_tests)

-- ---- the order of the product
abbrev pub Below : List Place → List (List Place) → Type 0
Below first rest = AllByRecursion (λ other. slice_cmp nat_cmp first other ≡ Less) rest

All-append : {X : Type 0} (P : X → Type 0) (xs ys : List X) → AllByRecursion P xs → AllByRecursion P ys → AllByRecursion P (xs ++ ys)
All-append P [] ys a b = b
All-append P (x ∷ xs) ys a b = (a.0, All-append P xs ys a.1 b)

pub rising-append : (xs ys : List (List Place)) → IsRising xs → IsRising ys → AllByRecursion (λ x. Below x ys) xs → IsRising (xs ++ ys)
unfolding IsStrictlySortedBy
rising-append [] ys a b below = b
rising-append (x ∷ xs) ys a b below = (All-append (λ other. slice_cmp nat_cmp x other ≡ Less) xs ys a.0 below.0, rising-append xs ys a.1 b below.1)

pub same-first : (p : Place) (o : Ordering) → ordering_then (nat_cmp p p) o ≡ o
same-first p o = let e : nat_cmp p p ≡ Equal = grind (arith, nat_tests) in rw e refl

below_after : (p : Place) (first : List Place) (rest : List (List Place)) → Below first rest → Below (p ∷ first) (map (λ others. p ∷ others) rest)
below_after p first [] below = tt
below_after p first (other ∷ rest) below = (same-first p (slice_cmp nat_cmp first other) ∙ below.0, below_after p first rest below.1)

rising-remaining : (p : Place) (some : List (List Place)) → IsRising some → IsRising (map (λ others. p ∷ others) some)
unfolding IsStrictlySortedBy
rising-remaining p [] rising = tt
rising-remaining p (first ∷ rest) rising = (below_after p first rest rising.0, rising-remaining p rest rising.1)

lower_first : (p q : Place) (first : List Place) (some : List (List Place)) → p < q → Below (p ∷ first) (map (λ others. q ∷ others) some)
lower_first p q first [] lower = tt
lower_first p q first (other ∷ some) lower = let e : nat_cmp p q ≡ Less = grind (arith, nat_tests) in (rw e refl, lower_first p q first some lower)

lower_than_range : (p start n : ℕ) (first : List Place) (some : List (List Place)) → p < start → Below (p ∷ first) (flat_map (λ q. map (λ others. q ∷ others) some) (range_with_len start n))
lower_than_range p start zero first some lower = tt
lower_than_range p start (suc n) first some lower =
    let next : p < start + 1 = omega arith in
    All-append (λ other. slice_cmp nat_cmp (p ∷ first) other ≡ Less) (map (λ others. start ∷ others) some) (flat_map (λ q. map (λ others. q ∷ others) some) (range_with_len (start + 1) n))
    (lower_first p start first some lower) (lower_than_range p (start + 1) n first some next)

all_lower : (p start n : ℕ) (firsts some : List (List Place)) → p < start → AllByRecursion (λ x. Below x (flat_map (λ q. map (λ others. q ∷ others) some) (range_with_len start n))) (map (λ others. p ∷ others) firsts)
all_lower p start n [] some lower = tt
all_lower p start n (first ∷ firsts) some lower = (lower_than_range p start n first some lower, all_lower p start n firsts some lower)

rising-product : (start n : ℕ) (some : List (List Place)) → IsRising some → IsRising (flat_map (λ q. map (λ others. q ∷ others) some) (range_with_len start n))
unfolding IsStrictlySortedBy
rising-product start zero some rising = tt
rising-product start (suc n) some rising =
    let next : start < start + 1 = omega arith in
    rising-append (map (λ others. start ∷ others) some) (flat_map (λ q. map (λ others. q ∷ others) some) (range_with_len (start + 1) n))
    (rising-remaining start some rising) (rising-product (start + 1) n some rising) (all_lower start (start + 1) n some some next)

-- the product's combinations ascend
pub rising-places_of : (sets : List KeyedRows) → IsRising (places_of sets)
unfolding IsStrictlySortedBy
rising-places_of [] = (tt, tt)
rising-places_of (set ∷ sets) = rising-product 0 (length set.rows) (places_of sets) (rising-places_of sets)
