-- One more element in each loop.
use Rattle.std.proofs.Common.{◌≡◌, ℕ, zero, suc, ◌+◌, ◌-◌, ◌<◌, ◌≤◌, Bool, true, false, ◌||◌, not, cond, List, [], ◌∷◌, ◌++◌, map, length, get_or, drop, take, refl, sym, ap, subst, ◌∙◌, Some, inl, inr, ◌⊎◌, nat_eq, nat_lt, if◌then◌else◌, arith, append_assoc}
use Rattle.std.specs.Prelude.{slice_get, bytes_eq}
use Rattle.std.specs.List.{All, Contains, list_any}
use Rattle.std.specs.List.Sorted.{IsPermutation}
use Rattle.std.proofs.lemmas.Bool.{false≢true}
use Rattle.std.proofs.lemmas.Bool.Decides.{nat_tests}
use Rattle.std.proofs.lemmas.List.{drop_more, take_more, take_all, take-append-le, take-append-drop, length-drop}
use Rattle.std.proofs.lemmas.List.Elements.{All-push, Contains-append_left, Contains-push}
use Rattle.hippo_values.specs.declared.names.Name.{Name}
use Rattle.hippo_model.specs.Terms.{Place}
use Rattle.hippo_audit_common.specs.Commons.{common_tables, place_in}

-- a table is in a list exactly when its place is below the list's length
pub place-below : (tables : List Name) (table : Name) → nat_lt (place_in tables table) (length tables) ≡ list_any (bytes_eq table) tables
place-below [] table = refl
place-below (first ∷ tables) table = by (bytes_eq table first) (list_any (bytes_eq table) tables) (place-below tables table)
  where
    by : (b later : Bool) → nat_lt (place_in tables table) (length tables) ≡ later → nat_lt (cond (not b) (1 + place_in tables table) 0) (suc (length tables)) ≡ (b || later)
    by true later is = grind (arith, nat_tests)
    by false later is = one_less (place_in tables table) (length tables) ∙ is
      where
        one_less : (a n : ℕ) → nat_lt (1 + a) (suc n) ≡ nat_lt a n
        one_less a n = grind (arith, nat_tests)

-- the table at a place, whether it is common or not
module _ (f : Name → Place) (query audit : List Name) (i : ℕ) (table : Name) (within : i < length audit) (at : table ≡ get_or audit i table) where
  abbrev rest : List Place
  rest = map f (common_tables query (drop (i + 1) audit))

  here : (b : Bool) → list_any (bytes_eq table) query ≡ b → map f (common_tables query (drop i audit)) ≡ cond b (f table ∷ rest) rest
  here b is =
      ap (λ l. map f (common_tables query l)) (drop_more audit i table within)
      ∙ ap (λ (name : Name). map f (common_tables query (name ∷ drop (i + 1) audit))) (sym at)
      ∙ ap (λ t. map f (cond t (table ∷ common_tables query (drop (i + 1) audit)) (common_tables query (drop (i + 1) audit)))) is
      ∙ spread b
    where
      spread : (b : Bool) → map f (cond b (table ∷ common_tables query (drop (i + 1) audit)) (common_tables query (drop (i + 1) audit))) ≡ cond b (f table ∷ rest) rest
      spread true = refl
      spread false = refl

  pub one-more : (places more whole : List Place) (test : Bool) → test ≡ nat_lt (place_in query table) (length query) → more ≡ (if test then places ++ f table ∷ [] else places) → places ++ map f (common_tables query (drop i audit)) ≡ whole → more ++ rest ≡ whole
  one-more places more whole test is pushed so_far = by test (sym (place-below query table) ∙ sym is) pushed
    where
      by : (b : Bool) → list_any (bytes_eq table) query ≡ b → more ≡ (if b then places ++ f table ∷ [] else places) → more ++ rest ≡ whole
      by true stands pushed =
          ap (λ l. l ++ rest) pushed ∙ append_assoc places (f table ∷ []) rest ∙ sym (ap (λ l. places ++ l) (here true stands)) ∙ so_far
      by false stands pushed = ap (λ l. l ++ rest) pushed ∙ sym (ap (λ l. places ++ l) (here false stands)) ∙ so_far

-- the first elements of a list, and one more
module _ {X : Type 0} where
  some_is : {a b : X} → Some a ≡ Some b → a ≡ b
  some_is e = cc

  pub take-one-more : (xs : List X) (i : ℕ) (x : X) → i < length xs → x ≡ get_or xs i x → take (i + 1) xs ≡ take i xs ++ x ∷ []
  take-one-more xs i x within at = take_more xs i x within ∙ ap (λ y. take i xs ++ y ∷ []) (sym at)

  get_is : (xs : List X) (i : ℕ) (x : X) → slice_get xs i ≡ Some x → (i < length xs) × (x ≡ get_or xs i x)
  get_is [] i x at = absurd cc
  get_is (y ∷ xs) zero x at = (omega arith, sym (some_is at))
  get_is (y ∷ xs) (suc i) x at = let later = get_is xs i x at in (omega (arith, later.0), later.1)

  pub all-one-more : (P : X → Type 0) (xs : List X) (i : ℕ) (x : X) → slice_get xs i ≡ Some x → All P (take i xs) → P x → All P (take (i + 1) xs)
  all-one-more P xs i x at so_far here = let found = get_is xs i x at in subst (λ l. All P l) (sym (take-one-more xs i x found.0 found.1)) (All-push P (take i xs) x so_far here)

pub map-push : {A B : Type 0} (f : A → B) (xs : List A) (x : A) → map f (xs ++ x ∷ []) ≡ map f xs ++ f x ∷ []
map-push f [] x = refl
map-push f (y ∷ xs) x = ap (λ l. f y ∷ l) (map-push f xs x)

-- one more pair of stages
pub mapped-more : {A B : Type 0} (f : A → B) (some more : List A) (one : A) (xs : List B) (i : ℕ) (x : B) → map f some ≡ take i xs → more ≡ some ++ one ∷ [] → f one ≡ x → i < length xs → x ≡ get_or xs i x → map f more ≡ take (i + 1) xs
mapped-more f some more one xs i x so_far pushed is within at =
    ap (map f) pushed ∙ map-push f some one ∙ (λ j. so_far j ++ is j ∷ []) ∙ sym (take-one-more xs i x within at)

pub all-of-them : {X : Type 0} (P : X → Type 0) (xs : List X) (n : ℕ) → length xs ≤ n → All P (take n xs) → All P xs
all-of-them P xs n past all = subst (λ l. All P l) (take_all n xs past) all

-- an order of tables, and one more table if it is new
module _ (tables : ℕ) (first order more : List Place) (table : Place) (new : Bool) (pushed : more ≡ (if new then order ++ table ∷ [] else order)) where
  pub below-more : table < tables → All (λ place. place < tables) order → All (λ place. place < tables) more
  below-more lower below = subst (λ (l : List Place). All (λ place. place < tables) l) (sym pushed) (by new)
    where
      by : (b : Bool) → All (λ place. place < tables) (if b then order ++ table ∷ [] else order)
      by true = All-push (λ place. place < tables) order table below lower
      by false = below

  has_by : (places : List Place) (place : Place) → list_any (nat_eq place) places ≡ true → Contains places place
  has_by [] place any = absurd (false≢true any)
  has_by (other ∷ places) place any = by (nat_eq place other) refl any (has_by places place)
    where
      by : (b : Bool) → nat_eq place other ≡ b → (b || list_any (nat_eq place) places) ≡ true → (list_any (nat_eq place) places ≡ true → Contains places place) → Contains (other ∷ places) place
      by true same any later = let one : other ≡ place = grind (arith, nat_tests) in (0, omega arith, one)
      by false same any later = let found = later any in (suc found.0, omega (arith, found.1), found.2)

  pub whole-more : new ≡ not (list_any (nat_eq table) order) → ((place : Place) → place < table → Contains order place) → (place : Place) → place < table + 1 → Contains more place
  whole-more is whole place lower = subst (λ (l : List Place). Contains l place) (sym pushed) (by new is)
    where
      below_or_at : (k n : ℕ) → k < n + 1 → (k < n) ⊎ (k ≡ n)
      below_or_at k n below = grind arith

      known : (b : Bool) → false ≡ not b → b ≡ true
      known true e = refl
      known false e = e

      by : (b : Bool) → b ≡ not (list_any (nat_eq table) order) → Contains (if b then order ++ table ∷ [] else order) place
      by true e = elim (below_or_at place table lower) as (λ _. Contains (order ++ table ∷ []) place) [
        | inl before ↦ Contains-append_left order (table ∷ []) place (whole place before)
        | inr here ↦ subst (λ (p : Place). Contains (order ++ table ∷ []) p) (sym here) (Contains-push order table)
      ]
      by false e = elim (below_or_at place table lower) as (λ _. Contains order place) [
        | inl before ↦ whole place before
        | inr here ↦ subst (λ (p : Place). Contains order p) (sym here) (has_by order table (known (list_any (nat_eq table) order) e))
      ]

  pub front-more : take (length first) order ≡ first → take (length first) more ≡ first
  front-more front = ap (take (length first)) pushed ∙ by new
    where
      short : (n : ℕ) (xs : List Place) → length (take n xs) ≤ length xs
      short zero xs = omega arith
      short (suc n) [] = omega arith
      short (suc n) (x ∷ xs) = let less = short n xs in omega (arith, less)

      long_enough : length first ≤ length order
      long_enough = let same : length (take (length first) order) ≡ length first = ap length front in omega (arith, same, short (length first) order)

      by : (b : Bool) → take (length first) (if b then order ++ table ∷ [] else order) ≡ first
      by true = take-append-le (length first) order (table ∷ []) long_enough ∙ front
      by false = front

-- the order of all tables, with those after the first ones permuted
pub whole-again : (first here tables order : List Place) → here ≡ tables → take (length first) tables ≡ first → IsPermutation (first ++ take (length here - length first) (drop (length first) here)) order → IsPermutation tables order
whole-again first here tables order is front moved =
    let rest : take (length here - length first) (drop (length first) here) ≡ drop (length first) here =
    take_all (length here - length first) (drop (length first) here) (omega (arith, length-drop (length first) here)) in
    let same : first ++ take (length here - length first) (drop (length first) here) ≡ tables =
    ap (λ l. first ++ l) rest ∙ ap (λ l. first ++ drop (length first) l) is ∙ ap (λ l. l ++ drop (length first) tables) (sym front) ∙ take-append-drop (length first) tables in
    subst (λ (l : List Place). IsPermutation l order) same moved
