-- When the best of some values changes because some are removed; and which members have it, with
-- one more value.
use Rattle.std.proofs.Common.{◌≡◌, Bool, true, false, not, cond, ◌&&◌, ◌||◌, ◌⊎◌, inl, inr, List, [], ◌∷◌, ◌++◌, map, refl, sym, ap, ◌∙◌}
use Rattle.std.specs.Prelude.{filter}
use Rattle.std.specs.List.{list_any, list_all}
use Rattle.std.specs.Ordering.{is_eq, is_le}
use Rattle.std.specs.Cmp.{eq_by_cmp_equiv, both_ways}
use Rattle.std.proofs.lemmas.Bool.{or_left, or_right}
use Rattle.std.proofs.lemmas.List.{append-nil, map-append}
use Rattle.std.proofs.lemmas.List.Elements.{filter-append}
use Rattle.hippo_values.specs.declared.values.Value.{Value}
use Rattle.hippo_values.specs.declared.values.Value.TheVariants.{Null, Int, Text, Day}
use Rattle.hippo_values.specs.Order.{value_cmp}
use Rattle.hippo_values.specs.OrderLaws.{value_total}
use Rattle.hippo_model.specs.Conditions.{is_null}
use Rattle.hippo_model.specs.Forms.{lesser, greater, least_value, greatest_value}
use Rattle.hippo_distinct.proofs.DifferentLemmas.{value_exact}
use Rattle.hippo_distinct.proofs.BestValues.{IsLower, below_for_min, below_for_max, lesser_is_lower, greater_is_lower}
use Rattle.hippo_groups.proofs.BestLemmas.{least-push, greatest-push}

-- an order with null at the top, and the lowest of some values in it
pub record IsBest (below : Value → Value → Bool) (lower : Value → Value → Value) (best : List Value → Value) : Type 0 where
  pub laws : IsLower below lower
  pub top : (a : Value) → below a Null ≡ true
  pub one : (a b : Value) → (lower a b ≡ a) ⊎ (lower a b ≡ b)
  pub none : best [] ≡ Null
  pub more : (first : Value) (rest : List Value) → best (first ∷ rest) ≡ lower first (best rest)
  pub last : (values : List Value) (value : Value) → best (values ++ value ∷ []) ≡ lower (best values) value

lesser-one : (a b : Value) → (lesser a b ≡ a) ⊎ (lesser a b ≡ b)
lesser-one Null b = inr refl
lesser-one a Null = inl refl
lesser-one a b = by a b (is_le (value_cmp a b))
  where
    by : (a b : Value) (test : Bool) → (cond test a b ≡ a) ⊎ (cond test a b ≡ b)
    by a b true = inl refl
    by a b false = inr refl

greater-one : (a b : Value) → (greater a b ≡ a) ⊎ (greater a b ≡ b)
greater-one a b = by (is_le (value_cmp a b))
  where
    by : (test : Bool) → (cond test b a ≡ a) ⊎ (cond test b a ≡ b)
    by true = inr refl
    by false = inl refl

null-least : (a : Value) → is_le (value_cmp Null a) ≡ true
null-least Null = refl
null-least (Int number) = refl
null-least (Text text) = refl
null-least (Day day) = refl

pub least_is_best : IsBest below_for_min lesser least_value
least_is_best = record { laws = lesser_is_lower; top = λ a. refl; one = lesser-one; none = refl; more = λ first rest. refl; last = least-push }

pub greatest_is_best : IsBest below_for_max greater greatest_value
greatest_is_best = record { laws = greater_is_lower; top = null-least; one = greater-one; none = refl; more = λ first rest. refl; last = greatest-push }

null-exact : (a : Value) → is_null a ≡ true → a ≡ Null
null-exact Null e = refl
null-exact (Int number) e = absurd cc
null-exact (Text text) e = absurd cc
null-exact (Day day) e = absurd cc

value-itself : (a : Value) → is_eq (value_cmp a a) ≡ true
value-itself a = (eq_by_cmp_equiv value_total).refl a

not_or : (x y : Bool) → not (x || y) ≡ (not x && not y)
not_or true y = refl
not_or false y = refl

-- the elements that pass a test, among those that are kept
module _ {C : Type 0} (test keeps : C → Bool) where
  any-kept : (members : List C) → list_any test (filter keeps members) ≡ list_any (λ c. test c && keeps c) members
  any-kept [] = refl
  any-kept (c ∷ members) = by (test c) (keeps c) refl (any-kept members)
    where
      by : (passes kept : Bool) → test c ≡ passes → list_any test (filter keeps members) ≡ list_any (λ c. test c && keeps c) members
          → list_any test (cond kept (c ∷ filter keeps members) (filter keeps members)) ≡ ((passes && kept) || list_any (λ c. test c && keeps c) members)
      by true true e rest = ap (λ (here : Bool). here || list_any test (filter keeps members)) e
      by false true e rest = ap (λ (here : Bool). here || list_any test (filter keeps members)) e ∙ rest
      by true false e rest = rest
      by false false e rest = rest

  any-of-all : (members : List C) → list_any (λ c. test c && keeps c) members ≡ true → list_any test members ≡ true
  any-of-all [] some = some
  any-of-all (c ∷ members) some = by (test c) (keeps c) (any-of-all members) some
    where
      by : (passes kept : Bool) → (list_any (λ c. test c && keeps c) members ≡ true → list_any test members ≡ true)
          → ((passes && kept) || list_any (λ c. test c && keeps c) members) ≡ true → (passes || list_any test members) ≡ true
      by true kept later some = refl
      by false kept later some = later some

-- no element is kept if all are out
none-kept : {C : Type 0} (test is_out : C → Bool) (members : List C) → not (list_any (λ c. test c && not (is_out c)) members) ≡ list_all is_out (filter test members)
none-kept test is_out [] = refl
none-kept {C} test is_out (c ∷ members) = by (test c) (is_out c) refl (none-kept test is_out members)
  where
    by : (passes out : Bool) → is_out c ≡ out → not (list_any (λ c. test c && not (is_out c)) members) ≡ list_all is_out (filter test members)
        → not ((passes && not out) || list_any (λ c. test c && not (is_out c)) members) ≡ list_all is_out (cond passes (c ∷ filter test members) (filter test members))
    by true true e rest = rest ∙ sym (ap (λ (out : Bool). out && list_all is_out (filter test members)) e)
    by true false e rest = sym (ap (λ (out : Bool). out && list_all is_out (filter test members)) e)
    by false out e rest = rest

none-passes : {C : Type 0} (test : C → Bool) (members : List C) → list_any test members ≡ false → filter test members ≡ []
none-passes test [] none = refl
none-passes {C} test (c ∷ members) none = by (test c) (none-passes test members) none
  where
    by : (passes : Bool) → (list_any test members ≡ false → filter test members ≡ []) → (passes || list_any test members) ≡ false → cond passes (c ∷ filter test members) (filter test members) ≡ []
    by true later none = absurd cc
    by false later none = later none

module _ {C : Type 0} (below : Value → Value → Bool) (lower : Value → Value → Value) (best : List Value → Value) (is : IsBest below lower best) (value_of : C → Value) where
  abbrev pub best_of : List C → Value
  best_of members = best (map value_of members)

  -- whether a member has a value
  abbrev pub has : Value → C → Bool
  has wanted c = is_eq (value_cmp (value_of c) wanted)

  abbrev pub who_have_it : List C → List C
  who_have_it members = filter (has (best_of members)) members

  best-more : (c : C) (members : List C) → best_of (c ∷ members) ≡ lower (value_of c) (best_of members)
  best-more c members = is.more (value_of c) (map value_of members)

  -- the best is below each value
  below-each : (wanted : Value) (members : List C) → list_any (has wanted) members ≡ true → below (best_of members) wanted ≡ true
  below-each wanted [] some = absurd cc
  below-each wanted (c ∷ members) some = ap (λ (low : Value). below low wanted) (best-more c members) ∙ by (has wanted c) refl (below-each wanted members) some
    where
      by : (here : Bool) → has wanted c ≡ here → (list_any (has wanted) members ≡ true → below (best_of members) wanted ≡ true) → (here || list_any (has wanted) members) ≡ true
          → below (lower (value_of c) (best_of members)) wanted ≡ true
      by true e later some = ap (below (lower (value_of c) (best_of members))) (sym (value_exact (value_of c) wanted e)) ∙ is.laws.left (value_of c) (best_of members)
      by false e later some = is.laws.trans (lower (value_of c) (best_of members)) (best_of members) wanted (is.laws.right (value_of c) (best_of members)) (later some)

  -- a best that is not null is the value of a member
  pub some-have-it : (members : List C) → is_null (best_of members) ≡ false → list_any (has (best_of members)) members ≡ true
  some-have-it [] some = let null : is_null (best []) ≡ true = ap is_null is.none in absurd cc
  some-have-it (c ∷ members) some = by (is.one (value_of c) (best_of members)) (some-have-it members)
    where
      by : (lower (value_of c) (best_of members) ≡ value_of c) ⊎ (lower (value_of c) (best_of members) ≡ best_of members)
          → (is_null (best_of members) ≡ false → list_any (has (best_of members)) members ≡ true) → list_any (has (best_of (c ∷ members))) (c ∷ members) ≡ true
      by (inl e) later = ap (λ (value : Value). list_any (has value) (c ∷ members)) (best-more c members ∙ e) ∙ or_left (has (value_of c) c) (list_any (has (value_of c)) members) (value-itself (value_of c))
      by (inr e) later =
          let is_rest = best-more c members ∙ e in
          ap (λ (value : Value). list_any (has value) (c ∷ members)) is_rest
          ∙ or_right (has (best_of members) c) (list_any (has (best_of members)) members) (later (ap is_null (sym is_rest) ∙ some))

  module _ (keeps : C → Bool) (members : List C) where
    abbrev kept : List C
    kept = filter keeps members

    -- the best of all is below that of some
    below-kept : below (best_of members) (best_of kept) ≡ true
    below-kept = by (is_null (best_of kept)) refl
      where
        by : (null : Bool) → is_null (best_of kept) ≡ null → below (best_of members) (best_of kept) ≡ true
        by true e = ap (below (best_of members)) (null-exact (best_of kept) e) ∙ is.top (best_of members)
        by false e = below-each (best_of kept) members (any-of-all (has (best_of kept)) keeps members (sym (any-kept (has (best_of kept)) keeps members) ∙ some-have-it kept e))

    same : best_of kept ≡ best_of members → is_eq (value_cmp (best_of kept) (best_of members)) ≡ true
    same e = ap (λ (value : Value). is_eq (value_cmp (best_of kept) value)) (sym e) ∙ value-itself (best_of kept)

    -- the best value stays the same exactly when it is null or a member that has it is kept
    stays : is_eq (value_cmp (best_of kept) (best_of members)) ≡ (is_null (best_of members) || list_any (λ c. has (best_of members) c && keeps c) members)
    stays = both_ways _ _ so back
      where
        so : is_eq (value_cmp (best_of kept) (best_of members)) ≡ true → (is_null (best_of members) || list_any (λ c. has (best_of members) c && keeps c) members) ≡ true
        so e = by (is_null (best_of members)) refl
          where
            is_same : best_of kept ≡ best_of members
            is_same = value_exact (best_of kept) (best_of members) e

            by : (null : Bool) → is_null (best_of members) ≡ null → (null || list_any (λ c. has (best_of members) c && keeps c) members) ≡ true
            by true n = refl
            by false n =
                sym (any-kept (has (best_of members)) keeps members)
                ∙ ap (λ (value : Value). list_any (has value) kept) (sym is_same)
                ∙ some-have-it kept (ap is_null is_same ∙ n)

        back : (is_null (best_of members) || list_any (λ c. has (best_of members) c && keeps c) members) ≡ true → is_eq (value_cmp (best_of kept) (best_of members)) ≡ true
        back some = by (is_null (best_of members)) refl some
          where
            by : (null : Bool) → is_null (best_of members) ≡ null → (null || list_any (λ c. has (best_of members) c && keeps c) members) ≡ true → is_eq (value_cmp (best_of kept) (best_of members)) ≡ true
            by true n some = same (is.laws.exact (best_of kept) (best_of members) (ap (below (best_of kept)) (null-exact (best_of members) n) ∙ is.top (best_of kept)) below-kept)
            by false n some = same (is.laws.exact (best_of kept) (best_of members) (below-each (best_of members) kept (any-kept (has (best_of members)) keeps members ∙ some)) below-kept)

  -- it changes exactly when it is not null and all members that have it are out
  pub changes : (is_out : C → Bool) (members : List C)
      → not (is_eq (value_cmp (best_of (filter (λ c. not (is_out c)) members)) (best_of members))) ≡ (not (is_null (best_of members)) && list_all is_out (who_have_it members))
  changes is_out members =
      ap not (stays (λ c. not (is_out c)) members)
      ∙ not_or (is_null (best_of members)) (list_any (λ c. has (best_of members) c && not (is_out c)) members)
      ∙ ap (λ (none : Bool). not (is_null (best_of members)) && none) (none-kept (has (best_of members)) is_out members)

  -- one more member
  module _ (members : List C) (c : C) where
    abbrev more : List C
    more = members ++ c ∷ []

    pub best-push : best_of more ≡ lower (best_of members) (value_of c)
    best-push = ap best (map-append value_of members (c ∷ [])) ∙ is.last (map value_of members) (value_of c)

    who-have : (wanted : Value) (test : Bool) → has wanted c ≡ test → filter (has wanted) more ≡ filter (has wanted) members ++ cond test (c ∷ []) []
    who-have wanted test e = filter-append (has wanted) members (c ∷ []) ∙ ap (λ (test : Bool). filter (has wanted) members ++ cond test (c ∷ []) []) e

    -- it has the best value too
    module _ (equal : has (best_of members) c ≡ true) where
      pub best-equal : best_of more ≡ best_of members
      best-equal = best-push ∙ by (is.one (best_of members) (value_of c))
        where
          by : (lower (best_of members) (value_of c) ≡ best_of members) ⊎ (lower (best_of members) (value_of c) ≡ value_of c) → lower (best_of members) (value_of c) ≡ best_of members
          by (inl e) = e
          by (inr e) = e ∙ value_exact (value_of c) (best_of members) equal

      pub who-equal : who_have_it more ≡ who_have_it members ++ c ∷ []
      who-equal = ap (λ (value : Value). filter (has value) more) best-equal ∙ who-have (best_of members) true equal

    module _ (apart : has (best_of members) c ≡ false) where
      -- it has another value, which is not better
      pub who-same : lower (best_of members) (value_of c) ≡ best_of members → who_have_it more ≡ who_have_it members
      who-same lower_is = ap (λ (value : Value). filter (has value) more) (best-push ∙ lower_is) ∙ who-have (best_of members) false apart ∙ append-nil (who_have_it members)

      -- it has a better one
      module _ (lower_is : lower (best_of members) (value_of c) ≡ value_of c) where
        nobody : list_any (has (value_of c)) members ≡ false
        nobody = by (list_any (has (value_of c)) members) refl
          where
            by : (some : Bool) → list_any (has (value_of c)) members ≡ some → some ≡ false
            by false e = refl
            by true e =
                let under : below (value_of c) (best_of members) ≡ true = ap (λ (value : Value). below value (best_of members)) (sym lower_is) ∙ is.laws.left (best_of members) (value_of c) in
                let equal : has (best_of members) c ≡ true = ap (λ (value : Value). is_eq (value_cmp value (best_of members)))
                (sym (is.laws.exact (best_of members) (value_of c) (below-each (value_of c) members e) under)) ∙ value-itself (best_of members) in
                absurd cc

        pub who-better : who_have_it more ≡ c ∷ []
        who-better =
            ap (λ (value : Value). filter (has value) more) (best-push ∙ lower_is)
            ∙ who-have (value_of c) true (value-itself (value_of c))
            ∙ ap (λ (some : List C). some ++ c ∷ []) (none-passes (has (value_of c)) members nobody)
