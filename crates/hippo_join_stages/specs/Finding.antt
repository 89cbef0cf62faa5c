-- What a join finds: the places of all qualifying combinations.
use Rattle.std.specs.Prelude.{◌≡◌, ℕ, ◌<◌, ◌≤◌, Bool, true, ◌||◌, List, length, map, Option, ◌⊎◌}
use Rattle.std.specs.List.{list_any, Contains}
use Rattle.std.specs.List.Sorted.{IsStrictlySortedBy}
use Rattle.std.specs.Ordering.{is_eq, nat_cmp}
use Rattle.std.specs.Cmp.Lexicographic.{slice_cmp}
use Rattle.hippo_model.specs.Terms.{Place}
use Rattle.hippo_join_stages.specs.declared.stages.Stage.{Stage}
use Rattle.hippo_join_lookups.specs.Known.{is_chosen}

-- whether a list contains these places
abbrev pub has_places : List Place → List (List Place) → Bool
has_places places some = list_any (λ other. is_eq (slice_cmp nat_cmp places other)) some

-- the combinations are in the order of the product, without duplicates
abbrev pub IsRising : List (List Place) → Type 0
IsRising some = IsStrictlySortedBy (slice_cmp nat_cmp) some

-- each table's row is chosen, or some stage chooses it
abbrev pub Covers : List Stage → List (Option Place) → Type 0
Covers stages slots =
    (table : Place) → table < length slots
    → (is_chosen slots table ≡ true) ⊎ Contains (map (λ stage. stage.table) stages) table

abbrev pub HasOnePlaceMore : List Place → List (List Place) → List (List Place) → Type 0
HasOnePlaceMore places before after =
    (other : List Place) → has_places other after
    ≡ (is_eq (slice_cmp nat_cmp other places) || has_places other before)

-- only combinations of a kind were found, and all of them unless there are more than a limit
pub record AreFound (Is : List Place → Type 0) (limit : ℕ) (found : List (List Place))
    : Type 0 where
  pub sound : (places : List Place) → has_places places found ≡ true → Is places
  pub whole : length found ≤ limit → (places : List Place) → Is places
      → has_places places found ≡ true
