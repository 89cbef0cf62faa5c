-- The first refusal of several groups, one after the other.
use Rattle.std.proofs.Common.{◌≡◌, ℕ, ◌+◌, ◌<◌, List, [], ◌∷◌, ◌++◌, length, get_or, drop, Some, refl, subst}
use Rattle.std.specs.List.{flat_map}
use Rattle.hippo_typing_catalog.proofs.ListLemmas.{drop_at_get_or}
use Rattle.std.proofs.Common.{slice_get}
use Rattle.hippo_model.specs.declared.name_fault.NameFault.{NameFault}
use Rattle.hippo_typing_catalog.specs.Refusals.{IsFirstOf}

-- the first refusal of a list stays the first when more follow
pub first_with_more : (refusals later : List NameFault) (fault : NameFault) → IsFirstOf refusals fault → IsFirstOf (refusals ++ later) fault
first_with_more [] later fault first = λ other. absurd (none (first other))
  where
    none : slice_get (let l : List NameFault = [] in l) 0 ≡ Some fault → ⊥
    none e = cc
first_with_more (refusal ∷ rest) later fault first = first

-- if nothing is refused before, the first of the rest is the first of all
pub first_after : (before refusals : List NameFault) (fault : NameFault) → before ≡ [] → IsFirstOf refusals fault → IsFirstOf (before ++ refusals) fault
first_after before refusals fault none first = rw none first

-- if no earlier item of a slice is refused, an item's first refusal is the first of all
pub first_at_item : {A : Type 0} (refuse : A → List NameFault) (items slice : List A) (i : ℕ) (item : A) (fault : NameFault) → slice ≡ items → i < length slice → item ≡ get_or slice i item → flat_map refuse items ≡ flat_map refuse (drop i items) → IsFirstOf (refuse item) fault → IsFirstOf (flat_map refuse items) fault
first_at_item {A} refuse items slice i item fault same within read left first =
    let parted : drop i items ≡ item ∷ drop (i + 1) items = subst (λ (l : List A). drop i l ≡ item ∷ drop (i + 1) l) same (drop_at_get_or slice i item within read) in
    rw (left, parted) (first_with_more (refuse item) (flat_map refuse (drop (i + 1) items)) fault first)

-- which of three groups gives the first refusal
module _ (a b c : List NameFault) (fault : NameFault) where
  pub first_of_three : IsFirstOf a fault → IsFirstOf (a ++ b ++ c) fault
  first_of_three first = first_with_more (a ++ b) c fault (first_with_more a b fault first)

  pub second_of_three : a ≡ [] → IsFirstOf b fault → IsFirstOf (a ++ b ++ c) fault
  second_of_three no_a first = first_with_more (a ++ b) c fault (first_after a b fault no_a first)

  pub third_of_three : a ≡ [] → b ≡ [] → IsFirstOf c fault → IsFirstOf (a ++ b ++ c) fault
  third_of_three no_a no_b first = first_after (a ++ b) c fault (rw (no_a, no_b) refl) first

-- which of four groups gives the first refusal
module _ (a b c d : List NameFault) (fault : NameFault) where
  pub first_of_four : IsFirstOf a fault → IsFirstOf (a ++ b ++ c ++ d) fault
  first_of_four first = first_with_more (a ++ b ++ c) d fault (first_of_three a b c fault first)

  pub second_of_four : a ≡ [] → IsFirstOf b fault → IsFirstOf (a ++ b ++ c ++ d) fault
  second_of_four no_a first = first_with_more (a ++ b ++ c) d fault (second_of_three a b c fault no_a first)

  pub third_of_four : a ≡ [] → b ≡ [] → IsFirstOf c fault → IsFirstOf (a ++ b ++ c ++ d) fault
  third_of_four no_a no_b first = first_with_more (a ++ b ++ c) d fault (third_of_three a b c fault no_a no_b first)

  pub fourth_of_four : a ≡ [] → b ≡ [] → c ≡ [] → IsFirstOf d fault → IsFirstOf (a ++ b ++ c ++ d) fault
  fourth_of_four no_a no_b no_c first = first_after (a ++ b ++ c) d fault (rw (no_a, no_b, no_c) refl) first

-- the first refusal of a group stays the first with four more groups after it
pub with_four : (first a b c d : List NameFault) (fault : NameFault) → IsFirstOf first fault → IsFirstOf (first ++ a ++ b ++ c ++ d) fault
with_four first a b c d fault is = first_with_more (first ++ a ++ b ++ c) d fault (first_of_four first a b c fault is)
