-- The first refusal of several things, one after the other.
use Rattle.std.proofs.Common.{List, [], ◌∷◌, ◌≡◌}
use Rattle.std.specs.List.{flat_map}
use Rattle.hippo_model.specs.declared.name_fault.NameFault.{NameFault}
use Rattle.hippo_typing_catalog.specs.Refusals.{IsFirstOf}
use Rattle.hippo_typing_catalog.proofs.Refused.{first_with_more, first_after}

module _ {A : Type 0} (refuse : A → List NameFault) (fault : NameFault) where
  pub at_first : (a : A) (rest : List A) → IsFirstOf (refuse a) fault → IsFirstOf (flat_map refuse (a ∷ rest)) fault
  at_first a rest first = first_with_more (refuse a) (flat_map refuse rest) fault first

  pub at_second : (a b : A) (rest : List A) → refuse a ≡ [] → IsFirstOf (refuse b) fault → IsFirstOf (flat_map refuse (a ∷ b ∷ rest)) fault
  at_second a b rest no_a first = first_after (refuse a) (flat_map refuse (b ∷ rest)) fault no_a (at_first b rest first)

  pub at_third : (a b c : A) (rest : List A) → refuse a ≡ [] → refuse b ≡ [] → IsFirstOf (refuse c) fault → IsFirstOf (flat_map refuse (a ∷ b ∷ c ∷ rest)) fault
  at_third a b c rest no_a no_b first = first_after (refuse a) (flat_map refuse (b ∷ c ∷ rest)) fault no_a (at_second b c rest no_b first)
