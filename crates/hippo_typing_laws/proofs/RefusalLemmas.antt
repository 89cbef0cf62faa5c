-- What holds if nothing is refused.
use Rattle.std.proofs.Common.{◌≡◌, Bool, true, false, List, [], ◌∷◌, ◌++◌, Option, Some, None, refl, ap, sym, ◌∙◌}
use Rattle.std.specs.Prelude.{is_none, is_some, not, option_map}
use Rattle.std.specs.Option.{option_map_or}
use Rattle.hippo_model.specs.declared.name_fault.NameFault.{NameFault}
use Rattle.hippo_typing_catalog.specs.Refusals.{fault_if}
pub use Rattle.hippo_typing_catalog.proofs.DifferLemmas.{none_of_both, not_refused}

pub passed : (test : Bool) (fault : NameFault) → fault_if (not test) fault ≡ [] → test ≡ true
passed true fault none = refl
passed false fault none = absurd cc

pub there : {A : Type 0} (found : Option A) (fault : NameFault) → fault_if (is_none found) fault ≡ [] → is_some found ≡ true
there (Some x) fault none = refl
there None fault none = absurd cc

pub absent : {A : Type 0} (found : Option A) (fault : NameFault) → fault_if (is_some found) fault ≡ [] → is_none found ≡ true
absent (Some x) fault none = absurd cc
absent None fault none = refl

-- what a mapped look-up that found something was mapped from
pub record IsFrom {A B : Type 0} (f : A → B) (found : Option A) (made : B) : Type 0 where
  pub from : A
  pub is : found ≡ Some from
  pub gives : f from ≡ made

pub mapped : {A B : Type 0} (f : A → B) (found : Option A) (made : B) → option_map f found ≡ Some made → IsFrom f found made
mapped f None made e = absurd cc
mapped f (Some x) made e = record { from = x; is = refl; gives = cc }

-- the refusals for something that exists
pub refused_there : {A : Type 0} (refusals : A → List NameFault) (found : Option A) (x : A) → found ≡ Some x → option_map_or refusals found [] ≡ [] → refusals x ≡ []
refused_there {A} refusals found x is none = sym (ap (λ (o : Option A). option_map_or refusals o []) is) ∙ none
