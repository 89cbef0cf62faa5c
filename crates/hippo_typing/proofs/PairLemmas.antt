-- A value and the result of a check.
use Rattle.std.proofs.Common.{◌≡◌, List, [], Ok, Err, ap, subst, ◌∙◌}
use Rattle.std.specs.Prelude.{Result}
use Rattle.hippo_model.specs.declared.name_fault.NameFault.{NameFault}
use Rattle.hippo_typing_catalog.specs.Refusals.{Resolves, IsFirstOf}
use Rattle.hippo_typing.specs.Pairs.{paired}

module _ {A B : Type 0} (first : A) (refusals : List NameFault) (form : B) where
  pub paired_fault : (answer : Result B NameFault) (fault : NameFault) → (let failed : Result (A × B) NameFault = Err fault in failed ≡ paired first answer) → Resolves refusals form answer → IsFirstOf refusals fault
  paired_fault (Ok made) fault e resolves = absurd cc
  paired_fault (Err other) fault e resolves =
      let same : other ≡ fault = cc in
      subst (IsFirstOf refusals) same resolves

  pub paired_form : (answer : Result B NameFault) (a : A) (b : B) → (let made : Result (A × B) NameFault = Ok (a, b) in made ≡ paired first answer) → Resolves refusals form answer → (refusals ≡ []) × (a ≡ first) × (b ≡ form)
  paired_form (Ok made) a b e resolves =
      let same : (let both : A × B = (a, b) in both ≡ (first, made)) = cc in
      (resolves.0, ap (λ (both : A × B). both.0) same, ap (λ (both : A × B). both.1) same ∙ resolves.1)
  paired_form (Err fault) a b e resolves = absurd cc
