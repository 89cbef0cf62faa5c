-- Tests of the members of a list, by their places.
use Rattle.std.proofs.Common.{◌≡◌, ◌∙◌, sym, ap, refl, zero, suc, Bool, true, false, cond, List, [], ◌∷◌, map, filter, Some}
use Rattle.std.specs.Prelude.{◌||◌, find, is_some, slice_get}
use Rattle.std.specs.List.{list_any}
use Rattle.std.proofs.lemmas.Bool.{false≢true, or_left, or_right}
use Rattle.std.proofs.lemmas.Option.{none-some, same_Some}
use Rattle.hippo_model.specs.Terms.{Place}

module _ {A : Type 0} (test : A → Bool) where
  pub found-any : (members : List A) → is_some (find test members) ≡ list_any test members
  found-any [] = refl
  found-any (first ∷ rest) =
      elim (test first) as (λ b. is_some (cond b (Some first) (find test rest)) ≡ (b || list_any test rest)) [
        | true ↦ refl
        | false ↦ found-any rest
      ]

  -- some member passes
  pub any_at : (members : List A) (place : Place) (member : A) → slice_get members place ≡ Some member → test member ≡ true → list_any test members ≡ true
  any_at [] place member there passes = absurd (none-some member there)
  any_at (first ∷ rest) zero member there passes = or_left (test first) (list_any test rest) (ap test (same_Some first member there) ∙ passes)
  any_at (first ∷ rest) (suc place) member there passes = or_right (test first) (list_any test rest) (any_at rest place member there passes)

  -- if none passes, this one does not
  pub none_at : (members : List A) (place : Place) (member : A) → slice_get members place ≡ Some member → list_any test members ≡ false → test member ≡ false
  none_at members place member there none =
      elim (test member) as (λ b. test member ≡ b → b ≡ false) [
        | true ↦ λ is. absurd (false≢true (sym none ∙ any_at members place member there is))
        | false ↦ λ is. refl
      ] refl

  pub record Passes (members : List A) : Type 0 where
    pub place : Place
    pub member : A
    pub there : slice_get members place ≡ Some member
    pub passes : test member ≡ true

  pub who : (members : List A) → list_any test members ≡ true → Passes members
  who [] any = absurd (false≢true any)
  who (first ∷ rest) any =
      elim (test first) as (λ b. test first ≡ b → (b || list_any test rest) ≡ true → Passes (first ∷ rest)) [
        | true ↦ λ is any. record { place = 0; member = first; there = refl; passes = is }
        | false ↦ λ is any.
            let later = who rest any in
            record { place = suc later.place; member = later.member; there = later.there; passes = later.passes }
      ] refl any

  -- if none passes, the filter is empty
  pub filter-none : (members : List A) → ((place : Place) (member : A) → slice_get members place ≡ Some member → test member ≡ false) → filter test members ≡ []
  filter-none [] none = refl
  filter-none (first ∷ rest) none =
      (λ i. cond (none 0 first refl i) (first ∷ filter test rest) (filter test rest))
      ∙ filter-none rest (λ place member there. none (suc place) member there)

pub any-map : {A B : Type 0} (test : B → Bool) (f : A → B) (members : List A) → list_any test (map f members) ≡ list_any (λ member. test (f member)) members
any-map test f [] = refl
any-map test f (first ∷ rest) = λ i. test (f first) || any-map test f rest i
