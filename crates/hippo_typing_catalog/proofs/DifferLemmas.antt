-- Names that are not refused as repeated are distinct.
use Rattle.std.proofs.Common.{◌≡◌, ◌∙◌, Bool, true, false, List, [], ◌∷◌, ◌++◌, refl}
use Rattle.std.specs.Prelude.{not, bytes_eq}
use Rattle.std.specs.Cmp.Lexicographic.{nat_list_eq_equiv}
use Rattle.std.specs.List.{list_any, list_all, AllByRecursion, IsDistinct}
use Rattle.std.proofs.lemmas.Bool.{and_parts, and_from, or_parts, or_from, not-true, not_from_false}
use Rattle.hippo_values.specs.declared.names.Name.{Name}
use Rattle.hippo_model.specs.declared.name_fault.NameFault.{NameFault}
use Rattle.hippo_model.specs.declared.name_fault.NameFault.TheVariants.{RepeatedName}
use Rattle.hippo_model.specs.Validity.{all_differ}
use Rattle.hippo_typing_catalog.specs.Refusals.{fault_if, repeated_after, repeated_names}

pub none_of_both : {A : Type 0} (first second : List A) → first ++ second ≡ [] → (first ≡ []) × (second ≡ [])
none_of_both [] second none = (refl, none)
none_of_both (x ∷ rest) second none = absurd cc

pub not_refused : (test : Bool) (fault : NameFault) → fault_if test fault ≡ [] → test ≡ false
not_refused true fault none = absurd cc
not_refused false fault none = refl

-- a name that is not in a list with one more name
none_of_two : (before : List Name) (name other : Name) → list_any (bytes_eq other) (before ++ name ∷ []) ≡ false → (list_any (bytes_eq other) before ≡ false) × (bytes_eq other name ≡ false)
none_of_two [] name other none = (refl, (or_parts (bytes_eq other name) false none).0)
none_of_two (first ∷ before) name other none =
    let parts = or_parts (bytes_eq other first) (list_any (bytes_eq other) (before ++ name ∷ [])) none in
    let later = none_of_two before name other parts.1 in
    (or_from (bytes_eq other first) (list_any (bytes_eq other) before) parts.0 later.0, later.1)

abbrev are_new : List Name → List Name → Bool
are_new before names = list_all (λ other. not (list_any (bytes_eq other) before)) names

new_of_two : (before : List Name) (name : Name) (rest : List Name) → are_new (before ++ name ∷ []) rest ≡ true → (list_any (bytes_eq name) rest ≡ false) × (are_new before rest ≡ true)
new_of_two before name [] all = (refl, refl)
new_of_two before name (other ∷ rest) all =
    let both = and_parts (not (list_any (bytes_eq other) (before ++ name ∷ []))) (are_new (before ++ name ∷ []) rest) all in
    let here = none_of_two before name other (not-true _ both.0) in
    let later = new_of_two before name rest both.1 in
    (or_from (bytes_eq name other) (list_any (bytes_eq name) rest) (nat_list_eq_equiv.symm name other ∙ here.1) later.0, and_from _ _ (not_from_false (list_any (bytes_eq other) before) here.0) later.1)

differ_after : (before names : List Name) → repeated_after before names ≡ [] → (are_new before names ≡ true) × (all_differ bytes_eq names ≡ true)
differ_after before [] none = (refl, refl)
differ_after before (name ∷ rest) none =
    let both = none_of_both (fault_if (list_any (bytes_eq name) before) (RepeatedName name)) (repeated_after (before ++ name ∷ []) rest) none in
    let new = not_refused (list_any (bytes_eq name) before) (RepeatedName name) both.0 in
    let later = differ_after (before ++ name ∷ []) rest both.1 in
    let parts = new_of_two before name rest later.0 in
    (and_from _ _ (not_from_false (list_any (bytes_eq name) before) new) parts.1, and_from _ _ (not_from_false (list_any (bytes_eq name) rest) parts.0) later.1)

-- names without a repetition differ
pub names_differ : (names : List Name) → repeated_names names ≡ [] → all_differ bytes_eq names ≡ true
names_differ names none = (differ_after [] names none).1

all_apart : {A : Type 0} (same : A → A → Bool) (x : A) (rest : List A) → list_any (same x) rest ≡ false → AllByRecursion (λ other. same x other ≡ false) rest
all_apart same x [] none = tt
all_apart same x (other ∷ rest) none =
    let parts = or_parts (same x other) (list_any (same x) rest) none in
    (parts.0, all_apart same x rest parts.1)

-- members that differ by a test are distinct
pub distinct_so : {A : Type 0} (same : A → A → Bool) (xs : List A) → all_differ same xs ≡ true → IsDistinct same xs
unfolding IsDistinct
distinct_so same [] differ = tt
distinct_so same (x ∷ rest) differ =
    let parts = and_parts (not (list_any (same x) rest)) (all_differ same rest) differ in
    (all_apart same x rest (not-true _ parts.0), distinct_so same rest parts.1)
