-- The lower case of a name is a name in lower case.
use Rattle.std.proofs.Common.{◌≡◌, ◌∙◌, ℕ, List, true, ap}
use Rattle.std.specs.Prelude.{bytes_eq}
use Rattle.std.specs.Cmp.Lexicographic.{nat_list_eq_equiv}
use Rattle.std.proofs.lemmas.Bool.{and_from}
use Rattle.hippo_values.specs.Names.{lower_case, is_name}
use Rattle.hippo_values.proofs.NamesLemmas.{lower_case-lower_case, is_name-lower_case}
use Rattle.hippo_model.specs.Keepable.{is_folded_name}

pub folded_so : (word : List ℕ) → is_name word ≡ true → is_folded_name (lower_case word) ≡ true
folded_so word named =
    and_from _ _ (is_name-lower_case word ∙ named) (ap (λ (other : List ℕ). bytes_eq other (lower_case word)) (lower_case-lower_case word) ∙ nat_list_eq_equiv.refl (lower_case word))
