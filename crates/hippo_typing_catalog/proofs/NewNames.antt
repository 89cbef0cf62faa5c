-- A name that does not exist yet is appended.
use Rattle.std.proofs.Common.{◌≡◌, Bool, true, false, cond, List, [], ◌∷◌, ◌++◌, Some, refl, ap, sym, ◌∙◌}
use Rattle.std.specs.Prelude.{is_none}
use Rattle.std.specs.Map.{lookup}
use Rattle.std.proofs.lemmas.Bool.{false≢true}
use Rattle.indexmap.specs.IndexMap.{insert_entry}

module _ {K V : Type 0} (same : K → K → Bool) (key : K) (value : V) where
  pub insert_entry-absent : (entries : List (K × V)) → is_none (lookup (same key) entries) ≡ true → insert_entry same entries key value ≡ entries ++ (key, value) ∷ []
  insert_entry-absent [] absent = refl
  insert_entry-absent (first ∷ rest) absent = by (same key first.0) refl (insert_entry-absent rest)
    where
      by : (b : Bool) → same key first.0 ≡ b → (is_none (lookup (same key) rest) ≡ true → insert_entry same rest key value ≡ rest ++ (key, value) ∷ []) → insert_entry same (first ∷ rest) key value ≡ first ∷ rest ++ (key, value) ∷ []
      by true e remaining = absurd (false≢true (sym (ap (λ t. is_none (cond t (Some first.1) (lookup (same key) rest))) e) ∙ absent))
      by false e remaining =
          let still = sym (ap (λ t. is_none (cond t (Some first.1) (lookup (same key) rest))) e) ∙ absent in
          ap (λ t. cond t ((first.0, value) ∷ rest) (first ∷ insert_entry same rest key value)) e ∙ ap (λ entries. first ∷ entries) (remaining still)

pub ruleset new_entries = (insert_entry-absent)
