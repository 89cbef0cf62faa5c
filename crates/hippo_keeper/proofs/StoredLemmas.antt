-- The tests on stored entries agree with the definitions on entries.
use Rattle.std.proofs.Common.{◌≡◌, ◌∙◌, ap, ◌==◌, ◌||◌, ◌+◌, List, [], ◌∷◌, map, cond, refl, sym}
use Rattle.std.proofs.lemmas.List.Sums.{sum_by-cons}
use Rattle.hippo_model.specs.declared.entry.Act.{Act}
use Rattle.hippo_model.specs.declared.entry.Act.TheVariants.{Insert, Update, Delete}
use Rattle.hippo_model.specs.declared.entry.Entry.{Entry}
use Rattle.hippo_model.specs.StoredForms.{stored, act_kind}
use Rattle.hippo_model.specs.Versions.{is_version, versions}
use Rattle.hippo_keeper.specs.Selecting.{is_stored_version, stored_versions}

kind_of_version : (act : Act) → (act_kind act == 2 || act_kind act == 3 || act_kind act == 4) ≡ is_version act
kind_of_version (Insert table row) = refl
kind_of_version (Update table row) = refl
kind_of_version (Delete table key) = refl
kind_of_version act = refl

-- exactly the stored forms of versions are counted
pub is_stored_version-stored : (entry : Entry) → is_stored_version (stored entry) ≡ is_version entry.act
is_stored_version-stored entry = kind_of_version entry.act

pub stored_versions-stored : (history : List Entry) → stored_versions (map stored history) ≡ versions history
stored_versions-stored [] = refl
stored_versions-stored (entry ∷ rest) =
    sum_by-cons (λ kept. cond (is_stored_version kept) 1 0) (stored entry) (map stored rest)
    ∙ ap (λ passes. cond passes 1 0 + stored_versions (map stored rest)) (is_stored_version-stored entry)
    ∙ ap (λ count. cond (is_version entry.act) 1 0 + count) (stored_versions-stored rest)
    ∙ sym (sum_by-cons (λ other. cond (is_version other.act) 1 0) entry rest)
