-- Worked examples: what is left of a clinic's morning.
use Rattle.std.proofs.Common.{◌≡◌, pos, true, false, List, [], ◌∷◌, ◌++◌, Some, None, codes, refl}
use Rattle.hippo_values.specs.declared.values.Value.TheVariants.{Int, Text, Null}
use Rattle.hippo_model.specs.declared.entry.Act.TheVariants.{Create, Insert, Update, Delete, Purpose, Recipient, Item, Authorize, Deauthorize, Allow, Revoke, Choice, Asked}
use Rattle.hippo_model.specs.declared.entry.ItemKind.TheVariants.{OptIn}
use Rattle.hippo_model.specs.Rows.{table_rows}
use Rattle.hippo_model.specs.Terms.{History, Row}
use Rattle.hippo_model_laws.proofs.ExampleHistories.{treatment, nurse, ann, patient, patients, entry, ada, bob, clinic, born_in_the_morning}
use Rattle.hippo_history_carry.specs.Carrying.{carried}

-- the clinic, where nothing was changed and nobody asked
whole : carried clinic ≡ clinic
whole = refl

abbrev ada_moved : Row
ada_moved = Int (pos 1) ∷ Text (codes "Ada") ∷ Text (codes "555-9") ∷ Null ∷ []

-- Ada gets a new number, Ann asks, the name is revoked and Bob leaves; Ann may ask no more, and then
-- she may again
abbrev later : History
later =
    clinic ++ entry 8 (Update patient ada_moved) ∷ entry 9 (Asked ann treatment nurse (codes "q")) ∷ entry 10 (Revoke treatment nurse patient (1 ∷ [])) ∷ entry 11 (Delete patient (Int (pos 2) ∷ []))
    ∷ entry 12 (Deauthorize ann treatment nurse) ∷ entry 13 (Authorize ann treatment nurse) ∷ []

changed : carried later
    ≡ entry 1 (Create patients) ∷ entry 2 (Purpose treatment) ∷ entry 3 (Recipient nurse) ∷ entry 4 (Allow treatment nurse patient (0 ∷ []) None None) ∷ entry 5 (Insert patient ada_moved)
    ∷ entry 6 (Revoke treatment nurse patient (1 ∷ [])) ∷ entry 7 (Authorize ann treatment nurse) ∷ []
changed = refl

-- a row that comes back is that of its last INSERT
abbrev returned : History
returned = later ++ entry 14 (Insert patient bob) ∷ []

back : carried returned ≡ carried later ++ entry 8 (Insert patient bob) ∷ []
back = refl

same_rows : table_rows patients (carried returned) ≡ table_rows patients returned
same_rows = refl

-- a patient's last choice on an item counts, and a rule of which no column is left goes
abbrev choosing : History
choosing =
    clinic ++ entry 8 (Item (codes "calls") OptIn) ∷ entry 9 (Choice (pos 1) (codes "calls") true) ∷ entry 10 (Choice (pos 2) (codes "calls") true) ∷ entry 11 (Choice (pos 1) (codes "calls") false)
    ∷ entry 12 (Allow treatment nurse patient (1 ∷ 0 ∷ []) (Some (codes "calls")) None) ∷ []

chosen : carried choosing
    ≡ entry 1 (Create patients) ∷ entry 2 (Purpose treatment) ∷ entry 3 (Recipient nurse) ∷ entry 4 (Authorize ann treatment nurse) ∷ entry 5 (Insert patient ada) ∷ entry 6 (Insert patient bob)
    ∷ entry 7 (Item (codes "calls") OptIn) ∷ entry 8 (Choice (pos 2) (codes "calls") true) ∷ entry 9 (Choice (pos 1) (codes "calls") false)
    ∷ entry 10 (Allow treatment nurse patient (1 ∷ 0 ∷ []) (Some (codes "calls")) None) ∷ []
chosen = refl
