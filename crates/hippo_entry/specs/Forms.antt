-- Which entry has a stored form.
use Rattle.std.specs.Prelude.{◌≡◌, true, Option, Some, IfSome}
use Rattle.hippo_model.specs.declared.entry.Entry.{Entry}
use Rattle.hippo_model.specs.declared.stored.StoredEntry.{StoredEntry}
use Rattle.hippo_model.specs.StoredForms.{stored}
use Rattle.hippo_model.specs.Keepable.{is_keepable}

-- the entry can be stored, and this is its stored form
abbrev pub HasForm : StoredEntry → Entry → Type 0
HasForm kept entry = (is_keepable entry ≡ true) × (stored entry ≡ kept)

-- a found entry has this form, and each entry that has the form is the found one; so none is found
-- exactly when no entry has the form
pub record IsEntryOf (kept : StoredEntry) (found : Option Entry) : Type 0 where
  pub sound : IfSome found (HasForm kept)
  pub only : (entry : Entry) → HasForm kept entry → found ≡ Some entry
