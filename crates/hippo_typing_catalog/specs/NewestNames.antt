-- What a catalog knows of the entry added last.
use Rattle.std.specs.Prelude.{◌≡◌, ◌-◌, Bool, true, false, List, length, take}
use Rattle.hippo_model.specs.declared.entry.Act.{Act}
use Rattle.hippo_model.specs.declared.entry.Act.TheVariants.{Create, Purpose, Recipient, Item}
use Rattle.hippo_typing_catalog.specs.Catalogs.{KnownNames}
use Rattle.hippo_typing_catalog.specs.declared.catalog.Newest.{Newest}
use Rattle.hippo_typing_catalog.specs.declared.catalog.Newest.TheVariants as newest

-- what an act creates
abbrev pub created_by : Act → Newest
created_by (Create schema) = newest.Table
created_by (Purpose purpose) = newest.Purpose
created_by (Recipient recipient) = newest.Recipient
created_by (Item item kind) = newest.Item
created_by act = newest.Nothing

abbrev pub RemembersNames : Newest → Act → Type 0
RemembersNames kept act = kept ≡ created_by act

abbrev pub creates_nothing : Act → Bool
creates_nothing (Create schema) = false
creates_nothing (Purpose purpose) = false
creates_nothing (Recipient recipient) = false
creates_nothing (Item item kind) = false
creates_nothing act = true

abbrev pub all_but_last : {A : Type 0} → List A → List A
all_but_last members = take (length members - 1) members

-- the names without the newest one of its kind
abbrev pub known_before : Newest → KnownNames → KnownNames
known_before newest.Nothing known = known
known_before newest.Table known = record known { tables = all_but_last known.tables }
known_before newest.Purpose known = record known { purposes = all_but_last known.purposes }
known_before newest.Recipient known = record known { recipients = all_but_last known.recipients }
known_before newest.Item known = record known { items = all_but_last known.items }
