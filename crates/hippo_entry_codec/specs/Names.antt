-- The names that come first in an act that has three.
use Rattle.std.specs.Prelude.{ℕ, Bool, true, ◌&&◌, List, [], ◌++◌, Option, Some, None}
use Rattle.std.specs.Option.{option_map_or}
use Rattle.hippo_values.specs.declared.names.Name.{Name}
use Rattle.hippo_model.specs.declared.entry.Act.{Act}
use Rattle.hippo_model.specs.declared.entry.Act.TheVariants.{Authorize, Deauthorize, Allow, Revoke, Asked}
use Rattle.hippo_model.specs.StoredForms.{name_bytes}
use Rattle.hippo_model.specs.Keepable.{is_folded_name}

-- the three names of a grant, of a rule or of a query
abbrev pub three_names : Act → Option (Name × Name × Name)
three_names (Authorize user purpose recipient) = Some (user, purpose, recipient)
three_names (Deauthorize user purpose recipient) = Some (user, purpose, recipient)
three_names (Allow purpose recipient table columns item days) = Some (purpose, recipient, table)
three_names (Revoke purpose recipient table columns) = Some (purpose, recipient, table)
three_names (Asked user purpose recipient text) = Some (user, purpose, recipient)
three_names act = None

-- the bytes of these names
abbrev pub names_bytes : Act → List ℕ
names_bytes act =
    option_map_or (λ (first, second, third). name_bytes first ++ name_bytes second
    ++ name_bytes third)
    (three_names act) []

-- whether these names can be stored
abbrev pub names_are_keepable : Act → Bool
names_are_keepable act =
    option_map_or (λ (first, second, third). is_folded_name first && is_folded_name second
    && is_folded_name third)
    (three_names act) true
