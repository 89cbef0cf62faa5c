-- An index of a table's columns by their names.
use Rattle.std.specs.Prelude.{◌≡◌, List, position, bytes_eq}
use Rattle.indexmap.specs.IndexMap.{IndexMap, get}
use Rattle.hippo_values.specs.declared.names.Name.{Name}
use Rattle.hippo_model.specs.declared.schema.Column.{Column}
use Rattle.hippo_model.specs.Terms.{Place}

-- the index holds the place of each column under its name
abbrev pub IsIndexOf : {S : Type 0} → List Column → IndexMap Name Place S → Type 0
IsIndexOf columns places =
    (name : Name) → get bytes_eq places name ≡ position (λ known. bytes_eq name known.name) columns
