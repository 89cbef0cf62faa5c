-- Columns with distinct names.
use Rattle.std.proofs.Common.{◌≡◌, ap, refl, not, ◌||◌, ◌&&◌, List, [], ◌∷◌, map, bytes_eq}
use Rattle.std.specs.List.{list_any}
use Rattle.hippo_values.specs.declared.names.Name.{Name}
use Rattle.hippo_model.specs.declared.schema.Column.{Column}
use Rattle.hippo_model.specs.Validity.{all_differ}

any_mapped : (name : Name) (columns : List Column) → list_any (λ column. bytes_eq name column.name) columns ≡ list_any (bytes_eq name) (map (λ column. column.name) columns)
any_mapped name [] = refl
any_mapped name (column ∷ columns) = ap (λ found. bytes_eq name column.name || found) (any_mapped name columns)

-- columns differ by name if their names differ
pub names_mapped : (columns : List Column) → all_differ (λ one other. bytes_eq one.name other.name) columns ≡ all_differ bytes_eq (map (λ column. column.name) columns)
names_mapped [] = refl
names_mapped (column ∷ columns) = λ i. not (any_mapped column.name columns i) && names_mapped columns i
