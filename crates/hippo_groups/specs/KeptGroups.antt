-- What is stored of the groups of some members.
use Rattle.std.specs.Prelude.{◌≡◌, List, map, filter, take}
use Rattle.std.specs.Global.{Global}
use Rattle.std.specs.declared.vec.Vec.{Vec}
use Rattle.hippo_model.specs.declared.cells.Cell.{Cell}
use Rattle.hippo_model.specs.declared.query.Shape.{Shape}
use Rattle.hippo_model.specs.Terms.{ShownRow, Place}
use Rattle.hippo_model.specs.Bags.{same_row}
use Rattle.hippo_model.specs.Forms.{distinct_rows, group_cell}
use Rattle.hippo_groups.specs.declared.grouping.Groups.{Groups}

-- the members whose rows begin with a key
abbrev pub members_of : {M : Type 0} → (M → ShownRow) → Place → List M → ShownRow → List M
members_of row_of keys found key = filter (λ member. same_row key (take keys (row_of member))) found

-- the keys of the groups, each at the place of its first member
abbrev pub keys_of : {M : Type 0} → (M → ShownRow) → Place → List M → List ShownRow
keys_of row_of keys found = distinct_rows (map (λ member. take keys (row_of member)) found)

-- the cells of the keys
abbrev pub GroupKeys : Type 0
GroupKeys = List (Vec Cell Global)

-- the key of each group is stored, and at the same place a value computed from the key and its
-- members
pub record AreKept
    {M K : Type 0} (row_of : M → ShownRow) (keys : Place) (kept_of : ShownRow → List M → K)
    (found : List M) (kept : List K) (groups : GroupKeys) : Type 0 where
  pub each : kept ≡ map (λ key. kept_of key (members_of row_of keys found key))
      (keys_of row_of keys found)
  pub keyed : map (λ key. key.items) groups ≡ keys_of row_of keys found

-- the rows of the groups are stored
abbrev pub AreGroups : Shape → List ShownRow → Groups → Type 0
AreGroups shape found kept =
    AreKept (λ row. row) shape.keys
    (λ key members. map (group_cell key members) shape.outs) found
    kept.rows.items kept.keys.keys
