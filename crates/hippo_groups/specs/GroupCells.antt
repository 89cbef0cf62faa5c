-- The cells of a group's row while one more member is added.
use Rattle.std.specs.Prelude.{◌≡◌, List, ◌++◌, map, take, drop}
use Rattle.hippo_model.specs.declared.cells.Cell.{Cell}
use Rattle.hippo_model.specs.declared.query.Out.{Out}
use Rattle.hippo_model.specs.Terms.{ShownRow, Place}
use Rattle.hippo_model.specs.Forms.{group_cell}

-- the cells before a place include the new members; the others do not
abbrev pub IsJoined : ShownRow → List ShownRow → List ShownRow → List Out → Place → List Cell
    → Type 0
IsJoined key before after outs place cells =
    cells ≡ map (group_cell key after) (take place outs)
    ++ map (group_cell key before) (drop place outs)
