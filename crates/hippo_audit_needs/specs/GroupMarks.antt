-- The marks of a group, from which follows without which virtual tuples the group changes.
use Rattle.std.specs.Prelude.{◌≡◌, Bool, not, ◌&&◌, ◌||◌, List, [], ◌∷◌, ◌++◌, map, filter, take, drop, slice_index_or, if◌then◌else◌, Result, OnOk}
use Rattle.std.specs.List.{list_any}
use Rattle.std.specs.Ordering.{is_eq}
use Rattle.hippo_values.specs.declared.memory.Memory.{Memory}
use Rattle.hippo_values.specs.declared.values.Value.{Value}
use Rattle.hippo_values.specs.declared.values.Value.TheVariants.{Null}
use Rattle.hippo_values.specs.Order.{value_cmp}
use Rattle.hippo_model.specs.declared.cells.Cell.TheVariants.{Denied}
use Rattle.hippo_model.specs.declared.query.Masked.{Masked}
use Rattle.hippo_model.specs.declared.query.Out.{Out}
use Rattle.hippo_model.specs.declared.query.Out.TheVariants.{Column, Min, Max}
use Rattle.hippo_model.specs.declared.query.Shape.{Shape}
use Rattle.hippo_model.specs.Terms.{Combination, ShownRow, Place}
use Rattle.hippo_model.specs.Conditions.{is_null}
use Rattle.hippo_model.specs.Forms.{value_in, least_value, greatest_value}
use Rattle.hippo_model.specs.Masking.{Choices, is_guarded, masked_passes, masked_items}
use Rattle.hippo_tables_keyed.specs.RowSets.{KeyedRows}
use Rattle.hippo_audit_search.specs.declared.marks.Mark.TheVariants.{Unmarked}
use Rattle.hippo_audit_search.specs.Marks.{row_places, mark_of, is_one}
use Rattle.hippo_groups.specs.KeptGroups.{AreKept}
use Rattle.hippo_audit_needs.specs.declared.group_marks.Best.{Best}
use Rattle.hippo_audit_needs.specs.declared.group_marks.GroupMarks.{GroupMarks}
use Rattle.hippo_audit_needs.specs.declared.marking.MarkedGroups.{MarkedGroups}

-- a row of an answer, and the places of its combination's rows in the common tables
pub record PlacedRow : Type 0 where
  pub row : ShownRow
  pub places : List Place

-- the rows that a query makes of some combinations, with the places of their rows in some tables
abbrev pub placed_rows : Choices → Masked → List KeyedRows → List Place → List Combination
    → List PlacedRow
placed_rows choices query sets tables combinations =
    map (λ rows. record {
      row = masked_items choices query rows;
      places = row_places sets tables
          rows;
    })
    (filter (λ rows. is_guarded choices query rows && masked_passes choices query rows)
    combinations)

abbrev pub shown_value : Place → ShownRow → Value
shown_value place row = value_in (slice_index_or row place (Denied 0))

abbrev pub member_places : List PlacedRow → List (List Place)
member_places members = map (λ member. member.places) members

-- the best of the members' values, and the mark of the members that have it
abbrev pub best_by : (List Value → Value) → Place → List PlacedRow → Best
best_by best place members =
    let value : Value = best (map (λ member. shown_value place member.row) members) in
    let who = filter (λ member. is_eq (value_cmp (shown_value place member.row) value)) members in
    record { value = value; mark = mark_of (member_places who) }

abbrev pub best_of : List PlacedRow → Out → Best
best_of members (Column place) = record { value = Null; mark = Unmarked }
best_of members (Min place) = best_by least_value place members
best_of members (Max place) = best_by greatest_value place members

-- the mark of all members, and the best value for each output
abbrev pub marks_of : List Out → List PlacedRow → GroupMarks
marks_of outs members =
    record { mark = mark_of (member_places members); bests = map (best_of members) outs }

-- a best value and its mark after one more value: an equal value adds to the mark, and a better one
-- replaces both
abbrev pub best_after : Value → List (List Place) → Value → Bool → List Place → Best
best_after old who value is_better places =
    if is_eq (value_cmp value old) then record { value = old; mark = mark_of (who ++ places ∷ []) }
    else if is_better then record { value = value; mark = mark_of (places ∷ []) }
    else record { value = old; mark = mark_of who }

-- the value of one more member is added to the best of the members' values
abbrev pub TakesMember : (List Value → Value) → Value → List Place → Result (Unit {0}) Memory
    → Best → Best → Type 0
TakesMember best value places result old new =
    (place : Place) (members : List PlacedRow) (member : PlacedRow)
    → old ≡ best_by best place members → value ≡ shown_value place member.row
    → places ≡ member.places
    → OnOk result (new ≡ best_by best place (members ++ member ∷ []))

-- whether a best value changes without the tuple of these places
abbrev pub is_best_changed : List Place → Best → Bool
is_best_changed places best = not (is_null best.value) && is_one places best.mark

-- whether a group is gone, or one of its best values changes, without the tuple of these places
abbrev pub changes_without : List Place → GroupMarks → Bool
changes_without places group =
    is_one places group.mark || list_any (is_best_changed places) group.bests

-- the best values before a place include the new members; the others do not
abbrev pub AreJoinedBests : List PlacedRow → List PlacedRow → List Out → Place → List Best → Type 0
AreJoinedBests before after outs place bests =
    bests ≡ map (best_of after) (take place outs) ++ map (best_of before) (drop place outs)

-- the marks of the groups are those of these members
abbrev pub AreMarkedGroups : Shape → List PlacedRow → MarkedGroups → Type 0
AreMarkedGroups shape found kept =
    AreKept (λ member. member.row) shape.keys
    (λ key members. marks_of shape.outs members) found
    kept.marks.items kept.keys.keys
