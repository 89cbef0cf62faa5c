-- The tuples without which the groups of a query change, by the marks of the groups.
use Rattle.std.proofs.Common.{◌≡◌, append_assoc, Bool, true, false, not, cond, ◌&&◌, ◌||◌, List, [], ◌∷◌, ◌++◌, map, take, refl, sym, ap, ◌∙◌}
use Rattle.std.specs.Prelude.{filter}
use Rattle.std.specs.List.{AllByRecursion, list_any, list_all}
use Rattle.std.specs.Ordering.{is_eq}
use Rattle.std.proofs.lemmas.List.Folds.{list_all-map}
use Rattle.std.proofs.lemmas.Simd.{map-map}
use Rattle.hippo_values.specs.declared.values.Value.{Value}
use Rattle.hippo_values.specs.Order.{value_cmp}
use Rattle.hippo_model.specs.declared.cells.Cell.{Cell}
use Rattle.hippo_model.specs.declared.query.Masked.{Masked}
use Rattle.hippo_model.specs.declared.query.Out.{Out}
use Rattle.hippo_model.specs.declared.query.Out.TheVariants.{Column, Min, Max}
use Rattle.hippo_model.specs.declared.query.Shape.{Shape}
use Rattle.hippo_model.specs.Terms.{Combination, ShownRow, Place}
use Rattle.hippo_model.specs.Conditions.{is_null}
use Rattle.hippo_model.specs.Bags.{same_cell, same_row, same_bag}
use Rattle.hippo_model.specs.Forms.{least_value, greatest_value, values_in, group_cell, grouped_rows}
use Rattle.hippo_model.specs.Masking.{Choices, is_guarded, masked_passes, masked_items}
use Rattle.hippo_model.proofs.SameRows.{same_cell-refl, same_row-refl}
use Rattle.hippo_tables_keyed.specs.RowSets.{KeyedRows}
use Rattle.hippo_eval.specs.Answering.{masked_rows}
use Rattle.hippo_distinct.proofs.NeededGroups.{needs_what_changes_groups}
use Rattle.hippo_audit_search.specs.declared.marks.Mark.TheVariants.{One, Several}
use Rattle.hippo_audit_search.specs.Marks.{row_places, same_places, mark_of, is_one}
use Rattle.hippo_audit_search.proofs.MarkLemmas.{same-exact}
use Rattle.hippo_audit_needs.specs.declared.group_marks.GroupMarks.{GroupMarks}
use Rattle.hippo_audit_needs.specs.GroupMarks.{PlacedRow, placed_rows, shown_value, member_places, best_by, best_of, marks_of, is_best_changed, changes_without}
use Rattle.hippo_groups.specs.KeptGroups.{members_of, keys_of}
use Rattle.hippo_groups.proofs.BestTheorem.{IsBest, least_is_best, greatest_is_best, some-have-it, changes}
use Rattle.hippo_distinct.proofs.KeptLemmas.{any-distinct_rows}
use Rattle.hippo_groups.proofs.GroupLemmas.{kept_at}

-- equal places are the same
places-sym : (some others : List Place) → same_places some others ≡ same_places others some
places-sym some others = by (same_places some others) (same_places others some) refl refl
  where
    by : (one other : Bool) → same_places some others ≡ one → same_places others some ≡ other → same_places some others ≡ same_places others some
    by true true e f = e ∙ sym f
    by false false e f = e ∙ sym f
    by true false e f = ap (λ (these : List Place). same_places these others) (same-exact some others e) ∙ ap (same_places others) (sym (same-exact some others e))
    by false true e f = ap (λ (these : List Place). same_places these others) (sym (same-exact others some f)) ∙ ap (same_places others) (same-exact others some f)

any-map : {A B : Type 0} (test : B → Bool) (f : A → B) (items : List A) → list_any test (map f items) ≡ list_any (λ item. test (f item)) items
any-map test f [] = refl
any-map test f (item ∷ items) = ap (λ (rest : Bool). test (f item) || rest) (any-map test f items)

pub filter-all : {A : Type 0} (items : List A) → filter (λ item. true) items ≡ items
filter-all [] = refl
filter-all {A} (item ∷ items) = ap (λ (rest : List A). item ∷ rest) (filter-all items)

-- whether a list has an element
abbrev is_full : {A : Type 0} → List A → Bool
is_full [] = false
is_full (item ∷ items) = true

full-from_any : {A : Type 0} (test : A → Bool) (items : List A) → list_any test items ≡ true → is_full (filter test items) ≡ true
full-from_any test [] some = some
full-from_any {A} test (item ∷ items) some = by (test item) (full-from_any test items) some
  where
    by : (passes : Bool) → (list_any test items ≡ true → is_full (filter test items) ≡ true) → (passes || list_any test items) ≡ true → is_full (cond passes (item ∷ filter test items) (filter test items)) ≡ true
    by true later some = refl
    by false later some = later some

full-there : {A : Type 0} (test : A → Bool) (front : List A) (item : A) (back : List A) → test item ≡ true → is_full (filter test (front ++ item ∷ back)) ≡ true
full-there {A} test [] item back passes = ap (λ (kept : Bool). is_full (cond kept (item ∷ filter test back) (filter test back))) passes
full-there {A} test (first ∷ front) item back passes = by (test first) (full-there test front item back passes)
  where
    by : (kept : Bool) → is_full (filter test (front ++ item ∷ back)) ≡ true → is_full (cond kept (first ∷ filter test (front ++ item ∷ back)) (filter test (front ++ item ∷ back))) ≡ true
    by true later = refl
    by false later = later

not_and : (x y : Bool) → not (x && y) ≡ (not x || not y)
not_and true y = refl
not_and false y = refl

-- a row changes if some cell does
row-changes : (f g : Out → Cell) (outs : List Out) → list_any (λ out. not (same_cell (f out) (g out))) outs ≡ not (same_row (map f outs) (map g outs))
row-changes f g [] = refl
row-changes f g (out ∷ outs) =
    ap (λ (rest : Bool). not (same_cell (f out) (g out)) || rest) (row-changes f g outs) ∙ sym (not_and (same_cell (f out) (g out)) (same_row (map f outs) (map g outs)))

abbrev row_in : PlacedRow → ShownRow
row_in member = member.row

module _ (places : List Place) where
  -- whether a row comes from a combination with these places
  abbrev pub is_out : PlacedRow → Bool
  is_out member = same_places member.places places

  abbrev pub is_left : PlacedRow → Bool
  is_left member = not (is_out member)

  one-mark : (first : List Place) (rest : List (List Place)) → is_one places (mark_of (first ∷ rest)) ≡ list_all (λ other. same_places other places) (first ∷ rest)
  one-mark first rest = by (same_places first places) refl
    where
      others : Bool
      others = list_all (λ other. same_places other places) rest

      one_if : (all : Bool) → same_places first places ≡ true → is_one places (cond all (One first) Several) ≡ all
      one_if true e = e
      one_if false e = refl

      none_if : (all : Bool) → same_places first places ≡ false → is_one places (cond all (One first) Several) ≡ false
      none_if true e = e
      none_if false e = refl

      alike : same_places first places ≡ true → list_all (same_places first) rest ≡ others
      alike e = λ i. list_all (λ other. (ap (λ (these : List Place). same_places these other) (same-exact first places e) ∙ places-sym places other) i) rest

      by : (same : Bool) → same_places first places ≡ same → is_one places (mark_of (first ∷ rest)) ≡ (same_places first places && others)
      by true e = one_if (list_all (same_places first) rest) e ∙ alike e ∙ sym (ap (λ (same : Bool). same && others) e)
      by false e = none_if (list_all (same_places first) rest) e ∙ sym (ap (λ (same : Bool). same && others) e)

  -- members have one mark if all of them come from combinations with its places
  all-out : (members : List PlacedRow) → is_full members ≡ true → is_one places (mark_of (member_places members)) ≡ list_all is_out members
  all-out [] full = absurd cc
  all-out (first ∷ rest) full =
      one-mark first.places (member_places rest)
      ∙ ap (λ (all : Bool). is_out first && all) (list_all-map (λ other. same_places other places) (λ (member : PlacedRow). member.places) rest)

  module _ (key : ShownRow) (members : List PlacedRow) where
    abbrev left : List PlacedRow
    left = filter is_left members

    abbrev before : Out → Cell
    before = group_cell key (map row_in members)

    abbrev now : Out → Cell
    now = group_cell key (map row_in left)

    best-changes : (below : Value → Value → Bool) (lower : Value → Value → Value) (best : List Value → Value) → IsBest below lower best → (place : Place)
        → is_best_changed places (best_by best place members) ≡ not (is_eq (value_cmp (best (values_in place (map row_in left))) (best (values_in place (map row_in members)))))
    best-changes below lower best is place =
        by (is_null value) refl
        ∙ sym (changes below lower best is value_of is_out members)
        ∙ sym (λ i. not (is_eq (value_cmp (best (values left i)) (best (values members i)))))
      where
        value_of : PlacedRow → Value
        value_of member = shown_value place member.row

        value : Value
        value = best (map (λ (member : PlacedRow). shown_value place member.row) members)

        who : List PlacedRow
        who = filter (λ (member : PlacedRow). is_eq (value_cmp (shown_value place member.row) (best (map (λ (one : PlacedRow). shown_value place one.row) members)))) members

        values : (some : List PlacedRow) → values_in place (map row_in some) ≡ map (λ (member : PlacedRow). shown_value place member.row) some
        values some = map-map (shown_value place) row_in some

        by : (null : Bool) → is_null (best (map (λ (member : PlacedRow). shown_value place member.row) members)) ≡ null → (not null && is_one places (mark_of (member_places who))) ≡ (not null && list_all is_out who)
        by true n = refl
        by false n = all-out who (full-from_any (λ (member : PlacedRow). is_eq (value_cmp (shown_value place member.row) (best (map (λ (one : PlacedRow). shown_value place one.row) members)))) members
            (some-have-it below lower best is (λ member. shown_value place member.row) members n))

    cell-changes : (out : Out) → is_best_changed places (best_of members out) ≡ not (same_cell (now out) (before out))
    cell-changes (Column place) = ap not (sym (same_cell-refl (before (Column place))))
    cell-changes (Min place) = best-changes _ _ least_value least_is_best place
    cell-changes (Max place) = best-changes _ _ greatest_value greatest_is_best place

    group-changes : (outs : List Out) → is_full members ≡ true
        → changes_without places (marks_of outs members) ≡ (list_all is_out members || not (same_row (map now outs) (map before outs)))
    group-changes outs full = λ i.
        all-out members full i
        || (any-map (is_best_changed places) (best_of members) outs ∙ (λ j. list_any (λ out. cell-changes out j) outs) ∙ row-changes now before outs) i

  module _ (shape : Shape) (found : List PlacedRow) where
    abbrev key_of : PlacedRow → ShownRow
    key_of member = take shape.keys member.row

    abbrev marks_at : ShownRow → GroupMarks
    marks_at = kept_at row_in shape.keys (λ key members. marks_of shape.outs members) found

    abbrev its_members : ShownRow → List PlacedRow
    its_members = members_of row_in shape.keys found

    -- whether a group is gone or has another row
    abbrev is_changed : ShownRow → Bool
    is_changed key =
        list_all is_out (its_members key)
        || not (same_row (map (group_cell key (map row_in (filter is_left (its_members key)))) shape.outs) (map (group_cell key (map row_in (its_members key))) shape.outs))

    each-group : (front back : List PlacedRow) → found ≡ front ++ back → list_any (λ key. changes_without places (marks_at key)) (map key_of back) ≡ list_any is_changed (map key_of back)
    each-group front [] split = refl
    each-group front (member ∷ back) split = λ i.
        group-changes (key_of member) (its_members (key_of member)) shape.outs
        (ap (λ (all : List PlacedRow). is_full (members_of row_in shape.keys all (key_of member))) split
        ∙ full-there (λ one. same_row (key_of member) (key_of one)) front member back (same_row-refl (key_of member))) i
        || each-group (front ++ member ∷ []) back (split ∙ sym (append_assoc front (member ∷ []) back)) i

    -- the groups change without a tuple exactly when some marks say so
    pub groups-change : list_any (changes_without places) (map marks_at (keys_of row_in shape.keys found))
        ≡ not (same_bag (grouped_rows shape (map row_in (filter is_left found))) (grouped_rows shape (map row_in found)))
    groups-change =
        any-map (changes_without places) marks_at (keys_of row_in shape.keys found)
        ∙ any-distinct_rows (λ key. changes_without places (marks_at key)) (map key_of found)
        ∙ each-group [] found refl
        ∙ sym (
        (λ i. not (same_bag (grouped_rows shape (map row_in (sym (filter-all (filter is_left found)) i))) (grouped_rows shape (map row_in (sym (filter-all found) i)))))
        ∙ needs_what_changes_groups row_in (λ member. true) is_out shape found
        ∙ ap (list_any is_changed) (ap (λ (all : List PlacedRow). map (take shape.keys) (map row_in all)) (filter-all found) ∙ map-map (take shape.keys) row_in found)
        )

  -- the remaining rows come from the remaining combinations
  module _ (choices : Choices) (query : Masked) (sets : List KeyedRows) (tables : List Place) (has : Combination → Bool) where
    abbrev placed : Combination → PlacedRow
    placed rows = record { row = masked_items choices query rows; places = row_places sets tables rows }

    abbrev passes : Combination → Bool
    passes rows = is_guarded choices query rows && masked_passes choices query rows

    abbrev HaveAlike : List Combination → Type 0
    HaveAlike combinations = AllByRecursion (λ rows. has rows ≡ is_out (placed rows)) combinations

    rows-left : (combinations : List Combination) → HaveAlike combinations
        → map row_in (filter is_left (placed_rows choices query sets tables combinations)) ≡ masked_rows choices query (filter (λ rows. not (has rows)) combinations)
    rows-left [] alike = refl
    rows-left (rows ∷ combinations) alike = by (passes rows) (has rows) refl refl (rows-left combinations alike.1)
      where
        some : List PlacedRow
        some = placed_rows choices query sets tables combinations

        by : (pass out : Bool) → passes rows ≡ pass → has rows ≡ out
            → map row_in (filter is_left (map placed (filter passes combinations))) ≡ map (masked_items choices query) (filter passes (filter (λ rows. not (has rows)) combinations))
            → map row_in (filter is_left (map placed (cond pass (rows ∷ filter passes combinations) (filter passes combinations))))
            ≡ map (masked_items choices query) (filter passes (cond (not out) (rows ∷ filter (λ rows. not (has rows)) combinations) (filter (λ rows. not (has rows)) combinations)))
        by true true e f rest =
            ap (λ (out : Bool). map row_in (cond (not out) (placed rows ∷ filter is_left (map placed (filter passes combinations))) (filter is_left (map placed (filter passes combinations))))) (sym alike.0 ∙ f)
            ∙ rest
        by true false e f rest =
            ap (λ (out : Bool). map row_in (cond (not out) (placed rows ∷ filter is_left (map placed (filter passes combinations))) (filter is_left (map placed (filter passes combinations))))) (sym alike.0 ∙ f)
            ∙ ap (λ (later : List ShownRow). masked_items choices query rows ∷ later) rest
            ∙ sym (ap (λ (pass : Bool). map (masked_items choices query) (cond pass (rows ∷ filter passes (filter (λ rows. not (has rows)) combinations)) (filter passes (filter (λ rows. not (has rows)) combinations)))) e)
        by false true e f rest = rest
        by false false e f rest =
            rest
            ∙ sym (ap (λ (pass : Bool). map (masked_items choices query) (cond pass (rows ∷ filter passes (filter (λ rows. not (has rows)) combinations)) (filter passes (filter (λ rows. not (has rows)) combinations)))) e)

    -- a grouped query's answer changes without some combinations exactly when the marks of its
    -- groups say so
    pub query-changes : (shape : Shape) (combinations : List Combination) → HaveAlike combinations
        → list_any (changes_without places) (map (marks_at shape (placed_rows choices query sets tables combinations)) (keys_of row_in shape.keys (placed_rows choices query sets tables combinations)))
        ≡ not (same_bag (grouped_rows shape (masked_rows choices query (filter (λ rows. not (has rows)) combinations))) (grouped_rows shape (masked_rows choices query combinations)))
    query-changes shape combinations alike =
        groups-change shape (placed_rows choices query sets tables combinations)
        ∙ λ i. not (same_bag (grouped_rows shape (rows-left combinations alike i)) (grouped_rows shape (map-map row_in placed (filter passes combinations) i)))
