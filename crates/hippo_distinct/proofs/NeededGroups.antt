-- Which groups disappear, or have another row, when combinations are removed.
use Rattle.std.proofs.Common.{◌≡◌, Bool, true, false, not, cond, ◌&&◌, ◌||◌, List, [], ◌∷◌, map, refl, sym, ap, ◌∙◌}
use Rattle.std.specs.Prelude.{filter, take}
use Rattle.std.specs.List.{list_any, list_all}
use Rattle.std.specs.Cmp.{both_ways}
use Rattle.std.proofs.lemmas.Bool.{and_parts, and_from}
use Rattle.hippo_model.specs.declared.cells.Cell.{Cell}
use Rattle.hippo_model.specs.declared.cells.Cell.TheVariants.{Shown}
use Rattle.hippo_model.specs.declared.query.Out.{Out}
use Rattle.hippo_model.specs.declared.query.Out.TheVariants.{Column, Min, Max}
use Rattle.hippo_model.specs.declared.query.Shape.{Shape}
use Rattle.hippo_model.specs.Terms.{ShownRow}
use Rattle.hippo_model.specs.Bags.{same_row, same_bag}
use Rattle.hippo_model.specs.Forms.{value_in, distinct_rows, members, group_cell, grouped_rows}
use Rattle.hippo_model.proofs.SameRows.{same_row-refl}
use Rattle.hippo_distinct.proofs.DifferentLemmas.{same_row-exact}
use Rattle.hippo_distinct.proofs.NeededRows.{is_among, all_different, not_all, answered, left, alone, alone_is, left_within}
use Rattle.hippo_distinct.proofs.BagLemmas.{Test, count, count-same, implied, same-from_bag, bag-from_same, count-map, count-agree, count-distinct_rows, all_implied, at_member, all_members}
use Rattle.hippo_distinct.proofs.BestValues.{below_for_min, below_for_max, lesser_is_lower, greater_is_lower, least_below, greatest_below}

-- rows of keys, where more members give a lower row
module _ (below : ShownRow → ShownRow → Bool) (now before : ShownRow → ShownRow) (itself : (key : ShownRow) → below (before key) (before key) ≡ true)
    (sinks : (key row : ShownRow) → below (now key) row ≡ true → below (before key) row ≡ true)
    (exact : (key : ShownRow) → below (now key) (before key) ≡ true → now key ≡ before key) (some all : List ShownRow) (within : list_all (is_among all) some ≡ true) where
  -- whether a key still exists with the same row
  abbrev stays : ShownRow → Bool
  stays key = is_among some key && same_row (now key) (before key)

  abbrev rows_now : List ShownRow
  rows_now = map now (distinct_rows some)

  abbrev rows_before : List ShownRow
  rows_before = map before (distinct_rows all)

  counts_now : (test : Test) → count test rows_now ≡ count (λ key. is_among some key && test (now key)) (distinct_rows all)
  counts_now test = count-map test now (distinct_rows some) ∙ count-distinct_rows some all within (λ key. test (now key))

  -- the same number of rows are below one
  stays-from_bag : same_bag rows_now rows_before ≡ true → list_all stays (distinct_rows all) ≡ true
  stays-from_bag bag = all_members stays (distinct_rows all) each
    where
      below_it : ShownRow → Test
      below_it key row = below row (before key)

      counts : (key : ShownRow) → count (λ other. is_among some other && below_it key (now other)) (distinct_rows all) ≡ count (λ other. below_it key (before other)) (distinct_rows all)
      counts key =
          sym (counts_now (below_it key)) ∙ count-same_rows (below_it key) ∙ count-map (below_it key) before (distinct_rows all)
        where
          count-same_rows : (test : Test) → count test rows_now ≡ count test rows_before
          count-same_rows = count-same rows_now rows_before (same-from_bag rows_now rows_before bag)

      falls : (key other : ShownRow) → (is_among some other && below_it key (now other)) ≡ true → below_it key (before other) ≡ true
      falls key other both = sinks other (before key) (and_parts (is_among some other) (below_it key (now other)) both).1

      implied_there : (q p : Bool) → q ≡ true → (not q || p) ≡ true → p ≡ true
      implied_there true p e both = both
      implied_there false p e both = absurd cc

      each : (key : ShownRow) → is_among (distinct_rows all) key ≡ true → stays key ≡ true
      each key among =
          let all_so = all_implied (λ other. is_among some other && below_it key (now other)) (λ other. below_it key (before other)) (falls key) (distinct_rows all) (counts key) in
          let so = at_member (implied (λ other. is_among some other && below_it key (now other)) (λ other. below_it key (before other))) (distinct_rows all) all_so key among in
          let both = and_parts (is_among some key) (below (now key) (before key)) (implied_there (below (before key) (before key)) (is_among some key && below (now key) (before key)) (itself key) so) in
          and_from _ _ both.0 (ap (λ (row : ShownRow). same_row row (before key)) (exact key both.1) ∙ same_row-refl (before key))

  bag-from_stays : list_all stays (distinct_rows all) ≡ true → same_bag rows_now rows_before ≡ true
  bag-from_stays all_stay = bag-from_same rows_now rows_before (λ row.
      counts_now (same_row row)
      ∙ count-agree (λ key. is_among some key && same_row row (now key)) (λ key. same_row row (before key)) stays (agree row) (distinct_rows all) all_stay
      ∙ sym (count-map (same_row row) before (distinct_rows all)))
    where
      agree : (row key : ShownRow) → stays key ≡ true → (is_among some key && same_row row (now key)) ≡ same_row row (before key)
      agree row key stay =
          let both = and_parts (is_among some key) (same_row (now key) (before key)) stay in
          ap (λ (among : Bool). among && same_row row (now key)) both.0 ∙ ap (same_row row) (same_row-exact (now key) (before key) both.1)

  not_stays : (among same : Bool) → not (among && same) ≡ (not among || not same)
  not_stays true same = refl
  not_stays false same = refl

  -- the rows become another bag exactly when some key no longer exists, or has another row
  pub changes_of_keys : not (same_bag rows_now rows_before) ≡ list_any (λ key. not (is_among some key) || not (same_row (now key) (before key))) all
  changes_of_keys =
      ap not (both_ways (same_bag rows_now rows_before) (list_all stays (distinct_rows all)) stays-from_bag bag-from_stays ∙ all_different stays all) ∙ not_all stays all
      ∙ λ i. list_any (λ key. not_stays (is_among some key) (same_row (now key) (before key)) i) all

-- whether the least and the greatest values of a row are below those of another
abbrev below_cell : Out → Cell → Cell → Bool
below_cell (Column place) a b = true
below_cell (Min place) a b = below_for_min (value_in a) (value_in b)
below_cell (Max place) a b = below_for_max (value_in a) (value_in b)

abbrev below_row : List Out → ShownRow → ShownRow → Bool
below_row [] a b = true
below_row (out ∷ outs) [] b = false
below_row (out ∷ outs) (a ∷ more) [] = false
below_row (out ∷ outs) (a ∷ more) (b ∷ others) = below_cell out a b && below_row outs more others

cell_itself : (out : Out) (a : Cell) → below_cell out a a ≡ true
cell_itself (Column place) a = refl
cell_itself (Min place) a = lesser_is_lower.itself (value_in a)
cell_itself (Max place) a = greater_is_lower.itself (value_in a)

cell_trans : (out : Out) (a b c : Cell) → below_cell out a b ≡ true → below_cell out b c ≡ true → below_cell out a c ≡ true
cell_trans (Column place) a b c first second = refl
cell_trans (Min place) a b c first second = lesser_is_lower.trans (value_in a) (value_in b) (value_in c) first second
cell_trans (Max place) a b c first second = greater_is_lower.trans (value_in a) (value_in b) (value_in c) first second

row_trans : (outs : List Out) (a b c : ShownRow) → below_row outs a b ≡ true → below_row outs b c ≡ true → below_row outs a c ≡ true
row_trans [] a b c first second = refl
row_trans (out ∷ outs) [] b c first second = absurd cc
row_trans (out ∷ outs) (a ∷ as_) [] c first second = absurd cc
row_trans (out ∷ outs) (a ∷ as_) (b ∷ bs) [] first second = absurd cc
row_trans (out ∷ outs) (a ∷ as_) (b ∷ bs) (c ∷ cs) first second =
    let ab = and_parts (below_cell out a b) (below_row outs as_ bs) first in
    let bc = and_parts (below_cell out b c) (below_row outs bs cs) second in
    and_from _ _ (cell_trans out a b c ab.0 bc.0) (row_trans outs as_ bs cs ab.1 bc.1)

row_below : (f g : Out → Cell) → ((out : Out) → below_cell out (f out) (g out) ≡ true) → (outs : List Out) → below_row outs (map f outs) (map g outs) ≡ true
row_below f g each [] = refl
row_below f g each (out ∷ outs) = and_from _ _ (each out) (row_below f g each outs)

row_exact : (f g : Out → Cell) → ((out : Out) → below_cell out (f out) (g out) ≡ true → f out ≡ g out) → (outs : List Out) → below_row outs (map f outs) (map g outs) ≡ true
    → map f outs ≡ map g outs
row_exact f g each [] e = refl
row_exact f g each (out ∷ outs) e =
    let both = and_parts (below_cell out (f out) (g out)) (below_row outs (map f outs) (map g outs)) e in
    λ i. each out both.0 i ∷ row_exact f g each outs both.1 i

-- a group's row, and the row of some of its members
module _ {C : Type 0} (row_of : C → ShownRow) (keeps : C → Bool) (key : ShownRow) where
  abbrev cell_of : List C → Out → Cell
  cell_of group = group_cell key (map row_of group)

  cell_below : (group : List C) (out : Out) → below_cell out (cell_of group out) (cell_of (filter keeps group) out) ≡ true
  cell_below group (Column place) = refl
  cell_below group (Min place) = least_below row_of keeps place group
  cell_below group (Max place) = greatest_below row_of keeps place group

  cell_exact : (group : List C) (out : Out) → below_cell out (cell_of (filter keeps group) out) (cell_of group out) ≡ true → cell_of (filter keeps group) out ≡ cell_of group out
  cell_exact group (Column place) e = refl
  cell_exact group (Min place) e = ap Shown (lesser_is_lower.exact (value_in (cell_of (filter keeps group) (Min place))) (value_in (cell_of group (Min place))) e (least_below row_of keeps place group))
  cell_exact group (Max place) e = ap Shown (greater_is_lower.exact (value_in (cell_of (filter keeps group) (Max place))) (value_in (cell_of group (Max place))) e (greatest_below row_of keeps place group))

map-map : {A : Type 0} (f : A → ShownRow) (g : ShownRow → ShownRow) (xs : List A) → map g (map f xs) ≡ map (λ x. g (f x)) xs
map-map f g [] = refl
map-map f g (x ∷ xs) = ap (λ (rest : List ShownRow). g (f x) ∷ rest) (map-map f g xs)

module _ {C : Type 0} (row_of : C → ShownRow) (passes is_out : C → Bool) (shape : Shape) where
  abbrev key_of : C → ShownRow
  key_of c = take shape.keys (row_of c)

  -- whether a combination satisfies the condition and is in a group
  abbrev is_of : ShownRow → C → Bool
  is_of key c = passes c && same_row key (key_of c)

  abbrev is_left : C → Bool
  is_left c = not (is_out c)

  abbrev row_by : ShownRow → List C → ShownRow
  row_by key group = map (group_cell key (map row_of group)) shape.outs

  one_same : (same : Bool) (c : C) (rows : List ShownRow) (group : List C) → rows ≡ map row_of group → cond same (row_of c ∷ rows) rows ≡ map row_of (cond same (c ∷ group) group)
  one_same true c rows group e = ap (λ (rest : List ShownRow). row_of c ∷ rest) e
  one_same false c rows group e = e

  one_passes : (key : ShownRow) (pass : Bool) (c : C) (passed group : List C) → members (map row_of passed) key shape.keys ≡ map row_of group
      → members (map row_of (cond pass (c ∷ passed) passed)) key shape.keys ≡ map row_of (cond (pass && same_row key (key_of c)) (c ∷ group) group)
  one_passes key true c passed group e = one_same (same_row key (key_of c)) c (members (map row_of passed) key shape.keys) group e
  one_passes key false c passed group e = e

  members_are : (key : ShownRow) (combinations : List C) → members (answered row_of passes is_out combinations) key shape.keys ≡ map row_of (filter (is_of key) combinations)
  members_are key [] = refl
  members_are key (c ∷ rest) = one_passes key (passes c) c (filter passes rest) (filter (is_of key) rest) (members_are key rest)

  two_tests : (p q : C → Bool) (c : C) (a b : Bool) → p c ≡ a → q c ≡ b → (one two : List C) → filter p one ≡ filter q two → filter p (cond b (c ∷ one) one) ≡ filter q (cond a (c ∷ two) two)
  two_tests p q c true true e f one two same =
      ap (λ (test : Bool). cond test (c ∷ filter p one) (filter p one)) e ∙ ap (λ (rest : List C). c ∷ rest) same ∙ sym (ap (λ (test : Bool). cond test (c ∷ filter q two) (filter q two)) f)
  two_tests p q c true false e f one two same = same ∙ sym (ap (λ (test : Bool). cond test (c ∷ filter q two) (filter q two)) f)
  two_tests p q c false true e f one two same = ap (λ (test : Bool). cond test (c ∷ filter p one) (filter p one)) e ∙ same
  two_tests p q c false false e f one two same = same

  either_first : (p q : C → Bool) (combinations : List C) → filter p (filter q combinations) ≡ filter q (filter p combinations)
  either_first p q [] = refl
  either_first p q (c ∷ rest) = two_tests p q c (p c) (q c) refl refl (filter q rest) (filter p rest) (either_first p q rest)

  members_left : (key : ShownRow) (combinations : List C) → members (left row_of passes is_out combinations) key shape.keys ≡ map row_of (filter is_left (filter (is_of key) combinations))
  members_left key combinations = members_are key (filter is_left combinations) ∙ ap (map row_of) (either_first (is_of key) is_left combinations)

  one_out : (member : Bool) (c : C) (group : List C) (rest : Bool) → list_all is_out group ≡ rest → list_all is_out (cond member (c ∷ group) group) ≡ ((not member || is_out c) && rest)
  one_out true c group rest e = ap (λ (others : Bool). is_out c && others) e
  one_out false c group rest e = e

  out_alone : (key : ShownRow) (combinations : List C) → list_all is_out (filter (is_of key) combinations) ≡ alone key_of passes is_out combinations key
  out_alone key [] = refl
  out_alone key (c ∷ rest) = one_out (is_of key c) c (filter (is_of key) rest) (alone key_of passes is_out rest key) (out_alone key rest)

  abbrev keys_of : List ShownRow → List ShownRow
  keys_of rows = map (take shape.keys) rows

  keys_are : (combinations : List C) → keys_of (answered row_of passes is_out combinations) ≡ answered key_of passes is_out combinations
  keys_are combinations = map-map row_of (take shape.keys) (filter passes combinations)

  keys_left : (combinations : List C) → keys_of (left row_of passes is_out combinations) ≡ left key_of passes is_out combinations
  keys_left combinations = keys_are (filter is_left combinations)

  module _ (combinations : List C) where
    abbrev row_before : ShownRow → ShownRow
    row_before key = row_by key (filter (is_of key) combinations)

    abbrev row_now : ShownRow → ShownRow
    row_now key = row_by key (filter is_left (filter (is_of key) combinations))

    abbrev changes : ShownRow → Bool
    changes key = list_all is_out (filter (is_of key) combinations) || not (same_row (row_now key) (row_before key))

    grouped_before : grouped_rows shape (answered row_of passes is_out combinations) ≡ map row_before (distinct_rows (answered key_of passes is_out combinations))
    grouped_before = λ i. map (λ key. map (group_cell key (members_are key combinations i)) shape.outs) (distinct_rows (keys_are combinations i))

    grouped_now : grouped_rows shape (left row_of passes is_out combinations) ≡ map row_now (distinct_rows (left key_of passes is_out combinations))
    grouped_now = λ i. map (λ key. map (group_cell key (members_left key combinations i)) shape.outs) (distinct_rows (keys_left combinations i))

    sinks : (key row : ShownRow) → below_row shape.outs (row_now key) row ≡ true → below_row shape.outs (row_before key) row ≡ true
    sinks key row under =
        let group : List C = filter (is_of key) combinations in
        row_trans shape.outs (row_before key) (row_now key) row
        (row_below (cell_of row_of is_left key group) (cell_of row_of is_left key (filter is_left group)) (cell_below row_of is_left key group) shape.outs) under

    exact : (key : ShownRow) → below_row shape.outs (row_now key) (row_before key) ≡ true → row_now key ≡ row_before key
    exact key under =
        let group : List C = filter (is_of key) combinations in
        row_exact (cell_of row_of is_left key (filter is_left group)) (cell_of row_of is_left key group) (cell_exact row_of is_left key group) shape.outs under

    itself : (key : ShownRow) → below_row shape.outs (row_before key) (row_before key) ≡ true
    itself key =
        let cell : Out → Cell = cell_of row_of is_left key (filter (is_of key) combinations) in
        row_below cell cell (λ out. cell_itself out (cell out)) shape.outs

    -- the rows of the groups become another bag exactly when some group disappears, or has another
    -- row
    pub needs_what_changes_groups : not (same_bag (grouped_rows shape (left row_of passes is_out combinations)) (grouped_rows shape (answered row_of passes is_out combinations)))
        ≡ list_any changes (keys_of (answered row_of passes is_out combinations))
    needs_what_changes_groups =
        (λ i. not (same_bag (grouped_now i) (grouped_before i)))
        ∙ changes_of_keys (below_row shape.outs) row_now row_before itself sinks exact (left key_of passes is_out combinations) (answered key_of passes is_out combinations)
        (left_within key_of passes is_out combinations)
        ∙ (λ i. list_any (λ key. (sym (alone_is key_of passes is_out key combinations) ∙ sym (out_alone key combinations)) i || not (same_row (row_now key) (row_before key))) (answered key_of passes is_out combinations))
        ∙ ap (list_any changes) (sym (keys_are combinations))
