-- The marks of an answer's rows after one more combination, and the needed tuples that they name.
use Rattle.std.proofs.Common.{◌≡◌, ℕ, zero, suc, Bool, true, false, not, cond, ◌&&◌, ◌||◌, List, [], ◌∷◌, ◌++◌, map, length, refl, sym, ap, subst, ◌∙◌, Option, Some, None, unwrap_or}
use Rattle.std.specs.Prelude.{filter, find, slice_get, Result, Ok, Err, IfOk}
use Rattle.std.specs.List.{All, list_any, list_all}
use Rattle.std.specs.Map.{lookup}
use Rattle.std.specs.Ordering.{is_eq}
use Rattle.std.specs.Cmp.{both_ways}
use Rattle.std.specs.BTreeMap as tree
use Rattle.std.proofs.lemmas.Bool.{and_parts, and_from, false≢true, or_left, or_right}
use Rattle.std.proofs.lemmas.List.{map-append}
use Rattle.std.proofs.lemmas.List.Elements.{filter-append}
use Rattle.std.proofs.lemmas.Map.Entries.{btree_map_get_place}
use Rattle.std.proofs.Math.Bool.{and-false}
use Rattle.hippo_values.specs.declared.names.Name.{Name}
use Rattle.hippo_model.specs.declared.audit.Audit.{Audit}
use Rattle.hippo_model.specs.declared.audit.SharedRow.{SharedRow}
use Rattle.hippo_model.specs.declared.query.Expr.{Expr}
use Rattle.hippo_model.specs.declared.query.Form.{Form}
use Rattle.hippo_model.specs.declared.query.Form.TheVariants.{Distinct}
use Rattle.hippo_model.specs.declared.query.Masked.{Masked}
use Rattle.hippo_model.specs.Terms.{Combination, Place, ShownRow}
use Rattle.hippo_model.specs.Answers.{product}
use Rattle.hippo_model.specs.Bags.{same_row}
use Rattle.hippo_model.specs.Masking.{Choices, is_guarded, masked_passes, masked_items}
use Rattle.hippo_model.proofs.SameRows.{same_row-refl}
use Rattle.hippo_tables_keyed.specs.RowSets.{KeyedRows, IsAscending, key_in}
use Rattle.hippo_eval.specs.Walks.{rows_of}
use Rattle.hippo_join_stages.specs.Finding.{has_places}
use Rattle.hippo_join_lookups.specs.Places.{in_range, stays}
use Rattle.hippo_join_stages.specs.Visiting.{counting}
use Rattle.hippo_join.proofs.VisitingLemmas.{filter-implied}
use Rattle.hippo_audit_search.specs.declared.marks.Mark.{Mark}
use Rattle.hippo_audit_search.specs.declared.marks.Mark.TheVariants.{Unmarked}
use Rattle.hippo_audit_search.specs.Marks.{row_places, mark_of, is_one}
use Rattle.hippo_audit_search.specs.Candidates.{AreCandidates}
use Rattle.hippo_audit_search.specs.Needs.{needs_by, first_needed}
use Rattle.hippo_audit_common.specs.Commons.{common_tables, place_in}
use Rattle.hippo_audit_search.specs.Sharing.{rows_named, HaveSameRows, has_tuple_in, query_has, audit_has, virtual_tuples_in}
use Rattle.hippo_audit_search.specs.Tuples.{tuple_at}
use Rattle.hippo_audit_search.proofs.CandidateLemmas.{marked-alone}
use Rattle.hippo_audit_needs.specs.AloneRows.{Marks, mark_at, makes_row, row_mark, AreMarked}
use Rattle.hippo_distinct.proofs.CellOrder.{row_order, row_total, order_same}
use Rattle.hippo_distinct.proofs.DifferentLemmas.{same_row-exact}
use Rattle.hippo_distinct.proofs.KeptLemmas.{same_row-sym}
use Rattle.hippo_distinct.proofs.NeededRows.{answered, needs_what_comes_alone}

-- ---- one more combination
module _ (choices : Choices) (query : Masked) (sets : List KeyedRows) (tables : List Place) (before : List Combination) (rows : Combination) where
  abbrev tuples : ShownRow → List Combination → List (List Place)
  tuples row some = map (row_places sets tables) (filter (makes_row choices query row) some)

  abbrev passing : Bool
  passing = is_guarded choices query rows && masked_passes choices query rows

  abbrev made : ShownRow
  made = masked_items choices query rows

  tuples-more : (row : ShownRow) → tuples row (before ++ rows ∷ []) ≡ tuples row before ++ tuples row (rows ∷ [])
  tuples-more row =
      ap (map (row_places sets tables)) (filter-append (makes_row choices query row) before (rows ∷ []))
      ∙ map-append (row_places sets tables) (filter (makes_row choices query row) before) (filter (makes_row choices query row) (rows ∷ []))

  one_tuple : (row : ShownRow) (b : Bool) → makes_row choices query row rows ≡ b → row_mark choices query sets tables (before ++ rows ∷ []) row ≡ mark_of (tuples row before ++ cond b (row_places sets tables rows ∷ []) [])
  one_tuple row b e = ap mark_of (tuples-more row) ∙ ap (λ l. mark_of (tuples row before ++ l)) (ap (λ t. map (row_places sets tables) (cond t (rows ∷ []) [])) e ∙ by b)
    where
      by : (t : Bool) → map (row_places sets tables) (cond t (rows ∷ []) []) ≡ cond t (row_places sets tables rows ∷ []) []
      by true = refl
      by false = refl

  append_nothing : {A : Type 0} (xs : List A) → xs ++ [] ≡ xs
  append_nothing [] = refl
  append_nothing (x ∷ xs) = ap (λ l. x ∷ l) (append_nothing xs)

  -- a combination that makes no row
  pub marked-same : (marks : Marks) → passing ≡ false → AreMarked row_order choices query sets tables before marks → AreMarked row_order choices query sets tables (before ++ rows ∷ []) marks
  marked-same marks none are row =
      are row ∙ sym (one_tuple row false (ap (λ b. b && same_row row made) none) ∙ ap mark_of (append_nothing (tuples row before)))

  -- one that makes a row
  pub marked-more : (marks after : Marks) → passing ≡ true
      → ((other : ShownRow) → mark_at row_order after other ≡ cond (is_eq (row_order made other)) (mark_of (tuples made before ++ row_places sets tables rows ∷ [])) (mark_at row_order marks other))
      → AreMarked row_order choices query sets tables before marks → AreMarked row_order choices query sets tables (before ++ rows ∷ []) after
  marked-more marks after passes updated are row = updated row ∙ by (same_row made row) refl
    where
      by : (same : Bool) → same_row made row ≡ same
          → cond (is_eq (row_order made row)) (mark_of (tuples made before ++ row_places sets tables rows ∷ [])) (mark_at row_order marks row) ≡ row_mark choices query sets tables (before ++ rows ∷ []) row
      by true e =
          ap (λ b. cond b (mark_of (tuples made before ++ row_places sets tables rows ∷ [])) (mark_at row_order marks row)) (order_same made row ∙ e)
          ∙ ap (λ (r : ShownRow). mark_of (tuples r before ++ row_places sets tables rows ∷ [])) (same_row-exact made row e)
          ∙ sym (one_tuple row true (and_from passing (same_row row made) passes (same_row-sym row made ∙ e)))
      by false e =
          ap (λ b. cond b (mark_of (tuples made before ++ row_places sets tables rows ∷ [])) (mark_at row_order marks row)) (order_same made row ∙ e)
          ∙ are row
          ∙ sym (one_tuple row false ((λ i. passes i && (same_row-sym row made ∙ e) i)) ∙ ap mark_of (append_nothing (tuples row before)))

  -- one that makes a given row and has the tuple of given places
  pub marked-by : (marks after : Marks) (row : ShownRow) (given : List Place) → passing ≡ true → row ≡ made → given ≡ row_places sets tables rows
      → ((some : List (List Place)) → mark_at row_order marks row ≡ mark_of some → (other : ShownRow) → mark_at row_order after other ≡ cond (is_eq (row_order row other)) (mark_of (some ++ given ∷ [])) (mark_at row_order marks other))
      → AreMarked row_order choices query sets tables before marks → AreMarked row_order choices query sets tables (before ++ rows ∷ []) after
  marked-by marks after row given passes is given_is told are =
      marked-more marks after passes
      (λ other. told (tuples made before) (ap (mark_at row_order marks) is ∙ are made) other
      ∙ (λ i. cond (is_eq (row_order (is i) other)) (mark_of (tuples made before ++ given_is i ∷ [])) (mark_at row_order marks other))) are

-- no combination leaves no mark
pub marked-none : (choices : Choices) (query : Masked) (sets : List KeyedRows) (tables : List Place) (marks : Marks) → marks.entries ≡ [] → AreMarked row_order choices query sets tables [] marks
marked-none choices query sets tables marks none row = ap (λ (es : List (ShownRow × Mark)). unwrap_or (lookup (λ other. is_eq (row_order row other)) es) Unmarked) none

-- the marks of the combinations that count are the marks of all
pub marked-counting : (choices : Choices) (query : Masked) (sets : List KeyedRows) (tables : List Place) (combinations : List Combination) (marks : Marks)
    → AreMarked row_order choices query sets tables (counting choices query combinations) marks → AreMarked row_order choices query sets tables combinations marks
unfolding stays
marked-counting choices query sets tables combinations marks are row =
    are row
    ∙ ap (λ (some : List Combination). mark_of (map (row_places sets tables) some))
    (filter-implied (stays choices query) (makes_row choices query row)
    (λ rows makes. (and_parts (is_guarded choices query rows && masked_passes choices query rows) (same_row row (masked_items choices query rows)) makes).0) combinations)

-- ---- the stored marks, and those of the rows
any-at : {A : Type 0} (test : A → Bool) (xs : List A) → list_any test xs ≡ true → (i : ℕ) × (x : A) × (slice_get xs i ≡ Some x) × (test x ≡ true)
any-at test [] any = absurd (false≢true any)
any-at test (x ∷ xs) any = by (test x) refl any (any-at test xs)
  where
    by : (b : Bool) → test x ≡ b → (b || list_any test xs) ≡ true → (list_any test xs ≡ true → (i : ℕ) × (y : _) × (slice_get xs i ≡ Some y) × (test y ≡ true)) → (i : ℕ) × (y : _) × (slice_get (x ∷ xs) i ≡ Some y) × (test y ≡ true)
    by true e any later = (zero, x, refl, e)
    by false e any later = let found = later any in (suc found.0, found.1, found.2, found.3)

any-looked_up : {K X : Type 0} (is_here : K → Bool) (test : X → Bool) (es : List (K × X)) (x : X) → lookup is_here es ≡ Some x → test x ≡ true → list_any (λ e. test e.1) es ≡ true
any-looked_up is_here test [] x found good = absurd cc
any-looked_up is_here test (e ∷ es) x found good = by (is_here e.0) found (λ later. any-looked_up is_here test es x later good)
  where
    some_is : {A : Type 0} {a b : A} → Some a ≡ Some b → a ≡ b
    some_is e = cc

    by : (b : Bool) → cond b (Some e.1) (lookup is_here es) ≡ Some x → (lookup is_here es ≡ Some x → list_any (λ e. test e.1) es ≡ true) → (test e.1 || list_any (λ e. test e.1) es) ≡ true
    by true found later = or_left (test e.1) (list_any (λ e. test e.1) es) (ap test (some_is found) ∙ good)
    by false found later = or_right (test e.1) (list_any (λ e. test e.1) es) (later found)

module _ (choices : Choices) (query : Masked) (sets : List KeyedRows) (tables : List Place) (combinations : List Combination) (marks : Marks) (are : AreMarked row_order choices query sets tables combinations marks) (places : List Place) where
  abbrev mark_is : ShownRow → Bool
  mark_is row = is_one places (row_mark choices query sets tables combinations row)

  abbrev any_kept : Bool
  any_kept = list_any (λ entry. is_one places entry.1) marks.entries

  pub kept-row : tree.IsOrdered row_order marks → any_kept ≡ true → (row : ShownRow) × (mark_is row ≡ true)
  kept-row ordered any =
      let found = any-at (λ (entry : ShownRow × Mark). is_one places entry.1) marks.entries any in
      let row = found.1.0 in
      let got : tree.get row_order marks row ≡ Some found.1.1 = btree_map_get_place row_total marks found.0 row found.1.1 ordered found.2 in
      (row, ap (is_one places) (sym (are row) ∙ ap (λ (o : Option Mark). unwrap_or o Unmarked) got) ∙ found.3)

  pub row-kept : (row : ShownRow) → mark_is row ≡ true → any_kept ≡ true
  row-kept row is = by (tree.get row_order marks row) refl (ap (is_one places) (are row) ∙ is)
    where
      by : (got : Option Mark) → tree.get row_order marks row ≡ got → is_one places (unwrap_or got Unmarked) ≡ true → any_kept ≡ true
      by None e wrong = absurd (false≢true wrong)
      by (Some mark) e good = any-looked_up _ (is_one places) marks.entries mark e good

-- ---- the needed tuples that the marks name
module _ (choices : Choices) (query : Masked) where
  abbrev counts : Combination → Bool
  counts rows = is_guarded choices query rows && masked_passes choices query rows

  abbrev pub rows_made : List Combination → List ShownRow
  rows_made combinations = answered (masked_items choices query) counts (λ rows. false) combinations

  -- a row that passes a test and is made
  some_made : (test : ShownRow → Bool) (combinations : List Combination) → list_any test (rows_made combinations) ≡ true → (row : ShownRow) × (test row ≡ true) × (list_any (makes_row choices query row) combinations ≡ true)
  some_made test [] any = absurd (false≢true any)
  some_made test (rows ∷ combinations) any = by (counts rows) refl any (some_made test combinations)
    where
      here : ShownRow
      here = masked_items choices query rows

      by : (b : Bool) → counts rows ≡ b → list_any test (map (masked_items choices query) (cond b (rows ∷ filter counts combinations) (filter counts combinations))) ≡ true
          → (list_any test (rows_made combinations) ≡ true → (row : ShownRow) × (test row ≡ true) × (list_any (makes_row choices query row) combinations ≡ true))
          → (row : ShownRow) × (test row ≡ true) × (list_any (makes_row choices query row) (rows ∷ combinations) ≡ true)
      by true e any later = at (test here) refl any
        where
          at : (b : Bool) → test here ≡ b → (b || list_any test (rows_made combinations)) ≡ true → (row : ShownRow) × (test row ≡ true) × (list_any (makes_row choices query row) (rows ∷ combinations) ≡ true)
          at true good any = (here, good, or_left (makes_row choices query here rows) (list_any (makes_row choices query here) combinations) (and_from (counts rows) (same_row here here) e (same_row-refl here)))
          at false other any = let found = later any in (found.0, found.1, or_right (makes_row choices query found.0 rows) (list_any (makes_row choices query found.0) combinations) found.2)
      by false e any later = let found = later any in (found.0, found.1, or_right (makes_row choices query found.0 rows) (list_any (makes_row choices query found.0) combinations) found.2)

  -- a row that is made, among all rows
  made_any : (test : ShownRow → Bool) (row : ShownRow) → test row ≡ true → (combinations : List Combination) → list_any (makes_row choices query row) combinations ≡ true → list_any test (rows_made combinations) ≡ true
  made_any test row good [] any = absurd (false≢true any)
  made_any test row good (rows ∷ combinations) any = by (counts rows) (same_row row here) refl any (made_any test row good combinations)
    where
      here : ShownRow
      here = masked_items choices query rows

      by : (b same : Bool) → same_row row here ≡ same → ((b && same) || list_any (makes_row choices query row) combinations) ≡ true
          → (list_any (makes_row choices query row) combinations ≡ true → list_any test (rows_made combinations) ≡ true)
          → list_any test (map (masked_items choices query) (cond b (rows ∷ filter counts combinations) (filter counts combinations))) ≡ true
      by true true e any later = or_left (test here) (list_any test (rows_made combinations)) (ap test (sym (same_row-exact row here e)) ∙ good)
      by true false e any later = or_right (test here) (list_any test (rows_made combinations)) (later any)
      by false same e any later = later any

-- ---- the tuples at the places that some row's mark names are the needed ones
module _ (choices : Choices) (query : Masked) (audit : List Name) (query_sets audit_sets : List KeyedRows) (long_query : length query_sets ≡ length query.tables) (long_audit : length audit_sets ≡ length audit)
    (same : HaveSameRows query.tables query_sets audit audit_sets) (ascend : All (λ set. IsAscending (map (key_in set.key) set.rows)) audit_sets) where
  abbrev all : List Combination
  all = product (rows_of query_sets)

  abbrev tables_at : List Place
  tables_at = map (place_in query.tables) (common_tables query.tables audit)

  abbrev tuple : List Place → List SharedRow
  tuple places = tuple_at audit audit_sets (map (place_in audit) (common_tables query.tables audit)) places

  abbrev ranges : List Place → Bool
  ranges places = in_range (map (rows_named audit audit_sets) (common_tables query.tables audit)) places

  abbrev out : List Place → Combination → Bool
  out places rows = has_tuple_in query.tables query_sets (tuple places) rows

  abbrev alone_by : List Place → ShownRow → Bool
  alone_by places row = list_all (λ rows. not (makes_row choices query row rows) || out places rows) all

  needs-alone : (places : List Place) → needs_by choices query Distinct query_sets (tuple places) ≡ list_any (alone_by places) (rows_made choices query all)
  needs-alone places = needs_what_comes_alone (masked_items choices query) (counts choices query) (out places) all

  mark-means : (places : List Place) (row : ShownRow) → is_one places (row_mark choices query query_sets tables_at all row)
      ≡ (ranges places && (list_any (makes_row choices query row) all && alone_by places row))
  mark-means places row = marked-alone query.tables audit query_sets audit_sets long_query long_audit same ascend (makes_row choices query row) places

  pub needed-are : (marks : Marks) → tree.IsOrdered row_order marks → (tables : List Place) → tables ≡ tables_at → AreMarked row_order choices query query_sets tables all marks → (candidates : List (List Place))
      → ((places : List Place) → has_places places candidates ≡ list_any (λ entry. is_one places entry.1) marks.entries)
      → AreCandidates (needs_by choices query Distinct query_sets) audit audit_sets (common_tables query.tables audit) candidates
  needed-are marks ordered tables is told candidates kept places =
      both_ways (has_places places candidates) (ranges places && needs_by choices query Distinct query_sets (tuple places))
      (λ has.
      let found = kept-row choices query query_sets tables_at all marks are places ordered (sym (kept places) ∙ has) in
      let row = found.0 in
      let parts = and_parts (ranges places) (list_any (makes_row choices query row) all && alone_by places row) (sym (mark-means places row) ∙ found.1) in
      let both = and_parts (list_any (makes_row choices query row) all) (alone_by places row) parts.1 in
      and_from (ranges places) (needs_by choices query Distinct query_sets (tuple places)) parts.0 (needs-alone places ∙ made_any choices query (alone_by places) row both.1 all both.0))
      (λ needed.
      let parts = and_parts (ranges places) (needs_by choices query Distinct query_sets (tuple places)) needed in
      let found = some_made choices query (alone_by places) all (sym (needs-alone places) ∙ parts.1) in
      let row = found.0 in
      kept places ∙ row-kept choices query query_sets tables_at all marks are places row
      (mark-means places row ∙ and_from (ranges places) (list_any (makes_row choices query row) all && alone_by places row) parts.0 (and_from (list_any (makes_row choices query row) all) (alone_by places row) found.2 found.1)))
    where
      are : AreMarked row_order choices query query_sets tables_at all marks
      are = subst (λ (l : List Place). AreMarked row_order choices query query_sets l all marks) is told

find-nothing : {A : Type 0} (test : A → Bool) → ((x : A) → test x ≡ false) → (xs : List A) → find test xs ≡ None
find-nothing test none [] = refl
find-nothing test none (x ∷ xs) = ap (λ b. cond b (Some x) (find test xs)) (none x) ∙ find-nothing test none xs

-- if no combination of the audit's rows counts, none is needed
pub none-needed : (choices : Choices) (query : Masked) (form : Form) (audit : Audit) (seen : List Expr) (query_sets audit_sets : List KeyedRows) → ((tuple : List SharedRow) → audit_has audit audit_sets tuple ≡ false)
    → None ≡ first_needed choices query form audit seen query_sets audit_sets
none-needed choices query form audit seen query_sets audit_sets none =
    sym (find-nothing (λ tuple. needs_by choices query form query_sets tuple && query_has choices query seen query_sets tuple && audit_has audit audit_sets tuple)
    (λ tuple. ap (λ b. needs_by choices query form query_sets tuple && query_has choices query seen query_sets tuple && b) (none tuple) ∙ and-false (needs_by choices query form query_sets tuple && query_has choices query seen query_sets tuple))
    (virtual_tuples_in audit.tables audit_sets (common_tables query.tables audit.tables)))

-- what an Ok result says
pub ok-by : {A E : Type 0} (P Q : A → Type 0) → ((a : A) → P a → Q a) → (result : Result A E) → IfOk result P → IfOk result Q
ok-by P Q then (Ok a) told = then a told
ok-by P Q then (Err fault) told = tt
