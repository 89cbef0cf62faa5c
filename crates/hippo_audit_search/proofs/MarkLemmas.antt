-- The places of a combination's rows, and the marks of combinations.
use Rattle.std.proofs.Common.{◌≡◌, ℕ, zero, suc, ◌+◌, ◌<◌, ◌≤◌, Bool, true, false, not, cond, ◌&&◌, ◌||◌, List, [], ◌∷◌, ◌++◌, map, length, refl, sym, ap, ◌∙◌, Option, Some, None, unwrap_or, option_map, nat_lt, arith}
use Rattle.std.specs.Prelude.{slice_get, filter}
use Rattle.std.specs.List.{list_any, list_all, position_or_len}
use Rattle.std.specs.Option.{option_map_or}
use Rattle.std.specs.Ordering.{is_eq, nat_cmp}
use Rattle.std.specs.Cmp.{eq_by_cmp_equiv, both_ways}
use Rattle.std.specs.Cmp.Lexicographic.{slice_cmp}
use Rattle.std.proofs.lemmas.Bool.{false≢true}
use Rattle.std.proofs.lemmas.Bool.Decides.{nat_tests}
use Rattle.std.proofs.lemmas.Cmp.{nat_list_cmp_total}
use Rattle.std.proofs.lemmas.List.Folds.{list_all-append}
use Rattle.std.proofs.lemmas.Option.{slice_get_past}
use Rattle.std.proofs.lemmas.Slice.Eq.{bytes_eq-Decides}
use Rattle.std.proofs.Math.Bool.{and-true}
use Rattle.hippo_values.specs.Order.{cells_cmp, same_cells}
use Rattle.hippo_model.specs.declared.born_row.BornRow.{BornRow}
use Rattle.hippo_model.specs.Terms.{Row, Place, Combination}
use Rattle.hippo_model.specs.Rows.{key_of}
use Rattle.hippo_tables_keyed.specs.RowSets.{KeyedRows, IsAscending, key_in, find_row}
use Rattle.hippo_tables_keyed.proofs.Orders.{cells_total}
use Rattle.hippo_join_stages.specs.Finding.{has_places}
use Rattle.hippo_join_lookups.specs.Places.{row_at_place}
use Rattle.hippo_join_stages.proofs.FoundLemmas.{same_places as equal_places}
use Rattle.hippo_audit_search.specs.declared.marks.Mark.{Mark}
use Rattle.hippo_audit_search.specs.declared.marks.Mark.TheVariants.{One, Several}
use Rattle.hippo_audit_search.specs.Marks.{place_like, row_place, same_places, mark_of, has_no_other, is_one}
use Rattle.hippo_audit_search.proofs.KeyLemmas.{below_at}

-- ---- equal places
pub same-exact : (a b : List Place) → same_places a b ≡ true → a ≡ b
same-exact a b same = (bytes_eq-Decides a b).0 same

pub same-itself : (a : List Place) → same_places a a ≡ true
same-itself a = (bytes_eq-Decides a a).1 refl

pub same-from : (a b : List Place) → a ≡ b → same_places a b ≡ true
same-from a b e = (bytes_eq-Decides a b).1 e

pub same-by-order : (a b : List Place) → is_eq (slice_cmp nat_cmp b a) ≡ same_places a b
same-by-order a b =
    both_ways (is_eq (slice_cmp nat_cmp b a)) (same_places a b)
    (λ e. same-from a b (sym (equal_places b a e)))
    (λ e. ap (λ (c : List Place). is_eq (slice_cmp nat_cmp b c)) (same-exact a b e) ∙ (eq_by_cmp_equiv nat_list_cmp_total).refl b)

-- ---- the place of a row
pub row_place-is : (sets : List KeyedRows) (rows : Combination) (table : Place) (set : KeyedRows) (row : Row) → slice_get sets table ≡ Some set → option_map (λ (kept : BornRow). kept.row) (slice_get rows table) ≡ Some row
    → (place : Option Place) → place ≡ find_row set.key (key_of set.key row) set.rows → unwrap_or place 0 ≡ row_place sets rows table
row_place-is sets rows table set row at has place is = by (slice_get rows table) refl has
  where
    some_is : {A : Type 0} {a b : A} → Some a ≡ Some b → a ≡ b
    some_is e = cc

    by : (kept : Option BornRow) → slice_get rows table ≡ kept → option_map (λ (k : BornRow). k.row) kept ≡ Some row → unwrap_or place 0 ≡ row_place sets rows table
    by None e there = absurd cc
    by (Some kept) e there =
        ap (λ (o : Option Place). unwrap_or o 0) (is ∙ ap (λ (r : Row). find_row set.key (key_of set.key r) set.rows) (sym (some_is there)))
        ∙ sym (λ i. option_map_or (λ (s : KeyedRows). option_map_or (place_like s) (e i) 0) (at i) 0)

pub row_place-no_table : (sets : List KeyedRows) (rows : Combination) (table : Place) → length sets ≤ table → 0 ≡ row_place sets rows table
row_place-no_table sets rows table past =
    sym (ap (λ (o : Option KeyedRows). option_map_or (λ (s : KeyedRows). option_map_or (place_like s) (slice_get rows table) 0) o 0) (slice_get_past sets table past))

pub row_place-no_row : (sets : List KeyedRows) (rows : Combination) (table : Place) → length rows ≤ table → 0 ≡ row_place sets rows table
row_place-no_row sets rows table past =
    sym (ap (λ (o : Option BornRow). option_map_or (λ (s : KeyedRows). option_map_or (place_like s) o 0) (slice_get sets table) 0) (slice_get_past rows table past) ∙ nothing (slice_get sets table))
  where
    nothing : (o : Option KeyedRows) → option_map_or (λ (s : KeyedRows). zero) o zero ≡ zero
    nothing None = refl
    nothing (Some set) = refl

-- a row's key is found at its own place
own_place : (key : List Place) (rows : List BornRow) (place : Place) → IsAscending (map (key_in key) rows) → place < length rows
    → position_or_len (λ kept. same_cells (key_in key kept) (key_in key (row_at_place rows place))) rows ≡ place
own_place key [] place ascends within = absurd (omega arith)
own_place key (row ∷ rows) zero ascends within =
    let test : same_cells (key_in key row) (key_in key row) ≡ true = (eq_by_cmp_equiv cells_total).refl (key_in key row) in
    ap (λ b. cond (not b) (1 + position_or_len (λ kept. same_cells (key_in key kept) (key_in key row)) rows) 0) test
own_place key (row ∷ rows) (suc place) ascends within =
    let below : cells_cmp (key_in key row) (key_in key (row_at_place rows place)) ≡ _ = below_at key (key_in key row) rows place ascends.0 (omega arith) in
    let later = own_place key rows place ascends.1 (omega arith) in
    let step : 1 + position_or_len (λ kept. same_cells (key_in key kept) (key_in key (row_at_place rows place))) rows ≡ suc place = omega (arith, later) in
    ap (λ b. cond (not b) (1 + position_or_len (λ kept. same_cells (key_in key kept) (key_in key (row_at_place rows place))) rows) 0) (ap is_eq below) ∙ step

pub place_like-own : (set : KeyedRows) (place : Place) → IsAscending (map (key_in set.key) set.rows) → place < length set.rows → place_like set (row_at_place set.rows place) ≡ place
place_like-own set place ascends within =
    let test : nat_lt place (length set.rows) ≡ true = grind (arith, nat_tests) in
    ap (λ (p : ℕ). unwrap_or (cond (nat_lt p (length set.rows)) (Some p) None) 0) (own_place set.key set.rows place ascends within)
    ∙ ap (λ b. unwrap_or (cond b (Some place) None) 0) test

-- ---- one more combination
all_more : (first : List Place) (rest : List (List Place)) (places : List Place) → list_all (same_places first) (rest ++ places ∷ []) ≡ (list_all (same_places first) rest && same_places first places)
all_more first rest places = list_all-append (same_places first) rest (places ∷ []) ∙ ap (λ b. list_all (same_places first) rest && b) (and-true (same_places first places))

-- one with the same tuple, or the first one
pub mark-same : (mark : Mark) (tuples : List (List Place)) (places : List Place) → mark ≡ mark_of tuples → has_no_other places mark ≡ true → One places ≡ mark_of (tuples ++ places ∷ [])
mark-same mark [] places e test = refl
mark-same mark (first ∷ rest) places e test = by (list_all (same_places first) rest) refl (sym (ap (has_no_other places) e) ∙ test)
  where
    by : (all : Bool) → list_all (same_places first) rest ≡ all → has_no_other places (cond all (One first) Several) ≡ true → One places ≡ mark_of ((first ∷ rest) ++ places ∷ [])
    by true is same =
        ap One (sym (same-exact first places same))
        ∙ sym (ap (λ b. cond b (One first) Several) (all_more first rest places ∙ (λ i. is i && same i)))
    by false is wrong = absurd (false≢true wrong)

-- one with another tuple
pub mark-other : (mark : Mark) (tuples : List (List Place)) (places : List Place) → mark ≡ mark_of tuples → has_no_other places mark ≡ false → Several ≡ mark_of (tuples ++ places ∷ [])
mark-other mark [] places e test = absurd (false≢true (sym test ∙ ap (has_no_other places) e))
mark-other mark (first ∷ rest) places e test = by (list_all (same_places first) rest) refl (sym (ap (has_no_other places) e) ∙ test)
  where
    by : (all : Bool) → list_all (same_places first) rest ≡ all → has_no_other places (cond all (One first) Several) ≡ false → Several ≡ mark_of ((first ∷ rest) ++ places ∷ [])
    by true is other = sym (ap (λ b. cond b (One first) Several) (all_more first rest places ∙ (λ i. is i && other i)))
    by false is other = sym (ap (λ b. cond b (One first) Several) (all_more first rest places ∙ ap (λ b. b && same_places first places) is))

-- the places of a mark among candidates
pub one-added : (places : List Place) (before after : List (List Place)) → ((other : List Place) → has_places other after ≡ cond (is_eq (slice_cmp nat_cmp places other)) true (has_places other before))
    → (other : List Place) → has_places other after ≡ (is_one other (One places) || has_places other before)
one-added places before after updated other =
    updated other ∙ or_cond (is_eq (slice_cmp nat_cmp places other)) (has_places other before)
    ∙ ap (λ b. b || has_places other before) ((eq_by_cmp_equiv nat_list_cmp_total).symm places other ∙ same-by-order places other)
  where
    or_cond : (a b : Bool) → cond a true b ≡ (a || b)
    or_cond true b = refl
    or_cond false b = refl

-- ---- whether a mark is that of one tuple
abbrev all_are : List Place → List (List Place) → Bool
all_are places tuples = list_all (λ tuple. same_places tuple places) tuples

abbrev pub some_are : {A : Type 0} → List A → Bool
some_are xs = list_any (λ x. true) xs

all_by : (first places : List Place) → first ≡ places → (rest : List (List Place)) → list_all (same_places first) rest ≡ all_are places rest
all_by first places e [] = refl
all_by first places e (other ∷ rest) =
    λ i. both_ways (same_places first other) (same_places other places) (λ same. same-from other places (sym (same-exact first other same) ∙ e)) (λ same. same-from first other (e ∙ sym (same-exact other places same))) i
    && all_by first places e rest i

pub is_one-mark_of : (places : List Place) (tuples : List (List Place)) → is_one places (mark_of tuples) ≡ (some_are tuples && all_are places tuples)
is_one-mark_of places [] = refl
is_one-mark_of places (first ∷ rest) = by (same_places first places) refl (list_all (same_places first) rest) refl
  where
    by : (same : Bool) → same_places first places ≡ same → (all : Bool) → list_all (same_places first) rest ≡ all → is_one places (cond all (One first) Several) ≡ (same_places first places && all_are places rest)
    by true e true is = e ∙ sym (λ i. e i && (sym (all_by first places (same-exact first places e) rest) ∙ is) i)
    by true e false is = sym (λ i. e i && (sym (all_by first places (same-exact first places e) rest) ∙ is) i)
    by false e true is = e ∙ sym (ap (λ b. b && all_are places rest) e)
    by false e false is = sym (ap (λ b. b && all_are places rest) e)

-- the mark of the combinations that pass a test
module _ {C : Type 0} (places_at : C → List Place) (test : C → Bool) (places : List Place) where
  some-passing : (cs : List C) → some_are (map places_at (filter test cs)) ≡ list_any test cs
  some-passing [] = refl
  some-passing (c ∷ cs) = by (test c) (filter test cs) (some-passing cs)
    where
      by : (b : Bool) (rest : List C) → some_are (map places_at rest) ≡ list_any test cs → some_are (map places_at (cond b (c ∷ rest) rest)) ≡ (b || list_any test cs)
      by true rest e = refl
      by false rest e = e

  all-passing : (cs : List C) → all_are places (map places_at (filter test cs)) ≡ list_all (λ c. not (test c) || same_places (places_at c) places) cs
  all-passing [] = refl
  all-passing (c ∷ cs) = by (test c) (filter test cs) (all-passing cs)
    where
      by : (b : Bool) (rest : List C) → all_are places (map places_at rest) ≡ list_all (λ c. not (test c) || same_places (places_at c) places) cs
          → all_are places (map places_at (cond b (c ∷ rest) rest)) ≡ ((not b || same_places (places_at c) places) && list_all (λ c. not (test c) || same_places (places_at c) places) cs)
      by true rest e = ap (λ b. same_places (places_at c) places && b) e
      by false rest e = e

  pub is_one-passing : (cs : List C) → is_one places (mark_of (map places_at (filter test cs))) ≡ (list_any test cs && list_all (λ c. not (test c) || same_places (places_at c) places) cs)
  is_one-passing cs = is_one-mark_of places (map places_at (filter test cs)) ∙ (λ i. some-passing cs i && all-passing cs i)
