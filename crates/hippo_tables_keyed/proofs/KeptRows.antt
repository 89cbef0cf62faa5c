-- Rows sorted by key: what a search finds, and what a put and a take leave.
use Rattle.std.proofs.Common.{◌≡◌, ℕ, zero, suc, ◌+◌, ◌<◌, ◌≤◌, List, [], ◌∷◌, map, length, get_or, set, Option, Some, None, option_map, true, false, if◌then◌else◌, slice_get, is_some, IfSome, Result, Ok, Err, sym, ap, ◌∙◌, refl, subst, arith}
use Rattle.std.specs.Prelude.{Bool, not, nat_lt, position, option_and_then}
use Rattle.std.specs.Ordering.{is_lt, ordering_index, ordering_reverse, match_ordering}
use Rattle.std.specs.declared.cmp.Ordering.{Ordering}
use Rattle.std.specs.declared.cmp.Ordering.TheVariants.{Less, Equal, Greater}
use Rattle.std.specs.List.{position_or_len, HoldsAt, insert, remove}
use Rattle.std.specs.List.Sorted.{IsNonDecreasingBy, IsPartitionPoint, IsSearchInRange, IsBinarySearchResult}
use Rattle.std.specs.Result.{result_ok}
use Rattle.std.proofs.lemmas.Bool.Decides.{nat_tests}
use Rattle.std.proofs.lemmas.List.Sorted.{searchable_from_sorted}
use Rattle.hippo_model.specs.declared.born_row.BornRow.{BornRow}
use Rattle.hippo_model.specs.Terms.{Key, Place}
use Rattle.hippo_values.specs.Order.{cells_cmp, same_cells}
use Rattle.hippo_tables_keyed.specs.RowSets.{KeyedRows, key_in, with_row, without_row, IsBelowAll, IsAscending, put_row, take_row, find_row, row_with}
use Rattle.hippo_tables_keyed.proofs.Orders.{cells_total, cells_exact}

pub flipped : (a b : Key) (o : Ordering) → cells_cmp a b ≡ o → cells_cmp b a ≡ ordering_reverse o
flipped a b o e = cells_total.antisymm b a ∙ ap ordering_reverse e

pub IsBelowAll-from_below : (a b : Key) (keys : List Key) → cells_cmp a b ≡ Less → IsBelowAll b keys → IsBelowAll a keys
IsBelowAll-from_below a b [] less below = tt
IsBelowAll-from_below a b (key ∷ keys) less below = (cells_total.trans a b key less below.0, IsBelowAll-from_below a b keys less below.1)

module _ (places : List Place) where
  IsBelowAll-put : (key : Key) (row : BornRow) (rows : List BornRow) → cells_cmp key (key_in places row) ≡ Less → IsBelowAll key (map (key_in places) rows) → IsBelowAll key (map (key_in places) (put_row places row rows))
  IsBelowAll-put key row [] less below = (less, tt)
  IsBelowAll-put key row (first ∷ rest) less below =
      elim (cells_cmp (key_in places row) (key_in places first)) as (λ o. IsBelowAll key (map (key_in places) (match_ordering o (row ∷ first ∷ rest) (row ∷ rest) (first ∷ put_row places row rest)))) [
        | Less ↦ (less, below)
        | Equal ↦ (less, below.1)
        | Greater ↦ (below.0, IsBelowAll-put key row rest less below.1)
      ]

  -- a put keeps the order of the keys
  pub IsAscending-put : (row : BornRow) (rows : List BornRow) → IsAscending (map (key_in places) rows) → IsAscending (map (key_in places) (put_row places row rows))
  IsAscending-put row [] ascends = (tt, tt)
  IsAscending-put row (first ∷ rest) ascends =
      let key = key_in places row in
      let other = key_in places first in
      elim (cells_cmp key other) as (λ o. cells_cmp key other ≡ o → IsAscending (map (key_in places) (match_ordering o (row ∷ first ∷ rest) (row ∷ rest) (first ∷ put_row places row rest)))) [
        | Less ↦ λ e. ((e, IsBelowAll-from_below key other (map (key_in places) rest) e ascends.0), ascends)
        | Equal ↦ λ e. (rw (cells_exact key other e) ascends.0, ascends.1)
        | Greater ↦ λ e. (IsBelowAll-put other row rest (flipped key other Greater e) ascends.0, IsAscending-put row rest ascends.1)
      ] refl

-- a kept row compared with the wanted key
abbrev pub order_of : List Place → Key → BornRow → Ordering
order_of places key kept = cells_cmp (key_in places kept) key

abbrev pub shown : List Place → List BornRow → KeyedRows
shown places kept = record { key = places; rows = kept }

nat_lt-suc : (a b : ℕ) → nat_lt (1 + a) (suc b) ≡ nat_lt a b
nat_lt-suc a b = grind (arith, nat_tests)

one_place_on : (place size : ℕ) → (if nat_lt (1 + place) (suc size) then Some (1 + place) else None) ≡ option_map suc (if nat_lt place size then Some place else None)
one_place_on place size =
    rw (nat_lt-suc place size) (elim (nat_lt place size) as (λ within. (if within then Some (1 + place) else None) ≡ option_map suc (if within then Some place else None)) [
      | true ↦ let same : 1 + place ≡ suc place = omega arith in ap Some same
      | false ↦ refl
    ])

first_place : (size : ℕ) → ◌≡◌ {A = Option ℕ} (if nat_lt 0 (suc size) then Some 0 else None) (Some 0)
first_place size = let within : nat_lt 0 (suc size) ≡ true = grind (arith, nat_tests) in rw within

-- the first place that passes a test, by the first member
position-first : {X : Type 0} (test : X → Bool) (first : X) (rest : List X) → position test (first ∷ rest) ≡ (if test first then Some 0 else option_map suc (position test rest))
position-first test first rest =
    elim (test first) as (λ passes. (if nat_lt (if not passes then 1 + position_or_len test rest else 0) (length (first ∷ rest)) then Some (if not passes then 1 + position_or_len test rest else 0) else None) ≡ (if passes then Some 0 else option_map suc (position test rest))) [
      | true ↦ first_place (length rest)
      | false ↦ one_place_on (position_or_len test rest) (length rest)
    ]

pub is_some-option_map : {A B : Type 0} (f : A → B) (found : Option A) → is_some (option_map f found) ≡ is_some found
is_some-option_map f None = refl
is_some-option_map f (Some x) = refl

module _ (places : List Place) (key : Key) where
  -- the key at a place is above those before it
  below_at : (kept : List BornRow) (first : Key) (i : ℕ) (d : BornRow) → IsBelowAll first (map (key_in places) kept) → i < length kept → cells_cmp first (key_in places (get_or kept i d)) ≡ Less
  below_at [] first i d below in_range = absurd (omega arith)
  below_at (member ∷ kept) first zero d below in_range = below.0
  below_at (member ∷ kept) first (suc i) d below in_range = below_at kept first i d below.1 (omega arith)

  pub sorted_kept : (kept : List BornRow) → IsAscending (map (key_in places) kept) → (k j : ℕ) (d : BornRow) → k < j → j < length kept → cells_cmp (key_in places (get_or kept k d)) (key_in places (get_or kept j d)) ≡ Less
  sorted_kept [] ascends k j d less in_range = absurd (omega arith)
  sorted_kept (member ∷ kept) ascends k zero d less in_range = absurd (omega arith)
  sorted_kept (member ∷ kept) ascends zero (suc j) d less in_range = below_at kept (key_in places member) j d ascends.0 (omega arith)
  sorted_kept (member ∷ kept) ascends (suc k) (suc j) d less in_range = sorted_kept kept ascends.1 k j d (omega arith) (omega arith)

  -- the comparisons with the wanted key ascend along the rows
  pub answers_rise : (kept : List BornRow) → IsAscending (map (key_in places) kept) → IsNonDecreasingBy (λ member. ordering_index (order_of places key member)) kept
  answers_rise kept ascends =
      searchable_from_sorted cells_total (λ member. key_in places member) kept key
      (λ k d low high. ap is_lt (flipped (key_in places (get_or kept k d)) (key_in places (get_or kept (k + 1) d)) Less (sorted_kept kept ascends k (k + 1) d (omega arith) high)))

  -- the key is not above the place of a row that has it
  above_before : (member : BornRow) (kept : List BornRow) (i : ℕ) (d : BornRow) → IsAscending (map (key_in places) (member ∷ kept)) → i < length kept → order_of places key (get_or kept i d) ≡ Equal → order_of places key member ≡ Less
  above_before member kept i d ascends in_range same = subst (λ other. cells_cmp (key_in places member) other ≡ Less) (cells_exact (key_in places (get_or kept i d)) key same) (below_at kept (key_in places member) i d ascends.0 in_range)

  find_row-first : (first : BornRow) (rest : List BornRow) → find_row places key (first ∷ rest) ≡ (if same_cells (key_in places first) key then Some 0 else option_map suc (find_row places key rest))
  find_row-first first rest = position-first (λ kept. same_cells (key_in places kept) key) first rest

  -- when a search finds a row with the key
  pub find_row-found : (kept : List BornRow) (i : ℕ) → IsAscending (map (key_in places) kept) → i < length kept → HoldsAt (λ member. order_of places key member ≡ Equal) kept i → find_row places key kept ≡ Some i
  find_row-found [] i ascends in_range same = absurd (omega arith)
  find_row-found (member ∷ kept) zero ascends in_range same = find_row-first member kept ∙ rw (same member)
  find_row-found (member ∷ kept) (suc i) ascends in_range same =
      find_row-first member kept ∙
      rw (above_before member kept i member ascends (omega arith) (same member), find_row-found kept i ascends.1 (omega arith) same)

  -- when a search finds none
  pub find_row-missing : (kept : List BornRow) (i : ℕ) → IsPartitionPoint (λ member. order_of places key member ≡ Less) (λ member. order_of places key member ≡ Greater) kept i → find_row places key kept ≡ None
  find_row-missing [] i parted = refl
  find_row-missing (member ∷ kept) zero parted = find_row-first member kept ∙ rw (parted.1 0 member (omega arith) (omega arith), find_row-missing kept zero (λ k d low high. absurd (omega arith), λ k d low high. parted.1 (suc k) d (omega arith) (omega arith)))
  find_row-missing (member ∷ kept) (suc i) parted = find_row-first member kept ∙ rw (parted.0 0 member (omega arith) (omega arith), find_row-missing kept i (λ k d low high. parted.0 (suc k) d (omega arith) (omega arith), λ k d low high. parted.1 (suc k) d (omega arith) (omega arith)))

  pub find_row-range : (rows : List BornRow) → IfSome (find_row places key rows) (λ place. place < length rows)
  find_row-range [] = tt
  find_row-range (first ∷ rest) =
      rw (find_row-first first rest) (elim (same_cells (key_in places first) key) as (λ same. IfSome (if same then Some 0 else option_map suc (find_row places key rest)) (λ place. place < length (first ∷ rest))) [
        | true ↦ omega arith
        | false ↦ later (find_row places key rest) (find_row-range rest)
      ])
    where
      later : (found : Option ℕ) → IfSome found (λ place. place < length rest) → IfSome (option_map suc found) (λ place. place < suc (length rest))
      later None within = tt
      later (Some place) within = omega arith

  -- the row at the place that is found
  pub slice_get-find_row : (rows : List BornRow) → option_and_then (slice_get rows) (find_row places key rows) ≡ row_with key (shown places rows)
  slice_get-find_row [] = refl
  slice_get-find_row (first ∷ rest) =
      ap (option_and_then (slice_get (first ∷ rest))) (find_row-first first rest) ∙ (elim (same_cells (key_in places first) key) as (λ same. option_and_then (slice_get (first ∷ rest)) (if same then Some 0 else option_map suc (find_row places key rest)) ≡ (if same then Some first else row_with key (shown places rest))) [
        | true ↦ refl
        | false ↦ later (find_row places key rest) ∙ slice_get-find_row rest
      ])
    where
      later : (found : Option ℕ) → option_and_then (slice_get (first ∷ rest)) (option_map suc found) ≡ option_and_then (slice_get rest) found
      later None = refl
      later (Some place) = refl

  -- a place is found exactly when a row is
  pub is_some-find_row : (rows : List BornRow) → is_some (find_row places key rows) ≡ is_some (row_with key (shown places rows))
  is_some-find_row [] = refl
  is_some-find_row (first ∷ rest) =
      ap is_some (find_row-first first rest) ∙ (elim (same_cells (key_in places first) key) as (λ same. is_some (if same then Some 0 else option_map suc (find_row places key rest)) ≡ is_some (if same then Some first else row_with key (shown places rest))) [
        | true ↦ refl
        | false ↦ is_some-option_map suc (find_row places key rest) ∙ is_some-find_row rest
      ])

  IsBelowAll-take : (low : Key) (rows : List BornRow) → IsBelowAll low (map (key_in places) rows) → IsBelowAll low (map (key_in places) (take_row places key rows))
  IsBelowAll-take low [] below = tt
  IsBelowAll-take low (first ∷ rest) below =
      elim (same_cells (key_in places first) key) as (λ same. IsBelowAll low (map (key_in places) (if same then rest else first ∷ take_row places key rest))) [
        | true ↦ below.1
        | false ↦ (below.0, IsBelowAll-take low rest below.1)
      ]

  -- a take keeps the order of the keys
  pub IsAscending-take : (rows : List BornRow) → IsAscending (map (key_in places) rows) → IsAscending (map (key_in places) (take_row places key rows))
  IsAscending-take [] ascends = tt
  IsAscending-take (first ∷ rest) ascends =
      elim (same_cells (key_in places first) key) as (λ same. IsAscending (map (key_in places) (if same then rest else first ∷ take_row places key rest))) [
        | true ↦ ascends.1
        | false ↦ (IsBelowAll-take (key_in places first) rest ascends.0, IsAscending-take rest ascends.1)
      ]

  -- a take, when a search finds the row
  pub without_row-found : (kept : List BornRow) (i : ℕ) → IsAscending (map (key_in places) kept) → i < length kept → HoldsAt (λ member. order_of places key member ≡ Equal) kept i → shown places (remove kept i) ≡ without_row key (shown places kept)
  without_row-found [] i ascends in_range same = absurd (omega arith)
  without_row-found (member ∷ kept) zero ascends in_range same = rw (same member)
  without_row-found (member ∷ kept) (suc i) ascends in_range same =
      rw (above_before member kept i member ascends (omega arith) (same member))
      (ap (λ (set : KeyedRows). record { key = places; rows = member ∷ set.rows }) (without_row-found kept i ascends.1 (omega arith) same))

  pub IsAscending-remove : (kept : List BornRow) (i : ℕ) → IsAscending (map (key_in places) kept) → i < length kept → HoldsAt (λ member. order_of places key member ≡ Equal) kept i → IsAscending (map (key_in places) (remove kept i))
  IsAscending-remove kept i ascends in_range same =
      subst (λ (set : KeyedRows). IsAscending (map (key_in places) set.rows)) (sym (without_row-found kept i ascends in_range same)) (IsAscending-take kept ascends)

  -- and when it finds none
  pub without_row-missing : (kept : List BornRow) (i : ℕ) → IsPartitionPoint (λ member. order_of places key member ≡ Less) (λ member. order_of places key member ≡ Greater) kept i → shown places kept ≡ without_row key (shown places kept)
  without_row-missing [] i parted = refl
  without_row-missing (member ∷ kept) zero parted =
      rw (parted.1 0 member (omega arith) (omega arith))
      (ap (λ (set : KeyedRows). record { key = places; rows = member ∷ set.rows }) (without_row-missing kept zero (λ k d low high. absurd (omega arith), λ k d low high. parted.1 (suc k) d (omega arith) (omega arith))))
  without_row-missing (member ∷ kept) (suc i) parted =
      rw (parted.0 0 member (omega arith) (omega arith))
      (ap (λ (set : KeyedRows). record { key = places; rows = member ∷ set.rows }) (without_row-missing kept i (λ k d low high. parted.0 (suc k) d (omega arith) (omega arith), λ k d low high. parted.1 (suc k) d (omega arith) (omega arith))))

  pub find_row-searched : (kept : List BornRow) (r : Result ℕ ℕ) → IsAscending (map (key_in places) kept) → IsSearchInRange r (length kept) → IsBinarySearchResult (order_of places key) kept r → find_row places key kept ≡ result_ok r
  find_row-searched kept (Ok i) ascends in_range same = find_row-found kept i ascends in_range same
  find_row-searched kept (Err i) ascends in_range parted = find_row-missing kept i (parted (answers_rise kept ascends))

module _ (places : List Place) (new : BornRow) where
  abbrev key : Key
  key = key_in places new

  -- a put, when a search finds a row with the key
  pub with_row-found : (kept : List BornRow) (i : ℕ) → IsAscending (map (key_in places) kept) → i < length kept → HoldsAt (λ member. order_of places key member ≡ Equal) kept i → shown places (set kept i new) ≡ with_row new (shown places kept)
  with_row-found [] i ascends in_range same = absurd (omega arith)
  with_row-found (member ∷ kept) zero ascends in_range same = rw (flipped (key_in places member) key Equal (same member))
  with_row-found (member ∷ kept) (suc i) ascends in_range same =
      let less = above_before places key member kept i member ascends (omega arith) (same member) in
      let later = with_row-found kept i ascends.1 (omega arith) same in
      rw (flipped (key_in places member) key Less less) (ap (λ (set : KeyedRows). record { key = places; rows = member ∷ set.rows }) later)

  -- a put, when a search finds none
  pub with_row-missing : (kept : List BornRow) (i : ℕ) → i ≤ length kept → IsPartitionPoint (λ member. order_of places key member ≡ Less) (λ member. order_of places key member ≡ Greater) kept i → shown places (insert kept i new) ≡ with_row new (shown places kept)
  with_row-missing [] zero in_range parted = refl
  with_row-missing [] (suc i) in_range parted = absurd (omega arith)
  with_row-missing (member ∷ kept) zero in_range parted = rw (flipped (key_in places member) key Greater (parted.1 0 member (omega arith) (omega arith)))
  with_row-missing (member ∷ kept) (suc i) in_range parted =
      let later = with_row-missing kept i (omega arith) (λ k d low high. parted.0 (suc k) d (omega arith) (omega arith), λ k d low high. parted.1 (suc k) d (omega arith) (omega arith)) in
      rw (flipped (key_in places member) key Less (parted.0 0 member (omega arith) (omega arith))) (ap (λ (set : KeyedRows). record { key = places; rows = member ∷ set.rows }) later)

  pub IsAscending-set : (kept : List BornRow) (i : ℕ) → IsAscending (map (key_in places) kept) → i < length kept → HoldsAt (λ member. order_of places key member ≡ Equal) kept i → IsAscending (map (key_in places) (set kept i new))
  IsAscending-set kept i ascends in_range same =
      subst (λ (set : KeyedRows). IsAscending (map (key_in places) set.rows)) (sym (with_row-found kept i ascends in_range same)) (IsAscending-put places new kept ascends)

  pub IsAscending-insert : (kept : List BornRow) (i : ℕ) → IsAscending (map (key_in places) kept) → i ≤ length kept → IsPartitionPoint (λ member. order_of places key member ≡ Less) (λ member. order_of places key member ≡ Greater) kept i → IsAscending (map (key_in places) (insert kept i new))
  IsAscending-insert kept i ascends in_range parted =
      subst (λ (set : KeyedRows). IsAscending (map (key_in places) set.rows)) (sym (with_row-missing kept i in_range parted)) (IsAscending-put places new kept ascends)
