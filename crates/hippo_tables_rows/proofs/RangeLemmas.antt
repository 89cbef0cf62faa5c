-- Rows in a range of keys.
use Rattle.std.proofs.Common.{◌≡◌, ℕ, zero, suc, ◌+◌, ◌<◌, ◌≤◌, ◌⊎◌, inl, inr, Bool, true, false, nat_lt, min, List, [], ◌∷◌, ◌++◌, map, length, take, drop, refl, sym, ap, subst, ◌∙◌, arith, Some, None}
use Rattle.std.specs.Prelude.{slice_get}
use Rattle.std.specs.Ordering.{is_le, ordering_then}
use Rattle.std.specs.declared.cmp.Ordering.{Ordering}
use Rattle.std.specs.declared.cmp.Ordering.TheVariants.{Less, Equal, Greater}
use Rattle.std.proofs.lemmas.Bool.{false≢true}
use Rattle.std.proofs.lemmas.Bool.Decides.{nat_tests}
use Rattle.std.proofs.lemmas.Cmp.{alike_right, tied_itself}
use Rattle.hippo_values.specs.declared.values.Value.{Value}
use Rattle.hippo_values.specs.Order.{value_cmp, cells_cmp}
use Rattle.hippo_values.specs.OrderLaws.{value_total}
use Rattle.hippo_values.specs.Truths.{is_allowed}
use Rattle.hippo_model.specs.declared.born_row.BornRow.{BornRow}
use Rattle.hippo_tables_rows.specs.declared.ranges.Bound.{Bound}
use Rattle.hippo_model.specs.Terms.{Key, Place}
use Rattle.hippo_tables_keyed.specs.RowSets.{KeyedRows, IsAscending, IsBelowAll, key_in, row_at_place}
use Rattle.hippo_model.specs.Rows.{cell_at, key_of}
use Rattle.hippo_tables_rows.specs.Ranges.{front_cmp, is_low, is_past, stands_low, bounding, IsEdge}

some_is : {A : Type 0} {a b : A} → Some a ≡ Some b → a ≡ b
some_is e = cc

-- ---- the order of keys is that of their first values

-- lesser rows are before an end, greater ones are not, and equal ones are if they are passed
low_of : (past : Bool) → (is_low past Less ≡ true) × (is_low past Equal ≡ past) × (is_low past Greater ≡ false)
low_of false = (refl, refl, refl)
low_of true = (refl, refl, refl)

then_equal : (o : Ordering) → ordering_then o Equal ≡ o
then_equal Less = refl
then_equal Equal = refl
then_equal Greater = refl

first-low : (past : Bool) (x y v : Value) (r s t : Ordering) → (is_le r ≡ true → is_low past s ≡ true → is_low past t ≡ true) → is_le (ordering_then (value_cmp x y) r) ≡ true → is_low past (ordering_then (value_cmp y v) s) ≡ true
    → is_low past (ordering_then (value_cmp x v) t) ≡ true
first-low past x y v r s t rest le low =
    elim (value_cmp x y) as (λ o. value_cmp x y ≡ o → is_le (ordering_then o r) ≡ true → is_low past (ordering_then (value_cmp x v) t) ≡ true) [
      | Less ↦ λ e le. less e (value_cmp y v) refl low
      | Equal ↦ λ e le. subst (λ (o : Ordering). is_low past (ordering_then o t) ≡ true) (sym (value_total.congr x y v e)) (equal le (value_cmp y v) low)
      | Greater ↦ λ e le. absurd (false≢true le)
    ] refl le
  where
    less : value_cmp x y ≡ Less → (o : Ordering) → value_cmp y v ≡ o → is_low past (ordering_then o s) ≡ true → is_low past (ordering_then (value_cmp x v) t) ≡ true
    less e Less d low = subst (λ (o : Ordering). is_low past (ordering_then o t) ≡ true) (sym (value_total.trans x y v e d)) (low_of past).0
    less e Equal d low = subst (λ (o : Ordering). is_low past (ordering_then o t) ≡ true) (sym (sym (alike_right value_total y v x d) ∙ e)) (low_of past).0
    less e Greater d low = absurd (false≢true (sym ((low_of past).2) ∙ low))

    equal : is_le r ≡ true → (o : Ordering) → is_low past (ordering_then o s) ≡ true → is_low past (ordering_then o t) ≡ true
    equal le Less low = low
    equal le Equal low = rest le low
    equal le Greater low = low

pub front-low : (past : Bool) (f g : Place → Value) (columns : List Place) (front : Key) → is_le (cells_cmp (map f columns) (map g columns)) ≡ true → is_low past (front_cmp (map g columns) front) ≡ true → is_low past (front_cmp (map f columns) front) ≡ true
front-low past f g columns [] le low = low
front-low past f g [] (value ∷ front) le low = low
front-low past f g (column ∷ columns) (value ∷ front) le low =
    first-low past (f column) (g column) value (cells_cmp (map f columns) (map g columns)) (front_cmp (map g columns) front) (front_cmp (map f columns) front) (λ le low. front-low past f g columns front le low) le low

-- when the key or the values end, the equality so far decides
pub front-past_end : (columns : List Place) (row : List Value) (front : Key) (n : ℕ) → n ≡ min (length columns) (length front) → front_cmp (key_of (drop n columns) row) (drop n front) ≡ Equal
front-past_end columns row [] n e = let none : n ≡ 0 = omega arith in rw none refl
front-past_end [] row (value ∷ front) n e = let none : n ≡ 0 = omega arith in rw none refl
front-past_end (column ∷ columns) row (value ∷ front) zero e = absurd (omega arith)
front-past_end (column ∷ columns) row (value ∷ front) (suc n) e = let shorter : n ≡ min (length columns) (length front) = omega arith in front-past_end columns row front n shorter

-- ---- keys that ascend

below-at : (of_row : BornRow → Key) (key : Key) (rows : List BornRow) (k : ℕ) → IsBelowAll key (map of_row rows) → k < length rows → cells_cmp key (of_row (row_at_place rows k)) ≡ Less
below-at of_row key [] k below within = absurd (omega arith)
below-at of_row key (row ∷ rows) zero below within = below.0
below-at of_row key (row ∷ rows) (suc k) below within = below-at of_row key rows k below.1 (omega arith)

pub ascends-at : (of_row : BornRow → Key) (rows : List BornRow) (j k : ℕ) → IsAscending (map of_row rows) → j < k → k < length rows → cells_cmp (of_row (row_at_place rows j)) (of_row (row_at_place rows k)) ≡ Less
ascends-at of_row [] j k ascends lower within = absurd (omega arith)
ascends-at of_row (row ∷ rows) zero zero ascends lower within = absurd (omega arith)
ascends-at of_row (row ∷ rows) zero (suc k) ascends lower within = below-at of_row (of_row row) rows k ascends.0 (omega arith)
ascends-at of_row (row ∷ rows) (suc j) zero ascends lower within = absurd (omega arith)
ascends-at of_row (row ∷ rows) (suc j) (suc k) ascends lower within = ascends-at of_row rows j k ascends.1 (omega arith) (omega arith)

lower_or_same : (j k : ℕ) → j ≤ k → (j < k) ⊎ (j ≡ k)
lower_or_same j k at_most = grind arith

-- a row before a low row is low too
pub low-before : (set : KeyedRows) (front : Key) (past : Bool) (j k : ℕ) → IsAscending (map (key_in set.key) set.rows) → j ≤ k → k < length set.rows → stands_low set front past k ≡ true → stands_low set front past j ≡ true
low-before set front past j k ascends at_most within low =
    elim (lower_or_same j k at_most) as (λ _. stands_low set front past j ≡ true) [
      | inl lower ↦ front-low past (cell_at (row_at_place set.rows j).row) (cell_at (row_at_place set.rows k).row) set.key front (ap is_le (ascends-at (key_in set.key) set.rows j k ascends lower within)) low
      | inr same ↦ subst (λ (i : ℕ). stands_low set front past i ≡ true) (sym same) low
    ]

pub high-after : (set : KeyedRows) (front : Key) (past : Bool) (j k : ℕ) → IsAscending (map (key_in set.key) set.rows) → j ≤ k → k < length set.rows → stands_low set front past j ≡ false → stands_low set front past k ≡ false
high-after set front past j k ascends at_most within high =
    elim (stands_low set front past k) as (λ b. stands_low set front past k ≡ b → b ≡ false) [
      | true ↦ λ low. absurd (false≢true (sym high ∙ low-before set front past j k ascends at_most within low))
      | false ↦ λ low. refl
    ] refl

below_or_from : (k n : ℕ) → (k < n) ⊎ (n ≤ k)
below_or_from k n = grind arith

-- the result of a binary search
pub parted : (test : ℕ → Bool) (low high size : ℕ) → high ≤ low → ((k : ℕ) → k < low → test k ≡ true) → ((k : ℕ) → high ≤ k → k < size → test k ≡ false) → (k : ℕ) → k < size → test k ≡ nat_lt k low
parted test low high size met below above k within =
    elim (below_or_from k low) as (λ _. test k ≡ nat_lt k low) [
      | inl lower ↦ let is : nat_lt k low ≡ true = grind (arith, nat_tests) in below k lower ∙ sym is
      | inr upper ↦ let is : nat_lt k low ≡ false = grind (arith, nat_tests) in above k (omega arith) within ∙ sym is
    ]

-- ---- rows whose key begins with some values

at-front : (f : Place → Value) (columns : List Place) (front : Key) → front ≡ map f (take (length front) columns) → front_cmp (map f columns) front ≡ Equal
at-front f columns [] is = refl
at-front f [] (value ∷ front) is = refl
at-front f (column ∷ columns) (value ∷ front) is =
    let first : value ≡ f column = cc in
    let rest : front ≡ map f (take (length front) columns) = cc in
    let same : value_cmp (f column) value ≡ Equal = ap (value_cmp (f column)) first ∙ tied_itself value_total (f column) in
    λ i. ordering_then (same i) (at-front f columns front rest i)

past-front : (f : Place → Value) (columns : List Place) (front : Key) (next : Place) (bound : Value) → front ≡ map f (take (length front) columns) → slice_get columns (length front) ≡ Some next → front_cmp (map f columns) (front ++ bound ∷ []) ≡ value_cmp (f next) bound
past-front f [] [] next bound is at = absurd cc
past-front f (column ∷ columns) [] next bound is at = then_equal (value_cmp (f column) bound) ∙ ap (λ (c : Place). value_cmp (f c) bound) (some_is at)
past-front f [] (value ∷ front) next bound is at = absurd cc
past-front f (column ∷ columns) (value ∷ front) next bound is at =
    let first : value ≡ f column = cc in
    let rest : front ≡ map f (take (length front) columns) = cc in
    let same : value_cmp (f column) value ≡ Equal = ap (value_cmp (f column)) first ∙ tied_itself value_total (f column) in
    λ i. ordering_then (same i) (past-front f columns front next bound rest at i)

-- a value within a bound is on its side of the end
low-bounded : (above strict : Bool) (o : Ordering) → is_allowed (bounding above strict) o ≡ true → is_low (is_past above strict) o ≡ above
low-bounded false false Less e = absurd (false≢true e)
low-bounded false false Equal e = refl
low-bounded false false Greater e = refl
low-bounded false true Less e = absurd (false≢true e)
low-bounded false true Equal e = absurd (false≢true e)
low-bounded false true Greater e = refl
low-bounded true false Less e = refl
low-bounded true false Equal e = refl
low-bounded true false Greater e = absurd (false≢true e)
low-bounded true true Less e = refl
low-bounded true true Equal e = absurd (false≢true e)
low-bounded true true Greater e = absurd (false≢true e)

pub front-edge : (set : KeyedRows) (front : Key) (column : Place) (above : Bool) (edge : Place) → ((place : Place) → place < length set.rows → stands_low set front above place ≡ nat_lt place edge) → IsEdge set front column above None edge
front-edge set front column above edge splits place within begins keeps =
    sym (splits place within) ∙ ap (is_low above) (at-front (cell_at (row_at_place set.rows place).row) set.key front begins) ∙ (low_of above).1

pub bounded-edge : (set : KeyedRows) (front values : Key) (column : Place) (above : Bool) (bound : Bound) (edge : Place) → slice_get set.key (length front) ≡ Some column → values ≡ front ++ bound.value.now ∷ []
    → ((place : Place) → place < length set.rows → stands_low set values (is_past above bound.strict) place ≡ nat_lt place edge) → IsEdge set front column above (Some bound) edge
bounded-edge set front values column above bound edge next pushed splits place within begins keeps =
    let cell = cell_at (row_at_place set.rows place).row in
    sym (splits place within) ∙ ap (is_low (is_past above bound.strict)) (ap (front_cmp (map cell set.key)) pushed ∙ past-front cell set.key front column bound.value.now begins next)
    ∙ low-bounded above bound.strict (value_cmp (cell column) bound.value.now) keeps

-- ---- rows between two rows whose keys begin with some values

between : (o : Ordering) → is_low false o ≡ false → is_low true o ≡ true → o ≡ Equal
between Less from to = absurd (false≢true (sym from))
between Equal from to = refl
between Greater from to = absurd (false≢true to)

pub begin-all : (set : KeyedRows) (front : Key) (start end last place : ℕ) → IsAscending (map (key_in set.key) set.rows) → start ≤ place → place < end → last + 1 ≡ end → end ≤ length set.rows → stands_low set front false start ≡ false → stands_low set front true last ≡ true
    → front_cmp (key_of set.key (row_at_place set.rows place).row) front ≡ Equal
begin-all set front start end last place ascends from to remaining within first low =
    between (front_cmp (key_of set.key (row_at_place set.rows place).row) front)
    (high-after set front false start place ascends from (omega (arith, to, within)) first)
    (low-before set front true place last ascends (omega (arith, to, remaining)) (omega (arith, remaining, within)) low)

-- the first value of a key that begins with one value
pub first-value : (set : KeyedRows) (column place : Place) (value : Value) → slice_get set.key 0 ≡ Some column → front_cmp (key_of set.key (row_at_place set.rows place).row) (value ∷ []) ≡ Equal → value_cmp (cell_at (row_at_place set.rows place).row column) value ≡ Equal
first-value set column place value at equal = sym (past-front (cell_at (row_at_place set.rows place).row) set.key [] column value refl at) ∙ equal
