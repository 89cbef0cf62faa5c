-- Results of a binary search in sorted values.
use Rattle.std.proofs.Common.{◌≡◌, ℕ, ◌+◌, ◌-◌, ◌<◌, ◌≤◌, true, false, List, length, map, take, drop, refl, sym, ap, ◌∙◌, arith, get_or, length-take, length-drop, inl, inr, ◌⊎◌}
use Rattle.std.proofs.lemmas.List.{get_or-drop, get_or-take, get_or-map, length-map}
use Rattle.std.specs.Prelude.{slice_index_or}
use Rattle.std.specs.List.{Contains}
use Rattle.std.specs.List.Sorted.{IsPartitionedBy, IsPartitionPoint, IsNonDecreasingBy, IsSorted}
use Rattle.std.specs.Ordering.{is_eq, is_lt, is_le, ordering_index}
use Rattle.std.specs.declared.cmp.Ordering.{Ordering}
use Rattle.std.specs.declared.cmp.Ordering.TheVariants.{Less, Equal, Greater}
use Rattle.std.proofs.lemmas.Bool.{false≢true}
use Rattle.std.proofs.lemmas.List.Sorted.{searchable_from_sorted}
use Rattle.hippo_values.specs.declared.values.Value.{Value}
use Rattle.hippo_values.specs.Order.{value_cmp}
use Rattle.hippo_values.specs.OrderLaws.{value_total}
use Rattle.hippo_model.specs.Terms.{Place}
use Rattle.hippo_tables_keyed.specs.RowSets.{KeyedRows}
use Rattle.hippo_join_lookups.specs.Lookups.{value_at_place, IsByColumn, IsIndex}
use Rattle.hippo_join_lookups.proofs.PlaceSteps.{get_or_default}

cases_lt : (a b : ℕ) → (a < b) ⊎ (b ≤ a)
cases_lt a b = grind arith

lower_less : (a b : Ordering) → ordering_index a ≤ ordering_index b → is_lt b ≡ true → is_lt a ≡ true
lower_less Less b le less = refl
lower_less Equal Less le less = absurd (omega arith)
lower_less Equal Equal le less = absurd (false≢true less)
lower_less Equal Greater le less = absurd (false≢true less)
lower_less Greater Less le less = absurd (omega arith)
lower_less Greater Equal le less = absurd (false≢true less)
lower_less Greater Greater le less = absurd (false≢true less)

lower_within : (a b : Ordering) → ordering_index a ≤ ordering_index b → is_le b ≡ true → is_le a ≡ true
lower_within Less b le within = refl
lower_within Equal b le within = refl
lower_within Greater Less le within = absurd (omega arith)
lower_within Greater Equal le within = absurd (omega arith)
lower_within Greater Greater le within = absurd (false≢true within)

not-lower : (a b : Ordering) → ordering_index a ≤ ordering_index b → is_lt a ≡ false → is_lt b ≡ false
not-lower Less b le above = absurd (false≢true (sym above))
not-lower Equal Less le above = absurd (omega arith)
not-lower Equal Equal le above = refl
not-lower Equal Greater le above = refl
not-lower Greater Less le above = absurd (omega arith)
not-lower Greater Equal le above = refl
not-lower Greater Greater le above = refl

neither : (order : Ordering) → is_lt order ≡ false → is_le order ≡ true → order ≡ Equal
neither Less above below = absurd (false≢true (sym above))
neither Equal above below = refl
neither Greater above below = absurd (false≢true below)

-- values that test as equal are equal
pub equal-by_test : (order : Ordering) → is_eq order ≡ true → order ≡ Equal
equal-by_test Less is = absurd (false≢true is)
equal-by_test Equal is = refl
equal-by_test Greater is = absurd (false≢true is)

-- the values of an index on a column, compared to one value
module _ (set : KeyedRows) (column : Place) (values : List Value) (places : List Place) (value : Value) (index : IsIndex set column values places) where
  abbrev order_of : Value → Ordering
  order_of own = value_cmp own value

  abbrev value_of : Place → Value
  value_of place = value_at_place set column place

  pub long : length values ≡ length places
  long = ap length index.are ∙ length-map places value_of

  at : (k : ℕ) (d : Value) → k < length places → get_or values k d ≡ value_of (get_or places k 0)
  at k d within = ap (λ (l : List Value). get_or l k d) index.are ∙ get_or-map value_of places k 0 d within

  rising : IsNonDecreasingBy (λ place. ordering_index (order_of (value_of place))) places
  rising = searchable_from_sorted value_total value_of places value index.rise

  rising_values : IsNonDecreasingBy (λ own. ordering_index (order_of own)) values
  rising_values i j d le within =
      let inside : j < length places = omega (arith, within, long) in
      rw (at i d (omega (arith, le, inside)), at j d inside) (rising i j 0 le inside)

  pub parted-below : IsPartitionedBy (λ own. is_lt (order_of own)) values
  parted-below i j d le within less = lower_less (order_of (slice_index_or values i d)) (order_of (slice_index_or values j d)) (rising_values i j d le within) less

  equal_at : (k : ℕ) (d : Value) → k < length places → order_of (value_of (get_or places k 0)) ≡ Equal → order_of (get_or values k d) ≡ Equal
  equal_at k d inside equal = ap order_of (at k d inside) ∙ equal

  -- an equal value is not among those below
  pub from-start : (start : ℕ) → IsPartitionPoint (λ own. is_lt (order_of own) ≡ true) (λ own. is_lt (order_of own) ≡ false) values start
      → (k : ℕ) → k < length places → order_of (value_of (get_or places k 0)) ≡ Equal → start ≤ k
  from-start start point k within equal = elim (cases_lt k start) as (λ _. start ≤ k) [
    | inl below ↦
        let less : is_lt (order_of (get_or values k value)) ≡ true = point.0 k value (omega arith) below in
        absurd (false≢true (sym (ap is_lt (equal_at k value within equal)) ∙ less))
    | inr above ↦ above
  ]

  -- nor before one that is below
  pub remaining-below : (last : ℕ) (d : Value) → last < length values → is_lt (order_of (get_or values last d)) ≡ true
      → (k : ℕ) → k < length places → order_of (value_of (get_or places k 0)) ≡ Equal → last < k
  remaining-below last d within below k inside equal = elim (cases_lt last k) as (λ _. last < k) [
    | inl above ↦ above
    | inr before ↦ absurd (false≢true (sym (ap is_lt (equal_at k d inside equal)) ∙ lower_less (order_of (get_or values k d)) (order_of (get_or values last d)) (rising_values k last d before within) below))
  ]

  -- nor after one that is above
  pub before-end : (end : ℕ) (d : Value) → end < length values → is_le (order_of (get_or values end d)) ≡ false
      → (k : ℕ) → k < length places → order_of (value_of (get_or places k 0)) ≡ Equal → k < end
  before-end end d within above k inside equal = elim (cases_lt k end) as (λ _. k < end) [
    | inl below ↦ below
    | inr after ↦
        let later = rising_values end k d after (omega (arith, inside, long)) in
        absurd (false≢true (sym above ∙ lower_within (order_of (get_or values end d)) (order_of (get_or values k d)) later (ap is_le (equal_at k d inside equal))))
  ]

  -- if one is not below, none after it is
  pub none-below : (start : ℕ) (d : Value) → start < length values → is_lt (order_of (get_or values start d)) ≡ false
      → (k : ℕ) → start ≤ k → k < length values → k < length places → is_lt (order_of (value_of (get_or places k 0))) ≡ false
  none-below start d inside above k after within there =
      let own : order_of (get_or values k d) ≡ order_of (value_of (get_or places k 0)) = ap order_of (at k d there) in
      let rises = rising_values start k d after within in
      ap is_lt (sym own) ∙ not-lower (order_of (get_or values start d)) (order_of (get_or values k d)) rises above

  -- if the end comes before the start, there is no equal value
  pub none-among : (start end : ℕ) → end < start
      → ((k : ℕ) → k < length places → order_of (value_of (get_or places k 0)) ≡ Equal → start ≤ k)
      → ((k : ℕ) → k < length places → order_of (value_of (get_or places k 0)) ≡ Equal → k < end)
      → (place : Place) → Contains places place → order_of (value_of place) ≡ Equal → ⊥
  none-among start end turned from upto place has equal =
      let same : order_of (value_of (get_or places has.0 0)) ≡ Equal = ap (λ (p : Place). order_of (value_of p)) (get_or_default places has.0 place 0 has.1 ∙ has.2) ∙ equal in
      let after = from has.0 has.1 same in
      let before = upto has.0 has.1 same in
      omega (arith, turned, after, before)

  -- the value compares as the one at its place does
  pub stands-at : {X : Type 0} (test : Ordering → X) (k : ℕ) (d : Value) → k < length places → test (order_of (get_or values k d)) ≡ test (order_of (value_of (get_or places k 0)))
  stands-at test k d there = ap (λ (own : Value). test (order_of own)) (at k d there)

  -- a value that is neither below nor above is equal
  pub between-equal : (k : ℕ) → is_lt (order_of (value_of (get_or places k 0))) ≡ false → is_le (order_of (value_of (get_or places k 0))) ≡ true → order_of (value_of (get_or places k 0)) ≡ Equal
  between-equal k above below = neither (order_of (value_of (get_or places k 0))) above below

  -- so each place in the range has an equal value
  pub all-between : (start end : ℕ) → end ≤ length places
      → ((k : ℕ) → start ≤ k → k < end → k < length places → order_of (value_of (get_or places k 0)) ≡ Equal)
      → (place : Place) → Contains (take (end - start) (drop start places)) place → order_of (value_of place) ≡ Equal
  all-between start end within equal place has =
      let k : ℕ = has.0 in
      let some : length (take (end - start) (drop start places)) ≤ end - start = omega (arith, length-take (end - start) (drop start places)) in
      let inside : k < end - start = omega (arith, has.1, some) in
      let short : start + k < end = omega (arith, inside) in
      let there : start + k < length places = omega (arith, short, within) in
      let is : get_or places (start + k) place ≡ place = sym (get_or-take (end - start) (drop start places) k place inside ∙ get_or-drop start places k place) ∙ has.2 in
      ap (λ (p : Place). order_of (value_of p)) (sym (get_or_default places (start + k) place 0 there ∙ is)) ∙ equal (start + k) (omega arith) short there

  pub before-all : (k : ℕ) → k < length places → k < length values
  before-all k inside = omega (arith, inside, long)

  -- so its place is in the range
  pub among : (start end : ℕ) → end ≤ length places
      → ((k : ℕ) → k < length places → order_of (value_of (get_or places k 0)) ≡ Equal → start ≤ k)
      → ((k : ℕ) → k < length places → order_of (value_of (get_or places k 0)) ≡ Equal → k < end)
      → (place : Place) → Contains places place → order_of (value_of place) ≡ Equal → Contains (take (end - start) (drop start places)) place
  among start end within from upto place at equal =
      let k : ℕ = at.0 in
      let same : order_of (value_of (get_or places k 0)) ≡ Equal = ap (λ (p : Place). order_of (value_of p)) (get_or_default places k place 0 at.1 ∙ at.2) ∙ equal in
      let after = from k at.1 same in
      let before = upto k at.1 same in
      let there : start + (k - start) ≡ k = omega (arith, after) in (
        k - start,
        simp (length-take, length-drop) (omega (arith, at.1, after, before, within)),
        get_or-take (end - start) (drop start places) (k - start) place (omega (arith, after, before)) ∙ get_or-drop start places (k - start) place ∙ ap (λ j. get_or places j place) there ∙ at.2,
      )

-- places whose values ascend are sorted by these values
pub rises-by_values : (set : KeyedRows) (column : Place) (values : List Value) (places : List Place) → values ≡ map (value_at_place set column) places → IsSorted value_cmp values → IsByColumn set column places
rises-by_values set column values places are up k d lower within =
    let value_of : Place → Value = value_at_place set column in
    let long : length values ≡ length places = ap length are ∙ length-map places value_of in
    let same : (j : ℕ) → j < length places → get_or values j (value_of d) ≡ value_of (get_or places j d) = λ j inside. ap (λ (l : List Value). get_or l j (value_of d)) are ∙ get_or-map value_of places j d (value_of d) inside in
    sym (λ i. is_lt (value_cmp (same (k + 1) within i) (same k (omega (arith, within)) i))) ∙ up k (value_of d) lower (omega (arith, within, long))
