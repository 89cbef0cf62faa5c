-- The least and the greatest of some values, and of one more.
use Rattle.std.proofs.Common.{◌≡◌, Bool, true, cond, List, [], ◌∷◌, ◌++◌, refl, sym, ap, ◌∙◌}
use Rattle.std.specs.Prelude.{slice_index_or}
use Rattle.std.specs.Ordering.{is_eq, is_le, is_lt, ordering_reverse}
use Rattle.std.specs.declared.cmp.Ordering.{Ordering}
use Rattle.std.specs.declared.cmp.Ordering.TheVariants.{Less, Equal, Greater}
use Rattle.std.proofs.lemmas.List.{map-append}
use Rattle.hippo_values.specs.declared.values.Value.{Value}
use Rattle.hippo_values.specs.declared.values.Value.TheVariants.{Null, Int, Text, Day}
use Rattle.hippo_model.specs.declared.cells.Cell.TheVariants.{Shown, Denied}
use Rattle.hippo_model.specs.declared.query.Out.TheVariants.{Min, Max}
use Rattle.hippo_model.specs.Terms.{ShownRow, Place}
use Rattle.hippo_model.specs.Forms.{value_in, lesser, greater, least_value, greatest_value, values_in, group_cell}
use Rattle.hippo_values.specs.Order.{value_cmp}
use Rattle.hippo_values.specs.OrderLaws.{value_total}
use Rattle.hippo_distinct.proofs.DifferentLemmas.{value_exact}
use Rattle.hippo_distinct.proofs.BestValues.{IsLower, below_for_min, below_for_max, lesser_is_lower, greater_is_lower}

module _ (below : Value → Value → Bool) (lower : Value → Value → Value) (laws : IsLower below lower) where
  associates : (a b c : Value) → lower a (lower b c) ≡ lower (lower a b) c
  associates a b c =
      let left : Value = lower a (lower b c) in
      let right : Value = lower (lower a b) c in
      let left_a : below left a ≡ true = laws.left a (lower b c) in
      let left_b : below left b ≡ true = laws.trans left (lower b c) b (laws.right a (lower b c)) (laws.left b c) in
      let left_c : below left c ≡ true = laws.trans left (lower b c) c (laws.right a (lower b c)) (laws.right b c) in
      let right_a : below right a ≡ true = laws.trans right (lower a b) a (laws.left (lower a b) c) (laws.left a b) in
      let right_b : below right b ≡ true = laws.trans right (lower a b) b (laws.left (lower a b) c) (laws.right a b) in
      let right_c : below right c ≡ true = laws.right (lower a b) c in
      laws.exact left right
      (laws.both (lower a b) c left (laws.both a b left left_a left_b) left_c)
      (laws.both a (lower b c) right right_a (laws.both b c right right_b right_c))

lesser-null : (value : Value) → lesser value Null ≡ value
lesser-null Null = refl
lesser-null (Int number) = refl
lesser-null (Text text) = refl
lesser-null (Day day) = refl

greater-null : (value : Value) → greater value Null ≡ value
greater-null Null = refl
greater-null (Int number) = refl
greater-null (Text text) = refl
greater-null (Day day) = refl

null-greater : (value : Value) → greater Null value ≡ value
null-greater Null = refl
null-greater (Int number) = refl
null-greater (Text text) = refl
null-greater (Day day) = refl

-- the lesser and the greater of two values, by whether the second is strictly before or after the
-- first
known_lesser : (least value : Value) → (least ≡ Null → ⊥) → (value ≡ Null → ⊥) → lesser least value ≡ cond (is_le (value_cmp least value)) least value
known_lesser Null value some others = absurd (some refl)
known_lesser least Null some others = absurd (others refl)
known_lesser least value some others = refl

turned : (a b : Value) (order : Ordering) → cond (is_le order) a b ≡ cond (is_lt (ordering_reverse order)) b a
turned a b Less = refl
turned a b Equal = refl
turned a b Greater = refl

pub lesser-by : (least value : Value) → (least ≡ Null → ⊥) → (value ≡ Null → ⊥) → lesser least value ≡ cond (is_lt (value_cmp value least)) value least
lesser-by least value some others =
    known_lesser least value some others
    ∙ turned least value (value_cmp least value)
    ∙ ap (λ (order : Ordering). cond (is_lt order) value least) (sym (value_total.antisymm value least))

strictly : (greatest value : Value) (order : Ordering) → (is_eq order ≡ true → greatest ≡ value) → cond (is_le order) value greatest ≡ cond (is_lt order) value greatest
strictly greatest value Less same = refl
strictly greatest value Equal same = sym (same refl)
strictly greatest value Greater same = refl

pub greater-by : (greatest value : Value) → greater greatest value ≡ cond (is_lt (value_cmp greatest value)) value greatest
greater-by greatest value = strictly greatest value (value_cmp greatest value) (value_exact greatest value)

pub least-push : (values : List Value) (value : Value) → least_value (values ++ value ∷ []) ≡ lesser (least_value values) value
least-push [] value = lesser-null value
least-push (first ∷ rest) value = ap (lesser first) (least-push rest value) ∙ associates below_for_min lesser lesser_is_lower first (least_value rest) value

pub greatest-push : (values : List Value) (value : Value) → greatest_value (values ++ value ∷ []) ≡ greater (greatest_value values) value
greatest-push [] value = greater-null value ∙ sym (null-greater value)
greatest-push (first ∷ rest) value = ap (greater first) (greatest-push rest value) ∙ associates below_for_max greater greater_is_lower first (greatest_value rest) value

-- the cells of a group's row with one more member
module _ (key : ShownRow) (rows : List ShownRow) (row : ShownRow) (place : Place) where
  abbrev value : Value
  value = value_in (slice_index_or row place (Denied 0))

  values-push : values_in place (rows ++ row ∷ []) ≡ values_in place rows ++ value ∷ []
  values-push = map-append (λ one. value_in (slice_index_or one place (Denied 0))) rows (row ∷ [])

  pub least_cell : Shown (lesser (least_value (values_in place rows)) value) ≡ group_cell key (rows ++ row ∷ []) (Min place)
  least_cell = sym (ap (λ (values : List Value). Shown (least_value values)) values-push ∙ ap Shown (least-push (values_in place rows) value))

  pub greatest_cell : Shown (greater (greatest_value (values_in place rows)) value) ≡ group_cell key (rows ++ row ∷ []) (Max place)
  greatest_cell = sym (ap (λ (values : List Value). Shown (greatest_value values)) values-push ∙ ap Shown (greatest-push (values_in place rows) value))
