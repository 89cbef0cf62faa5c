-- The least and the greatest values, after some values are removed.
use Rattle.std.proofs.Common.{◌≡◌, Bool, true, false, not, cond, ◌&&◌, ◌||◌, List, [], ◌∷◌, map, refl, sym, ap, ◌∙◌}
use Rattle.std.specs.Prelude.{filter, slice_index_or}
use Rattle.std.specs.Ordering.{is_eq, is_le, ordering_reverse}
use Rattle.std.specs.declared.cmp.Ordering.{Ordering}
use Rattle.std.specs.declared.cmp.Ordering.TheVariants.{Less, Equal, Greater}
use Rattle.std.specs.Cmp.{eq_by_cmp_equiv}
use Rattle.hippo_values.specs.declared.values.Value.{Value}
use Rattle.hippo_values.specs.declared.values.Value.TheVariants.{Null, Int, Text, Day}
use Rattle.hippo_values.specs.Order.{value_cmp}
use Rattle.hippo_values.specs.OrderLaws.{value_total}
use Rattle.hippo_model.specs.declared.cells.Cell.TheVariants.{Denied}
use Rattle.hippo_model.specs.Terms.{ShownRow, Place}
use Rattle.hippo_model.specs.Forms.{value_in, lesser, greater, least_value, greatest_value, values_in}
use Rattle.hippo_distinct.proofs.DifferentLemmas.{value_exact}

-- values in the order of their comparison
abbrev is_upto : Value → Value → Bool
is_upto a b = is_le (value_cmp a b)

le_from_eq : (order : Ordering) → is_eq order ≡ true → is_le order ≡ true
le_from_eq Less e = refl
le_from_eq Equal e = refl
le_from_eq Greater e = absurd cc

upto_itself : (a : Value) → is_upto a a ≡ true
upto_itself a = le_from_eq (value_cmp a a) ((eq_by_cmp_equiv value_total).refl a)

upto_both : (a b c : Value) (one two : Ordering) → value_cmp a b ≡ one → value_cmp b c ≡ two → is_le one ≡ true → is_le two ≡ true → is_upto a c ≡ true
upto_both a b c Less Less e f first second = ap is_le (value_total.trans a b c e f)
upto_both a b c Less Equal e f first second = ap (is_upto a) (sym (value_exact b c (ap is_eq f))) ∙ ap is_le e
upto_both a b c Equal two e f first second = ap is_le (value_total.congr a b c e ∙ f) ∙ second
upto_both a b c Less Greater e f first second = absurd cc
upto_both a b c Greater two e f first second = absurd cc

upto_trans : (a b c : Value) → is_upto a b ≡ true → is_upto b c ≡ true → is_upto a c ≡ true
upto_trans a b c = upto_both a b c (value_cmp a b) (value_cmp b c) refl refl

turned : (a b : Value) (order : Ordering) → value_cmp b a ≡ order → value_cmp a b ≡ ordering_reverse order
turned a b order e = value_total.antisymm a b ∙ ap ordering_reverse e

upto_exact : (a b : Value) → is_upto a b ≡ true → is_upto b a ≡ true → a ≡ b
upto_exact a b = by (value_cmp b a) refl
  where
    by : (order : Ordering) → value_cmp b a ≡ order → is_upto a b ≡ true → is_le order ≡ true → a ≡ b
    by Less e first second = let wrong : is_upto a b ≡ false = ap is_le (turned a b Less e) in absurd cc
    by Equal e first second = value_exact a b (ap is_eq (turned a b Equal e))
    by Greater e first second = absurd cc

upto_other : (a b : Value) → is_upto a b ≡ false → is_upto b a ≡ true
upto_other a b = by (value_cmp a b) refl
  where
    by : (order : Ordering) → value_cmp a b ≡ order → is_le order ≡ false → is_upto b a ≡ true
    by Less e wrong = absurd cc
    by Equal e wrong = absurd cc
    by Greater e wrong = ap is_le (turned b a Greater e)

-- an order, and the lower of two in it
pub record IsLower (below : Value → Value → Bool) (lower : Value → Value → Value) : Type 0 where
  pub itself : (a : Value) → below a a ≡ true
  pub trans : (a b c : Value) → below a b ≡ true → below b c ≡ true → below a c ≡ true
  pub exact : (a b : Value) → below a b ≡ true → below b a ≡ true → a ≡ b
  pub left : (a b : Value) → below (lower a b) a ≡ true
  pub right : (a b : Value) → below (lower a b) b ≡ true
  pub both : (a b c : Value) → below c a ≡ true → below c b ≡ true → below c (lower a b) ≡ true

-- for the maximum, greater values come first
abbrev pub below_for_max : Value → Value → Bool
below_for_max a b = is_upto b a

pub greater_is_lower : IsLower below_for_max greater
greater_is_lower = record {
  itself = upto_itself;
  trans = λ a b c first second. upto_trans c b a second first;
  exact = λ a b first second. upto_exact a b second first;
  left = λ a b. left_by a b (is_upto a b) refl;
  right = λ a b. right_by a b (is_upto a b) refl;
  both = λ a b c first second. both_by a b c (is_upto a b) first second;
}
  where
    left_by : (a b : Value) (test : Bool) → is_upto a b ≡ test → is_upto a (cond test b a) ≡ true
    left_by a b true e = e
    left_by a b false e = upto_itself a

    right_by : (a b : Value) (test : Bool) → is_upto a b ≡ test → is_upto b (cond test b a) ≡ true
    right_by a b true e = upto_itself b
    right_by a b false e = upto_other a b e

    both_by : (a b c : Value) (test : Bool) → is_upto a c ≡ true → is_upto b c ≡ true → is_upto (cond test b a) c ≡ true
    both_by a b c true first second = second
    both_by a b c false first second = first

abbrev is_null : Value → Bool
is_null Null = true
is_null (Int number) = false
is_null (Text text) = false
is_null (Day day) = false

null_exact : (a : Value) → is_null a ≡ true → a ≡ Null
null_exact Null e = refl
null_exact (Int number) e = absurd cc
null_exact (Text text) e = absurd cc
null_exact (Day day) e = absurd cc

-- for the minimum, all values come before null
abbrev pub below_for_min : Value → Value → Bool
below_for_min a b = is_null b || (not (is_null a) && is_upto a b)

lesser_is : (a b : Value) → lesser a b ≡ cond (below_for_min a b) a b
lesser_is Null Null = refl
lesser_is Null (Int b) = refl
lesser_is Null (Text b) = refl
lesser_is Null (Day b) = refl
lesser_is (Int a) Null = refl
lesser_is (Int a) (Int b) = refl
lesser_is (Int a) (Text b) = refl
lesser_is (Int a) (Day b) = refl
lesser_is (Text a) Null = refl
lesser_is (Text a) (Int b) = refl
lesser_is (Text a) (Text b) = refl
lesser_is (Text a) (Day b) = refl
lesser_is (Day a) Null = refl
lesser_is (Day a) (Int b) = refl
lesser_is (Day a) (Text b) = refl
lesser_is (Day a) (Day b) = refl

itself_by : (null upto : Bool) → upto ≡ true → (null || (not null && upto)) ≡ true
itself_by true upto e = refl
itself_by false upto e = e

min_itself : (a : Value) → below_for_min a a ≡ true
min_itself a = itself_by (is_null a) (is_upto a a) (upto_itself a)

trans_by : (na nb nc ab bc ac : Bool) → (ab ≡ true → bc ≡ true → ac ≡ true) → (nb || (not na && ab)) ≡ true → (nc || (not nb && bc)) ≡ true
    → (nc || (not na && ac)) ≡ true
trans_by na nb true ab bc ac then first second = refl
trans_by na true false ab bc ac then first second = absurd cc
trans_by true false false ab bc ac then first second = absurd cc
trans_by false false false ab bc ac then first second = then first second

exact_by : (a b : Value) (na nb : Bool) → is_null a ≡ na → is_null b ≡ nb → (nb || (not na && is_upto a b)) ≡ true → (na || (not nb && is_upto b a)) ≡ true → a ≡ b
exact_by a b true true e f first second = null_exact a e ∙ sym (null_exact b f)
exact_by a b true false e f first second = absurd cc
exact_by a b false true e f first second = absurd cc
exact_by a b false false e f first second = upto_exact a b first second

other_by : (na nb ab ba : Bool) → (ab ≡ false → ba ≡ true) → (nb || (not na && ab)) ≡ false → (na || (not nb && ba)) ≡ true
other_by true nb ab ba then e = refl
other_by false true ab ba then e = absurd cc
other_by false false ab ba then e = then e

pub lesser_is_lower : IsLower below_for_min lesser
lesser_is_lower = record {
  itself = min_itself;
  trans = λ a b c. trans_by (is_null a) (is_null b) (is_null c) (is_upto a b) (is_upto b c) (is_upto a c) (upto_trans a b c);
  exact = λ a b. exact_by a b (is_null a) (is_null b) refl refl;
  left = λ a b. ap (λ (low : Value). below_for_min low a) (lesser_is a b) ∙ left_by a b (below_for_min a b) refl;
  right = λ a b. ap (λ (low : Value). below_for_min low b) (lesser_is a b) ∙ right_by a b (below_for_min a b) refl;
  both = λ a b c first second. ap (below_for_min c) (lesser_is a b) ∙ both_by a b c (below_for_min a b) first second;
}
  where
    left_by : (a b : Value) (test : Bool) → below_for_min a b ≡ test → below_for_min (cond test a b) a ≡ true
    left_by a b true e = min_itself a
    left_by a b false e = other_by (is_null a) (is_null b) (is_upto a b) (is_upto b a) (upto_other a b) e

    right_by : (a b : Value) (test : Bool) → below_for_min a b ≡ test → below_for_min (cond test a b) b ≡ true
    right_by a b true e = e
    right_by a b false e = min_itself b

    both_by : (a b c : Value) (test : Bool) → below_for_min c a ≡ true → below_for_min c b ≡ true → below_for_min c (cond test a b) ≡ true
    both_by a b c true first second = first
    both_by a b c false first second = second

-- the lowest of some values; null if there are none
abbrev lowest : (Value → Value → Value) → List Value → Value
lowest lower [] = Null
lowest lower (first ∷ rest) = lower first (lowest lower rest)

least_is : (values : List Value) → least_value values ≡ lowest lesser values
least_is [] = refl
least_is (first ∷ rest) = ap (lesser first) (least_is rest)

greatest_is : (values : List Value) → greatest_value values ≡ lowest greater values
greatest_is [] = refl
greatest_is (first ∷ rest) = ap (greater first) (greatest_is rest)

module _ {C : Type 0} (row_of : C → ShownRow) (keeps : C → Bool) (place : Place) where
  module _ (below : Value → Value → Bool) (lower : Value → Value → Value) (laws : IsLower below lower) where
    abbrev lowest_of : List C → Value
    lowest_of members = lowest lower (values_in place (map row_of members))

    one_more : (kept : Bool) (c : C) (members rest : List C) → below (lowest_of members) (lowest_of rest) ≡ true
        → below (lowest_of (c ∷ members)) (lowest_of (cond kept (c ∷ rest) rest)) ≡ true
    one_more true c members rest e =
        let value : Value = value_in (slice_index_or (row_of c) place (Denied 0)) in
        let all : Value = lowest_of members in
        laws.both value (lowest_of rest) (lower value all) (laws.left value all) (laws.trans (lower value all) all (lowest_of rest) (laws.right value all) e)
    one_more false c members rest e =
        let value : Value = value_in (slice_index_or (row_of c) place (Denied 0)) in
        let all : Value = lowest_of members in
        laws.trans (lower value all) all (lowest_of rest) (laws.right value all) e

    -- the lowest of all values is below that of some
    lowest_below : (members : List C) → below (lowest_of members) (lowest_of (filter keeps members)) ≡ true
    lowest_below [] = laws.itself Null
    lowest_below (c ∷ members) = one_more (keeps c) c members (filter keeps members) (lowest_below members)

  pub least_below : (members : List C) → below_for_min (least_value (values_in place (map row_of members))) (least_value (values_in place (map row_of (filter keeps members)))) ≡ true
  least_below members =
      (λ i. below_for_min (least_is (values_in place (map row_of members)) i) (least_is (values_in place (map row_of (filter keeps members))) i))
      ∙ lowest_below below_for_min lesser lesser_is_lower members

  pub greatest_below : (members : List C) → below_for_max (greatest_value (values_in place (map row_of members))) (greatest_value (values_in place (map row_of (filter keeps members)))) ≡ true
  greatest_below members =
      (λ i. below_for_max (greatest_is (values_in place (map row_of members)) i) (greatest_is (values_in place (map row_of (filter keeps members))) i))
      ∙ lowest_below below_for_max greater greater_is_lower members
