-- The order of values is total, and only equal values compare as equal. The `Ord` impl of `Value`
-- cites these laws.
use Rattle.std.proofs.Common.{◌≡◌, ℕ, ℤ, pos, List, [], Some, refl}
use Rattle.std.specs.Ordering.{eq_by_cmp, int_cmp, nat_cmp, ordering_then}
use Rattle.std.specs.Cmp.{IsPartialOrder, IsTotalOrder, int_cmp_total, nat_cmp_total, on_total, po, then_total}
use Rattle.std.specs.Cmp.Lexicographic.{nat_list_cmp_total, slice_cmp, texts_ties}
use Rattle.std.specs.declared.cmp.Ordering.{Ordering}
use Rattle.std.specs.declared.cmp.Ordering.TheVariants.{Less, Equal, Greater}
use Rattle.hippo_values.specs.declared.values.Value.{Value}
use Rattle.hippo_values.specs.declared.values.Value.TheVariants.{Null, Int, Text, Day}
use Rattle.hippo_values.specs.contracts.values.ValuePartialEq.TheImpl as derived
use Rattle.hippo_values.specs.Order.{kind_rank, value_cmp}

-- the number in a value, and the text in it
abbrev number_or_zero : Value → ℤ
number_or_zero Null = pos 0
number_or_zero (Int number) = number
number_or_zero (Text text) = pos 0
number_or_zero (Day day) = day

abbrev text_in : Value → List ℕ
text_in Null = []
text_in (Int number) = []
text_in (Text text) = text
text_in (Day day) = []

-- the order by kind, then number, then text
abbrev by_parts : Value → Value → Ordering
by_parts a b = ordering_then (nat_cmp (kind_rank a) (kind_rank b))
    (ordering_then (int_cmp (number_or_zero a) (number_or_zero b))
    (slice_cmp nat_cmp (text_in a) (text_in b)))

by_parts_total : IsTotalOrder by_parts
by_parts_total = then_total (on_total kind_rank nat_cmp_total)
    (then_total (on_total number_or_zero int_cmp_total) (on_total text_in nat_list_cmp_total))

then_equal : (order : Ordering) → order ≡ ordering_then order Equal
then_equal Less = refl
then_equal Equal = refl
then_equal Greater = refl

value_cmp-by_parts : (a b : Value) → value_cmp a b ≡ by_parts a b
value_cmp-by_parts Null Null = refl
value_cmp-by_parts (Int a) (Int b) = then_equal (int_cmp a b)
value_cmp-by_parts (Text a) (Text b) = refl
value_cmp-by_parts (Day a) (Day b) = then_equal (int_cmp a b)
value_cmp-by_parts a b = refl

pub value_total : IsTotalOrder value_cmp
value_total = record {
  antisymm = λ x y. rw (value_cmp-by_parts x y, value_cmp-by_parts y x)
      (by_parts_total.antisymm x y);
  trans =
      λ x y z. rw (value_cmp-by_parts x y, value_cmp-by_parts y z, value_cmp-by_parts x z)
      (by_parts_total.trans x y z);
  congr =
      λ x y z. rw (value_cmp-by_parts x y, value_cmp-by_parts y z, value_cmp-by_parts x z)
      (by_parts_total.congr x y z);
}

-- `==` is true exactly of the values that the order calls equal
pub value_ties : (a b : Value) → (derived.ghosts).eq a b ≡ eq_by_cmp value_cmp a b
value_ties Null Null = refl
value_ties (Int a) (Int b) = refl
value_ties (Text a) (Text b) = texts_ties a b
value_ties (Day a) (Day b) = refl
value_ties a b = refl

pub value_po : IsPartialOrder (derived.ghosts).eq (λ a b. Some (value_cmp a b))
value_po = po value_total value_ties
