-- The order of values, rows and keys.
use Rattle.std.specs.Prelude.{ℕ, Bool, List}
use Rattle.std.specs.Ordering.{is_eq, int_cmp, nat_cmp}
use Rattle.std.specs.declared.cmp.Ordering.{Ordering}
use Rattle.std.specs.Cmp.Lexicographic.{slice_cmp}
use Rattle.hippo_values.specs.declared.values.Value.{Value}
use Rattle.hippo_values.specs.declared.values.Value.TheVariants.{Null, Int, Text, Day}

-- the kinds in ascending order: NULL, INTEGER, TEXT, DATE
abbrev pub kind_rank : Value → ℕ
kind_rank Null = 0
kind_rank (Int number) = 1
kind_rank (Text text) = 2
kind_rank (Day day) = 3

-- values are ordered by kind, and then within the kind; texts by their bytes
abbrev pub value_cmp : Value → Value → Ordering
value_cmp (Int a) (Int b) = int_cmp a b
value_cmp (Text a) (Text b) = slice_cmp nat_cmp a b
value_cmp (Day a) (Day b) = int_cmp a b
value_cmp a b = nat_cmp (kind_rank a) (kind_rank b)

-- rows and keys are ordered by the first value that differs
abbrev pub cells_cmp : List Value → List Value → Ordering
cells_cmp = slice_cmp value_cmp

abbrev pub same_cells : List Value → List Value → Bool
same_cells a b = is_eq (cells_cmp a b)
