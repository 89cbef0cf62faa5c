-- SQL's three truth values, and the result of a comparison of two values.
use Rattle.std.specs.Prelude.{Bool, true, false}
use Rattle.std.specs.Ordering.{is_eq, is_ne, is_lt, is_le, is_gt, is_ge}
use Rattle.std.specs.declared.cmp.Ordering.{Ordering}
use Rattle.hippo_values.specs.declared.truths.Truth.{Truth}
use Rattle.hippo_values.specs.declared.truths.Truth.TheVariants.{False, Unknown, True}
use Rattle.hippo_values.specs.declared.truths.CompareOp.{CompareOp}
use Rattle.hippo_values.specs.declared.truths.CompareOp.TheVariants.{Eq, Ne, Lt, Le, Gt, Ge}
use Rattle.hippo_values.specs.declared.values.Value.{Value}
use Rattle.hippo_values.specs.declared.values.Value.TheVariants.{Int, Text, Day}
use Rattle.hippo_values.specs.Order.{value_cmp}

-- AND is the lesser in the order false, unknown, true
abbrev pub truth_and : Truth → Truth → Truth
truth_and False b = False
truth_and Unknown False = False
truth_and Unknown b = Unknown
truth_and True b = b

-- OR is the greater
abbrev pub truth_or : Truth → Truth → Truth
truth_or False b = b
truth_or Unknown True = True
truth_or Unknown b = Unknown
truth_or True b = True

-- NOT unknown is unknown
abbrev pub truth_not : Truth → Truth
truth_not False = True
truth_not Unknown = Unknown
truth_not True = False

abbrev pub truth_of : Bool → Truth
truth_of false = False
truth_of true = True

-- whether a comparison is true of two values in this order
abbrev pub is_allowed : CompareOp → Ordering → Bool
is_allowed Eq = is_eq
is_allowed Ne = is_ne
is_allowed Lt = is_lt
is_allowed Le = is_le
is_allowed Gt = is_gt
is_allowed Ge = is_ge

-- the result of a comparison of two values: unknown if either is null or their kinds differ, else
-- by their order
abbrev pub comparison : CompareOp → Value → Value → Truth
comparison op (Int a) (Int b) = truth_of (is_allowed op (value_cmp (Int a) (Int b)))
comparison op (Text a) (Text b) = truth_of (is_allowed op (value_cmp (Text a) (Text b)))
comparison op (Day a) (Day b) = truth_of (is_allowed op (value_cmp (Day a) (Day b)))
comparison op a b = Unknown
