-- The truth of a list of parts, for All or for Any.
use Rattle.std.specs.Prelude.{Bool, true, false, List}
use Rattle.hippo_values.specs.declared.truths.Truth.{Truth}
use Rattle.hippo_values.specs.Truths.{truth_and, truth_or}
use Rattle.hippo_model.specs.Conditions.{least, greatest}

-- the lesser of two truths for All, the greater for Any
abbrev pub truth_of_both : Bool → Truth → Truth → Truth
truth_of_both true left right = truth_and left right
truth_of_both false left right = truth_or left right

-- the same of a list
abbrev pub truth_of_all : Bool → List Truth → Truth
truth_of_all true truths = least truths
truth_of_all false truths = greatest truths
