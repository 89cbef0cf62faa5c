-- Each reader of the cycle continues with the next reader's result; the parts so far and the rest
-- of the list make up the whole list.
use Rattle.std.proofs.Common.{ℕ, ◌+◌, ◌*◌, ◌<◌, ◌≤◌, length}
use Rattle.hippo_values.specs.declared.keywords.Keyword.TheVariants.{KAnd, KOr}
use Rattle.hippo_spj_reader.specs.Front.{kinds, after_keyword}
use Rattle.hippo_spj_reader.specs.ListFinder.{leading_list}
use Rattle.hippo_spj_reader.specs.ConditionFinder.{conjunction_with, leading_negation}
use Rattle.hippo_spj_reader.proofs.ListLoops.{Continues}
use Rattle.hippo_spj_reader.proofs.conditions.+condition.Given as goal

abbrev pub decreases-disjunction : goal.decreases-disjunction
decreases-disjunction l = 4 * length l.tokens.now + 3

abbrev pub decreases-conjunction : goal.decreases-conjunction
decreases-conjunction l = 4 * length l.tokens.now + 2

abbrev pub decreases-add_conjunction : goal.decreases-add_conjunction
decreases-add_conjunction l = 4 * length l.tokens.now + 3

abbrev pub decreases-add_negation : goal.decreases-add_negation
decreases-add_negation l = 4 * length l.tokens.now + 2

abbrev pub decreases-negation : goal.decreases-negation
decreases-negation l = 4 * length l.tokens.now + 1

abbrev pub decreases-primary : goal.decreases-primary
decreases-primary l = 4 * length l.tokens.now

abbrev pub invariant-conjunction-loop-remaining : goal.invariant-conjunction-loop-remaining
invariant-conjunction-loop-remaining l = record {
  no_longer : length l.rest ≤ length l.fn.tokens;
  so_far : ((n : ℕ) → length l.fn.tokens < n → Continues (leading_negation n) (after_keyword KAnd) (leading_list (leading_negation n) (after_keyword KAnd) (kinds l.fn.tokens)) l.parts l.rest);
}

abbrev pub decreases-conjunction-loop-remaining : goal.decreases-conjunction-loop-remaining
decreases-conjunction-loop-remaining l = length l.rest

abbrev pub invariant-disjunction-loop-remaining : goal.invariant-disjunction-loop-remaining
invariant-disjunction-loop-remaining l = record {
  no_longer : length l.rest ≤ length l.fn.tokens;
  so_far : ((n : ℕ) → length l.fn.tokens < n → Continues (conjunction_with (leading_negation n)) (after_keyword KOr) (leading_list (conjunction_with (leading_negation n)) (after_keyword KOr) (kinds l.fn.tokens)) l.parts l.rest);
}

abbrev pub decreases-disjunction-loop-remaining : goal.decreases-disjunction-loop-remaining
decreases-disjunction-loop-remaining l = length l.rest
