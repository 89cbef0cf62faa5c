-- What is found is the grammar's condition, and each condition of the grammar is found.
use Rattle.std.proofs.Common.{[], refl}
use Rattle.hippo_spj_reader.specs.ConditionGrammar.{IsCondition}
use Rattle.hippo_spj_reader.specs.ConditionFinder.{leading_condition}
use Rattle.hippo_spj_reader.specs.Front.{kinds_between}
use Rattle.hippo_spj_reader.proofs.ConditionTheorem.{found, complete}
use Rattle.hippo_spj_reader.proofs.WholeTheorem.{reads_all}
use Rattle.hippo_spj_reader.proofs.conditions.read_condition.Goals as goal

pub returns : goal.returns
returns c =
    let tokens = kinds_between c.args.t.now c.args.first c.args.last in
    reads_all leading_condition IsCondition tokens (found tokens) (λ condition is. complete tokens condition [] is (record { no_dot = refl; no_and = refl; no_or = refl })) c.whole.result (rw c.as_slice.ensures at c.whole.ensures)
