use Rattle.std.proofs.Common.{◌≡◌, true}
use Rattle.hippo_model_laws.proofs.ValidFronts.{holds_of_each_valid}
use Rattle.hippo_model_laws.proofs.histories.what_is_kept_holds.Goals as goal

pub returns : goal.returns
returns c = λ meaning holds at_first kept. holds_of_each_valid meaning (λ history. holds history ≡ true) kept at_first
