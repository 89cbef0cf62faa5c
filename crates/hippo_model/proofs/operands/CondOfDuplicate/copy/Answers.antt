use Rattle.std.proofs.Common.{◌≡◌, subst}
use Rattle.std.specs.Prelude.{IfOk}
use Rattle.hippo_model.specs.declared.query.CondOf.{CondOf}
use Rattle.hippo_model.proofs.CopiedConditions.{unchanged}
use Rattle.hippo_model.proofs.operands.CondOfDuplicate.copy.Goals as goal

pub returns : goal.returns
returns g c =
    subst (λ (condition : CondOf _). IfOk c.changed_condition.result (λ made. made ≡ condition)) (unchanged _ c.args.self.now) c.changed_condition.ensures
