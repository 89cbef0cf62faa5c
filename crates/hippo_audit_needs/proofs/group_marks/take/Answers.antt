-- An equal value, a better one, and any other.
use Rattle.std.proofs.Common.{sym, ◌∙◌}
use Rattle.std.proofs.lemmas.Result.{on_ok_weaker}
use Rattle.hippo_values.specs.OrderLaws.{value_ties}
use Rattle.hippo_audit_needs.proofs.MarkLemmas.{after-equal, after-better, after-none}
use Rattle.hippo_audit_needs.proofs.group_marks.take.Goals as goal

pub returns-then-eq : goal.returns-then-eq
returns-then-eq c = λ who is.
    on_ok_weaker c.mark_with.result
    (λ new. after-equal c.args.best.now who c.args.value.now c.args.places.now c.args.is_better c.mark_with.new.mark (sym (value_ties c.args.value.now c.args.best.now.value) ∙ sym c.eq.ensures ∙ c.if-eq.true) new)
    (c.mark_with.ensures who is)

pub returns-in_ok-best : goal.returns-in_ok-best
returns-in_ok-best c = λ who is.
    c.in_ok-best.ensures ∙ after-better c.args.best.now who c.args.value.now c.args.places.now c.args.is_better (sym (value_ties c.args.value.now c.args.best.now.value) ∙ sym c.eq.ensures ∙ c.if-eq.false) c.if-is_better.true

pub returns-else-is_better : goal.returns-else-is_better
returns-else-is_better c = λ who is.
    after-none c.args.best.now who c.args.value.now c.args.places.now c.args.is_better (sym (value_ties c.args.value.now c.args.best.now.value) ∙ sym c.eq.ensures ∙ c.if-eq.false) c.if-is_better.false is
