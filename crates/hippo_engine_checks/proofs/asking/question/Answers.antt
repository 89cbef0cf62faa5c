-- A question is found as its checks say, one after the other.
use Rattle.std.proofs.Common.{sym}
use Rattle.hippo_engine_checks.specs.declared.asking.Asking.{Asking}
use Rattle.hippo_engine_checks.specs.declared.asking.Delivery.TheVariants as delivered
use Rattle.hippo_engine_checks.proofs.AskingLemmas.{question_found}
use Rattle.hippo_engine_checks.proofs.asking.question.Goals as goal

pub returns-clause-found : goal.returns-clause-found
returns-clause-found g c = λ history stands.
    let asking : Asking = record { asker = c.in_ok-asker.asker; text = c.args.text; query = c.in_ok-query.query; delivery = delivered.Rows } in
    rw c.with_delivery.ensures
    (question_found c.args.written.now.handing history (g.W.WorldView.seen c.args.world.now) c.args.session c.args.written.now.select.now asking c.in_ok-check_allowed.field-0 c.args.state.now.count
    c.delivery_in_room-delivery.result c.in_ok-asker.ensures (sym (c.in_ok-check_allowed.ensures history stands)) (c.in_ok-query.ensures.found history stands)
    stands.count (rw c.limit.ensures at c.delivery_in_room-delivery.ensures.found))
