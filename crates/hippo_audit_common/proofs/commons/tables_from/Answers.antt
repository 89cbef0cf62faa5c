-- One more table.
use Rattle.std.proofs.Common.{List, ap, ◌∙◌, nat_eq, not, arith}
use Rattle.std.specs.List.{list_any}
use Rattle.hippo_model.specs.Terms.{Place}
use Rattle.hippo_audit_common.proofs.LoopLemmas.{below-more, whole-more, front-more}
use Rattle.hippo_audit_common.proofs.commons.tables_from.Goals as goal

pub loop-table-preserved : goal.loop-table-preserved
loop-table-preserved c =
    let first = c.args.first.now in
    let order = c.loop-table.order.items in
    let more = c.push_if.new.places.items in
    let new = not c.is_among-is_new.result in
    record {
      below = below-more c.args.tables first order more c.loop-table.table new c.in_ok-push_if.ensures (omega (arith, c.loop-table-test.true)) c.loop-table.invariant.below;
      whole =
          whole-more c.args.tables first order more c.loop-table.table new c.in_ok-push_if.ensures
          (ap not (c.is_among-is_new.ensures ∙ ap (λ (places : List Place). list_any (nat_eq c.loop-table.table) places) c.deref.ensures.value)) c.loop-table.invariant.whole;
      front = front-more c.args.tables first order more c.loop-table.table new c.in_ok-push_if.ensures c.loop-table.invariant.front;
    }
