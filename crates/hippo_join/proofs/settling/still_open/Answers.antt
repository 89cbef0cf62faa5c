-- One more table, or all of them.
use Rattle.std.proofs.Common.{[], ◌∷◌, ◌++◌, Bool, if◌then◌else◌, get_or, ap, ◌∙◌, arith}
use Rattle.std.specs.Prelude.{filter}
use Rattle.hippo_join_lookups.specs.Known.{is_open}
use Rattle.hippo_join.proofs.SettlingLemmas.{kept-more, kept-all}
use Rattle.hippo_join.proofs.settling.still_open.Goals as goal

pub loop-table-preserved : goal.loop-table-preserved
loop-table-preserved c =
    let order = c.args.order.now in
    let table = get_or order c.loop-table.table-index 0 in
    kept-more (is_open c.args.slots.now) order c.loop-table.table-index c.loop-table.left.items c.push_if.new.places.items (filter (is_open c.args.slots.now) order) c.loop-table-test.true
    (c.in_ok-push_if.ensures ∙ ap (λ (test : Bool). if test then c.loop-table.left.items ++ table ∷ [] else c.loop-table.left.items) c.is_open.ensures)
    c.loop-table.invariant

pub returns : goal.returns
returns c = kept-all (is_open c.args.slots.now) c.args.order.now c.loop-table.table-index c.loop-table.left.items (omega (arith, c.loop-table-test.false)) c.loop-table.invariant
