-- One head is examined.
use Rattle.std.proofs.Common.{◌∙◌, ◌<◌, [], length, get_or, ap, arith}
use Rattle.std.proofs.lemmas.List.{get_or_default}
use Rattle.hippo_keeper.proofs.PageLemmas.{AreWithinPage-next, table_within, end_within, page_entries-next}
use Rattle.hippo_keeper.proofs.PickLemmas.{with_picked-one}
use Rattle.hippo_keeper.proofs.page.pick.Goals as goal

pub body_between-body-requires-clause-range : goal.body_between-body-requires-clause-range
body_between-body-requires-clause-range c = end_within (length c.args.tables.now) _ _ c.args.heads.now c.loop-head.head-index _ (omega arith) c.loop-head.invariant.within

pub loop-head-preserved : goal.loop-head-preserved
loop-head-preserved c =
    let tables = c.args.tables.now in
    let heads = c.args.heads.now in
    let i = c.loop-head.head-index in
    let inside : i < length heads = omega arith in
    let read = c.index-tables-from.result in
    let known : c.from.result < length tables = table_within (length tables) (length c.args.bodies.now) c.loop-head.start heads i _ c.from.result inside c.loop-head.invariant.within c.from.ensures in
    let named = c.as_str-table.ensures ∙ c.index-tables-from.is ∙ get_or_default tables c.from.result read [] known ∙ ap (λ n. get_or tables n []) c.from.ensures in
    record {
      within = AreWithinPage-next _ _ _ heads i _ inside c.loop-head.invariant.within;
      left = with_picked-one _ _ _ _ _ _ _ c.in_ok-pick.ensures (page_entries-next tables c.args.bodies.now _ _ c.loop-head.start heads i _ inside named c.body_between-body.ensures) c.loop-head.invariant.left;
    }
