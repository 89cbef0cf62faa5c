-- The places that lookups find, in ascending order.
use Rattle.std.proofs.Common.{length}
use Rattle.hippo_audit_search.proofs.FewLemmas.{table-below, few-of}
use Rattle.hippo_audit_search.proofs.told.few_places.Goals as goal

pub few_places-requires : goal.few_places-requires
few_places-requires g c = table-below c.args.tables.now c.in-Some.table (length c.args.side.now.sets.now) (rw (c.in-Some.is) at c.only_table.ensures) c.requires

pub returns : goal.returns
returns g c =
    few-of g.C.ChoiceView.choices c.args.side.now c.args.tables.now c.in-Some.table c.in-Some-found.places.items c.deref.result.now c.in_ok-sorted.sorted.items (rw (c.in-Some.is) at c.only_table.ensures)
    (rw (c.in-Some-found.is) at c.in_ok-found.ensures) c.deref.ensures.value c.in_ok-sorted.ensures.permutation c.in_ok-sorted.ensures.order
