-- The row of a qualifying combination has a value within the bounds, or in the list.
use Rattle.std.proofs.Common.{List, subst}
use Rattle.hippo_model.specs.declared.query.CondOf.{CondOf}
use Rattle.hippo_model.specs.declared.query.Expr.{Expr}
use Rattle.hippo_join_lookups.specs.Lists.{IsListedBy}
use Rattle.hippo_join_stages.proofs.SeekingLemmas.{found-then, found-bounded, found-listed}
use Rattle.hippo_join_stages.proofs.sides.Side.places_by.Goals as goal

pub returns-in-Some : goal.returns-in-Some
returns-in-Some g c =
    found-then _ _ c.places_within.result
    (λ places. found-bounded (g.C.ChoiceView.choices c.args.self.now.choices.now) c.args.self.now.query.now c.args.self.now.sets.now c.args.slots.now c.args.table c.in-Bounds.column c.get-set.result.now places.items c.get-set.ensures c.in-Some.low c.told_end-high.result c.in-Some.ensures c.told_end-high.ensures)
    c.places_within.ensures.all

pub returns-in-Some-find_list : goal.returns-in-Some-find_list
returns-in-Some-find_list g c =
    let listed = subst (λ (parts : List (CondOf Expr)). IsListedBy parts (record { table = c.args.table; column = c.in-List.column }) c.in-Some-find_list.list.now) c.outer_parts.ensures c.in-Some-find_list.ensures in
    found-then _ _ c.places_listed.result
    (λ places. found-listed (g.C.ChoiceView.choices c.args.self.now.choices.now) c.args.self.now.query.now c.args.self.now.sets.now c.args.slots.now c.args.table c.in-List.column c.get-set.result.now places.items c.get-set.ensures c.in-Some-find_list.list.now listed)
    c.places_listed.ensures
