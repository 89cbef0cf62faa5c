-- A plan contains each table once.
use Rattle.std.proofs.Common.{ℕ, ◌<◌, List, length, subst, sym, ap, arith}
use Rattle.std.specs.List.{All, Contains}
use Rattle.hippo_model.specs.Terms.{Place}
use Rattle.hippo_tables_keyed.specs.RowSets.{KeyedRows}
use Rattle.hippo_join_stages.proofs.FindingLemmas.{below-order, whole-order}
use Rattle.hippo_join.proofs.planned.visit_planned.Goals as goal

pub visit_ordered-requires-clause-below : goal.visit_ordered-requires-clause-below
visit_ordered-requires-clause-below g c =
    subst (λ (n : ℕ). All (λ table. table < n) c.as_slice.result.now) (sym (ap (length {A = KeyedRows}) c.side_of-side.ensures.sets))
    (subst (λ (order : List Place). All (λ table. table < length c.args.sets.now) order) (sym c.as_slice.ensures)
    (subst (λ (n : ℕ). All (λ table. table < n) c.args.plan.now.order) (sym c.requires.sets) (below-order (length c.args.query.now.tables) c.args.plan.now.order c.requires.plan)))

pub visit_ordered-requires-clause-whole : goal.visit_ordered-requires-clause-whole
visit_ordered-requires-clause-whole g c =
    λ table within. subst (λ (order : List Place). Contains order table) (sym c.as_slice.ensures)
    (whole-order (length c.args.query.now.tables) c.args.plan.now.order c.requires.plan table (omega (arith, within, c.requires.sets, ap (length {A = KeyedRows}) c.side_of-side.ensures.sets)))

pub returns : goal.returns
returns g c before kept = rw (c.side_of-side.ensures.query, c.side_of-side.ensures.sets, c.side_of-side.ensures.choices) at (c.visit_ordered.ensures before kept)
