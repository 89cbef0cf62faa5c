-- A permutation has the same tables.
use Rattle.std.proofs.Common.{ℕ, ◌<◌, length, subst, sym}
use Rattle.std.specs.List.{All}
use Rattle.std.proofs.lemmas.List.Sorted.{All-permutation, Contains-permutation}
use Rattle.hippo_model.specs.Terms.{Place}
use Rattle.hippo_join_lookups.proofs.PlaceSteps.{ok-then}
use Rattle.hippo_audit_common.proofs.LoopLemmas.{whole-again}
use Rattle.hippo_audit_common.proofs.commons.order_from.Goals as goal

pub returns-clause-below : goal.returns-clause-below
returns-clause-below g c =
    ok-then _ _ c.order_after.result c.order_after.ensures.permutation (λ order moved.
    All-permutation (λ (table : Place). table < length c.args.side.now.sets.now) c.in_ok-tables.tables.items order.items
    (whole-again c.args.first.now c.deref.result.now c.in_ok-tables.tables.items order.items c.deref.ensures.value c.in_ok-tables.ensures.front moved)
    (subst (λ (n : ℕ). All (λ (table : Place). table < n) c.in_ok-tables.tables.items) c.len.ensures c.in_ok-tables.ensures.below))

pub returns-clause-whole : goal.returns-clause-whole
returns-clause-whole g c =
    ok-then _ _ c.order_after.result c.order_after.ensures.permutation (λ order moved table within.
    Contains-permutation c.in_ok-tables.tables.items order.items table
    (whole-again c.args.first.now c.deref.result.now c.in_ok-tables.tables.items order.items c.deref.ensures.value c.in_ok-tables.ensures.front moved)
    (c.in_ok-tables.ensures.whole table (subst (λ (n : ℕ). table < n) (sym c.len.ensures) within)))
