-- The part is the comparison.
use Rattle.std.proofs.Common.{◌≡◌, true, Some, sym, subst}
use Rattle.std.specs.Prelude.{slice_set}
use Rattle.hippo_model.specs.declared.query.CondOf.{CondOf}
use Rattle.hippo_model.specs.declared.query.Expr.{Expr}
use Rattle.hippo_join_lookups.specs.Places.{rows_at}
use Rattle.hippo_join_lookups.specs.Ties.{holds}
use Rattle.hippo_join_stages.proofs.sides.Side.holds_with_each.Goals as goal

pub returns-in-Compare : goal.returns-in-Compare
returns-in-Compare g c = λ yes slots still set at place there.
    subst (λ (part : CondOf Expr). holds (g.C.ChoiceView.choices c.args.self.now.choices.now) (rows_at c.args.self.now.sets.now (slice_set slots c.args.table (Some place))) part ≡ true) (sym c.in-Compare.is) (c.equals_each.ensures yes slots still set at place there)
