-- The part is a comparison.
use Rattle.std.proofs.Common.{◌≡◌, true, sym, subst}
use Rattle.hippo_model.specs.declared.query.CondOf.{CondOf}
use Rattle.hippo_model.specs.declared.query.Expr.{Expr}
use Rattle.hippo_join_lookups.specs.Ties.{holds}
use Rattle.hippo_join_stages.proofs.sufficing.follows.Goals as goal

pub returns-in-Compare : goal.returns-in-Compare
returns-in-Compare c = λ yes choices rows tied.
    subst (λ (part : CondOf Expr). holds choices rows part ≡ true) (sym c.in-Compare.is) (c.follows_comparison.ensures yes choices rows tied)
