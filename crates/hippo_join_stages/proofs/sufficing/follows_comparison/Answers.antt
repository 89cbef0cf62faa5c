-- The comparison is an equality.
use Rattle.std.proofs.Common.{◌≡◌, true, sym, subst}
use Rattle.hippo_values.specs.declared.truths.CompareOp.{CompareOp}
use Rattle.hippo_model.specs.declared.query.CondOf.TheVariants.{Compare}
use Rattle.hippo_join_lookups.specs.Ties.{holds}
use Rattle.hippo_join_stages.proofs.sufficing.follows_comparison.Goals as goal

pub returns-in-Eq : goal.returns-in-Eq
returns-in-Eq c = λ yes choices rows tied.
    subst (λ (op : CompareOp). holds choices rows (Compare op c.args.left.now c.args.right.now) ≡ true) (sym c.in-Eq.is) (c.follows_equality.ensures yes choices rows tied)
