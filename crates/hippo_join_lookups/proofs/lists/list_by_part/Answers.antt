-- The part is the list.
use Rattle.std.proofs.Common.{◌∷◌, [], ap, sym, ◌∙◌, subst}
use Rattle.std.proofs.lemmas.Option.{IfSome_then}
use Rattle.hippo_model.specs.declared.query.CondOf.{CondOf}
use Rattle.hippo_model.specs.declared.query.CondOf.TheVariants.{Among}
use Rattle.hippo_model.specs.declared.query.Expr.{Expr}
use Rattle.hippo_join_lookups.specs.Lists.{IsListedBy}
use Rattle.hippo_join_lookups.proofs.lists.list_by_part.Goals as goal

pub returns-in-Among : goal.returns-in-Among
returns-in-Among c =
    let is = ap (Among c.in-Among.value) c.as_slice.ensures ∙ sym c.in-Among.is in
    IfSome_then c.list_beside.result c.list_beside.ensures (λ found listed. subst (λ (part : CondOf Expr). IsListedBy (part ∷ []) c.args.column found.now) is listed)
