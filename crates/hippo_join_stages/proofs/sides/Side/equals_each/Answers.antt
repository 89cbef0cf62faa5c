-- The column has the value of the literal.
use Rattle.std.proofs.Common.{◌≡◌, true, Some, sym, subst}
use Rattle.std.specs.Prelude.{slice_get, slice_set}
use Rattle.hippo_values.specs.declared.truths.CompareOp.{CompareOp}
use Rattle.hippo_values.specs.declared.truths.CompareOp.TheVariants.{Eq}
use Rattle.hippo_model.specs.Terms.{Place}
use Rattle.hippo_model.specs.declared.query.CondOf.TheVariants as conditions
use Rattle.hippo_join_lookups.specs.Known.{is_open}
use Rattle.hippo_join_lookups.specs.Places.{rows_at}
use Rattle.hippo_join_lookups.specs.Ties.{holds}
use Rattle.hippo_join_stages.proofs.SufficeLemmas.{equals_literal}
use Rattle.hippo_join_stages.proofs.sides.Side.equals_each.Goals as goal

pub returns-in-Eq-Some-Literal : goal.returns-in-Eq-Some-Literal
returns-in-Eq-Some-Literal g c = λ yes slots still set at place there.
    let choices = g.C.ChoiceView.choices c.args.self.now.choices.now in
    let sets = c.args.self.now.sets.now in
    let column = c.in-Eq-Some-Literal.column in
    let table = c.if-column-table.true in
    let here : slice_get sets column.table ≡ Some set = subst (λ (t : Place). slice_get sets t ≡ Some set) (sym table) at in
    let free : is_open slots column.table ≡ true = subst (λ (t : Place). is_open slots t ≡ true) (sym table) still in
    let has = c.all_have.ensures yes set here place there in
    subst (λ (op : CompareOp). holds choices (rows_at sets (slice_set slots c.args.table (Some place))) (conditions.Compare op c.args.left.now c.args.right.now) ≡ true) (sym c.in-Eq-Some-Literal.is-0)
    (subst (λ (t : Place). holds choices (rows_at sets (slice_set slots t (Some place))) (conditions.Compare Eq c.args.left.now c.args.right.now) ≡ true) table
    (equals_literal choices sets slots c.args.left.now c.args.right.now column c.in-Eq-Some-Literal.value place set c.in-Eq-Some-Literal.ensures c.in-Eq-Some-Literal.is-2 here free has.0 has.1))
