-- The places that are found first are those of the first shared tuple.
use Rattle.std.proofs.Common.{◌≡◌, ℕ, List, Option, Vec, Global, option_map, subst}
use Rattle.std.specs.Prelude.{IfOk}
use Rattle.hippo_model.specs.declared.audit.SharedRow.{SharedRow}
use Rattle.hippo_audit_search.proofs.SharedTheorem.{found-long, first-told}
use Rattle.hippo_audit_search.proofs.sharing.first_beside.Goals as goal

pub tuple_found-requires-clause-places : goal.tuple_found-requires-clause-places
tuple_found-requires-clause-places g c =
    found-long g.C.ChoiceView.choices c.args.compared.now.query.now c.args.compared.now.seen.now c.args.compared.now.audited.now c.requires.rows c.know_order.ensures c.sides_of-sides.result c.sides_of-sides.ensures.are
    (option_map (λ (places : Vec ℕ Global). places.items) c.in_ok-found.found) c.in_ok-found.ensures

pub returns : goal.returns
returns g c =
    subst (λ (tuple : Option (List SharedRow)). IfOk c.tuple_found.result (λ shared. shared ≡ tuple))
    (first-told g.C.ChoiceView.choices c.args.compared.now.query.now c.args.compared.now.seen.now c.args.compared.now.audited.now c.requires.rows c.know_order.ensures c.sides_of-sides.result c.sides_of-sides.ensures.are
    (option_map (λ (places : Vec ℕ Global). places.items) c.in_ok-found.found) c.in_ok-found.ensures) c.tuple_found.ensures
