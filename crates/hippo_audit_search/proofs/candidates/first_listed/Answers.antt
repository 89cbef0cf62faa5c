-- The places that are found first are those of the first virtual tuple that passes.
use Rattle.std.proofs.Common.{ℕ, Vec, Global, option_map, ◌∙◌}
use Rattle.std.proofs.lemmas.Result.{IfOk-weaker}
use Rattle.hippo_audit_search.proofs.SharedTheorem.{candidate-long, candidate-told}
use Rattle.hippo_audit_search.proofs.candidates.first_listed.Goals as goal

pub tuple_found-requires-clause-places : goal.tuple_found-requires-clause-places
tuple_found-requires-clause-places g c =
    candidate-long g.C.ChoiceView.choices c.args.compared.now.query.now c.args.compared.now.seen.now c.args.compared.now.audited.now c.requires.rows c.know_order.ensures c.sides_of-sides.result c.sides_of-sides.ensures.are
    c.args.listed.now (option_map (λ (places : Vec ℕ Global). places.items) c.in_ok-found.found) c.in_ok-found.ensures

pub returns : goal.returns
returns g c =
    IfOk-weaker c.tuple_found.result _ _
    (λ shared is test those. is ∙ candidate-told g.C.ChoiceView.choices c.args.compared.now.query.now c.args.compared.now.seen.now c.args.compared.now.audited.now c.requires.rows c.know_order.ensures c.sides_of-sides.result c.sides_of-sides.ensures.are
    c.args.listed.now c.requires.order (option_map (λ (places : Vec ℕ Global). places.items) c.in_ok-found.found) c.in_ok-found.ensures test those)
    c.tuple_found.ensures
