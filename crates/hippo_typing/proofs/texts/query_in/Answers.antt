use Rattle.std.proofs.Common.{◌≡◌, ◌≢◌, Option, None, sym, ◌∙◌}
use Rattle.std.proofs.lemmas.Result.{IfOk-weaker}
use Rattle.hippo_model.specs.declared.name_fault.NameFault.TheVariants as faults
use Rattle.hippo_model.specs.declared.query.Query.{Query}
use Rattle.hippo_typing_catalog.specs.Selects.{select_refused, query_of}
use Rattle.hippo_typing.specs.Meanings.{query_in}
use Rattle.hippo_typing.proofs.MeaningTheorem.{query_unless_refused-first}
use Rattle.hippo_typing.proofs.texts.query_in.Goals as goal

pub returns-in-Err : goal.returns-in-Err
returns-in-Err c =
    let known = c.args.catalog.now.names in
    let select = c.args.select.now in
    let fault = c.in-Err.fault in
    IfOk-weaker c.no_query.result (λ (found : Option Query). (found ≡ None) × (fault ≢ faults.Memory)) (λ (found : Option Query). found ≡ query_in known select) (λ found h. h.0 ∙ sym (query_unless_refused-first (select_refused known select) (query_of known select) fault (c.in-Err.ensures h.1))) c.no_query.ensures
