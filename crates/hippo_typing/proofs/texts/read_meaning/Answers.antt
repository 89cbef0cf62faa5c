use Rattle.std.proofs.Common.{◌≡◌, Option}
use Rattle.std.specs.Prelude.{IfSome, IfNone}
use Rattle.std.proofs.lemmas.Result.{IfOk-weaker}
use Rattle.hippo_model.specs.declared.query.Query.{Query}
use Rattle.hippo_typing.specs.Meanings.{Means, meaning_in}
use Rattle.hippo_typing.proofs.MeaningTheorem.{means_what_is_found, means_nothing}
use Rattle.hippo_typing.proofs.texts.read_meaning.Goals as goal

pub returns-clause-found : goal.returns-clause-found
returns-clause-found c =
    let known = c.args.catalog.now.names in
    let text = c.args.text.now in
    IfOk-weaker c.meaning_in.result (λ (found : Option Query). found ≡ meaning_in known text) (λ (found : Option Query). IfSome found (λ query. Means known text query)) (means_what_is_found known text) c.meaning_in.ensures

pub returns-clause-none : goal.returns-clause-none
returns-clause-none c =
    let known = c.args.catalog.now.names in
    let text = c.args.text.now in
    IfOk-weaker c.meaning_in.result (λ (found : Option Query). found ≡ meaning_in known text) (λ (found : Option Query). IfNone found ((query : Query) → ¬ Means known text query)) (means_nothing known text) c.meaning_in.ensures
