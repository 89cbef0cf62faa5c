-- The result of a query over the state of a history is its answer.
use Rattle.std.proofs.Common.{◌≡◌, ◌∙◌, refl, ap, arith, ℤ, List, [], ◌∷◌, map, take}
use Rattle.std.proofs.lemmas.List.{take_all}
use Rattle.hippo_values.specs.declared.names.Name.{Name}
use Rattle.hippo_model.specs.declared.query.Masked.{Masked}
use Rattle.hippo_model.specs.declared.query.Query.{Query}
use Rattle.hippo_model.specs.declared.schema.Schema.{Schema}
use Rattle.hippo_model.specs.Terms.{History, Meaning}
use Rattle.hippo_model.specs.Rows.{table_rows}
use Rattle.hippo_tables_keyed.specs.RowSets.{KeyedRows, kept_at}
use Rattle.hippo_model.specs.Rules.{choice_at}
use Rattle.hippo_model.specs.Verdicts.{Context, context_of}
use Rattle.hippo_model.specs.Forms.{rows_by_form}
use Rattle.hippo_model.specs.Masking.{Choices, masked_answer}
use Rattle.hippo_eval.specs.Walks.{rows_of}
use Rattle.hippo_tables.specs.Standing.{AreKeptTables, schemas_at}
use Rattle.hippo_tables.proofs.NamedLemmas.{are_created-AreKeptTables, schemas_are}
use Rattle.hippo_rewrite.specs.Rewriting.{rewritten_query}
use Rattle.hippo_rewrite.specs.RewritingLaws.{HasTables, rules_at, tables_at}
use Rattle.hippo_rewrite.proofs.RulesInForce.{rewritten_answer-raw}
use Rattle.hippo_join_implied.specs.Implied.{query_with_implied}
use Rattle.hippo_join_implied.proofs.ImpliedLemmas.{implied_answers}
use Rattle.hippo_eval_answer.specs.declared.standpoint.Standpoint.{Standpoint}
use Rattle.hippo_eval_answer.specs.States.{AreStateOf, answer_from, rules_from}

rows_of-kept_at : (history : History) (schemas : List Schema) → rows_of (map (λ schema. kept_at schema history) schemas) ≡ tables_at history schemas
rows_of-kept_at history [] = refl
rows_of-kept_at history (schema ∷ schemas) = λ i. table_rows schema history ∷ rows_of-kept_at history schemas i

-- the query with the rules in force written into it, over the unmasked rows, has the query's answer
pub rows_by_form-answer : (meaning : Meaning) (standpoint : Standpoint) (history : History) (query : Query)
    → AreKeptTables standpoint.tables.now query.tables → AreStateOf meaning standpoint history
    → (choices : Choices) → ((subject : ℤ) (item : Name) → choices subject item ≡ choice_at (take standpoint.count history) subject item)
    → (masked : Masked) → masked ≡ query_with_implied (rewritten_query (rules_from standpoint history query.tables) query)
    → (sets : List KeyedRows) → sets ≡ map (λ schema. kept_at schema history) (schemas_at history query.tables)
    → rows_by_form query.form (masked_answer choices masked (rows_of sets)) ≡ answer_from standpoint history query
rows_by_form-answer meaning standpoint history query kept state choices chosen masked masked_is sets sets_are =
    let schemas : List Schema = schemas_at history query.tables in
    let context : Context = context_of standpoint.pair.now standpoint.moment in
    let whole : take standpoint.count history ≡ history = take_all standpoint.count history (omega (arith, state.entries)) in
    let choices_are : choices ≡ choice_at history = λ i subject item. (chosen subject item ∙ ap (λ (entries : History). choice_at entries subject item) whole) i in
    let rewritten : Masked = rewritten_query (rules_at history context schemas) query in
    let query_is : masked ≡ query_with_implied rewritten =
    masked_is ∙ ap (λ (entries : History). query_with_implied (rewritten_query (rules_at entries context schemas) query)) whole in
    let rows_are : rows_of sets ≡ tables_at history schemas = ap rows_of sets_are ∙ rows_of-kept_at history schemas in
    let has : HasTables meaning history query schemas =
    record { valid = state.valid; schemas_are = schemas_are history query.tables (are_created-AreKeptTables standpoint.tables.now query.tables history kept state.tables) } in
    (λ i. rows_by_form query.form (masked_answer (choices_are i) (query_is i) (rows_are i)))
    ∙ ap (rows_by_form query.form) (implied_answers (choice_at history) rewritten (tables_at history schemas))
    ∙ ap (rows_by_form query.form) (rewritten_answer-raw meaning history context query schemas has)
