-- The first tuple that is needed over given rows is the first that serves, in each history that has
-- these rows.
use Rattle.std.proofs.Common.{◌≡◌, not, ◌&&◌, List, map, filter, sym, ap, ◌∙◌, Option, Result}
use Rattle.std.specs.Prelude.{IfOk, find}
use Rattle.std.specs.List.{list_any}
use Rattle.std.proofs.lemmas.Result.{IfOk-weaker}
use Rattle.hippo_values.specs.declared.memory.Memory.{Memory}
use Rattle.hippo_model.specs.declared.audit.Audit.{Audit}
use Rattle.hippo_model.specs.declared.audit.SharedRow.{SharedRow}
use Rattle.hippo_model.specs.declared.policy.TableRules.{TableRules}
use Rattle.hippo_model.specs.declared.query.Expr.{Expr}
use Rattle.hippo_model.specs.declared.query.Form.{Form}
use Rattle.hippo_model.specs.declared.query.Form.TheVariants.{Plain}
use Rattle.hippo_model.specs.declared.query.Masked.{Masked}
use Rattle.hippo_model.specs.declared.query.Query.{Query}
use Rattle.hippo_model.specs.Rules.{choice_at}
use Rattle.hippo_model.specs.Answers.{product}
use Rattle.hippo_model.specs.Bags.{same_bag}
use Rattle.hippo_model.specs.Forms.{rows_by_form}
use Rattle.hippo_model.specs.Masking.{Choices, is_guarded, masked_items}
use Rattle.hippo_tables_keyed.specs.RowSets.{KeyedRows}
use Rattle.hippo_eval.specs.Answering.{making_rows}
use Rattle.hippo_eval.specs.Walks.{rows_of}
use Rattle.hippo_join.specs.Existence.{are_shown}
use Rattle.hippo_join_implied.specs.Implied.{query_with_implied}
use Rattle.hippo_join_implied.proofs.ImpliedLemmas.{holds-with_implied}
use Rattle.hippo_rewrite.specs.Rewriting.{rewritten_query}
use Rattle.hippo_rewrite.specs.RewritingLaws.{rules_at}
use Rattle.hippo_audit_common.specs.Commons.{common_tables}
use Rattle.hippo_audit_search.specs.Sharing.{virtual_tuples_in, has_tuple_in, query_has, audit_has, first_shared}
use Rattle.hippo_audit_search.specs.Needs.{needs_by, first_needed}
use Rattle.hippo_audit_search.specs.HistoryLaws.{sets_at}
use Rattle.hippo_audit_needs.specs.Seen.{required_shown}
use Rattle.hippo_audit_needs.specs.SharedLaws.{NeededServesFirst}
use Rattle.hippo_audit_needs.specs.Examining.{ServesFirst}
use Rattle.hippo_audit_needs.proofs.PlainTheorem.{first-plain}

-- the first tuple that a plain query shares is the first that it needs
pub shared-needed : (choices : Choices) (query : Masked) (audit : Audit) (seen : List Expr) (query_sets audit_sets : List KeyedRows) (result : Result (Option (List SharedRow)) Memory)
    → IfOk result (λ shared. shared ≡ first_shared choices query audit seen query_sets audit_sets) → IfOk result (λ shared. shared ≡ first_needed choices query Plain audit seen query_sets audit_sets)
shared-needed choices query audit seen query_sets audit_sets result =
    IfOk-weaker result (λ shared. shared ≡ first_shared choices query audit seen query_sets audit_sets) (λ shared. shared ≡ first_needed choices query Plain audit seen query_sets audit_sets)
    (λ shared is. is ∙ sym (first-plain choices query audit seen query_sets audit_sets))

-- a query needs and has the same tuples with what its condition implies
module _ (choices : Choices) (query : Masked) where
  making_rows-implied : making_rows choices (query_with_implied query) ≡ making_rows choices query
  making_rows-implied = λ i combinations. filter (λ rows. is_guarded choices query rows && holds-with_implied choices rows query.cond i) combinations

  needs_by-implied : (form : Form) (sets : List KeyedRows) (tuple : List SharedRow) → needs_by choices (query_with_implied query) form sets tuple ≡ needs_by choices query form sets tuple
  needs_by-implied form sets tuple = λ i.
      not (same_bag (rows_by_form form (map (masked_items choices query) (making_rows-implied i (filter (λ rows. not (has_tuple_in query.tables sets tuple rows)) (product (rows_of sets))))))
      (rows_by_form form (map (masked_items choices query) (making_rows-implied i (product (rows_of sets))))))

  query_has-implied : (seen : List Expr) (sets : List KeyedRows) (tuple : List SharedRow) → query_has choices (query_with_implied query) seen sets tuple ≡ query_has choices query seen sets tuple
  query_has-implied seen sets tuple = λ i.
      list_any (λ rows. has_tuple_in query.tables sets tuple rows && (is_guarded choices query rows && holds-with_implied choices rows query.cond i && are_shown choices seen rows))
      (product (rows_of sets))

  first_needed-implied : (form : Form) (audit : Audit) (seen : List Expr) (query_sets audit_sets : List KeyedRows)
      → first_needed choices (query_with_implied query) form audit seen query_sets audit_sets ≡ first_needed choices query form audit seen query_sets audit_sets
  first_needed-implied form audit seen query_sets audit_sets = λ i.
      find (λ tuple. needs_by-implied form query_sets tuple i && query_has-implied seen query_sets tuple i && audit_has audit audit_sets tuple)
      (virtual_tuples_in audit.tables audit_sets (common_tables query.tables audit.tables))

module _ (needed_first : NeededServesFirst) (query : Query) (audit : Audit) (rules : List TableRules) (query_sets audit_sets : List KeyedRows) (choices : Choices) where
  pub needed-serves-first : (masked : Masked) (seen : List Expr) (result : Result (Option (List SharedRow)) Memory) → masked ≡ query_with_implied (rewritten_query rules query) → seen ≡ required_shown rules query audit
      → IfOk result (λ shared. shared ≡ first_needed choices masked query.form audit seen query_sets audit_sets) → IfOk result (λ shared. ServesFirst query audit rules query_sets audit_sets choices shared)
  needed-serves-first masked seen result masked_is seen_is =
      IfOk-weaker result (λ shared. shared ≡ first_needed choices masked query.form audit seen query_sets audit_sets) (λ shared. ServesFirst query audit rules query_sets audit_sets choices shared)
      (λ shared is. λ meaning history context those.
      let same_query = masked_is ∙ ap (λ (rules : List TableRules). query_with_implied (rewritten_query rules query)) those.rules_are in
      let same_seen = seen_is ∙ ap (λ (rules : List TableRules). required_shown rules query audit) those.rules_are in
      is ∙ (λ i. first_needed (those.choices_are i) (same_query i) query.form audit (same_seen i) (those.query_rows i) (those.audit_rows i))
      ∙ first_needed-implied (choice_at history) (rewritten_query (rules_at history context those.schemas) query) query.form audit (required_shown (rules_at history context those.schemas) query audit)
      (sets_at history query.tables) (sets_at history audit.tables)
      ∙ needed_first meaning history context query those.schemas audit those.tables those.columns)
