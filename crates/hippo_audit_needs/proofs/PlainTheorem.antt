-- A query has whatever it needs, and a plain query needs whatever it has.
use Rattle.std.proofs.Common.{◌≡◌, Bool, true, false, not, ◌&&◌, ◌||◌, cond, List, [], ◌∷◌, ◌++◌, map, refl, sym, ap, ◌∙◌}
use Rattle.std.specs.Prelude.{◌==◌, filter, find}
use Rattle.std.specs.List.{list_all, list_any}
use Rattle.std.specs.Cmp.{nat_eq_equiv}
use Rattle.std.proofs.lemmas.Bool.{and_from, false≢true, or_parts}
use Rattle.std.proofs.Math.Bool.{and-true}
use Rattle.hippo_model.specs.declared.audit.Audit.{Audit}
use Rattle.hippo_model.specs.declared.audit.SharedRow.{SharedRow}
use Rattle.hippo_model.specs.declared.query.Expr.{Expr}
use Rattle.hippo_model.specs.declared.query.Form.{Form}
use Rattle.hippo_model.specs.declared.query.Form.TheVariants.{Plain}
use Rattle.hippo_model.specs.declared.query.Masked.{Masked}
use Rattle.hippo_model.specs.Terms.{Combination, ShownRow}
use Rattle.hippo_model.specs.Rules.{choice_at}
use Rattle.hippo_tables_keyed.specs.RowSets.{KeyedRows}
use Rattle.hippo_model.specs.Bags.{occurrences, same_bag}
use Rattle.hippo_model.specs.Forms.{rows_by_form}
use Rattle.hippo_model.specs.Answers.{product}
use Rattle.hippo_model.specs.Masking.{Choices, is_guarded, masked_passes, masked_items}
use Rattle.hippo_model_laws.proofs.NeededTuples.{needs_what_is_lost}
use Rattle.hippo_rewrite.specs.Rewriting.{rewritten_query}
use Rattle.hippo_rewrite.specs.RewritingLaws.{rules_at}
use Rattle.hippo_eval.specs.Answering.{masked_rows}
use Rattle.hippo_eval.specs.Walks.{rows_of}
use Rattle.hippo_join.specs.Existence.{are_shown}
use Rattle.hippo_audit_common.specs.Commons.{common_tables}
use Rattle.hippo_audit_search.specs.Sharing.{virtual_tuples_in, has_tuple_in, query_has, audit_has, first_shared}
use Rattle.hippo_audit_search.specs.Needs.{needs_by, first_needed}
use Rattle.hippo_audit_search.specs.HistoryLaws.{sets_at}
use Rattle.hippo_audit_needs.specs.Seen.{required_shown}
use Rattle.hippo_audit_needs.specs.SharedLaws.{QueryNeedsOverRows, QueryNeedsWhatItHas, NeededServesFirst, SharedServesFirst}

-- if none of the removed elements counts, the same ones count after removing them
same_left : {X : Type 0} (is_out counts : X → Bool) (xs : List X) → list_any (λ x. is_out x && counts x) xs ≡ false → filter counts (filter (λ x. not (is_out x)) xs) ≡ filter counts xs
same_left is_out counts [] none = refl
same_left {X} is_out counts (x ∷ xs) none = by (is_out x) none (same_left is_out counts xs)
  where
    by : (out : Bool) → (out && counts x || list_any (λ x. is_out x && counts x) xs) ≡ false → (list_any (λ x. is_out x && counts x) xs ≡ false → filter counts (filter (λ x. not (is_out x)) xs) ≡ filter counts xs)
        → filter counts (cond (not out) (x ∷ filter (λ x. not (is_out x)) xs) (filter (λ x. not (is_out x)) xs)) ≡ cond (counts x) (x ∷ filter counts xs) (filter counts xs)
    by true none later =
        let both = or_parts (counts x) (list_any (λ x. is_out x && counts x) xs) none in
        later both.1 ∙ sym (ap (λ (test : Bool). cond test (x ∷ filter counts xs) (filter counts xs)) both.0)
    by false none later = λ i. cond (counts x) (x ∷ later none i) (later none i)

same_counts : (rows some : List ShownRow) → list_all (λ row. occurrences row rows == occurrences row rows) some ≡ true
same_counts rows [] = refl
same_counts rows (row ∷ some) = and_from _ _ (nat_eq_equiv.refl (occurrences row rows)) (same_counts rows some)

any_more : {X : Type 0} (p q : X → Bool) → ((x : X) → p x ≡ true → q x ≡ true) → (xs : List X) → list_any p xs ≡ true → list_any q xs ≡ true
any_more p q more [] some = some
any_more {X} p q more (x ∷ xs) some = by (p x) (q x) (more x) some (any_more p q more xs)
  where
    by : (a b : Bool) → (a ≡ true → b ≡ true) → (a || list_any p xs) ≡ true → (list_any p xs ≡ true → list_any q xs ≡ true) → (b || list_any q xs) ≡ true
    by a true here some later = refl
    by true false here some later = absurd (false≢true (here refl))
    by false false here some later = later some

module _ (choices : Choices) (query : Masked) (sets : List KeyedRows) (tuple : List SharedRow) where
  abbrev counts : Combination → Bool
  counts rows = is_guarded choices query rows && masked_passes choices query rows

  abbrev is_out : Combination → Bool
  is_out rows = has_tuple_in query.tables sets tuple rows

  abbrev combinations : List Combination
  combinations = product (rows_of sets)

  had_is : list_any (λ rows. is_out rows && counts rows) combinations ≡ query_has choices query [] sets tuple
  had_is = λ i. list_any (λ rows. is_out rows && sym (and-true (counts rows)) i) combinations

  not_needed : (form : Form) → query_has choices query [] sets tuple ≡ false → needs_by choices query form sets tuple ≡ false
  not_needed form none =
      ap (λ (left : List Combination). not (same_bag (rows_by_form form (map (masked_items choices query) left)) (rows_by_form form (masked_rows choices query combinations)))) (same_left is_out counts combinations (had_is ∙ none))
      ∙ ap not (same_counts (rows_by_form form (masked_rows choices query combinations)) (rows_by_form form (masked_rows choices query combinations) ++ rows_by_form form (masked_rows choices query combinations)))

  -- some combination that counts has a needed tuple
  pub needed-had : (form : Form) → needs_by choices query form sets tuple ≡ true → query_has choices query [] sets tuple ≡ true
  needed-had form needed = by (query_has choices query [] sets tuple) refl
    where
      by : (has : Bool) → query_has choices query [] sets tuple ≡ has → has ≡ true
      by true is = refl
      by false is = sym (not_needed form is) ∙ needed

  -- a plain query needs what it has
  pub plain-needs : needs_by choices query Plain sets tuple ≡ query_has choices query [] sets tuple
  plain-needs = needs_what_is_lost (masked_items choices query) counts is_out combinations ∙ had_is

  -- a tuple that a query has with all wanted cells shown, it has
  had_less : (seen : List Expr) → query_has choices query seen sets tuple ≡ true → query_has choices query [] sets tuple ≡ true
  had_less seen had = any_more (λ rows. is_out rows && (counts rows && are_shown choices seen rows)) (λ rows. is_out rows && (counts rows && true)) (λ rows. less (is_out rows) (counts rows) (are_shown choices seen rows)) combinations had
    where
      less : (has counted shown : Bool) → (has && (counted && shown)) ≡ true → (has && (counted && true)) ≡ true
      less true true shown all = refl
      less true false shown all = all
      less false counted shown all = all

-- the first tuple that a plain query and an audit share is the first that it needs
pub first-plain : (choices : Choices) (query : Masked) (audit : Audit) (seen : List Expr) (query_sets audit_sets : List KeyedRows)
    → first_needed choices query Plain audit seen query_sets audit_sets ≡ first_shared choices query audit seen query_sets audit_sets
first-plain choices query audit seen query_sets audit_sets =
    λ i. find (λ tuple. passed_over (needs_by choices query Plain query_sets tuple) (query_has choices query seen query_sets tuple) (audit_has audit audit_sets tuple)
    (λ had. plain-needs choices query query_sets tuple ∙ had_less choices query query_sets tuple seen had) i)
    (virtual_tuples_in audit.tables audit_sets (common_tables query.tables audit.tables))
  where
    passed_over : (needs has audits : Bool) → (has ≡ true → needs ≡ true) → (needs && has && audits) ≡ (has && audits)
    passed_over needs true audits from = ap (λ (b : Bool). b && true && audits) (from refl)
    passed_over true false audits from = refl
    passed_over false false audits from = refl

pub query-needs : QueryNeedsOverRows → QueryNeedsWhatItHas
query-needs over_rows = λ meaning history context query schemas tuple has is_plain stand.
    let masked = rewritten_query (rules_at history context schemas) query in
    over_rows meaning history context query schemas tuple has stand
    ∙ ap (λ (form : Form). needs_by (choice_at history) masked form (sets_at history query.tables) tuple) is_plain
    ∙ plain-needs (choice_at history) masked (sets_at history query.tables) tuple

pub shared-serves : NeededServesFirst → SharedServesFirst
shared-serves needed = λ meaning history context query schemas audit has is_plain columns.
    let rules = rules_at history context schemas in
    let seen = required_shown rules query audit in
    sym (first-plain (choice_at history) (rewritten_query rules query) audit seen (sets_at history query.tables) (sets_at history audit.tables))
    ∙ sym (ap (λ (form : Form). first_needed (choice_at history) (rewritten_query rules query) form audit seen (sets_at history query.tables) (sets_at history audit.tables)) is_plain)
    ∙ needed meaning history context query schemas audit has columns
