-- A question that passes its checks may follow the history.
use Rattle.std.proofs.Common.{◌≡◌, ℕ, true, List, length, ap, ◌∙◌, arith}
use Rattle.std.specs.Prelude.{is_some, slice_range, IsUtf8}
use Rattle.std.proofs.lemmas.Bool.{and_from, le-leb}
use Rattle.std.proofs.lemmas.Str.{IsUtf8-between, is_utf8-from_IsUtf8}
use Rattle.hippo_values.specs.Limits.{line_limit}
use Rattle.hippo_values.specs.Texts.{Txt}
use Rattle.hippo_values.specs.declared.names.Name.{Name}
use Rattle.hippo_model.specs.declared.entry.Act.TheVariants.{Asked}
use Rattle.hippo_model.specs.declared.name_fault.NameFault.{NameFault}
use Rattle.hippo_stmt_ast.specs.declared.statement.RawSelect.{RawSelect}
use Rattle.hippo_model.specs.Keepable.{question_is_keepable}
use Rattle.hippo_model.specs.Terms.{History}
use Rattle.hippo_model.specs.Validity.{is_authorized}
use Rattle.hippo_typing_catalog.specs.Catalogs.{known_at}
use Rattle.hippo_typing_catalog.specs.Selects.{query_of}
use Rattle.hippo_typing.specs.Meanings.{query_unless_refused, meaning}
use Rattle.hippo_typing_laws.specs.QuestionLaws.{PassesChecks, QuestionsMayFollow}
use Rattle.hippo_typing_laws.proofs.FitActs.{IsFit, fit_follows}

module _ (history : History) (user purpose recipient : Name) (text : Txt) (select : RawSelect) (start end : ℕ)
    (may : PassesChecks history user purpose recipient text select start end) where
  -- its text is not empty, is no longer than a line, and is UTF-8
  text_kept : question_is_keepable (slice_range text start end) ≡ true
  text_kept =
      let some = may.reads.some in
      let within = may.reads.within in
      let size = may.reads.size in
      let utf8 : IsUtf8 (slice_range text start end) = IsUtf8-between text start end may.utf8 (omega arith) (may.reads.from may.utf8) (may.reads.to may.utf8) in
      and_from _ _ (le-leb 1 (length (slice_range text start end)) (omega arith))
      (and_from _ _ (le-leb (length (slice_range text start end)) line_limit may.short) (is_utf8-from_IsUtf8 (slice_range text start end) utf8))

  -- its text means a query
  text_means : is_some (meaning history (slice_range text start end)) ≡ true
  text_means =
      ap is_some (may.reads.meant (known_at history))
      ∙ ap (λ (refusals : List NameFault). is_some (query_unless_refused refusals (query_of (known_at history) select))) may.unrefused

  pub asked_fits : IsFit meaning history (Asked user purpose recipient (slice_range text start end))
  asked_fits = record {
    keepable = and_from _ _ may.names text_kept;
    acceptable = and_from _ _ (ap is_authorized may.authorized) text_means;
  }

-- a question that passes its checks may follow the history
pub questions_may_follow : QuestionsMayFollow
questions_may_follow history moment user purpose recipient text select start end room may =
    fit_follows meaning history moment _ room (asked_fits history user purpose recipient text select start end may)
