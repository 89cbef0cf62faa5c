-- A job fits its history when it is new, and when the history grows.
use Rattle.std.proofs.Common.{◌≡◌, ◌∙◌, sym, ap, refl, subst, arith, rules, ℕ, ◌+◌, ◌≤◌, Bool, true, false, cond, List, [], ◌∷◌, ◌++◌, length, Option, None, Some, length-append}
use Rattle.std.specs.Prelude.{nat_lt, is_some, slice_index_or, bytes_eq}
use Rattle.std.specs.List.{AllByRecursion, IsDistinct}
use Rattle.std.specs.Option.{option_map_or}
use Rattle.std.proofs.lemmas.Bool.{false≢true}
use Rattle.std.proofs.lemmas.List.Sums.{sum_by-append}
use Rattle.hippo_values.specs.declared.names.Name.{Name}
use Rattle.hippo_model.specs.declared.audit.Audit.{Audit}
use Rattle.hippo_model.specs.declared.audit.Flag.{Flag}
use Rattle.hippo_model.specs.declared.entry.Entry.{Entry}
use Rattle.hippo_model.specs.declared.query.Ref.{Ref}
use Rattle.hippo_model.specs.declared.schema.Schema.{Schema}
use Rattle.hippo_model.specs.Terms.{History}
use Rattle.hippo_model.specs.Histories.{schema_at}
use Rattle.hippo_model.specs.Validity.{is_valid}
use Rattle.hippo_model.specs.Versions.{is_version, versions}
use Rattle.hippo_typing.specs.Meanings.{meaning}
use Rattle.hippo_backlog.proofs.AheadLemmas.{IsAhead-first, IsAhead-grown}
use Rattle.hippo_backlog.proofs.VersionsTheorem.{schemas_last}
use Rattle.hippo_audit_job.specs.declared.jobs.Job.{Job}
use Rattle.hippo_audit_job.specs.Examining.{AreWithin, IsColumnOf, IsAuditOf, Examination, IsNew}
use Rattle.hippo_audit_job.specs.Looking.{is_question_in_period}
use Rattle.hippo_audit_job.specs.Jobs.{new_job, IsSoundJob, JobFits}
use Rattle.hippo_audit_job.proofs.CountLemmas.{AreWithin-more, handed_within}
use Rattle.hippo_audit_job.proofs.StretchLemmas.{stretch_lasts}

module _ (history later : History) (valid : is_valid meaning (history ++ later) ≡ true) where
  passes_on : (test : Schema → Bool) (table : Name) (found : Option Schema) → schema_at history table ≡ found → option_map_or test found false ≡ true → option_map_or test (schema_at (history ++ later) table) false ≡ true
  passes_on test table None is passes = absurd (false≢true passes)
  passes_on test table (Some schema) is passes = ap (λ (o : Option Schema). option_map_or test o false) (schemas_last meaning history later table schema valid is) ∙ passes

  created_on : (table : Name) (found : Option Schema) → schema_at history table ≡ found → is_some found ≡ true → is_some (schema_at (history ++ later) table) ≡ true
  created_on table None is some = absurd (false≢true some)
  created_on table (Some schema) is some = ap is_some (schemas_last meaning history later table schema valid is)

  all_created : (tables : List Name) → AllByRecursion (λ table. is_some (schema_at history table) ≡ true) tables → AllByRecursion (λ table. is_some (schema_at (history ++ later) table) ≡ true) tables
  all_created [] all = tt
  all_created (table ∷ rest) all = (created_on table (schema_at history table) refl all.0, all_created rest all.1)

  all_columns : (tables : List Name) (columns : List Ref) → AllByRecursion (IsColumnOf history tables) columns → AllByRecursion (IsColumnOf (history ++ later) tables) columns
  all_columns tables [] all = tt
  all_columns tables (column ∷ rest) all =
      let table : Name = slice_index_or tables column.table [] in
      (record { table = all.0.table; within = passes_on (λ schema. nat_lt column.column (length schema.columns)) table (schema_at history table) refl all.0.within }, all_columns tables rest all.1)

  -- an audit of a history is one of each longer valid history
  pub IsAuditOf-longer : (audit : Audit) → IsAuditOf history audit → IsAuditOf (history ++ later) audit
  IsAuditOf-longer audit is = record {
    differ = is.differ;
    created = all_created audit.tables is.created;
    columns = all_columns audit.tables audit.columns is.columns;
  }

versions-one : (history : History) (entry : Entry) → versions (history ++ entry ∷ []) ≡ versions history + versions (entry ∷ [])
versions-one history entry = sum_by-append (λ (e : Entry). cond (is_version e.act) 1 0) history (entry ∷ [])

module _ {X : Type 0} (terms : Examination X) where
  -- a new job is sound
  pub IsSoundJob-new : (audit : Audit) (length : ℕ) (examiner : X) → IsDistinct bytes_eq audit.tables → IsNew terms examiner → IsSoundJob terms (new_job audit length examiner)
  IsSoundJob-new audit length examiner differ is_new =
      let unasked = is_new.unasked in
      record {
        tables = differ;
        within = omega arith;
        counted = omega arith;
        read = omega arith;
        ahead = tt;
        examiner_is = is_new.is_sound;
        asked = omega (arith, unasked);
      }

  -- and fits a valid history whose length is the one at which it began
  pub JobFits-new : (history : History) (audit : Audit) (examiner : X) → is_valid meaning history ≡ true → IsAuditOf history audit → IsNew terms examiner → JobFits terms (new_job audit (length history) examiner) history
  JobFits-new history audit examiner valid is_audit is_new = record {
    begun = omega arith;
    audit_is = is_audit;
    flags = refl;
    split = (IsAhead-first (is_question_in_period audit) meaning history valid).0;
    examiner_fits = is_new.fits_each history 1 valid;
    once = is_new.counted history valid;
  }

  -- a sound job stays sound whichever flags wait, and whether or not each step returned Ok
  pub IsSoundJob-marked : (waiting : List Flag) (mark : Bool) (job : Job X) → IsSoundJob terms job → IsSoundJob terms (record job { waiting = waiting; unbroken = mark })
  IsSoundJob-marked waiting mark job sound = search rules

  pub JobFits-marked : (waiting : List Flag) (mark : Bool) (job : Job X) (history : History) → JobFits terms job history → JobFits terms (record job { waiting = waiting; unbroken = mark }) history
  JobFits-marked waiting mark job history fits = search rules

  -- a job that fits a history fits it with one more entry
  pub JobFits-grown : (job : Job X) (history : History) (entry : Entry) → is_valid meaning (history ++ entry ∷ []) ≡ true → IsSoundJob terms job → JobFits terms job history → JobFits terms job (history ++ entry ∷ [])
  JobFits-grown job history entry valid sound fits =
      let longer = length-append history (entry ∷ []) in
      let begun = fits.begun in
      let within = sound.within in
      record {
        begun = omega (arith, longer, begun);
        audit_is = IsAuditOf-longer history (entry ∷ []) valid job.audit fits.audit_is;
        flags = fits.flags ∙ ap (λ (l : List Flag). length l) (sym (stretch_lasts meaning job.audit (entry ∷ []) history 0 job.place valid (omega (arith, begun, within))));
        split = (IsAhead-grown (is_question_in_period job.audit) job.place job.questions history fits.split meaning entry valid).0;
        examiner_fits = terms.longer job.examiner history entry (job.place + 1) valid fits.examiner_fits;
        once = subst (AreWithin (terms.handed job.examiner) (terms.unread job.examiner (history ++ entry ∷ []))) (sym (versions-one history entry)) (AreWithin-more (terms.handed job.examiner) (terms.unread job.examiner history) (terms.unread job.examiner (history ++ entry ∷ [])) (versions history) (versions (entry ∷ [])) (terms.grows job.examiner history entry (job.place + 1) valid fits.examiner_fits) fits.once);
      }

  -- what it took is at most the number of versions of the history
  pub taken_within : (job : Job X) (history : History) (count : ℕ) → JobFits terms job history → terms.handed job.examiner ≡ Some count → count ≤ versions history
  taken_within job history count fits is = handed_within (terms.handed job.examiner) (terms.unread job.examiner history) (versions history) count fits.once is
