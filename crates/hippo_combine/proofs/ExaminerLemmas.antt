-- What the proof of each examiner needs: results whose only fault is `Memory`, an entry that is not
-- in the history, and cases in which nothing serves.
use Rattle.std.proofs.Common.{◌≡◌, ◌≢◌, ◌⊎◌, inl, inr, ◌∙◌, sym, ap, subst, refl, arith, ℕ, ◌<◌, Bool, true, false, ◌&&◌, List, [], ◌∷◌, Option, None, Result, Ok, Err}
use Rattle.std.specs.Prelude.{IfErr, IfOk, find}
use Rattle.std.proofs.lemmas.Option.{slice_get_within}
use Rattle.hippo_values.specs.declared.memory.Memory.{Memory as NoRoom}
use Rattle.hippo_model.specs.declared.audit.Audit.{Audit}
use Rattle.hippo_model.specs.declared.audit.SharedRow.{SharedRow}
use Rattle.hippo_model.specs.declared.entry.Entry.{Entry}
use Rattle.hippo_model.specs.declared.query.Query.{Query}
use Rattle.hippo_model.specs.Answers.{audit_answer, unmasked_combinations}
use Rattle.hippo_model.specs.Audits.{needs, query_needs, audit_needs, has_tuple, serves, first_serving}
use Rattle.hippo_model.specs.Terms.{History}
use Rattle.hippo_model.specs.Verdicts.{Context}
use Rattle.hippo_model_laws.specs.Audits.{StandsIn}
use Rattle.hippo_model_laws.proofs.ValidFronts.{entry_has_its_number}
use Rattle.hippo_keeper.specs.Answering.{has_failed}
use Rattle.hippo_keeper.proofs.Results.{err_of}
use Rattle.hippo_typing.specs.Meanings.{meaning}
use Rattle.hippo_backlog.specs.declared.faults.ReadFault.{ReadFault}
use Rattle.hippo_backlog.specs.declared.faults.ReadFault.TheVariants.{Damaged, Memory}
use Rattle.hippo_backlog.specs.Calls.{reading_as_call}
use Rattle.hippo_backlog.proofs.CallLemmas.{same_Err}
use Rattle.hippo_audit_job.specs.declared.past.Past.{Past}
use Rattle.hippo_audit_job.specs.Examining.{IsPastOf}

abbrev pub Shared : Type 0
Shared = Result (Option (List SharedRow)) ReadFault

-- ---- the only fault is `Memory`
pub only_memory : (result : Shared) → IfErr result (λ fault. fault ≡ Memory) → has_failed (reading_as_call result) ≡ false
only_memory (Ok shared) memory = refl
only_memory (Err fault) memory = ap (λ (f : ReadFault). has_failed (reading_as_call (err_of (Option (List SharedRow)) f))) memory

pub undamaged : (result : Shared) → IfErr result (λ fault. fault ≡ Memory) → (place : ℕ) → result ≢ Err (Damaged place)
undamaged (Ok shared) memory place is = cc
undamaged (Err fault) memory place is =
    let other : Memory ≡ Damaged place = sym memory ∙ same_Err {A = Option (List SharedRow)} fault (Damaged place) is in cc

pub as_read-holds : {A : Type 0} (Holds : A → Type 0) (made : Result A NoRoom) (result : Result A ReadFault) → IfOk result (λ value. made ≡ Ok value) → IfOk made Holds → IfOk result Holds
as_read-holds Holds made (Ok value) same holds = subst (λ (m : Result _ NoRoom). IfOk m Holds) same holds
as_read-holds Holds made (Err fault) same holds = tt

-- ---- an entry that is not in the history
pub no_entry : (past : Past) (entry : Entry) (history : History) → IsPastOf past history → (entry.seq ≡ 0) ⊎ (past.count < entry.seq) → StandsIn meaning history entry → ⊥
no_entry past entry history its (inl zero) stands =
    let number = entry_has_its_number meaning history its.valid stands.place entry stands.stands in omega (arith, zero, number)
no_entry past entry history its (inr beyond) stands =
    let number = entry_has_its_number meaning history its.valid stands.place entry stands.stands in
    let within = slice_get_within history stands.place entry stands.stands in
    let count = its.count in
    omega (arith, beyond, number, within, count)

-- ---- if the audit has no rows, nothing serves
pub find_none : {A : Type 0} (test : A → Bool) → ((x : A) → test x ≡ false) → (xs : List A) → find test xs ≡ None
find_none test fails [] = refl
find_none test fails (x ∷ xs) = rw (fails x) (find_none test fails xs)

no_audit : (mine others shown : Bool) → others ≡ false → (mine && others && shown) ≡ false
no_audit true others shown is = rw is refl
no_audit false others shown is = refl

module _ (before : History) (context : Context) (query : Query) (audit : Audit) where
  audit_unneeded : unmasked_combinations before audit ≡ [] → (tuple : List SharedRow) → audit_needs before audit tuple ≡ false
  audit_unneeded none tuple = ap (needs (audit_answer audit) (has_tuple before audit.tables tuple)) none

  pub nothing_of_audit : unmasked_combinations before audit ≡ [] → first_serving before context query audit ≡ None
  nothing_of_audit none = find_none (serves before context query audit) (λ tuple. no_audit (query_needs before context query tuple) (audit_needs before audit tuple) _ (audit_unneeded none tuple)) _
