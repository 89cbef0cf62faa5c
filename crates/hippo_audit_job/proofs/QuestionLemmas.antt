-- Looking at one logged query, by what is found for it.
use Rattle.std.proofs.Common.{◌≡◌, ◌∙◌, sym, ap, refl, subst, ℕ, ◌≤◌, Bool, true, false, List, Option, None, Some, Result, Ok, Err}
use Rattle.std.specs.Bool.{then_some}
use Rattle.std.specs.Prelude.{◌≢◌, ◌&&◌, not, option_and_then, if◌then◌else◌, IfOk}
use Rattle.std.proofs.lemmas.Bool.{false≢true, and_parts}
use Rattle.hippo_values.specs.Texts.{Txt}
use Rattle.hippo_values.specs.declared.names.Name.{Name}
use Rattle.hippo_model.specs.declared.audit.Audit.{Audit}
use Rattle.hippo_model.specs.declared.audit.SharedRow.{SharedRow}
use Rattle.hippo_model.specs.declared.entry.Act.{Act}
use Rattle.hippo_model.specs.declared.entry.Act.TheVariants.{Asked}
use Rattle.hippo_model.specs.declared.entry.Entry.{Entry}
use Rattle.hippo_model.specs.declared.query.Query.{Query}
use Rattle.hippo_model.specs.Terms.{History}
use Rattle.hippo_model.specs.HandedOver.{is_question}
use Rattle.hippo_model.specs.Histories.{before_entry}
use Rattle.hippo_model.specs.Verdicts.{Context}
use Rattle.hippo_model.specs.Columns.{names_all}
use Rattle.hippo_model.specs.Audits.{in_period, is_exempt, shared_by, shared_in, shared_tuple, first_serving}
use Rattle.hippo_keeper.specs.Keeping.{KeeperState, IsReady}
use Rattle.hippo_typing.specs.Meanings.{meaning_in, meaning}
use Rattle.hippo_backlog.specs.declared.faults.ReadFault.{ReadFault}
use Rattle.hippo_backlog.specs.declared.faults.ReadFault.TheVariants.{Keeper, Damaged, Memory}
use Rattle.hippo_backlog.specs.Calls.{reading_as_call}
use Rattle.hippo_backlog.proofs.CallLemmas.{reading_as_call-unfailed}
use Rattle.hippo_keeper.proofs.CallLemmas.{KeepsSame-here, IsAfterCall-none}
use Rattle.hippo_audit_job.specs.declared.past.Past.{Past}
use Rattle.hippo_audit_job.specs.Examining.{IsPastOf, Examination, Examines}
use Rattle.hippo_audit_job.specs.Looking.{question_parts, IsCandidateOf, IsQuestionOf, LooksAt}
use Rattle.hippo_audit_job.proofs.CountLemmas.{RisesWith-none, FallsWith-none}
use Rattle.hippo_audit_job.proofs.StretchLemmas.{question_means}

abbrev Shares : Type 0
Shares = Result (Option (List SharedRow)) ReadFault

-- a logged query, with its purpose, recipient and text
record IsAsking (act : Act) (asking : Name × Name × Txt) : Type 0 where
  user : Name
  is : act ≡ Asked user asking.0 asking.1 asking.2

some_is : {A : Type 0} (x y : A) → Some x ≡ Some y → x ≡ y
some_is x y e = cc

asking : (act : Act) (found : Name × Name × Txt) → question_parts act ≡ Some found → IsAsking act found
asking (Asked user purpose recipient text) found is =
    subst (λ (f : Name × Name × Txt). IsAsking (Asked user purpose recipient text) f) (some_is (purpose, recipient, text) found is) (record { user = user; is = refl })
asking act found is = absurd cc

not_asked : (act : Act) → question_parts act ≡ None → is_question act ≡ false
not_asked (Asked user purpose recipient text) is = absurd cc
not_asked act is = refl

module _ (history : History) (audit : Audit) (entry : Entry) (question : IsQuestionOf history audit entry) where
  -- each entry that was read is a logged query
  pub must_be_question : question_parts entry.act ≡ None → ⊥
  must_be_question none = false≢true (sym (not_asked entry.act none) ∙ (and_parts (is_question entry.act) (in_period audit entry.moment) question.asked).0)

  pub is_inside : in_period audit entry.moment ≡ false → ⊥
  is_inside outside = false≢true (sym outside ∙ (and_parts (is_question entry.act) (in_period audit entry.moment) question.asked).1)

  module _ (past : Past) (stands : IsPastOf past history) (found : Name × Name × Txt) (is : question_parts entry.act ≡ Some found) where
    asked_so : IsAsking entry.act found
    asked_so = asking entry.act found is

    means : (query : Query) × (meaning (before_entry entry history) found.2 ≡ Some query) × (meaning history found.2 ≡ Some query)
    means = question_means history entry question.stands asked_so.user found.0 found.1 found.2 asked_so.is

    now_means : meaning_in past.catalog.now.names found.2 ≡ Some means.0
    now_means = ap (λ known. meaning_in known found.2) stands.names ∙ means.2

    -- each text means some query
    pub is_meant : meaning_in past.catalog.now.names found.2 ≡ None → ⊥
    is_meant none = none_some (sym none ∙ now_means)
      where
        none_some : {A : Type 0} {x : A} → None ≡ Some x → ⊥
        none_some e = cc

    -- and it is the query that the text meant at its own time
    pub meant_then : (query : Query) → meaning_in past.catalog.now.names found.2 ≡ Some query → meaning (before_entry entry history) found.2 ≡ Some query
    meant_then query same = means.1 ∙ sym now_means ∙ same

    abbrev asked_context : Context
    asked_context = record { purpose = found.0; recipient = found.1; moment = entry.moment }

    shared_is : shared_tuple meaning history audit entry ≡ option_and_then (λ query. shared_by (before_entry entry history) asked_context query audit) (meaning (before_entry entry history) found.2)
    shared_is = ap (shared_in meaning (before_entry entry history) audit entry.moment) asked_so.is

    shared_then : (query : Query) → meaning_in past.catalog.now.names found.2 ≡ Some query → shared_tuple meaning history audit entry ≡ shared_by (before_entry entry history) asked_context query audit
    shared_then query same = shared_is ∙ ap (option_and_then (λ query. shared_by (before_entry entry history) asked_context query audit)) (meant_then query same)

    exempted : (period named : Bool) (first : Option (List SharedRow)) → (if period && not true && named then first else None) ≡ None
    exempted true named first = refl
    exempted false named first = refl

    unnamed : (period exempt : Bool) (first : Option (List SharedRow)) → (if period && not exempt && false then first else None) ≡ None
    unnamed true true first = refl
    unnamed true false first = refl
    unnamed false exempt first = refl

    -- an exempt query shares nothing
    pub shares_exempt : is_exempt audit found.0 found.1 ≡ true → None ≡ shared_tuple meaning history audit entry
    unfolding means
    shares_exempt exempt =
        let before = before_entry entry history in
        sym (shared_then means.0 now_means ∙ ap (λ (b : Bool). if in_period audit entry.moment && not b && names_all means.0 audit then first_serving before asked_context means.0 audit else None) exempt ∙ exempted (in_period audit entry.moment) (names_all means.0 audit) (first_serving before asked_context means.0 audit))

    -- nor does a query that does not name every audited column
    pub shares_unnamed : (query : Query) → meaning_in past.catalog.now.names found.2 ≡ Some query → names_all query audit ≡ false → None ≡ shared_tuple meaning history audit entry
    shares_unnamed query same names =
        let before = before_entry entry history in
        sym (shared_then query same ∙ ap (λ (b : Bool). if in_period audit entry.moment && not (is_exempt audit found.0 found.1) && b then first_serving before asked_context query audit else None) names ∙ unnamed (in_period audit entry.moment) (is_exempt audit found.0 found.1) (first_serving before asked_context query audit))

    -- a candidate shares the first tuple that serves
    pub shares_first : (query : Query) → meaning_in past.catalog.now.names found.2 ≡ Some query → is_exempt audit found.0 found.1 ≡ false → names_all query audit ≡ true → shared_tuple meaning history audit entry ≡ first_serving (before_entry entry history) asked_context query audit
    shares_first query same exempt names =
        let before = before_entry entry history in
        let inside = (and_parts (is_question entry.act) (in_period audit entry.moment) question.asked).1 in
        shared_then query same ∙ (λ i. if inside i && not (exempt i) && names i then first_serving before asked_context query audit else None)

-- a query that is left out fails the test, and one that is returned passes it
not_named : (names : Bool) (query : Query) → None ≡ then_some names query → names ≡ false
not_named true query is = absurd cc
not_named false query is = refl

is_named_one : (names : Bool) (query found : Query) → Some found ≡ then_some names query → (names ≡ true) × (query ≡ found)
is_named_one true query found is = (refl, some_is query found (sym is))
is_named_one false query found is = absurd cc

pub candidate_means : (past : Past) (audit : Audit) (text : Txt) (query : Query) → IsCandidateOf past audit text (Ok (Some query)) → (meaning_in past.catalog.now.names text ≡ Some query) × (names_all query audit ≡ true)
candidate_means past audit text query candidate =
    let named = is_named_one (names_all candidate.0 audit) candidate.0 query candidate.2 in
    (candidate.1 ∙ ap Some named.1, ap (λ (q : Query). names_all q audit) (sym named.1) ∙ named.0)

if_ok : (result : Shares) (one other : Option (List SharedRow)) → one ≡ other → IfOk result (λ found. found ≡ one) → IfOk result (λ found. found ≡ other)
if_ok (Ok found) one other same is = is ∙ same
if_ok (Err fault) one other same is = tt

module _ {X : Type 0} (terms : Examination X) (past : Past) (audit : Audit) (entry : Entry) where
  -- if the examiner is not asked
  pub LooksAt-unasked : (examiner : X) (keeper : KeeperState) (steps : ℕ) → IsReady true keeper → terms.sound examiner → terms.upto examiner ≤ entry.seq
      → (result : Shares) → result ≢ Err Keeper → ((history : History) → IsPastOf past history → IsQuestionOf history audit entry → (number : ℕ) → result ≢ Err (Damaged number))
      → ((history : History) → IsPastOf past history → IsQuestionOf history audit entry → IfOk result (λ found. found ≡ shared_tuple meaning history audit entry))
      → LooksAt terms past audit entry result examiner examiner keeper keeper steps steps
  LooksAt-unasked examiner keeper steps ready sound order result unfailed undamaged finds = record {
    moves = record {
      is_after = IsAfterCall-none (reading_as_call result) keeper (reading_as_call-unfailed result unfailed) ready;
      stays = λ tells. KeepsSame-here keeper;
      is_sound = sound;
      limit = order;
      ledger = RisesWith-none (terms.handed examiner) steps;
    };
    told = λ tells history kept stands is_audit fits. record {
      fits_still = fits;
      once = FallsWith-none (terms.unread examiner history) steps;
      undamaged = undamaged history stands;
      finds = finds history stands;
    };
  }

  -- if it is asked
  pub LooksAt-examined : (query : Query) (result : Shares) (old new : X) (before after : KeeperState) (steps_old steps_new : ℕ) (found : Name × Name × Txt) → question_parts entry.act ≡ Some found
      → IsCandidateOf past audit found.2 (Ok (Some query)) → is_exempt audit found.0 found.1 ≡ false
      → Examines terms past audit entry query result old new before after steps_old steps_new
      → LooksAt terms past audit entry result old new before after steps_old steps_new
  LooksAt-examined query result old new before after steps_old steps_new found is candidate exempt examines = record {
    moves = examines.moves;
    told = λ tells history kept stands is_audit fits.
        let examined = examines.told tells history kept stands is_audit fits in
        let means = candidate_means past audit found.2 query candidate in
        record {
          fits_still = examined.fits_still;
          once = examined.once;
          undamaged = λ question. examined.undamaged;
          finds = λ question.
              let asked = asked_so history audit entry question past stands found is in
              if_ok result _ (shared_tuple meaning history audit entry) (sym (shares_first history audit entry question past stands found is query means.0 exempt means.1))
              (examined.finds question.stands asked.user found.0 found.1 found.2 asked.is (meant_then history audit entry question past stands found is query means.0));
        };
  }

  module _ (examiner : X) (keeper : KeeperState) (steps : ℕ) (ready : IsReady true keeper) (sound : terms.sound examiner) (order : terms.upto examiner ≤ entry.seq) where
    -- a query that does not name every audited column shares nothing
    pub LooksAt-unnamed : (found : Name × Name × Txt) → question_parts entry.act ≡ Some found → IsCandidateOf past audit found.2 (Ok None) → LooksAt terms past audit entry (Ok None) examiner examiner keeper keeper steps steps
    LooksAt-unnamed found is meant =
        LooksAt-unasked examiner keeper steps ready sound order (Ok None) (λ e. absurd cc) (λ history stands question number e. absurd cc)
        (λ history stands question. shares_unnamed history audit entry question past stands found is meant.0 meant.1 (not_named (names_all meant.0 audit) meant.0 meant.2))

    -- nor does an exempt query
    pub LooksAt-exempt : (found : Name × Name × Txt) → question_parts entry.act ≡ Some found → is_exempt audit found.0 found.1 ≡ true → LooksAt terms past audit entry (Ok None) examiner examiner keeper keeper steps steps
    LooksAt-exempt found is exempt =
        LooksAt-unasked examiner keeper steps ready sound order (Ok None) (λ e. absurd cc) (λ history stands question number e. absurd cc)
        (λ history stands question. shares_exempt history audit entry question past stands found is exempt)

    -- an entry that is not a logged query of the period
    pub LooksAt-other : (place : ℕ) → question_parts entry.act ≡ None → LooksAt terms past audit entry (Err (Damaged place)) examiner examiner keeper keeper steps steps
    LooksAt-other place none =
        LooksAt-unasked examiner keeper steps ready sound order (Err (Damaged place)) (λ e. absurd cc) (λ history stands question number e. absurd (must_be_question history audit entry question none)) (λ history stands question. tt)

    pub LooksAt-outside : (place : ℕ) → in_period audit entry.moment ≡ false → LooksAt terms past audit entry (Err (Damaged place)) examiner examiner keeper keeper steps steps
    LooksAt-outside place outside =
        LooksAt-unasked examiner keeper steps ready sound order (Err (Damaged place)) (λ e. absurd cc) (λ history stands question number e. absurd (is_inside history audit entry question outside)) (λ history stands question. tt)

    -- a logged query whose text means nothing now
    pub LooksAt-meant : (found : Name × Name × Txt) → question_parts entry.act ≡ Some found → (fault : ReadFault) → IsCandidateOf past audit found.2 (Err fault) → LooksAt terms past audit entry (Err fault) examiner examiner keeper keeper steps steps
    LooksAt-meant found is Keeper meant = absurd meant
    LooksAt-meant found is Memory meant =
        LooksAt-unasked examiner keeper steps ready sound order (Err Memory) (λ e. absurd cc) (λ history stands question number e. absurd cc) (λ history stands question. tt)
    LooksAt-meant found is (Damaged place) meant =
        LooksAt-unasked examiner keeper steps ready sound order (Err (Damaged place)) (λ e. absurd cc) (λ history stands question number e. absurd (is_meant history audit entry question past stands found is meant)) (λ history stands question. tt)
