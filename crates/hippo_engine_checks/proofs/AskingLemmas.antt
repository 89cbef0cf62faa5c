-- The results of the checks of a question.
use Rattle.std.proofs.Common.{◌≡◌, ◌≢◌, ◌⊎◌, ◌∙◌, inl, inr, refl, sym, ap, subst, true, List, [], ◌∷◌, Option, Some, Ok, Err}
use Rattle.std.specs.Prelude.{ℕ, length, is_none, is_some, flat_map, unwrap_or, slice_get}
use Rattle.std.proofs.lemmas.Bool.{and_from}
use Rattle.hippo_values.specs.Texts.{Txt}
use Rattle.hippo_values.specs.declared.names.Name.{Name}
use Rattle.hippo_values.specs.Results.{◌>>=◌}
use Rattle.hippo_model.specs.declared.name_fault.NameFault.{NameFault}
use Rattle.hippo_model.specs.declared.name_fault.NameFault.TheVariants.{UnknownTable, Memory as NoRoom}
use Rattle.hippo_model.specs.declared.query.Query.{Query}
use Rattle.hippo_stmt_ast.specs.declared.statement.RawSelect.{RawSelect}
use Rattle.hippo_model.specs.Terms.{History}
use Rattle.hippo_model.specs.Histories.{schema_at}
use Rattle.hippo_typing_catalog.specs.Catalogs.{KnownNames, known_at, table_of}
use Rattle.hippo_typing_catalog.specs.Refusals.{fault_if, unknown_table, IsFirstOf}
use Rattle.hippo_typing_catalog.specs.Selects.{select_refused, query_of}
use Rattle.hippo_typing.specs.Meanings.{meaning}
use Rattle.hippo_typing.specs.ResolutionLaws.{NamesAreThoseOf}
use Rattle.hippo_typing.proofs.CatalogTheorem.{valid_names}
use Rattle.hippo_typing_laws.proofs.RefusalLemmas.{none_of_both, there}
use Rattle.hippo_report.specs.declared.refusal.Refusal.{Refusal}
use Rattle.hippo_report.specs.declared.refusal.Refusal.TheVariants.{Memory, Meaningless}
use Rattle.hippo_report.specs.declared.speaker.Speaker.TheVariants as speaker
use Rattle.hippo_tables.specs.Standing.{are_created}
use Rattle.hippo_stmt_lines.specs.Commands as commands
use Rattle.hippo_engine_sessions.specs.Worlds.{World}
use Rattle.hippo_replay.specs.declared.state.State.{State}
use Rattle.hippo_replay.specs.Standing.{Represents}
use Rattle.hippo_engine_sessions.specs.declared.sessions.Session.{Session}
use Rattle.hippo_engine_checks.specs.Deeds.{Deed, Question}
use Rattle.hippo_engine_checks.specs.Checks.{Checked, Finds, open_session, by_authorized_user, unless_refused, has_room}
use Rattle.hippo_engine_checks.specs.declared.asking.Asking.{Asking}
use Rattle.hippo_engine_checks.specs.declared.asking.Delivery.{Delivery}
use Rattle.hippo_engine_checks.specs.declared.asking.AnswerForm.{AnswerForm}
use Rattle.hippo_engine_checks.specs.declared.asking.AnswerForm.TheVariants.{Rows, Records, Cursor}
use Rattle.hippo_engine_checks.specs.Judging.{text_between, delivery_for, deed_for, judged_question, judged}
use Rattle.hippo_engine_checks.specs.declared.asking.WrittenQuestion.{WrittenQuestion}
use Rattle.hippo_engine_checks.specs.Asking.{statement_asked, written_command, written_text, delivery_in_room, asking_with, deed_asked, IsAnswerable}

-- without faults, the statement means its form
pub meant_so : {A : Type 0} (faults : List NameFault) (form made : A) → faults ≡ [] → made ≡ form → unless_refused faults form ≡ Ok made
meant_so [] form made none is = λ i. Ok (sym is i)
meant_so (fault ∷ more) form made none is = absurd cc

-- otherwise the first fault is the refusal, or out of memory
pub meant_not : {A : Type 0} (faults : List NameFault) (form : A) (fault : NameFault) (refusal : Refusal) → IsFirstOf faults fault
    → ((fault ≢ NoRoom) × (refusal ≡ Meaningless fault)) ⊎ (refusal ≡ Memory) → (unless_refused faults form ≡ Err refusal) ⊎ (refusal ≡ Memory)
meant_not faults form fault refusal first (inr short) = inr short
meant_not [] form fault refusal first (inl (other, is)) = let none : slice_get {X = NameFault} [] 0 ≡ Some fault = first other in absurd cc
meant_not (head ∷ more) form fault refusal first (inl (other, is)) =
    let same : head ≡ fault = ap (λ (found : Option NameFault). unwrap_or found head) (first other) in
    let told : Meaningless head ≡ refusal = ap Meaningless same ∙ sym is in
    inl (λ i. Err (told i))

-- a SELECT, an EXTRACT or an OPEN is judged as a question
judged_asked : (handing : AnswerForm) (history : History) (world : World) (session : ℕ) (select : RawSelect) (start end : ℕ) (text : Txt)
    → judged history world (commands.make_statement (speaker.Session session) (statement_asked handing select start end) text)
    ≡ judged_question handing history world (speaker.Session session) select (text_between text start end)
judged_asked Rows history world session select start end text = refl
judged_asked Records history world session select start end text = refl
judged_asked Cursor history world session select start end text = refl

pub judged_written : (written : WrittenQuestion) (text : Txt) (history : History) (world : World) (session : ℕ)
    → judged history world (written_command session written text)
    ≡ judged_question written.handing history world (speaker.Session session) written.select.now (written_text written text)
judged_written written text history world session =
    judged_asked written.handing history world session written.select.now written.start written.end text

-- a table that is not refused is created
created : (history : History) (names : List Name) → NamesAreThoseOf history → flat_map (unknown_table (known_at history)) names ≡ [] → are_created history names ≡ true
created history [] known none = refl
created history (name ∷ names) known none =
    let parts = none_of_both (fault_if (is_none (table_of (known_at history) name)) (UnknownTable name)) (flat_map (unknown_table (known_at history)) names) none in
    and_from (is_some (schema_at history name)) (are_created history names)
    (ap is_some (sym (known.tables name)) ∙ there (table_of (known_at history) name) (UnknownTable name) parts.0)
    (created history names known parts.1)

tables_known : (known : KnownNames) (select : RawSelect) → select_refused known select ≡ [] → flat_map (unknown_table known) select.tables ≡ []
tables_known known select none = (none_of_both _ _ (none_of_both _ _ (none_of_both _ _ (none_of_both _ _ (none_of_both _ _ (none_of_both _ _ none).0).0).0).0).0).0

-- a select that is not refused can be answered
pub answerable : (state : State) (history : History) (select : RawSelect) (query : Query) → Represents state history
    → select_refused state.catalog.names select ≡ [] → query ≡ query_of state.catalog.names select → IsAnswerable state query
answerable state history select query stands none is =
    let none_at : select_refused (known_at history) select ≡ [] = subst (λ (known : KnownNames). select_refused known select ≡ []) stands.names none in
    record {
      tables = record {
        history = history;
        stands = stands.tables;
        created = ap (λ (q : Query). are_created history q.tables) is
            ∙ created history select.tables (valid_names meaning history stands.valid) (tables_known (known_at history) select none_at);
      };
    }

-- the check of the delivery and then the check of the room equal both checks at once
delivery_then_room : (wanted : Checked Delivery) (room : Checked (Unit {0})) (deed : Delivery → Deed)
    → (wanted >>= λ delivery. room >>= λ free. Ok (deed delivery)) ≡ ((wanted >>= λ delivery. room >>= λ free. Ok delivery) >>= λ delivery. Ok (deed delivery))
delivery_then_room (Ok delivery) (Ok free) deed = refl
delivery_then_room (Ok delivery) (Err refusal) deed = refl
delivery_then_room (Err refusal) room deed = refl

with_found : (session : ℕ) (asking : Asking) (checked wanted : Checked Delivery) → Finds (λ delivery. delivery) checked wanted
    → Finds (deed_asked session) (checked >>= λ delivery. Ok (deed_asked session (record asking { delivery = delivery }))) (asking_with asking wanted)
with_found session asking checked (Ok delivery) is = ap (λ (c : Checked Delivery). c >>= λ delivery. Ok (deed_asked session (record asking { delivery = delivery }))) is
with_found session asking checked (Err refusal) (inl is) = inl (ap (λ (c : Checked Delivery). c >>= λ delivery. Ok (deed_asked session (record asking { delivery = delivery }))) is)
with_found session asking checked (Err refusal) (inr short) = inr short

module _ (handing : AnswerForm) (history : History) (world : World) (session : ℕ) (select : RawSelect) (asking : Asking) where
  -- the rest of the checks, after the asker, the authorization and the meaning are known
  left_asker : Checked Session → Checked Question → Checked Deed
  left_asker opened found = found >>= λ question. opened >>= λ asker. delivery_for handing asker >>= λ delivery. has_room history world >>= λ room. Ok (deed_for asker question delivery)

  from_meant : Session → Checked Query → Checked Question
  from_meant asker meaning = meaning >>= λ query. Ok (record { session = session; user = asker.user; pair = asker.pair; text = asking.text.now; query = query })

  from_opened : Checked Session → Checked Deed
  from_opened opened = left_asker opened (opened >>= λ asker. by_authorized_user history asker.user asker.pair
      >>= λ allowed. from_meant asker (unless_refused (select_refused (known_at history) select) (query_of (known_at history) select)))

  judged_found : (allowed : Unit {0}) → open_session world session ≡ Ok asking.asker.now
      → by_authorized_user history asking.asker.now.user asking.asker.now.pair ≡ Ok allowed
      → unless_refused (select_refused (known_at history) select) (query_of (known_at history) select) ≡ Ok asking.query
      → judged_question handing history world (speaker.Session session) select asking.text.now
      ≡ (delivery_in_room handing asking.asker.now (length history) world.limit >>= λ delivery. Ok (deed_asked session (record asking { delivery = delivery })))
  unfolding left_asker from_meant from_opened
  judged_found allowed opened may means =
      let asker : Session = asking.asker.now in
      ap from_opened opened
      ∙ ap (λ (may : Checked (Unit {0})). left_asker (Ok asker) (may >>= λ allowed. from_meant asker (unless_refused (select_refused (known_at history) select) (query_of (known_at history) select)))) may
      ∙ ap (λ (meaning : Checked Query). left_asker (Ok asker) (from_meant asker meaning)) means
      ∙ delivery_then_room (delivery_for handing asker) (has_room history world) (λ delivery. deed_asked session (record asking { delivery = delivery }))

  -- a question is found as its checks say
  pub question_found : (allowed : Unit {0}) (count : ℕ) (wanted : Checked Delivery) → open_session world session ≡ Ok asking.asker.now
      → by_authorized_user history asking.asker.now.user asking.asker.now.pair ≡ Ok allowed
      → unless_refused (select_refused (known_at history) select) (query_of (known_at history) select) ≡ Ok asking.query
      → count ≡ length history → Finds (λ delivery. delivery) (delivery_in_room handing asking.asker.now count world.limit) wanted
      → Finds (deed_asked session) (judged_question handing history world (speaker.Session session) select asking.text.now) (asking_with asking wanted)
  question_found allowed count wanted opened may means counted found =
      let at_length = subst (λ (n : ℕ). Finds (λ delivery. delivery) (delivery_in_room handing asking.asker.now n world.limit) wanted) counted found in
      subst (λ (judged : Checked Deed). Finds (deed_asked session) judged (asking_with asking wanted)) (sym (judged_found allowed opened may means))
      (with_found session asking (delivery_in_room handing asking.asker.now (length history) world.limit) wanted at_length)
