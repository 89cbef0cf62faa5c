-- From reading an entry and its denied cells to what EXPLAIN does.
use Rattle.std.proofs.Common.{◌≡◌, ◌≢◌, ◌∙◌, ◌⊎◌, ◌≤◌, ◌<◌, ℕ, ℤ, refl, sym, ap, subst, inl, inr, arith, Bool, true, false, List, [], length, Option, Some, None, Result, Ok, Err}
use Rattle.std.specs.Prelude.{if◌then◌else◌, nat_lt, ok_or, OnOk}
use Rattle.std.proofs.lemmas.Bool.{false≢true}
use Rattle.std.proofs.lemmas.Bool.Decides.{nat_tests}
use Rattle.hippo_values.specs.Texts.{Txt}
use Rattle.hippo_values.specs.Results.{◌>>=◌}
use Rattle.hippo_model.specs.declared.entry.Entry.{Entry}
use Rattle.hippo_stmt_ast.specs.declared.statement.Stmt.TheVariants as stmt
use Rattle.hippo_model.specs.Denials.{Denial, denials}
use Rattle.hippo_model.specs.Terms.{History}
use Rattle.hippo_keeper.specs.Answering.{has_failed}
use Rattle.hippo_keeper.specs.Keeping.{KeeperState}
use Rattle.hippo_typing.specs.Meanings.{meaning}
use Rattle.hippo_backlog.specs.Calls as reads
use Rattle.hippo_backlog.specs.declared.faults.ReadFault.{ReadFault}
use Rattle.hippo_backlog.specs.declared.faults.ReadFault.TheVariants.{Keeper, Damaged, Memory}
use Rattle.hippo_keeper.proofs.CallLemmas.{KeepsSame-then, IsAfterCall-then, IsAfterCall-as}
use Rattle.hippo_audit_explain.specs.declared.faults.DenialsFault.{DenialsFault}
use Rattle.hippo_audit_explain.specs.declared.faults.DenialsFault.TheVariants.{Read, TooMany}
use Rattle.hippo_audit_explain.specs.Denying.{IsAnswer, Denies}
use Rattle.hippo_audit_explain.specs.Denying as listing
use Rattle.hippo_replay.specs.declared.state.State.{State}
use Rattle.hippo_report.specs.declared.speaker.Speaker.TheVariants.{Console}
use Rattle.hippo_report.specs.declared.refusal.Refusal.{Refusal}
use Rattle.hippo_report.specs.declared.refusal.Refusal.TheVariants as refusals
use Rattle.hippo_report.specs.Refusals.{refusal_line}
use Rattle.hippo_engine_world.specs.declared.worlds.World.{World as HeldWorld}
use Rattle.hippo_engine_sessions.specs.Worlds.{World}
use Rattle.hippo_engine_world.specs.Holding.{world_of, JobsFit, WatchesFit, tallies_of}
use Rattle.hippo_stmt_lines.specs.Commands.{Command, make_statement}
use Rattle.hippo_engine.specs.declared.engine.Engine.{Engine}
use Rattle.hippo_engine_rules.specs.declared.faults.EngineFault.{EngineFault}
use Rattle.hippo_engine_rules.specs.declared.faults.EngineFault.TheVariants as engine
use Rattle.hippo_engine_checks.specs.Checks.{Checked, question_at}
use Rattle.hippo_engine_checks.specs.Deeds.{Deed}
use Rattle.hippo_engine_checks.specs.Deeds as deeds
use Rattle.hippo_engine_checks.specs.Findings.{HasLookedUp, LooksUp, LooksUpFor}
use Rattle.hippo_engine_rules.specs.Effects.{Effect, row_limit, only_reply, judgement_effect, effect_of, explain_effect, lines_and_count, denial_line, IsEffect}
use Rattle.hippo_engine_checks.specs.Judging.{judged}
use Rattle.hippo_engine_rules.specs.Ledgers.{at_once}
use Rattle.hippo_engine.specs.Carrying.{AtWork, line_as_call, is_carried, Carries}
use Rattle.hippo_engine_checks.proofs.EntryLemmas.{err_of}
use Rattle.hippo_engine_audits.specs.Explaining.{Explanation, AreDenied, IsFound, Explains, explained_line, told_of, told_cells, explaining_end, TellsCells}
use Rattle.hippo_engine_lines.specs.Performing.{Explained}
use Rattle.hippo_engine_audits.specs.Explaining as explaining
use Rattle.hippo_engine_lines.proofs.LookingLemmas.{Carries-looked}
use Rattle.hippo_engine_rules.proofs.ShortLemmas.{short, refused, done_for}

abbrev looked_up : Option Entry → Result (Option Entry) ReadFault
looked_up entry = Ok entry

told_same : (result : Result (List Denial) DenialsFault) → has_failed (explaining.explanation_as_call (told_of result)) ≡ has_failed (listing.listing_as_call result)
told_same (Ok cells) = refl
told_same (Err TooMany) = refl
told_same (Err (Read Keeper)) = refl
told_same (Err (Read (Damaged number))) = refl
told_same (Err (Read Memory)) = refl

found_of : (history : History) (number : ℤ) (entry : Entry) (result : Result (List Denial) DenialsFault) → question_at history number ≡ Some entry → IsAnswer row_limit (denials meaning history entry) result → IsFound history number (told_of result)
found_of history number entry (Ok cells) asked answer = record { entry = entry; asked = asked; cells = answer }
found_of history number entry (Err TooMany) asked answer = record { entry = entry; asked = asked; cells = answer }
found_of history number entry (Err (Read Keeper)) asked answer = tt
found_of history number entry (Err (Read (Damaged other))) asked answer = answer
found_of history number entry (Err (Read Memory)) asked answer = tt

-- the reply does not depend on the number
told_line : (number : ℤ) (result : Result (List Denial) DenialsFault) → explained_line number (told_of result) ≡ told_cells result
told_line number (Ok cells) = refl
told_line number (Err TooMany) = refl
told_line number (Err (Read fault)) = refl

module _ (number : ℤ) (held : State) (before between : KeeperState) (steps steps' : ℕ) where
  -- the question was looked up, and its denied cells were asked for
  pub question_explains : (entry : Entry) (result : Result (List Denial) DenialsFault) (after : KeeperState) (steps'' : ℕ) → LooksUp number (Ok (Some entry)) held before between steps steps'
      → Denies row_limit entry held.catalog.names held.book result between after steps' steps'' → Explains number held (told_of result) before after steps steps''
  question_explains entry result after steps'' looks denies = record {
    call = IsAfterCall-then false (reads.reading_as_call (looked_up (Some entry))) (explaining.explanation_as_call (told_of result)) before between after refl looks.call
        (IsAfterCall-as true false (listing.listing_as_call result) (explaining.explanation_as_call (told_of result)) between after (told_same result) denies.call);
    stays = λ tells. KeepsSame-then before between after (looks.stays (denies.call.told tells)) (denies.stays tells);
    told = λ tells history forms stands.
        let earlier = denies.call.told tells in
        let was : HasLookedUp history number (Ok (Some entry)) steps steps' = looks.told earlier history forms stands in
        let answered = denies.told tells history (record { forms = forms ∙ sym (looks.stays earlier).same; valid = stands.valid }) stands.names stands.book
        (record { valid = stands.valid; place = was.there.0; stands = was.there.1 }) in
        record { found = found_of history number entry result was.is answered.answer; few = omega (arith, answered.few, was.idle) };
  }

  -- no question has the number
  pub none_explains : LooksUp number (Ok None) held before between steps steps' → Explains number held (Err None) before between steps steps'
  none_explains looks = record {
    call = looks.call;
    stays = looks.stays;
    told = λ tells history forms stands. let was = looks.told tells history forms stands in record { found = was.is; few = was.few };
  }

  -- the question was not looked up
  pub unread_explains : (fault : ReadFault) → LooksUp number (Err fault) held before between steps steps' → Explains number held (Err (Some (Read fault))) before between steps steps'
  unread_explains fault looks = record {
    call = IsAfterCall-as true false (reads.reading_as_call (err_of (Option Entry) fault)) (explaining.explanation_as_call (Err (Some (Read fault)))) before between (same_call fault) looks.call;
    stays = looks.stays;
    told = λ tells history forms stands.
        let was = looks.told tells history forms stands in
        record { found = unfound history fault was.undamaged; few = was.few };
  }
    where
      same_call : (fault : ReadFault) → has_failed (explaining.explanation_as_call (Err (Some (Read fault)))) ≡ has_failed (reads.reading_as_call (err_of (Option Entry) fault))
      same_call Keeper = refl
      same_call (Damaged number) = refl
      same_call Memory = refl

      unfound : (history : History) (fault : ReadFault) → ((other : ℕ) → err_of (Option Entry) fault ≡ Err (Damaged other) → ⊥) → IsFound history number (Err (Some (Read fault)))
      unfound history Keeper undamaged = tt
      unfound history (Damaged other) undamaged = undamaged other refl
      unfound history Memory undamaged = tt

-- the line fails exactly when its keeper's calls did
ended_same : (found : Explanation) → has_failed (line_as_call (explaining_end found)) ≡ has_failed (explaining.explanation_as_call found)
ended_same (Ok cells) = refl
ended_same (Err None) = refl
ended_same (Err (Some TooMany)) = refl
ended_same (Err (Some (Read Keeper))) = refl
ended_same (Err (Some (Read (Damaged number)))) = refl
ended_same (Err (Some (Read Memory))) = refl

module _ (history : History) (world : World) (text : Txt) (number : ℤ) where
  abbrev command : Command
  command = make_statement Console (stmt.Explain number) text

  abbrev by_found : Option Entry → Checked Deed
  by_found found = ok_or found (refusals.NoSuchQuery number) >>= λ entry. Ok (deeds.explain entry)

  judged_is : (found : Option Entry) → question_at history number ≡ found → judged history world command ≡ by_found found
  judged_is found is = ap by_found is

  said_so : (reply : Txt) → IsEffect history world command (only_reply world (refusal_line Console refusals.Memory))
  said_so reply = short history world command refl

  denied_effect : (denied : AreDenied history number (λ cells. Unit {0})) → effect_of history world command ≡ explain_effect history world denied.entry
  denied_effect denied = done_for history world command (deeds.explain denied.entry) (judged_is (Some denied.entry) denied.asked)

  -- what was found has its effect
  effect_found : (found : Explanation) (reply : Txt) → IsFound history number found → is_carried (explaining_end found) ≡ true → reply ≡ explained_line number found → IsEffect history world command (only_reply world reply)
  effect_found (Ok cells) reply is fine said =
      let few : nat_lt row_limit (length (denials meaning history is.entry)) ≡ false = not_more row_limit (length (denials meaning history is.entry)) is.cells.1 in
      let line : (explain_effect history world is.entry).reply ≡ lines_and_count 0 denial_line (denials meaning history is.entry) = ap (λ (b : Bool). if b then refusal_line Console refusals.TooManyRows else lines_and_count 0 denial_line (denials meaning history is.entry)) few in
      inl (ap (only_reply world) (said ∙ ap (lines_and_count 0 denial_line) is.cells.0 ∙ sym line) ∙ sym (denied_effect (record { entry = is.entry; asked = is.asked; cells = tt })))
    where
      not_more : (limit count : ℕ) → count ≤ limit → nat_lt limit count ≡ false
      not_more limit count few = grind (arith, nat_tests)
  effect_found (Err None) reply is fine said =
      subst (λ (r : Txt). IsEffect history world command (only_reply world r)) (sym said) (refused history world command (refusals.NoSuchQuery number) (judged_is None is))
  effect_found (Err (Some TooMany)) reply is fine said =
      let many : nat_lt row_limit (length (denials meaning history is.entry)) ≡ true = more row_limit (length (denials meaning history is.entry)) is.cells in
      let line : (explain_effect history world is.entry).reply ≡ refusal_line Console refusals.TooManyRows = ap (λ (b : Bool). if b then refusal_line Console refusals.TooManyRows else lines_and_count 0 denial_line (denials meaning history is.entry)) many in
      inl (ap (only_reply world) (said ∙ sym line) ∙ sym (denied_effect (record { entry = is.entry; asked = is.asked; cells = tt })))
    where
      more : (limit count : ℕ) → limit < count → nat_lt limit count ≡ true
      more limit count many = grind (arith, nat_tests)
  effect_found (Err (Some (Read Keeper))) reply is fine said = absurd (false≢true fine)
  effect_found (Err (Some (Read (Damaged other)))) reply is fine said = absurd (false≢true fine)
  effect_found (Err (Some (Read Memory))) reply is fine said =
      subst (λ (r : Txt). IsEffect history world command (only_reply world r)) (sym said) (said_so reply)

  undamaged : (found : Explanation) (other : ℕ) → IsFound history number found → explaining_end found ≡ Err (engine.Damaged other) → ⊥
  undamaged (Ok cells) other is e = absurd cc
  undamaged (Err None) other is e = absurd cc
  undamaged (Err (Some TooMany)) other is e = absurd cc
  undamaged (Err (Some (Read Keeper))) other is e = absurd cc
  undamaged (Err (Some (Read (Damaged place)))) other is e = is
  undamaged (Err (Some (Read Memory))) other is e = absurd cc

  -- it adds nothing, and is refused only if no question has the number
  adds_none : (effect_of history world command).added ≡ []
  adds_none = by (question_at history number) refl
    where
      by : (found : Option Entry) → question_at history number ≡ found → (effect_of history world command).added ≡ []
      by None is = ap (λ (e : Effect). e.added) (sym (ap (λ (judgement : Checked Deed). judgement_effect history world Console judgement) (sym (judged_is None is))))
      by (Some entry) is = ap (λ (e : Effect). e.added) (done_for history world command (deeds.explain entry) (judged_is (Some entry) is))

  only_missing : (refusal : Refusal) → judged history world command ≡ Err refusal → ((other : ℤ) → refusal ≢ refusals.NoSuchQuery other) → ⊥
  only_missing refusal is others = by (question_at history number) refl
    where
      same : (one other : Refusal) → err_of Deed one ≡ Err other → one ≡ other
      same one other e = cc

      by : (found : Option Entry) → question_at history number ≡ found → ⊥
      by None at = others number (sym (same (refusals.NoSuchQuery number) refusal (sym (judged_is None at) ∙ is)))
      by (Some entry) at = let both : ◌≡◌ {A = Checked Deed} (Ok (deeds.explain entry)) (Err refusal) = sym (judged_is (Some entry) at) ∙ is in absurd cc

carried_said : (found : Explanation) (said : Type 0) → is_carried (explaining_end found) ≡ true → OnOk (explaining_end found) said → said
carried_said (Ok cells) said fine is = is
carried_said (Err None) said fine is = is
carried_said (Err (Some TooMany)) said fine is = is
carried_said (Err (Some (Read Keeper))) said fine is = absurd (false≢true fine)
carried_said (Err (Some (Read (Damaged number)))) said fine is = absurd (false≢true fine)
carried_said (Err (Some (Read Memory))) said fine is = is

abbrev IsSaid : ℤ → Explanation → Txt → Type 0
IsSaid number found reply = (reply ≡ explained_line number found) ⊎ (reply ≡ refusal_line Console refusals.Memory)

-- EXPLAIN at the console
pub Carries-explain_effect : (text : Txt) (number : ℤ) (result : Result (Unit {0}) EngineFault) (old new : Engine) (before after : KeeperState) (steps steps' : ℕ) → AtWork old before
    → new.state ≡ old.state → new.world ≡ old.world → TellsCells number old.state result new.reply before after steps steps'
    → Carries (make_statement Console (stmt.Explain number) text) result old new before after steps steps'
Carries-explain_effect text number result old new before after steps steps' at_work same_state same_world tells =
    subst (λ (r : Result (Unit {0}) EngineFault). Carries (make_statement Console (stmt.Explain number) text) r old new before after steps steps') (sym tells.ended_so)
    (Carries-looked (make_statement Console (stmt.Explain number) text) (explaining_end tells.found) old new before after steps steps' refl at_work same_state (ap (λ (held : HeldWorld). held.clock) same_world)
    (IsAfterCall-as true false (explaining.explanation_as_call tells.found) (line_as_call (explaining_end tells.found)) before after (ended_same tells.found) tells.explains.call)
    tells.explains.stays
    (λ told history holds.
    let world : World = world_of old.world in
    let done = tells.explains.told told history holds.forms holds.stands in
    record {
      effect = λ fine.
          subst (λ (w : World). IsEffect history world (make_statement Console (stmt.Explain number) text) (only_reply w new.reply)) (ap world_of (sym same_world))
          (either history world done.found fine (carried_said tells.found (IsSaid number tells.found new.reply) fine (subst (λ (r : Result (Unit {0}) EngineFault). OnOk r (IsSaid number tells.found new.reply)) tells.ended_so tells.said)));
      jobs = subst (JobsFit history) (sym same_world) holds.jobs;
      watches = subst (WatchesFit history) (sym same_world) holds.watches;
      counts = λ fine. at_once refl done.few (ap tallies_of same_world);
      refused = λ refusal is others. absurd (only_missing history world text number refusal is others);
      adds = adds_none history world text number;
      undamaged = λ other e. undamaged history world text number tells.found other done.found e;
    }))
  where
    either : (history : History) (world : World) → IsFound history number tells.found → is_carried (explaining_end tells.found) ≡ true
        → (new.reply ≡ explained_line number tells.found) ⊎ (new.reply ≡ refusal_line Console refusals.Memory)
        → IsEffect history world (make_statement Console (stmt.Explain number) text) (only_reply world new.reply)
    either history world is fine (inl said) = effect_found history world text number tells.found new.reply is fine said
    either history world is fine (inr said) =
        subst (λ (r : Txt). IsEffect history world (make_statement Console (stmt.Explain number) text) (only_reply world r)) (sym said) (said_so history world text number new.reply)

-- the question was looked up, and its cells are in the reply
pub Carries-told : (asked : Command) (number : ℤ) (entry : Entry) (result : Result (Unit {0}) EngineFault) (old new : Engine) (before between after : KeeperState) (start steps steps' : ℕ) → AtWork old before
    → LooksUpFor asked number (Ok (Some entry)) old.state before between start steps → Explained entry result old new between after steps steps' → Carries asked result old new before after start steps'
Carries-told asked number entry result old new before between after start steps steps' at_work looks told =
    subst (λ (c : Command). Carries c result old new before after start steps') (sym looks.is)
    (Carries-explain_effect looks.text number result old new before after start steps' at_work told.state told.world (record {
      found = told_of told.tells.found;
      explains = question_explains number old.state before between start steps entry told.tells.found after steps' looks.looks told.tells.denies;
      ended_so = told.tells.ended_so;
      said = subst (λ (line : Txt). OnOk result ((new.reply ≡ line) ⊎ (new.reply ≡ refusal_line Console refusals.Memory))) (sym (told_line number told.tells.found)) told.tells.said;
    }))

-- no question has the number
pub Carries-unasked : (asked : Command) (number : ℤ) (old new : Engine) (before after : KeeperState) (steps steps' : ℕ) → AtWork old before
    → LooksUpFor asked number (Ok None) old.state before after steps steps' → new.state ≡ old.state → new.world ≡ old.world
    → (new.reply ≡ refusal_line Console (refusals.NoSuchQuery number)) ⊎ (new.reply ≡ refusal_line Console refusals.Memory) → Carries {A = Unit {0}} asked (Ok tt) old new before after steps steps'
Carries-unasked asked number old new before after steps steps' at_work looks same_state same_world said =
    subst (λ (c : Command). Carries {A = Unit {0}} c (Ok tt) old new before after steps steps') (sym looks.is)
    (Carries-explain_effect looks.text number (Ok tt) old new before after steps steps' at_work same_state same_world
    (record { found = Err None; explains = none_explains number old.state before after steps steps' looks.looks; ended_so = refl; said = said }))

-- the question was not read
pub Carries-unread : (asked : Command) (number : ℤ) (fault : ReadFault) (result : Result (Unit {0}) EngineFault) (old new : Engine) (before after : KeeperState) (steps steps' : ℕ) → AtWork old before
    → LooksUpFor asked number (Err fault) old.state before after steps steps' → new.state ≡ old.state → new.world ≡ old.world
    → result ≡ explaining_end (Err (Some (Read fault))) → OnOk result (new.reply ≡ refusal_line Console refusals.Memory) → Carries asked result old new before after steps steps'
Carries-unread asked number fault result old new before after steps steps' at_work looks same_state same_world ends said =
    subst (λ (c : Command). Carries c result old new before after steps steps') (sym looks.is)
    (Carries-explain_effect looks.text number result old new before after steps steps' at_work same_state same_world
    (record { found = Err (Some (Read fault)); explains = unread_explains number old.state before after steps steps' fault looks.looks; ended_so = ends; said = on_ok result said }))
  where
    on_ok : (r : Result (Unit {0}) EngineFault) → OnOk r (new.reply ≡ refusal_line Console refusals.Memory) → OnOk r ((new.reply ≡ explained_line number (Err (Some (Read fault)))) ⊎ (new.reply ≡ refusal_line Console refusals.Memory))
    on_ok (Ok done) is = inr is
    on_ok (Err other) is = tt
