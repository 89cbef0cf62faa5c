-- From the checks of a statement that changes something, and from recording its entry, to what
-- carrying it out does.
use Rattle.std.proofs.Common.{◌≡◌, ◌⊎◌, ◌∙◌, ◌<◌, ◌^◌, inl, inr, refl, sym, ap, subst, arith, ℕ, true, false}
use Rattle.std.specs.Prelude.{codes, int_le, [], ◌∷◌, ◌++◌}
use Rattle.std.proofs.lemmas.Bool.{false≢true, and_from}
use Rattle.hippo_values.specs.Texts.{Txt}
use Rattle.hippo_model.specs.declared.entry.Entry.{Entry}
use Rattle.hippo_model.specs.Terms.{History}
use Rattle.hippo_model.specs.Validity.{may_follow, is_valid}
use Rattle.hippo_model_laws.proofs.ValidFronts.{is_valid-append}
use Rattle.hippo_typing.specs.Meanings.{meaning}
use Rattle.hippo_keeper.specs.declared.faults.KeeperFault.{KeeperFault}
use Rattle.hippo_keeper.specs.declared.faults.KeeperFault.TheVariants.{Failed, Memory}
use Rattle.hippo_keeper.specs.Keeping.{KeeperState}
use Rattle.hippo_replay.specs.Standing.{Represents, MayFollow, IsSound, IsTimely}
use Rattle.hippo_replay.specs.Recording.{Records}
use Rattle.hippo_replay.proofs.StateLemmas.{latest_moment-append}
use Rattle.hippo_keeper.proofs.CallLemmas.{IsAfterCall-as}
use Rattle.hippo_keeper.proofs.Results.{err_of, well}
use Rattle.hippo_report.specs.declared.speaker.Speaker.{Speaker}
use Rattle.hippo_report.specs.declared.speaker.Speaker.TheVariants.{Console}
use Rattle.hippo_report.specs.declared.refusal.Refusal.TheVariants as refusals
use Rattle.hippo_report.specs.Notices.{number_line}
use Rattle.hippo_report.specs.Refusals.{refusal_line}
use Rattle.hippo_engine_world.specs.declared.worlds.World.{World as HeldWorld}
use Rattle.hippo_engine_sessions.specs.Worlds.{World}
use Rattle.hippo_tables.specs.declared.tables.Tables.{Tables}
use Rattle.hippo_tables.specs.Standing.{TablesStandFor}
use Rattle.hippo_watch.specs.Watches.{ComesNext}
use Rattle.hippo_engine_world.specs.Auditing.{AreLooking, AreAudits, job_tallies}
use Rattle.hippo_engine_world.specs.Holding.{world_of, WatchesFollow, WatchesGoBack}
use Rattle.hippo_engine_world.proofs.AuditLemmas.{JobsFit-more, AreAudits-of}
use Rattle.hippo_stmt_lines.specs.Commands.{Command, who_commands}
use Rattle.hippo_engine.specs.declared.engine.Engine.{Engine}
use Rattle.hippo_engine_rules.specs.declared.faults.EngineFault.{EngineFault}
use Rattle.hippo_engine_rules.specs.declared.faults.EngineFault.TheVariants.{Keeper}
use Rattle.hippo_engine.specs.Carrying.{AtWork, Carries}
use Rattle.hippo_engine_checks.specs.Changes.{IsChange}
use Rattle.hippo_engine.specs.Changing.{Changes, change_effect}
use Rattle.hippo_engine_checks.specs.Findings.{AddsNextEntry}
use Rattle.hippo_engine_checks.specs.Deeds.{next_entry}
use Rattle.hippo_engine_checks.specs.Deeds as deeds
use Rattle.hippo_engine_rules.specs.Effects.{Effect, only_reply, deed_effect, effect_of, judgement_effect, IsEffect}
use Rattle.hippo_engine_checks.specs.Judging.{judged}
use Rattle.hippo_engine_rules.specs.Ledgers.{none_taken}
use Rattle.hippo_engine.proofs.CarryingLemmas.{Carries-unkept, Holds-same, Holds-more}
use Rattle.hippo_engine_rules.proofs.ClockLemmas.{int_le-refl}
use Rattle.hippo_engine_rules.proofs.ShortLemmas.{short}

-- out of memory, the reply is the refusal in both cases
pub told_short : (reply : Txt) → (reply ≡ refusal_line Console refusals.Memory) ⊎ (reply ≡ refusal_line Console refusals.Memory) → reply ≡ refusal_line Console refusals.Memory
told_short reply (inl is) = is
told_short reply (inr is) = is

-- the effect of a change that adds the next entry
next_is : (history : History) (world : World) (entry : Entry) → entry ≡ next_entry history world entry.act
    → deed_effect history world (deeds.change entry.act) ≡ change_effect world entry
next_is history world entry is = sym (ap (change_effect world) is)

-- a command that is judged as a change adds its entry
adds_change : (history : History) (world : World) (command : Command) (entry : Entry)
    → IsChange history world (judged history world command) entry → effect_of history world command ≡ change_effect world entry
adds_change history world command entry change =
    ap (judgement_effect history world (who_commands command)) change.judged_so ∙ next_is history world entry change.next

-- what the checks of a change found
pub changes_by : (command : Command) (entry : Entry) (engine : Engine) → AddsNextEntry command entry engine.state (world_of engine.world) → Changes command entry engine
changes_by command entry engine is = record {
  who = is.console;
  memory = is.memory;
  adds = λ history stands. adds_change history (world_of engine.world) command entry (is.does history stands);
  next = λ history stands. (is.does history stands).next;
}

module _ (command : Command) (entry : Entry) (old new : Engine) (before after : KeeperState) (steps : ℕ) (changes : Changes command entry old) (at_work : AtWork old before) where
  -- an entry that was added has the clock's moment
  timely_more : ((history : History) → Represents old.state history → Represents new.state (history ++ entry ∷ [])) → world_of new.world ≡ world_of old.world → IsTimely new.state new.world.clock
  timely_more added world_is =
      let history = at_work.sound.history in
      let stands = at_work.sound.stands in
      let last : new.state.last ≡ old.world.clock =
      (added history stands).last ∙ (latest_moment-append history entry ∙ ap (λ (e : Entry). e.moment) (changes.next history stands)) in
      let same : int_le new.state.last new.world.clock ≡ int_le old.world.clock old.world.clock = λ i. int_le (last i) (world_is i).clock in
      same ∙ int_le-refl old.world.clock

  -- the last entry is the same, if none was added
  timely_same : ((history : History) → Represents old.state history → Represents new.state history) → world_of new.world ≡ world_of old.world → IsTimely new.state new.world.clock
  timely_same stays world_is =
      let last : new.state.last ≡ old.state.last = (stays at_work.sound.history at_work.sound.stands).last ∙ sym at_work.sound.stands.last in
      let same : int_le new.state.last new.world.clock ≡ int_le old.state.last old.world.clock = λ i. int_le (last i) (world_is i).clock in
      same ∙ at_work.timely

  -- the entry comes next in the history
  comes_next : entry.seq < 2 ^ 63 → MayFollow old.state entry → (history : History) → Represents old.state history → (tables : Tables) → TablesStandFor tables history → ComesNext tables history entry
  comes_next number follows history stands tables there =
      let seq = ap (λ (e : Entry). e.seq) (changes.next history stands) in
      record {
        stands = there;
        valid = is_valid-append meaning history entry ∙ and_from (is_valid meaning history) (may_follow meaning history entry) stands.valid (follows history stands);
        few = omega (arith, number, seq);
      }

  -- a change that was recorded
  pub recorded : entry.seq < 2 ^ 63 → MayFollow old.state entry → Records entry (well KeeperFault) old.state new.state before after → IsSound new.state
      → world_of new.world ≡ world_of old.world → new.world.jobs ≡ old.world.jobs → WatchesFollow old.state.tables entry.act old.world new.world → new.reply ≡ number_line 0 (codes "ok") entry.seq
      → Carries command (well EngineFault) old new before after steps steps
  recorded number follows records sound world_is jobs_are follow reply_is = record {
    call = records.keeps.call;
    sound = λ fine. sound;
    timely = λ fine. timely_more records.ok world_is;
    idle = λ none. refl;
    carried = λ fine tells history holds. record {
      effect = change_effect (world_of old.world) entry;
      is = inl (sym (changes.adds history holds.stands));
      reply = reply_is;
      world = world_is;
      holds = Holds-more history entry old new before after holds (records.ok history holds.stands)
          (JobsFit-more history entry (records.ok history holds.stands).valid new.world (subst (AreLooking history) (sym jobs_are) holds.jobs))
          (follow history entry refl (comes_next number follows history holds.stands old.state.tables holds.stands.tables) holds.watches) (records.keeps.kept tells);
      kept = records.keeps.kept tells;
      counts = none_taken refl (ap job_tallies jobs_are);
      refused = λ refusal is others. refl;
    };
    failed = λ fails. absurd (false≢true fails);
    undamaged = λ tells history holds number damaged. cc;
  }

  -- a change that was not recorded, since memory ran out: the watches counted it, and were restored
  pub unrecorded : entry.seq < 2 ^ 63 → MayFollow old.state entry → Records entry (err_of (Unit {0}) Memory) old.state new.state before after → IsSound new.state
      → (between : HeldWorld) → world_of between ≡ world_of old.world → WatchesFollow old.state.tables entry.act old.world between → WatchesGoBack new.state.tables entry.act between new.world
      → world_of new.world ≡ world_of old.world → new.world.jobs ≡ old.world.jobs → new.reply ≡ refusal_line Console refusals.Memory
      → Carries command (well EngineFault) old new before after steps steps
  unrecorded number follows records sound between seen follow go_back world_is jobs_are reply_is = record {
    call = IsAfterCall-as true false (err_of (Unit {0}) Memory) (well KeeperFault) before after refl records.keeps.call;
    sound = λ fine. sound;
    timely = λ fine. timely_same (records.memory refl) world_is;
    idle = λ none. refl;
    carried = λ fine tells history holds. record {
      effect = only_reply (world_of old.world) (refusal_line Console refusals.Memory);
      is = subst (λ (who : Speaker). IsEffect history (world_of old.world) command
          (only_reply (world_of old.world) (refusal_line who refusals.Memory)))
          changes.who (short history (world_of old.world) command changes.memory);
      reply = reply_is;
      world = world_is;
      holds = Holds-same history old new before after holds (records.memory refl history holds.stands)
          (subst (AreLooking history) (sym jobs_are) holds.jobs)
          (go_back history entry refl (comes_next number follows history holds.stands new.state.tables (records.memory refl history holds.stands).tables)
          (subst (λ (world : World). AreAudits history world.watches) (sym seen) (AreAudits-of history old.world.watches holds.watches))
          (follow history entry refl (comes_next number follows history holds.stands old.state.tables holds.stands.tables) holds.watches))
          (records.keeps.same refl tells);
      kept = records.keeps.same refl tells;
      counts = none_taken refl (ap job_tallies jobs_are);
      refused = λ refusal is others. refl;
    };
    failed = λ fails. absurd (false≢true fails);
    undamaged = λ tells history holds number damaged. cc;
  }

  -- the keeper failed
  pub broken_change : Records entry (err_of (Unit {0}) Failed) old.state new.state before after
      → Carries command (err_of (Unit {0}) Keeper) old new before after steps steps
  broken_change records = Carries-unkept command entry old new before after steps (λ history stands. ap (λ (effect : Effect). effect.added) (changes.adds history stands)) records.keeps
