-- What setting and ending a watch does.
use Rattle.std.proofs.Common.{◌≡◌, ◌∙◌, sym, ap, refl, subst, inl, ℕ, List, Option, None, Some, Ok}
use Rattle.std.specs.Prelude.{IfSome, option_map, codes}
use Rattle.hippo_model.specs.declared.audit.Audit.{Audit}
use Rattle.hippo_model.specs.Terms.{History}
use Rattle.hippo_audit_job.specs.Examining.{IsAuditOf}
use Rattle.hippo_tables.specs.Standing.{TablesStandFor}
use Rattle.hippo_watch_counts.specs.declared.counts.AuditHits.{AuditHits}
use Rattle.hippo_watch_counts.specs.Counts.{AreHits}
use Rattle.hippo_watch.specs.Watches.{IsWatchOf}
use Rattle.hippo_replay.specs.Standing.{Represents}
use Rattle.hippo_report.specs.declared.speaker.Speaker.TheVariants.{Console}
use Rattle.hippo_report.specs.Notices.{done_line, number_line}
use Rattle.hippo_report.specs.declared.refusal.Refusal.TheVariants.{Memory}
use Rattle.hippo_report.specs.Refusals.{refusal_line}
use Rattle.hippo_engine_world.specs.declared.worlds.World.{World as HeldWorld}
use Rattle.hippo_engine_sessions.specs.Worlds.{with_at}
use Rattle.hippo_engine_world.specs.Holding.{world_of, JobsFit, WatchesFit, tallies_of}
use Rattle.hippo_engine_world.specs.Auditing.{watched}
use Rattle.hippo_engine_world.proofs.AuditLemmas.{all_with}
use Rattle.hippo_engine_sessions.proofs.HeldLemmas.{seen-with}
use Rattle.hippo_stmt_lines.specs.Commands.{Command, who_commands}
use Rattle.hippo_engine.specs.declared.engine.Engine.{Engine}
use Rattle.hippo_engine.specs.Carrying.{AddsNothing, shown_effect}
use Rattle.hippo_engine_checks.specs.Deeds.{Deed}
use Rattle.hippo_engine_checks.specs.Deeds as deeds
use Rattle.hippo_engine_rules.specs.Effects.{only_reply, deed_effect}
use Rattle.hippo_engine_rules.specs.Ledgers.{none_taken}
use Rattle.hippo_engine_checks.specs.declared.deeds.Deed.TheVariants as kinds
use Rattle.hippo_engine_checks.specs.Findings.{IsJudged, Does, may_do_nothing}
use Rattle.hippo_engine.proofs.CarryingLemmas.{AddsNothing-quiet}
use Rattle.hippo_engine.proofs.QuietLemmas.{quiet_short}
use Rattle.hippo_engine_rules.proofs.ShortLemmas.{done_for}

-- the world with another watch at a number, as the definitions see it
world_with : (held : HeldWorld) (number : ℕ) (watch : Option AuditHits) (new : HeldWorld) → new ≡ record held { watches = with_at held.watches number watch }
    → world_of new ≡ record (world_of held) { watches = with_at (world_of held).watches number (option_map watched watch) }
world_with held number watch new is =
    ap world_of is ∙ ap (λ (list : List (Option Audit)). record (world_of held) { watches = list }) (seen-with watched held.watches number watch)

-- a watch is set at a number, or ended
module _ (command : Command) (deed : Deed) (number : ℕ) (held : Option AuditHits) (old new : Engine) (same : new.state ≡ old.state) (does : IsJudged command old.state (world_of old.world) (Ok deed)) where
  pub puts_watch : new.world ≡ record old.world { watches = with_at old.world.watches number held }
      → ((history : History) → Represents old.state history → IfSome held (IsWatchOf history))
      → ((history : History) → shown_effect new ≡ deed_effect history (world_of old.world) deed) → AddsNothing command old new
  puts_watch world_is fits shows = record {
    same = same;
    effect = λ history stands. inl (shows history ∙ sym (done_for history (world_of old.world) command deed (does history stands)));
    jobs = λ history stands fit. subst (λ (world : HeldWorld). JobsFit history world) (sym world_is) fit;
    watches = λ history stands fit. subst (λ (world : HeldWorld). WatchesFit history world) (sym world_is)
        (all_with (IsWatchOf history) old.world.watches number held fit (fits history stands));
    counts = λ versions steps. none_taken refl (ap tallies_of world_is);
  }

pub sets_watch : (command : Command) (number : ℕ) (audit : Audit) (watch : AuditHits) (old new : Engine) → Does command (kinds.Watch number audit) old.state (world_of old.world) → new.state ≡ old.state
    → watch.audit ≡ audit → ((history : History) → TablesStandFor old.state.tables history → AreHits history audit watch.hits)
    → new.world ≡ record old.world { watches = with_at old.world.watches number (Some watch) } → new.reply ≡ number_line 0 (codes "watch") number → AddsNothing command old new
sets_watch command number audit watch old new does same is counted world_is said =
    puts_watch command (deeds.watch number audit) number (Some watch) old new same does.2 world_is
    (λ history stands. record {
      audit_is = subst (IsAuditOf history) (sym is) (does.1.fits history stands);
      hits_are = subst (λ (a : Audit). AreHits history a watch.hits) (sym is) (counted history stands.tables);
    })
    (λ history. λ i. only_reply ((world_with old.world number (Some watch) new.world world_is
    ∙ ap (λ (a : Audit). record (world_of old.world) { watches = with_at (world_of old.world).watches number (Some a) }) is) i) (said i))

-- or memory ran out
pub watch_short : (command : Command) (number : ℕ) (audit : Audit) (old new : Engine) → Does command (kinds.Watch number audit) old.state (world_of old.world) → new.state ≡ old.state
    → new.world ≡ old.world → new.reply ≡ refusal_line Console Memory → AddsNothing command old new
watch_short command number audit old new ((written, text, is), means, does) same world_is said =
    AddsNothing-quiet command old new (quiet_short command Console old new (ap who_commands is) (ap may_do_nothing is) same world_is said)

pub ends_watch : (command : Command) (number : ℕ) (old new : Engine) → Does command (kinds.EndWatch number) old.state (world_of old.world) → new.state ≡ old.state
    → new.world ≡ record old.world { watches = with_at old.world.watches number None } → new.reply ≡ done_line Console → AddsNothing command old new
ends_watch command number old new does same world_is said =
    puts_watch command (deeds.end_watch number) number None old new same does world_is (λ history stands. tt)
    (λ history. λ i. only_reply (world_with old.world number None new.world world_is i) (said i))
