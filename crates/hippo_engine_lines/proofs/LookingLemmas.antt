-- From a command that reads the store and adds nothing to what carrying it out does.
use Rattle.std.proofs.Common.{◌≡◌, ◌≢◌, ◌∙◌, ℕ, ℤ, refl, sym, subst, inr, [], Result, Err, true, false}
use Rattle.std.proofs.lemmas.Bool.{false≢true}
use Rattle.hippo_model.specs.Terms.{History}
use Rattle.hippo_model.specs.Versions.{versions}
use Rattle.hippo_keeper.specs.Keeping.{KeeperState, IsAfterCall, KeepsSame}
use Rattle.hippo_replay.specs.declared.state.State.{State}
use Rattle.hippo_replay.specs.Standing.{Represents, IsSound}
use Rattle.hippo_report.specs.declared.refusal.Refusal.{Refusal}
use Rattle.hippo_report.specs.declared.refusal.Refusal.TheVariants.{NoSuchQuery}
use Rattle.hippo_engine_world.specs.Holding.{world_of, JobsFit, WatchesFit, tallies_of}
use Rattle.hippo_stmt_lines.specs.Commands.{Command}
use Rattle.hippo_engine.specs.declared.engine.Engine.{Engine}
use Rattle.hippo_engine_rules.specs.declared.faults.EngineFault.{EngineFault}
use Rattle.hippo_engine_rules.specs.declared.faults.EngineFault.TheVariants.{Damaged}
use Rattle.hippo_engine_checks.specs.Judging.{judged}
use Rattle.hippo_engine_rules.specs.Effects.{effect_of, IsEffect}
use Rattle.hippo_engine_rules.specs.Ledgers.{reads_kept, Tallies}
use Rattle.hippo_engine.specs.Carrying.{Holds, AtWork, line_as_call, is_carried, shown_effect, Carries}
use Rattle.hippo_engine.proofs.CarryingLemmas.{Holds-same, IsTimely-same}

-- what a command did that reads the store of a history
pub record HasLooked (history : History) (command : Command) (result : Result (Unit {0}) EngineFault) (old new : Engine) (steps steps' : ℕ) : Type 0 where
  pub effect : is_carried result ≡ true → IsEffect history (world_of old.world) command (shown_effect new)
  pub jobs : JobsFit history new.world
  pub watches : WatchesFit history new.world
  pub counts : is_carried result ≡ true → Tallies command new.reply (versions history) steps steps' (tallies_of old.world) (tallies_of new.world)
  pub refused : (refusal : Refusal) → judged history (world_of old.world) command ≡ Err refusal → ((number : ℤ) → refusal ≢ NoSuchQuery number) → steps' ≡ steps
  pub adds : (effect_of history (world_of old.world) command).added ≡ []
  pub undamaged : (number : ℕ) → result ≢ Err (Damaged number)

pub Carries-looked : (command : Command) (result : Result (Unit {0}) EngineFault) (old new : Engine) (before after : KeeperState) (steps steps' : ℕ) → reads_kept command ≡ true → AtWork old before
    → new.state ≡ old.state → new.world.clock ≡ old.world.clock → IsAfterCall true false (line_as_call result) before after → (after.tells → KeepsSame before after)
    → (after.tells → (history : History) → Holds history old before → HasLooked history command result old new steps steps')
    → Carries command result old new before after steps steps'
Carries-looked command result old new before after steps steps' reads at_work same clock call stays told = record {
  call = call;
  sound = λ fine. subst IsSound (sym same) at_work.sound;
  timely = λ fine. IsTimely-same old new same clock at_work.timely;
  idle = λ none. absurd (false≢true (sym none ∙ reads));
  carried = λ fine tells history holds.
      let looked = told tells history holds in
      let keeps = stays tells in
      record {
        effect = shown_effect new;
        is = looked.effect fine;
        reply = refl;
        world = refl;
        holds = Holds-same history old new before after holds (subst (λ (held : State). Represents held history) (sym same) holds.stands) looked.jobs looked.watches keeps;
        kept = keeps;
        counts = looked.counts fine;
        refused = looked.refused;
      };
  failed = λ fails tells history holds.
      let looked = told tells history holds in
      inr (record { reads = reads; adds = looked.adds; kept = stays tells });
  undamaged = λ tells history holds. (told tells history holds).undamaged;
}
