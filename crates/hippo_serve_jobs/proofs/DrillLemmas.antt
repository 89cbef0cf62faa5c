-- A drill with one more line.
use Rattle.std.proofs.Common.{◌≡◌, ◌≢◌, ℕ, List, [], ◌∷◌, ◌++◌, map, true, inl, inr, Result, Ok, Err, OnOk, refl, ap, sym, subst, ◌∙◌, append_assoc}
use Rattle.hippo_values.specs.declared.moments.Moment.{Moment}
use Rattle.hippo_values.specs.Texts.{Txt}
use Rattle.hippo_values.specs.declared.memory.Memory.{Memory as Want}
use Rattle.hippo_drill.specs.Script.{script}
use Rattle.hippo_drill.specs.Tallies.{counts_of}
use Rattle.hippo_io.specs.Lines.{text_line}
use Rattle.hippo_model.specs.Terms.{History}
use Rattle.hippo_keeper.specs.Keeping.{KeeperState, IsReady}
use Rattle.hippo_keeper.specs.MemoryKeeping.{MemoryStore, memory_keeper_state}
use Rattle.hippo_report.specs.declared.speaker.Speaker.{Speaker}
use Rattle.hippo_report.specs.declared.format.Format.TheVariants.{Text}
use Rattle.hippo_report.specs.declared.refusal.Refusal.TheVariants.{Memory}
use Rattle.hippo_report.specs.Refusals.{refusal_line}
use Rattle.hippo_replay.specs.Standing.{latest_moment, Represents}
use Rattle.hippo_engine_sessions.specs.Worlds.{World, opening}
use Rattle.hippo_engine_world.specs.Holding.{world_of}
use Rattle.hippo_stmt_lines.specs.Commands.{Command, command_of, who_commands}
use Rattle.hippo_engine.specs.declared.engine.Engine.{Engine}
use Rattle.hippo_engine.specs.Carrying.{Holds, AtWork, Carries, HasEffect}
use Rattle.hippo_engine.proofs.CarryingLemmas.{IsTimely-begun, Holds-opening}
use Rattle.hippo_engine_checks.specs.Checks.{Checked}
use Rattle.hippo_engine_checks.specs.Deeds as deeds
use Rattle.hippo_engine_checks.specs.Deeds.{Deed}
use Rattle.hippo_engine_rules.specs.Effects.{Effect, effect_of, IsEffect, IsOutOfMemory}
use Rattle.hippo_engine_checks.specs.Judging.{judged}
use Rattle.hippo_engine_rules.specs.Runs.{history_after}
use Rattle.hippo_serve_jobs.specs.declared.drilling.Drilling.{Drilling}
use Rattle.hippo_serve_jobs.specs.Drilling.{drill_limit, effects_of, drill_effects, replies_of, HasDone, HasDrilled}
use Rattle.hippo_engine_rules.proofs.RunLemmas.{history_after-append}

-- when memory runs out, the effect's reply says so
short_reply : (history : History) (world : World) (reply : Txt) (judgement : Checked Deed) (effect : Effect)
    → IsOutOfMemory history world reply judgement effect → effect.reply ≡ reply
short_reply history world reply (Ok deeds.do_nothing) effect short = ap (λ (e : Effect). e.reply) short
short_reply history world reply (Ok (deeds.set_clock moment)) effect short = ap (λ (e : Effect). e.reply) short
short_reply history world reply (Ok (deeds.log_in number user pair)) effect short = ap (λ (e : Effect). e.reply) short
short_reply history world reply (Ok (deeds.log_out number)) effect short = ap (λ (e : Effect). e.reply) short
short_reply history world reply (Ok (deeds.hand_out number session at cursor count)) effect short = ap (λ (e : Effect). e.reply) short
short_reply history world reply (Ok (deeds.close_cursor number session at)) effect short = ap (λ (e : Effect). e.reply) short
short_reply history world reply (Ok (deeds.step_job number job count)) effect short = ap (λ (e : Effect). e.reply) short.is
short_reply history world reply (Ok (deeds.drop_job number)) effect short = ap (λ (e : Effect). e.reply) short
short_reply history world reply (Ok (deeds.end_watch number)) effect short = ap (λ (e : Effect). e.reply) short
short_reply history world reply (Ok (deeds.change act)) effect short = ap (λ (e : Effect). e.reply) short
short_reply history world reply (Ok (deeds.answer_question question)) effect short = short.said
short_reply history world reply (Ok (deeds.open_cursor session number question)) effect short = short.said
short_reply history world reply (Ok (deeds.extract question)) effect short = short.said
short_reply history world reply (Ok (deeds.explain entry)) effect short = ap (λ (e : Effect). e.reply) short
short_reply history world reply (Ok (deeds.audit audit)) effect short = ap (λ (e : Effect). e.reply) short
short_reply history world reply (Ok (deeds.begin_audit number audit)) effect short = ap (λ (e : Effect). e.reply) short
short_reply history world reply (Ok (deeds.watch number audit)) effect short = ap (λ (e : Effect). e.reply) short
short_reply history world reply (Err refusal) effect short = ap (λ (e : Effect). e.reply) short

-- if the reply does not say that memory ran out, the effect is the one under the rules
ample : (history : History) (world : World) (command : Command) (effect : Effect)
    → IsEffect history world command effect → ((who : Speaker) → effect.reply ≢ refusal_line who Memory)
    → effect ≡ effect_of history world command
ample history world command effect (inl same) answered = same
ample history world command effect (inr short) answered =
    absurd (answered (who_commands command)
    (short_reply history world (refusal_line (who_commands command) Memory) (judged history world command) effect short.1))

carried : (command : Command) (old new : Engine) (before after : KeeperState) (steps steps' : ℕ)
    → Carries {A = Unit {0}} command (Ok tt) old new before after steps steps' → after.tells
    → ((who : Speaker) → new.reply ≢ refusal_line who Memory)
    → (history : History) → Holds history old before
    → HasDone history (effect_of history (world_of old.world) command) new after
carried command old new before after steps steps' carries tells answered history holds =
    let has : HasEffect history command old new before after steps steps' = carries.carried refl tells history holds in
    subst (λ (effect : Effect). HasDone history effect new after)
    (ample history (world_of old.world) command has.effect has.is (λ who is. answered who (has.reply ∙ is)))
    (record { reply = has.reply; world = has.world; holds = has.holds })

-- a line was carried out, and its reply is accepted
pub accepted : (result : Result (Unit {0}) Want) (reply : Txt) (command : Command) (old new : Engine) (before after : KeeperState) (steps steps' : ℕ)
    → OnOk result ((who : Speaker) → reply ≢ refusal_line who Memory) → reply ≡ new.reply
    → Carries {A = Unit {0}} command (Ok tt) old new before after steps steps' → after.tells
    → OnOk result ((history : History) → Holds history old before → HasDone history (effect_of history (world_of old.world) command) new after)
accepted (Ok done) reply command old new before after steps steps' answered shown carries tells =
    carried command old new before after steps steps' carries tells (λ who is. answered who (shown ∙ is))
accepted (Err want) reply command old new before after steps steps' answered shown carries tells = tt

map-last : {A B : Type 0} (f : A → B) (front : List A) (last : A) → map f (front ++ last ∷ []) ≡ map f front ++ f last ∷ []
map-last f [] last = refl
map-last f (first ∷ front) last = ap (λ rest. f first ∷ rest) (map-last f front last)

-- no line has had its effect yet
pub drilled_none : (size number : ℕ) (drilling : Drilling) → drilling.left ≡ script size number
    → world_of drilling.engine.world ≡ opening (latest_moment []) drill_limit Text
    → Represents drilling.engine.state [] → drilling.keeper.kept ≡ [] → drilling.counts ≡ counts_of [] → HasDrilled size number drilling
drilled_none size number drilling left world stands kept counts = record {
  effects = [];
  order =
      ap (λ (w : World). effects_of [] w (map text_line (script size number))) (sym world)
      ∙ ap (λ (lines : List Txt). effects_of [] (world_of drilling.engine.world) (map text_line lines)) (sym left);
  holds = Holds-opening [] drilling.engine.state drilling.engine (memory_keeper_state drilling.keeper) (latest_moment []) drill_limit Text refl stands (sym kept) world;
  counted = counts;
}

pub at_work_none : (engine : Engine) (keeper : MemoryStore) → Represents engine.state [] → keeper.kept ≡ []
    → world_of engine.world ≡ opening (latest_moment []) drill_limit Text → IsReady true (memory_keeper_state keeper) → AtWork engine (memory_keeper_state keeper)
at_work_none engine keeper stands kept world ready = record {
  sound = record { history = []; stands = stands };
  timely = IsTimely-begun engine drill_limit Text (world ∙ ap (λ (moment : Moment). opening moment drill_limit Text) (sym stands.last));
  ready = ready;
  told = λ tells. ([], Holds-opening [] engine.state engine (memory_keeper_state keeper) (latest_moment []) drill_limit Text refl stands (sym kept) world);
}

-- the next line has had its effect, and its reply is counted
module _ (size number : ℕ) (old new : Drilling) (line said reply : Txt) (drilled : HasDrilled size number old)
    (left : old.left ≡ line ∷ new.left) (says : said ≡ line) (shown : reply ≡ new.engine.reply)
    (does : (history : History) → Holds history old.engine (memory_keeper_state old.keeper)
    → HasDone history (effect_of history (world_of old.engine.world) (command_of (text_line said))) new.engine (memory_keeper_state new.keeper))
    (counts : (replies : List Txt) → old.counts ≡ counts_of replies → new.counts ≡ counts_of (replies ++ reply ∷ [])) where
  abbrev here : History
  here = history_after [] drilled.effects

  abbrev effect : Effect
  effect = effect_of here (world_of old.engine.world) (command_of (text_line said))

  abbrev done : HasDone here effect new.engine (memory_keeper_state new.keeper)
  done = does here drilled.holds

  abbrev all : List Effect
  all = drilled.effects ++ effect ∷ []

  abbrev remaining : History → World → List Effect
  remaining h w = effects_of h w (map text_line new.left)

  longer : history_after [] all ≡ here ++ effect.added
  longer = history_after-append [] drilled.effects effect

  ordered : drill_effects size number ≡ all ++ remaining (history_after [] all) (world_of new.engine.world)
  ordered =
      drilled.order
      ∙ (ap (λ (lines : List Txt). drilled.effects ++ effects_of here (world_of old.engine.world) (map text_line lines)) left
      ∙ (ap (λ (text : Txt). drilled.effects ++ effects_of here (world_of old.engine.world) (text_line text ∷ map text_line new.left)) (sym says)
      ∙ (sym (append_assoc drilled.effects (effect ∷ []) (remaining (here ++ effect.added) effect.world))
      ∙ (ap (λ (h : History). all ++ remaining h effect.world) (sym longer)
      ∙ ap (λ (w : World). all ++ remaining (history_after [] all) w) (sym done.world)))))

  pub drilled_more : HasDrilled size number new
  drilled_more = record {
    effects = all;
    order = ordered;
    holds = subst (λ (h : History). Holds h new.engine (memory_keeper_state new.keeper)) (sym longer) done.holds;
    counted = counts (replies_of drilled.effects) drilled.counted
        ∙ ap counts_of (ap (λ (text : Txt). replies_of drilled.effects ++ text ∷ []) (shown ∙ done.reply)
        ∙ sym (map-last (λ (e : Effect). e.reply) drilled.effects effect));
  }
