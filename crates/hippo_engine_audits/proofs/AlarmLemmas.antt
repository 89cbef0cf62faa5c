-- From the alarm of each watch for a question to the alarms of all watches.
use Rattle.std.proofs.Common.{◌≡◌, ◌∙◌, sym, ap, refl, arith, ℕ, ◌+◌, ◌-◌, false, List, [], ◌∷◌, ◌++◌, map, length, take, drop, Option, None, Some, Result, Ok, Err, append-nil}
use Rattle.std.specs.Prelude.{OnOk, is_some, option_map, option_and_then}
use Rattle.std.specs.List.{list_any}
use Rattle.std.specs.Option.{option_map_or}
use Rattle.std.proofs.lemmas.Bool.{false≢true}
use Rattle.std.proofs.lemmas.List.{take_all}
use Rattle.std.proofs.lemmas.Result.{on_ok_weaker}
use Rattle.hippo_values.specs.Texts.{Txt}
use Rattle.hippo_values.specs.declared.memory.Memory.{Memory as NoMemory}
use Rattle.hippo_model.specs.declared.audit.Audit.{Audit}
use Rattle.hippo_model.specs.declared.audit.SharedRow.{SharedRow}
use Rattle.hippo_model.specs.declared.entry.Entry.{Entry}
use Rattle.hippo_model.specs.declared.query.Query.{Query}
use Rattle.hippo_model.specs.Audits.{shared_tuple, shared_by}
use Rattle.hippo_model.specs.Terms.{History}
use Rattle.hippo_model.specs.Verdicts.{Context}
use Rattle.hippo_typing_catalog.specs.Catalogs.{KnownNames}
use Rattle.hippo_typing.specs.Meanings.{meaning_in, meaning}
use Rattle.hippo_watch.specs.declared.alarms.AskedNow.{AskedNow}
use Rattle.hippo_watch_counts.specs.declared.counts.AuditHits.{AuditHits}
use Rattle.hippo_watch.specs.Alarms.{IsPresentOf, asked_next, IsAskedNext}
use Rattle.hippo_watch.specs.Watches.{SharesWatched}
use Rattle.hippo_report_flags.specs.AlarmLines.{alarm_text}
use Rattle.hippo_replay.specs.declared.state.State.{State}
use Rattle.hippo_replay.specs.Standing.{Represents}
use Rattle.hippo_engine_world.specs.declared.worlds.World.{World as HeldWorld}
use Rattle.hippo_engine_sessions.specs.Worlds.{World}
use Rattle.hippo_engine_world.specs.Holding.{world_of, WatchesFit}
use Rattle.hippo_engine_world.specs.Auditing.{watched, AreWatching}
use Rattle.hippo_engine_checks.specs.Deeds.{Question, question_act, next_entry}
use Rattle.hippo_engine_rules.specs.Effects.{alarms_from}
use Rattle.hippo_engine_audits.specs.Watching.{AddsAlarm, AddsAlarms, alarms_now}

-- ---- one watch
abbrev Said : Type 0
Said = Result (Unit {0}) NoMemory

module _ (asked : AskedNow) where
  -- what it shares with the question is in the alarm
  alarm_added : (number : ℕ) (watch : AuditHits) (old new : Txt) (found : Option (List SharedRow)) → SharesWatched asked watch found
      → new ≡ old ++ option_map_or (alarm_text number (asked.past.count + 1)) found [] → AddsAlarm asked number (Some watch) old new
  alarm_added number watch old new found shares is = λ history entry next fits.
      let seq : asked.past.count + 1 ≡ entry.seq = ap (λ (n : ℕ). n + 1) next.present.past_is.count ∙ sym (ap (λ (e : Entry). e.seq) next.is) in
      is ∙ (λ i. old ++ option_map_or (alarm_text number (seq i)) (shares history entry next fits i) [])

  pub alarm_printed : (number : ℕ) (watch : AuditHits) (old new : Txt) (found : Option (List SharedRow)) (result : Said) → SharesWatched asked watch found
      → OnOk result (new ≡ old ++ option_map_or (alarm_text number (asked.past.count + 1)) found []) → OnOk result (AddsAlarm asked number (Some watch) old new)
  alarm_printed number watch old new found result shares printed =
      on_ok_weaker result (alarm_added number watch old new found shares) printed

  pub nobody_added : (number : ℕ) (old : Txt) → AddsAlarm asked number None old old
  nobody_added number old = λ history entry next fits. sym (append-nil old)

  -- ---- all watches, one after the other
  abbrev pub SoFar : List (Option AuditHits) → ℕ → Txt → Txt → Type 0
  SoFar watches place first now =
      (history : History) (entry : Entry) → IsAskedNext asked history entry → AreWatching history watches
      → now ++ alarms_from history entry (place + 1) (map (option_map watched) (drop place watches)) ≡ first ++ alarms_from history entry 1 (map (option_map watched) watches)

-- ---- all watches of a world
-- the meaning of a text by the names of a state is its meaning after the history
pub means_then : (held : State) (history : History) (text : Txt) (found : Option Query) → Represents held history → found ≡ meaning_in held.catalog.names text → meaning history text ≡ found
means_then held history text found stands is = sym (is ∙ ap (λ (known : KnownNames). meaning_in known text) stands.names)

abbrev AddsNow : AskedNow → State → HeldWorld → Txt → Txt → Type 0
AddsNow asked kept held old new =
    (history : History) (question : Question) → Represents kept history → WatchesFit history held → question.pair ≡ asked.pair.now → meaning history question.text ≡ Some asked.query.now
    → new ≡ old ++ alarms_now history (world_of held) question

-- the past and the tables of the question are those of a state
abbrev IsPresent : AskedNow → State → Type 0
IsPresent asked kept = (history : History) → Represents kept history → IsPresentOf asked.past asked.tables.now history

adds_now : (asked : AskedNow) (kept : State) (held : HeldWorld) (old new : Txt) → IsPresent asked kept → asked.moment ≡ held.clock
    → AddsAlarms asked held.watches old new → AddsNow asked kept held old new
adds_now asked kept held old new present clock adds history question stands fit same means =
    adds history (next_entry history (world_of held) (question_act question))
    (record {
      present = present history stands;
      user = question.user;
      text = question.text;
      means = means;
      is = λ i. asked_next history (sym clock i) question.user (same i) question.text;
    })
    fit

pub printed_now : (asked : AskedNow) (kept : State) (held : HeldWorld) (old new : Txt) (result : Said) → IsPresent asked kept → asked.moment ≡ held.clock
    → OnOk result (AddsAlarms asked held.watches old new) → OnOk result (AddsNow asked kept held old new)
printed_now asked kept held old new (Ok all) present clock adds = adds_now asked kept held old new present clock adds
printed_now asked kept held old new (Err fault) present clock adds = tt

front_is : (history : History) → take (length history + 1 - 1) history ≡ history
front_is history = take_all (length history + 1 - 1) history (omega arith)

-- a text without a meaning shares nothing
unmeant : (history : History) (world : World) (question : Question) (audit : Audit) → meaning history question.text ≡ None → shared_tuple meaning history audit (next_entry history world (question_act question)) ≡ None
unmeant history world question audit none =
    let context : Context = record { purpose = question.pair.purpose; recipient = question.pair.recipient; moment = world.clock } in
    ap (λ (h : History). option_and_then (λ q. shared_by h context q audit) (meaning h question.text)) (front_is history)
    ∙ ap (option_and_then (λ q. shared_by history context q audit)) none

none_from : (history : History) (world : World) (question : Question) → meaning history question.text ≡ None → (number : ℕ) (watches : List (Option Audit))
    → alarms_from history (next_entry history world (question_act question)) number watches ≡ []
none_from history world question none number [] = refl
none_from history world question none number (None ∷ rest) = none_from history world question none (number + 1) rest
none_from history world question none number (Some audit ∷ rest) =
    let entry : Entry = next_entry history world (question_act question) in
    (λ i. option_map_or (alarm_text number entry.seq) (unmeant history world question audit none i) [] ++ alarms_from history entry (number + 1) rest)
    ∙ none_from history world question none (number + 1) rest

pub none_now : (history : History) (held : HeldWorld) (question : Question) (old : Txt) → meaning history question.text ≡ None → old ≡ old ++ alarms_now history (world_of held) question
none_now history held question old none =
    sym (append-nil old) ∙ ap (λ (text : Txt). old ++ text) (sym (none_from history (world_of held) question none 1 (world_of held).watches))

-- there is no watch
unwatched : (history : History) (entry : Entry) (number : ℕ) (watches : List (Option AuditHits)) → list_any is_some watches ≡ false → alarms_from history entry number (map (option_map watched) watches) ≡ []
unwatched history entry number [] none = refl
unwatched history entry number (None ∷ rest) none = unwatched history entry (number + 1) rest none
unwatched history entry number (Some watch ∷ rest) none = absurd (false≢true (sym none))

pub nobody_now : (history : History) (held : HeldWorld) (question : Question) (old : Txt) → list_any is_some held.watches ≡ false → old ≡ old ++ alarms_now history (world_of held) question
nobody_now history held question old none =
    sym (append-nil old) ∙ ap (λ (text : Txt). old ++ text) (sym (unwatched history (next_entry history (world_of held) (question_act question)) 1 held.watches none))
