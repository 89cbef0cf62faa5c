-- The alarms of watches for a question that is asked now.
use Rattle.std.specs.Prelude.{◌≡◌, ℕ, List, [], ◌++◌, map, Option, IfSome, option_map}
use Rattle.std.specs.Option.{option_map_or}
use Rattle.hippo_values.specs.Texts.{Txt}
use Rattle.hippo_model.specs.declared.entry.Entry.{Entry}
use Rattle.hippo_model.specs.Terms.{History}
use Rattle.hippo_watch_counts.specs.declared.counts.AuditHits.{AuditHits}
use Rattle.hippo_watch.specs.declared.alarms.AskedNow.{AskedNow}
use Rattle.hippo_watch.specs.Alarms.{IsAskedNext}
use Rattle.hippo_watch.specs.Watches.{IsWatchOf}
use Rattle.hippo_engine_sessions.specs.Worlds.{World}
use Rattle.hippo_engine_world.specs.Auditing.{watched, AreWatching}
use Rattle.hippo_engine_checks.specs.Deeds.{Question, question_act, next_entry}
use Rattle.hippo_engine_rules.specs.Effects.{alarm_line, alarms_from, alarms}

-- the alarm of the watch at a number, if there is one, is appended to a text
abbrev pub AddsAlarm : AskedNow → ℕ → Option AuditHits → Txt → Txt → Type 0
AddsAlarm asked number held old new =
    (history : History) (entry : Entry) → IsAskedNext asked history entry
    → IfSome held (IsWatchOf history)
    → new ≡ old ++ option_map_or (alarm_line history entry number) (option_map watched held) []

-- the alarms of all watches are appended
abbrev pub AddsAlarms : AskedNow → List (Option AuditHits) → Txt → Txt → Type 0
AddsAlarms asked watches old new =
    (history : History) (entry : Entry) → IsAskedNext asked history entry
    → AreWatching history watches → new ≡ old
    ++ alarms_from history entry 1 (map (option_map watched) watches)

-- the alarms of a world's watches for a question that is asked in it
abbrev pub alarms_now : History → World → Question → Txt
alarms_now history world question =
    alarms history world (next_entry history world (question_act question))
