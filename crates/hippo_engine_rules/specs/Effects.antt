-- The effect of a line: its reply, the entries that it adds, and the world after it.
use Rattle.std.specs.Prelude.{◌≡◌, ◌⊎◌, ◌≤◌, ℕ, ◌+◌, true, nat_lt, List, [], ◌∷◌, ◌++◌, flat_map, length, Option, Some, None, Ok, Err, if◌then◌else◌, codes}
use Rattle.std.specs.List.{enumerate_from}
use Rattle.std.specs.Option.{option_map_or}
use Rattle.hippo_values.specs.Texts.{Txt}
use Rattle.hippo_model.specs.declared.audit.Audit.{Audit}
use Rattle.hippo_model.specs.declared.audit.Flag.{Flag}
use Rattle.hippo_model.specs.declared.entry.Entry.{Entry}
use Rattle.hippo_model.specs.Terms.{History, ShownRow}
use Rattle.hippo_model.specs.Verdicts.{Context}
use Rattle.hippo_model.specs.Answers.{answer}
use Rattle.hippo_model.specs.Audits.{shared_tuple, flags_between}
use Rattle.hippo_model.specs.Denials.{Denial, denials}
use Rattle.hippo_typing.specs.Meanings.{meaning}
use Rattle.hippo_report.specs.declared.speaker.Speaker.{Speaker}
use Rattle.hippo_report.specs.declared.speaker.Speaker.TheVariants.{Nobody, Console}
use Rattle.hippo_report.specs.declared.speaker.Speaker.TheVariants as speaker
use Rattle.hippo_report.specs.declared.refusal.Refusal.TheVariants.{TooManyRows, Memory}
use Rattle.hippo_csv.specs.Records.{extract_line}
use Rattle.hippo_report.specs.Cells.{answer_line, denied_line}
use Rattle.hippo_report_flags.specs.Flags.{flag_line}
use Rattle.hippo_report_flags.specs.AlarmLines.{alarm_text}
use Rattle.hippo_report.specs.Notices.{done_line, number_line}
use Rattle.hippo_report.specs.Refusals.{refusal_line}
use Rattle.hippo_engine_sessions.specs.declared.cursors.Cursor.{Cursor}
use Rattle.hippo_engine_sessions.specs.declared.sessions.Session.{Session}
use Rattle.hippo_audit_job.specs.Jobs.{OpenAudit, step_end}
use Rattle.hippo_engine_sessions.specs.Worlds.{World, with_at, with_session, with_cursor, new_session, new_cursor, rows_next, moved_on}
use Rattle.hippo_stmt_lines.specs.Commands.{Command, who_commands, takes_memory}
use Rattle.hippo_engine_checks.specs.Deeds.{Deed, Question, question_act, next_entry}
use Rattle.hippo_engine_checks.specs.Deeds as deeds
use Rattle.hippo_engine_checks.specs.Checks.{Checked}
use Rattle.hippo_engine_checks.specs.Judging.{judged}

-- the effect of a line: its reply, the entries that it adds to the history, and the world after it
pub record Effect : Type 0 where
  pub reply : Txt
  pub added : List Entry
  pub world : World

-- the most rows of an answer, and the most denied cells of a list
abbrev pub row_limit : ℕ
row_limit = 100000

-- the effect of a reply, without any change
abbrev pub only_reply : World → Txt → Effect
only_reply world reply = record { reply = reply; added = []; world = world }

-- a line for each member, then the number of members
abbrev pub lines_and_count : {A : Type 0} → ℕ → (A → Txt) → List A → Txt
lines_and_count number line members =
    flat_map line members ++ number_line number (codes "end") (length members)

-- the answer to a question, as of now
abbrev pub question_rows : History → World → Question → List ShownRow
question_rows history world question =
    let context : Context =
    record {
      purpose = question.pair.purpose;
      recipient = question.pair.recipient;
      moment = world.clock;
    } in
    answer history context question.query

-- a reply with the rows, or a refusal if there are more than `row_limit`
abbrev pub within_limit : ℕ → List ShownRow → Txt → Txt
within_limit number rows reply =
    if nat_lt row_limit (length rows) then refusal_line (speaker.Session number) TooManyRows
    else reply

-- the alarm of a watch for an entry, if its audit flags the entry
abbrev pub alarm_line : History → Entry → ℕ → Audit → Txt
alarm_line history entry number audit =
    option_map_or (alarm_text number entry.seq) (shared_tuple meaning history audit entry) []

-- the alarms for an entry of watches that are numbered from here on
abbrev pub alarms_from : History → Entry → ℕ → List (Option Audit) → Txt
alarms_from history entry number watches =
    flat_map (λ (at, held). option_map_or (alarm_line history entry at) held [])
    (enumerate_from number watches)

-- the lines of all watches' alarms for an entry, in the order of the watches' numbers
abbrev pub alarms : History → World → Entry → Txt
alarms history world entry = alarms_from history entry 1 world.watches

-- the question is logged, and its reply is followed by the watches' alarms for it
abbrev pub question_effect : History → World → Question → Txt → World → Effect
question_effect history world question reply after =
    let entry : Entry = next_entry history world (question_act question) in
    record { reply = reply ++ alarms history world entry; added = entry ∷ []; world = after }

-- the effect of a question whose reply has a line for each row of the answer
abbrev pub answer_effect : History → World → Question → (ℕ → ShownRow → Txt) → Effect
answer_effect history world question line =
    let number : ℕ = question.session in
    let rows : List ShownRow = question_rows history world question in
    question_effect history world question
    (within_limit number rows (lines_and_count number (line number) rows)) world

-- the world with a cursor that keeps the answer, before its first row; unchanged if there are too
-- many rows
abbrev pub world_with_cursor : World → Session → ℕ → Question → List ShownRow → World
world_with_cursor world session number question rows =
    if nat_lt row_limit (length rows) then world
    else with_session world question.session
    (Some (with_cursor session number (Some (new_cursor rows))))

abbrev pub open_effect : History → World → Session → ℕ → Question → Effect
open_effect history world session number question =
    let rows : List ShownRow = question_rows history world question in
    let said : Txt = number_line question.session (codes "cursor") number in
    question_effect history world question (within_limit question.session rows said)
    (world_with_cursor world session number question rows)

-- the number of rows that were fetched, if there are more; otherwise the number of all rows
abbrev pub handed_line : ℕ → Cursor → Txt
handed_line number cursor =
    if nat_lt cursor.given (length cursor.answer)
    then number_line number (codes "part") cursor.given
    else number_line number (codes "end") (length cursor.answer)

abbrev pub fetch_effect : World → ℕ → Session → ℕ → Cursor → ℕ → Effect
fetch_effect world number session at cursor count = record {
  reply = flat_map (answer_line number) (rows_next cursor count)
      ++ handed_line number (moved_on cursor count);
  added = [];
  world = with_session world number (Some (with_cursor session at (Some (moved_on cursor count))));
}

abbrev pub flag_lines : World → List Flag → Txt
flag_lines world flags = flat_map (flag_line world.format) flags

-- the reply has all flags of the history, then their number
abbrev pub audit_effect : History → World → Audit → Effect
audit_effect history world audit =
    only_reply world (lines_and_count 0 (flag_line world.format)
    (flags_between meaning history audit 0 (length history)))

-- a job that has looked at the entries up to a number, with these waiting flags
abbrev pub job_up_to : OpenAudit → ℕ → List Flag → OpenAudit
job_up_to job upto waiting = record job { place = upto; waiting = waiting }

-- the number that the job has looked up to, if more entries are left; otherwise the number of its
-- flags
abbrev pub step_line : History → OpenAudit → ℕ → Txt
step_line history job upto =
    if nat_lt upto job.length then number_line 0 (codes "part") upto
    else number_line 0 (codes "end") (length (flags_between meaning history job.audit 0 job.length))

-- the flags that a step writes: those that wait, then those that it finds
abbrev pub step_flags : History → OpenAudit → ℕ → List Flag
step_flags history job upto = job.waiting ++ flags_between meaning history job.audit job.place upto

abbrev pub with_job : World → ℕ → Option OpenAudit → World
with_job world number job = record world { jobs = with_at world.jobs number job }

abbrev pub with_watch : World → ℕ → Option Audit → World
with_watch world number audit = record world { watches = with_at world.watches number audit }

abbrev pub job_step_effect : History → World → ℕ → OpenAudit → ℕ → Effect
job_step_effect history world number job count =
    let upto : ℕ = step_end job count in
    record {
      reply = flag_lines world (step_flags history job upto) ++ step_line history job upto;
      added = [];
      world = with_job world number (Some (job_up_to job upto []));
    }

-- the line of a cell that was denied to a question at the question's time
abbrev pub denial_line : Denial → Txt
denial_line denial = denied_line denial.table denial.key denial.column denial.rule

abbrev pub explain_effect : History → World → Entry → Effect
explain_effect history world entry =
    let cells : List Denial = denials meaning history entry in
    only_reply world
    (if nat_lt row_limit (length cells) then refusal_line Console TooManyRows
    else lines_and_count 0 denial_line cells)

-- a job at its beginning
abbrev pub new_open_audit : History → Audit → OpenAudit
new_open_audit history audit =
    record { audit = audit; length = length history; place = 0; waiting = [] }

-- the effect of a deed
abbrev pub deed_effect : History → World → Deed → Effect
deed_effect history world deeds.do_nothing = only_reply world []
deed_effect history world (deeds.set_clock moment) =
    only_reply (record world { clock = moment }) (done_line Nobody)
deed_effect history world (deeds.log_in number user pair) =
    only_reply (with_session world number (Some (new_session user pair)))
    (done_line (speaker.Session number))
deed_effect history world (deeds.log_out number) =
    only_reply (with_session world number None) (done_line (speaker.Session number))
deed_effect history world (deeds.hand_out number session at cursor count) =
    fetch_effect world number session at cursor count
deed_effect history world (deeds.close_cursor number session at) =
    only_reply (with_session world number (Some (with_cursor session at None)))
    (done_line (speaker.Session number))
deed_effect history world (deeds.step_job number job count) =
    job_step_effect history world number job count
deed_effect history world (deeds.drop_job number) =
    only_reply (with_job world number None) (done_line Console)
deed_effect history world (deeds.end_watch number) =
    only_reply (with_watch world number None) (done_line Console)
deed_effect history world (deeds.change act) = record {
  reply = number_line 0 (codes "ok") (length history + 1);
  added = next_entry history world act ∷ [];
  world = world;
}
deed_effect history world (deeds.answer_question question) =
    answer_effect history world question answer_line
deed_effect history world (deeds.open_cursor session number question) =
    open_effect history world session number question
deed_effect history world (deeds.extract question) =
    answer_effect history world question extract_line
deed_effect history world (deeds.explain entry) = explain_effect history world entry
deed_effect history world (deeds.audit audit) = audit_effect history world audit
deed_effect history world (deeds.begin_audit number audit) =
    only_reply (with_job world number (Some (new_open_audit history audit)))
    (number_line 0 (codes "job") number)
deed_effect history world (deeds.watch number audit) =
    only_reply (with_watch world number (Some audit)) (number_line 0 (codes "watch") number)

-- the effect of a checked command: that of its deed, or a refusal, which changes nothing
abbrev pub judgement_effect : History → World → Speaker → Checked Deed → Effect
judgement_effect history world who (Ok deed) = deed_effect history world deed
judgement_effect history world who (Err refusal) = only_reply world (refusal_line who refusal)

-- the effect that the rules give a command
abbrev pub effect_of : History → World → Command → Effect
effect_of history world command =
    judgement_effect history world (who_commands command) (judged history world command)

-- the reply is the out-of-memory refusal; the question's entry may or may not be added
pub record IsShortAnswer (history : History) (world : World) (reply : Txt) (question : Question)
    (effect : Effect) : Type 0 where
  pub said : effect.reply ≡ reply
  pub kept : (effect.added ≡ []) ⊎ (effect.added
      ≡ next_entry history world (question_act question) ∷ [])
  pub same : effect.world ≡ world

-- the reply is the out-of-memory refusal; the job has looked up to some number within the step
pub record IsShortStep (history : History) (world : World) (reply : Txt) (number : ℕ)
    (job : OpenAudit) (count : ℕ)
    (effect : Effect) : Type 0 where
  pub upto : ℕ
  pub from : job.place ≤ upto
  pub to : upto ≤ step_end job count
  pub is : effect ≡ only_reply (with_job world number
      (Some (job_up_to job upto (step_flags history job upto)))) reply

-- the effects that a line may have instead when memory ran out
abbrev pub IsOutOfMemory : History → World → Txt → Checked Deed → Effect → Type 0
IsOutOfMemory history world reply (Ok (deeds.answer_question question)) effect =
    IsShortAnswer history world reply question effect
IsOutOfMemory history world reply (Ok (deeds.open_cursor session number question)) effect =
    IsShortAnswer history world reply question effect
IsOutOfMemory history world reply (Ok (deeds.extract question)) effect =
    IsShortAnswer history world reply question effect
IsOutOfMemory history world reply (Ok (deeds.step_job number job count)) effect =
    IsShortStep history world reply number job count effect
IsOutOfMemory history world reply judgement effect = effect ≡ only_reply world reply

-- a line may be refused because memory ran out, unless it takes no memory
abbrev pub IsMemoryEffect : History → World → Command → Effect → Type 0
IsMemoryEffect history world command effect =
    (takes_memory command ≡ true)
    × IsOutOfMemory history world (refusal_line (who_commands command) Memory)
    (judged history world command) effect

-- the effect of a command is the one that the rules give, or that of being out of memory
abbrev pub IsEffect : History → World → Command → Effect → Type 0
IsEffect history world command effect =
    (effect ≡ effect_of history world command) ⊎ IsMemoryEffect history world command effect
