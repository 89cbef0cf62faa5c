-- Runs of a small clinic, computed. Each example's name says what it shows.
use Rattle.csv.proofs.OnLiterals.{csv_on_literals}
use Rattle.std.proofs.Common.{◌≡◌, pos, List, [], ◌∷◌, ◌++◌, Some, None, Ok, refl, codes}
use Rattle.hippo_values.specs.Moments.{first_moment}
use Rattle.hippo_values.specs.declared.values.Value.TheVariants.{Null, Int}
use Rattle.hippo_model.specs.declared.cells.Cell.TheVariants.{Shown, Denied}
use Rattle.hippo_model.specs.declared.entry.Act.TheVariants as acts
use Rattle.hippo_model.specs.declared.name_fault.NameFault.TheVariants as faults
use Rattle.hippo_stmt_ast.specs.declared.statement.Stmt.TheVariants.{CreatePurpose, Insert, Delete, Select, Extract}
use Rattle.hippo_model.specs.Terms.{History, ShownRow}
use Rattle.hippo_model.proofs.Truths.{truths}
use Rattle.hippo_model.proofs.FoldedConditions.{folded_conditions}
use Rattle.hippo_engine_checks.specs.Deeds as deeds
use Rattle.hippo_engine_checks.specs.Judging.{judged}
use Rattle.hippo_engine_rules.specs.Effects.{question_effect}
use Rattle.hippo_values.specs.Texts.{Txt}
use Rattle.std.specs.List.{flat_map}
use Rattle.hippo_report.specs.declared.speaker.Speaker.TheVariants.{Nobody, Console, Session}
use Rattle.hippo_report.specs.declared.format.Format.TheVariants as formats
use Rattle.hippo_report.specs.declared.refusal.Refusal.TheVariants.{NoSession, SessionOpen, NotAuthorized, ConsoleOnly, SessionsOnly, Meaningless, KeyThere, KeyMissing, NoCursor, HistoryFull, MomentBack, BadRecord, BadField, NoJob, NoWatch}
use Rattle.hippo_report.specs.Cells.{answer_line}
use Rattle.hippo_report.specs.Notices.{done_line, number_line}
use Rattle.hippo_report.specs.Refusals.{refusal_line}
use Rattle.hippo_engine_sessions.specs.declared.cursors.Cursor.{Cursor}
use Rattle.hippo_engine_sessions.specs.Worlds.{World, opening, with_session, with_cursor, new_session}
use Rattle.hippo_stmt_lines.specs.Forms.{logs_in, logs_out, fetches, closes, steps, drops, unwatches, loads}
use Rattle.hippo_stmt_lines.specs.Commands.{set_clock, make_request, make_statement}
use Rattle.hippo_engine_rules.proofs.ExampleLines.{run, left, morning, clinic, entry, world_within, nurses_pair, reply_in, reply_after, world_left, console, patient, treatment, nurse, question, all_rows, asked_for, rows_after, ok, rows, text, no, console_no}

a_clinic_is_set_up :
    run morning ≡ done_line Nobody ∷ ok 1 ∷ ok 2 ∷ ok 3 ∷ ok 4 ∷ ok 5 ∷ ok 6 ∷ ok 7 ∷ done_line (Session 1) ∷ []
a_clinic_is_set_up = refl

a_morning_leaves_entries_and_a_session :
    left morning [] (opening first_moment 4000000 formats.Text) ≡ (clinic, world_within 4000000)
a_morning_leaves_entries_and_a_session = refl

-- SELECT name, phone FROM patient is answered, and means the columns 1 and 2
names_and_phones_are_asked_for :
    judged clinic (world_within 4000000) (question (all_rows (codes "name" ∷ codes "phone" ∷ [])))
    ≡ Ok (deeds.answer_question (asked_for (1 ∷ 2 ∷ [])))
names_and_phones_are_asked_for = simp folded_conditions

-- a denied cell names the rule that denies it
denied_by_no_rule :
    rows_after [] (1 ∷ 2 ∷ [])
    ≡ (text (codes "Ada") ∷ Denied 0 ∷ []) ∷ (text (codes "Bob") ∷ Denied 0 ∷ []) ∷ []
denied_by_no_rule = simp truths

abbrev phones_revoked : History
phones_revoked =
    entry 8 (acts.Allow treatment nurse patient (2 ∷ []) None None) ∷ entry 9 (acts.Revoke treatment nurse patient (2 ∷ [])) ∷ []

denied_by_a_revocation : rows_after phones_revoked (2 ∷ []) ≡ (Denied 9 ∷ []) ∷ (Denied 9 ∷ []) ∷ []
denied_by_a_revocation = simp truths

-- a row with a forbidden key is dropped
forbidden_keys_take_their_rows : rows_after (entry 8 (acts.Revoke treatment nurse patient (0 ∷ [])) ∷ []) (1 ∷ []) ≡ []
forbidden_keys_take_their_rows = refl

-- the reply to a question has the rows and their number
the_rows_and_their_number :
    (question_effect clinic (world_within 4000000) (asked_for (1 ∷ [])) (rows ((text (codes "Ada") ∷ []) ∷ [])) (world_within 4000000)).reply
    ≡ (answer_line 1 (text (codes "Ada") ∷ []) ++ []) ++ number_line 1 (codes "end") 1 ++ []
the_rows_and_their_number = refl

-- an opened cursor returns up to as many rows as are asked for
abbrev two_rows : Cursor
two_rows = record {
  answer = (Shown (Int (pos 1)) ∷ text (codes "Ada") ∷ []) ∷ (Shown (Int (pos 2)) ∷ text (codes "Bob") ∷ []) ∷ [];
  given = 0;
}

abbrev with_two_rows : World
with_two_rows =
    with_session (world_within 4000000) 1 (Some (with_cursor (new_session (codes "ann") nurses_pair) 1 (Some two_rows)))

abbrev handed : List ShownRow → Txt
handed answer = flat_map (answer_line 1) answer

cursors_hand_out_a_part :
    reply_in with_two_rows clinic (make_request (Session 1) (fetches 1 1))
    ≡ handed ((Shown (Int (pos 1)) ∷ text (codes "Ada") ∷ []) ∷ []) ++ number_line 1 (codes "part") 1
cursors_hand_out_a_part = refl

cursors_hand_out_the_rest :
    reply_in (world_left with_two_rows clinic (make_request (Session 1) (fetches 1 1))) clinic (make_request (Session 1) (fetches 1 10))
    ≡ handed ((Shown (Int (pos 2)) ∷ text (codes "Bob") ∷ []) ∷ []) ++ number_line 1 (codes "end") 2
cursors_hand_out_the_rest = refl

closed_cursors_hand_out_nothing :
    reply_in (world_left with_two_rows clinic (make_request (Session 1) (closes 1))) clinic (make_request (Session 1) (fetches 1 1)) ≡ no (NoCursor 1)
closed_cursors_hand_out_nothing = refl

-- a user who is no longer authorized is refused, and the refusal names the entry that revoked it
revoked_users_are_refused :
    reply_after (entry 8 (acts.Deauthorize (codes "ann") treatment nurse) ∷ []) (question (all_rows (codes "name" ∷ [])))
    ≡ no (NotAuthorized 8)
revoked_users_are_refused = refl

-- a full history takes no row
full_histories_take_no_row :
    reply_in (world_within 7) clinic (console (Insert patient (Int (pos 3) ∷ Null ∷ Null ∷ Null ∷ []))) ≡ console_no HistoryFull
full_histories_take_no_row = refl

-- a key that exists is refused even in a full history, and the refusal names the key's entry
taken_keys_name_their_entry :
    reply_in (world_within 7) clinic (console (Insert patient (Int (pos 1) ∷ Null ∷ Null ∷ Null ∷ []))) ≡ console_no (KeyThere 6)
taken_keys_name_their_entry = refl

missing_keys_are_refused :
    reply_after [] (console (Delete patient (codes "pid" ∷ []) (Int (pos 9) ∷ []))) ≡ console_no KeyMissing
missing_keys_are_refused = refl

names_that_are_there_are_refused :
    reply_after [] (console (CreatePurpose treatment)) ≡ console_no (Meaningless (faults.AlreadyThere treatment))
names_that_are_there_are_refused = refl

-- who may do what
sessions_change_nothing : reply_after [] (make_statement (Session 1) (CreatePurpose (codes "x")) []) ≡ no ConsoleOnly
sessions_change_nothing = refl

the_console_asks_nothing : reply_after [] (make_statement Console (Select (all_rows (codes "name" ∷ [])) 0 6) (codes "SELECT")) ≡ console_no SessionsOnly
the_console_asks_nothing = refl

open_sessions_are_not_opened : reply_after [] (make_request (Session 1) (logs_in (codes "ann") treatment nurse)) ≡ no SessionOpen
open_sessions_are_not_opened = refl

closed_sessions_ask_nothing :
    reply_in (world_left (world_within 4000000) clinic (make_request (Session 1) logs_out)) clinic (question (all_rows (codes "name" ∷ []))) ≡ no NoSession
closed_sessions_ask_nothing = refl

the_clock_does_not_go_back :
    reply_after [] (set_clock (pos 1704182399)) ≡ refusal_line Nobody (MomentBack (pos 1704182400))
the_clock_does_not_go_back = refl

-- EXTRACT SELECT name FROM patient asks the same question, for records
names_are_to_be_extracted :
    judged clinic (world_within 4000000) (make_statement (Session 1) (Extract (all_rows (codes "name" ∷ [])) 0 6) (codes "SELECT"))
    ≡ Ok (deeds.extract (asked_for (1 ∷ [])))
names_are_to_be_extracted = simp folded_conditions

-- a record is loaded as a row; otherwise its number of fields is checked first, then their forms,
-- and then its INSERT
records_are_inserted : reply_after [] (make_request Console (loads patient (codes "3,\"O'Hara, Pat\",,7"))) ≡ ok 8
unfolding csv_on_literals
records_are_inserted = refl

few_fields_are_counted_first : reply_after [] (make_request Console (loads patient (codes "x"))) ≡ console_no (Meaningless (faults.WrongCount 4))
unfolding csv_on_literals
few_fields_are_counted_first = refl

fields_have_their_columns_form : reply_after [] (make_request Console (loads patient (codes "1,Di,,x"))) ≡ console_no (BadField (codes "zip"))
unfolding csv_on_literals
fields_have_their_columns_form = refl

loaded_keys_are_not_there : reply_after [] (make_request Console (loads patient (codes "1,Di,,"))) ≡ console_no (KeyThere 6)
unfolding csv_on_literals
loaded_keys_are_not_there = refl

two_records_are_no_row : reply_after [] (make_request Console (loads patient (codes "3,a,,\r4,b,,"))) ≡ console_no BadRecord
unfolding csv_on_literals
two_records_are_no_row = refl

sessions_load_nothing : reply_after [] (make_request (Session 1) (loads (codes "x") [])) ≡ no ConsoleOnly
sessions_load_nothing = refl

sessions_step_no_job : reply_after [] (make_request (Session 1) (steps 1 1)) ≡ no ConsoleOnly
sessions_step_no_job = refl

jobs_that_did_not_begin_are_not_stepped : reply_after [] (make_request Console (steps 1 1)) ≡ console_no (NoJob 1)
jobs_that_did_not_begin_are_not_stepped = refl

jobs_that_did_not_begin_are_not_dropped : reply_after [] (make_request Console (drops 8)) ≡ console_no (NoJob 8)
jobs_that_did_not_begin_are_not_dropped = refl

-- only the console has watches
a_session_ends_no_watch : reply_after [] (make_request (Session 1) (unwatches 1)) ≡ no ConsoleOnly
a_session_ends_no_watch = refl

no_watch_stands_yet : reply_after [] (make_request Console (unwatches 1)) ≡ console_no (NoWatch 1)
no_watch_stands_yet = refl
