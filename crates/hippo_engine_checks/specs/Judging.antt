-- What to do for a command, or the first refusal that applies.
use Rattle.std.specs.Prelude.{ℕ, ◌-◌, ℤ, int_lt, [], take, drop, length, slice_get, option_map, Ok, Err, ok_or}
use Rattle.std.specs.Option.{option_map_or}
use Rattle.std.specs.Result.{result_map_both}
use Rattle.hippo_values.specs.Texts.{Txt}
use Rattle.hippo_values.specs.declared.names.Name.{Name}
use Rattle.hippo_values.specs.Results.{◌>>=◌}
use Rattle.hippo_model.specs.declared.audit.Audit.{Audit}
use Rattle.hippo_model.specs.declared.audit.Pair.{Pair}
use Rattle.hippo_model.specs.declared.name_fault.NameFault.TheVariants as faults
use Rattle.hippo_model.specs.declared.schema.Schema.{Schema}
use Rattle.hippo_stmt_ast.specs.declared.statement.RawAudit.{RawAudit}
use Rattle.hippo_stmt_ast.specs.declared.statement.RawSelect.{RawSelect}
use Rattle.hippo_stmt_ast.specs.declared.statement.Stmt.{Stmt}
use Rattle.hippo_stmt_ast.specs.declared.statement.Stmt.TheVariants as stmt
use Rattle.hippo_model.specs.declared.wanted.Wanted.{Wanted}
use Rattle.hippo_model.specs.Terms.{History, Row}
use Rattle.hippo_typing_catalog.specs.Catalogs.{KnownNames, known_at, table_of}
use Rattle.hippo_typing_catalog.specs.Selects.{select_refused, query_of}
use Rattle.hippo_typing_catalog.specs.AuditExpressions.{audit_refused, audit_of}
use Rattle.hippo_typing_catalog.specs.ChangesRefused.{change_refused}
use Rattle.hippo_typing_catalog.specs.ChangesWanted.{wanted_by}
use Rattle.hippo_tables.specs.Finished.{finished_act}
use Rattle.hippo_csv.specs.declared.faults.CsvFault.{CsvFault}
use Rattle.hippo_csv.specs.declared.faults.CsvFault.TheVariants as csv
use Rattle.hippo_csv.specs.Records.{record_fields}
use Rattle.hippo_csv.specs.Loading.{row_of_fields}
use Rattle.hippo_report.specs.declared.refusal.Refusal.{Refusal}
use Rattle.hippo_report.specs.declared.refusal.Refusal.TheVariants.{BadSyntax, MomentBack, Meaningless, CursorLimit, NoCursor, JobLimit, NoJob, NoSuchQuery, BadRecord, BadField, WatchLimit, NoWatch, Memory}
use Rattle.hippo_report.specs.declared.speaker.Speaker.{Speaker}
use Rattle.hippo_engine_sessions.specs.declared.sessions.Session.{Session}
use Rattle.hippo_engine_sessions.specs.Worlds.{World, at_number, free_number}
use Rattle.hippo_stmt_lines.specs.Moments.{period_in}
use Rattle.hippo_stmt_lines.specs.Forms.{Request, logs_in, logs_out, fetches, closes, steps, drops, unwatches, loads}
use Rattle.hippo_stmt_lines.specs.Commands.{Command, nothing, wrong, make_request, make_statement}
use Rattle.hippo_stmt_lines.specs.Commands as commands
use Rattle.hippo_engine_checks.specs.declared.asking.Delivery.{Delivery}
use Rattle.hippo_engine_checks.specs.declared.asking.Delivery.TheVariants as delivered
use Rattle.hippo_engine_checks.specs.declared.asking.AnswerForm.{AnswerForm}
use Rattle.hippo_engine_checks.specs.declared.asking.AnswerForm.TheVariants.{Rows, Records, Cursor}
use Rattle.hippo_engine_checks.specs.Deeds.{Deed, Question}
use Rattle.hippo_engine_checks.specs.Deeds as deeds
use Rattle.hippo_engine_checks.specs.Checks.{Checked, refused_if, by_console, by_session, open_session, may_log_in, by_authorized_user, unless_refused, act_made, has_room, question_at}

-- the clock does not go back
abbrev pub judged_clock : World → ℤ → Checked Deed
judged_clock world moment =
    refused_if (int_lt moment world.clock) (MomentBack world.clock) >>=
    λ _. Ok (deeds.set_clock moment)

abbrev pub judged_login : History → World → Speaker → Name → Pair → Checked Deed
judged_login history world who user pair = do
  number ← by_session who
  allowed ← may_log_in history world number user pair
  Ok (deeds.log_in number user pair)

abbrev pub judged_logout : World → Speaker → Checked Deed
judged_logout world who = do
  number ← by_session who
  session ← open_session world number
  Ok (deeds.log_out number)

abbrev pub judged_fetch : World → Speaker → ℕ → ℕ → Checked Deed
judged_fetch world who at count = do
  number ← by_session who
  session ← open_session world number
  cursor ← ok_or (at_number session.cursors at) (NoCursor at)
  Ok (deeds.hand_out number session at cursor count)

abbrev pub judged_close : World → Speaker → ℕ → Checked Deed
judged_close world who at = do
  number ← by_session who
  session ← open_session world number
  cursor ← ok_or (at_number session.cursors at) (NoCursor at)
  Ok (deeds.close_cursor number session at)

abbrev pub judged_step : World → Speaker → ℕ → ℕ → Checked Deed
judged_step world who at count = do
  console ← by_console who
  job ← ok_or (at_number world.jobs at) (NoJob at)
  Ok (deeds.step_job at job count)

abbrev pub judged_drop : World → Speaker → ℕ → Checked Deed
judged_drop world who at = do
  console ← by_console who
  job ← ok_or (at_number world.jobs at) (NoJob at)
  Ok (deeds.drop_job at)

abbrev pub judged_unwatch : World → Speaker → ℕ → Checked Deed
judged_unwatch world who at = do
  console ← by_console who
  audit ← ok_or (at_number world.watches at) (NoWatch at)
  Ok (deeds.end_watch at)

-- the change is made if the existing rows allow it and the history has room
abbrev pub judged_wanted : History → World → Wanted → Checked Deed
judged_wanted history world wanted = do
  act ← act_made (finished_act history wanted)
  room ← has_room history world
  Ok (deeds.change act)

-- a statement that changes something
abbrev pub judged_change : History → World → Speaker → Stmt → Checked Deed
judged_change history world who statement = do
  console ← by_console who
  change ← unless_refused (change_refused (known_at history) statement)
      (wanted_by (known_at history) statement)
  wanted ← ok_or change BadSyntax
  judged_wanted history world wanted

-- the name of the column at a place, or an empty name
abbrev pub schema_column_name : Schema → ℕ → Name
schema_column_name schema place =
    option_map_or (λ column. column.name) (slice_get schema.columns place) []

-- why the fields of a record do not give a row of a table
abbrev pub record_refusal : Schema → CsvFault → Refusal
record_refusal schema csv.Count = Meaningless (faults.WrongCount (length schema.columns))
record_refusal schema (csv.Field place) = BadField (schema_column_name schema place)
record_refusal schema csv.Memory = Memory

-- the row of a table that a text gives as one record
abbrev pub loaded_row : Schema → Txt → Checked Row
loaded_row schema text = do
  fields ← ok_or (record_fields text) BadRecord
  result_map_both (λ row. row) (record_refusal schema) (row_of_fields schema fields)

-- the INSERT of the record's row
abbrev pub loaded_insert : KnownNames → Name → Txt → Checked Stmt
loaded_insert known table text = do
  schema ← ok_or (table_of known table) (Meaningless (faults.UnknownTable table))
  row ← loaded_row schema text
  Ok (stmt.Insert table row)

-- a record that is loaded into a table is judged like the INSERT of its row
abbrev pub judged_load : History → World → Speaker → Name → Txt → Checked Deed
judged_load history world who table text = do
  console ← by_console who
  insert ← loaded_insert (known_at history) table text
  judged_change history world who insert

-- the text of a question, from its first byte to its last
abbrev pub text_between : Txt → ℕ → ℕ → Txt
text_between text start end = take (end - start) (drop start text)

-- the question of an open session, if its user is authorized and it means something
abbrev pub question_in : History → World → ℕ → RawSelect → Txt → Checked Question
question_in history world number select text = do
  session ← open_session world number
  allowed ← by_authorized_user history session.user session.pair
  query ← unless_refused (select_refused (known_at history) select)
      (query_of (known_at history) select)
  Ok (record {
    session = number;
    user = session.user;
    pair = session.pair;
    text = text;
    query = query;
  })

-- how an answer is delivered; an OPEN needs a free cursor in its session
abbrev pub delivery_for : AnswerForm → Session → Checked Delivery
delivery_for Rows session = Ok delivered.Rows
delivery_for Records session = Ok delivered.Records
delivery_for Cursor session =
    ok_or (option_map delivered.Cursor (free_number session.cursors)) CursorLimit

abbrev pub deed_for : Session → Question → Delivery → Deed
deed_for session question delivered.Rows = deeds.answer_question question
deed_for session question delivered.Records = deeds.extract question
deed_for session question (delivered.Cursor number) = deeds.open_cursor session number question

-- a SELECT, an EXTRACT or an OPEN
abbrev pub judged_question : AnswerForm → History → World → Speaker → RawSelect → Txt → Checked Deed
judged_question handing history world who select text = do
  number ← by_session who
  question ← question_in history world number select text
  session ← open_session world number
  delivery ← delivery_for handing session
  room ← has_room history world
  Ok (deed_for session question delivery)

abbrev pub judged_explain : History → Speaker → ℤ → Checked Deed
judged_explain history who question = do
  console ← by_console who
  entry ← ok_or (question_at history question) (NoSuchQuery question)
  Ok (deeds.explain entry)

-- the audit that an audit expression of the console means
abbrev pub audit_in : History → Speaker → RawAudit → Checked Audit
audit_in history who audit = do
  console ← by_console who
  unless_refused (audit_refused (known_at history) (period_in audit) audit)
      (audit_of (known_at history) (period_in audit) audit)

abbrev pub judged_audit : History → Speaker → RawAudit → Checked Deed
judged_audit history who written =
    audit_in history who written >>= λ audit. Ok (deeds.audit audit)

abbrev pub judged_begin : History → World → Speaker → RawAudit → Checked Deed
judged_begin history world who written = do
  audit ← audit_in history who written
  free ← ok_or (free_number world.jobs) JobLimit
  Ok (deeds.begin_audit free audit)

abbrev pub judged_watch : History → World → Speaker → RawAudit → Checked Deed
judged_watch history world who written = do
  audit ← audit_in history who written
  free ← ok_or (free_number world.watches) WatchLimit
  Ok (deeds.watch free audit)

abbrev pub judged_statement : History → World → Speaker → Stmt → Txt → Checked Deed
judged_statement history world who (stmt.Select select start end) text =
    judged_question Rows history world who select (text_between text start end)
judged_statement history world who (stmt.Ask select start end) text =
    judged_question Cursor history world who select (text_between text start end)
judged_statement history world who (stmt.Extract select start end) text =
    judged_question Records history world who select (text_between text start end)
judged_statement history world who (stmt.Explain question) text =
    judged_explain history who question
judged_statement history world who (stmt.Audit audit) text = judged_audit history who audit
judged_statement history world who (stmt.BeginAudit audit) text =
    judged_begin history world who audit
judged_statement history world who (stmt.Watch audit) text =
    judged_watch history world who audit
judged_statement history world who statement text = judged_change history world who statement

abbrev pub judged_request : History → World → Speaker → Request → Checked Deed
judged_request history world who (logs_in user purpose recipient) =
    judged_login history world who user (record { purpose = purpose; recipient = recipient })
judged_request history world who logs_out = judged_logout world who
judged_request history world who (fetches cursor count) = judged_fetch world who cursor count
judged_request history world who (closes cursor) = judged_close world who cursor
judged_request history world who (steps job count) = judged_step world who job count
judged_request history world who (drops job) = judged_drop world who job
judged_request history world who (unwatches watch) = judged_unwatch world who watch
judged_request history world who (loads table text) = judged_load history world who table text

-- what to do for a command, or why not
abbrev pub judged : History → World → Command → Checked Deed
judged history world nothing = Ok deeds.do_nothing
judged history world (wrong who refusal) = Err refusal
judged history world (commands.set_clock moment) = judged_clock world moment
judged history world (make_request who request) = judged_request history world who request
judged history world (make_statement who statement text) =
    judged_statement history world who statement text
