-- What the checks of a question find if it may be asked.
use Rattle.std.specs.Prelude.{◌≡◌, ℕ, ◌+◌, nat_le, Bool, true, false, Option, Some, None, Ok, Err}
use Rattle.hippo_values.specs.Texts.{Txt}
use Rattle.hippo_values.specs.declared.moments.Moment.{Moment}
use Rattle.hippo_values.specs.Results.{◌>>=◌}
use Rattle.hippo_model.specs.declared.entry.Entry.{Entry}
use Rattle.hippo_model.specs.declared.query.Query.{Query}
use Rattle.hippo_stmt_ast.specs.declared.statement.RawSelect.{RawSelect}
use Rattle.hippo_stmt_ast.specs.declared.statement.Stmt.{Stmt}
use Rattle.hippo_stmt_ast.specs.declared.statement.Stmt.TheVariants as stmt
use Rattle.hippo_report.specs.declared.refusal.Refusal.TheVariants.{HistoryFull}
use Rattle.hippo_report.specs.declared.speaker.Speaker.TheVariants as speaker
use Rattle.hippo_tables.specs.Standing.{AreKeptTables}
use Rattle.hippo_replay.specs.declared.state.State.{State}
use Rattle.hippo_engine_sessions.specs.declared.sessions.Session.{Session}
use Rattle.hippo_stmt_lines.specs.Commands.{Command}
use Rattle.hippo_stmt_lines.specs.Commands as commands
use Rattle.hippo_engine_checks.specs.declared.asking.Asking.{Asking}
use Rattle.hippo_engine_checks.specs.declared.asking.Delivery.{Delivery}
use Rattle.hippo_engine_checks.specs.declared.asking.AnswerForm.{AnswerForm}
use Rattle.hippo_engine_checks.specs.declared.asking.AnswerForm.TheVariants.{Rows, Records, Cursor}
use Rattle.hippo_engine_checks.specs.declared.asking.WrittenQuestion.{WrittenQuestion}
use Rattle.hippo_engine_checks.specs.Checks.{Checked, refused_if}
use Rattle.hippo_engine_checks.specs.Deeds.{Deed, Question, question_act}
use Rattle.hippo_engine_checks.specs.Judging.{text_between, delivery_for, deed_for}

-- the question that is asked in a session
abbrev pub question_of : ℕ → Asking → Question
question_of session asking = record {
  session = session;
  user = asking.asker.now.user;
  pair = asking.asker.now.pair;
  text = asking.text.now;
  query = asking.query;
}

-- the statement that asks for an answer in this form
abbrev pub statement_asked : AnswerForm → RawSelect → ℕ → ℕ → Stmt
statement_asked Rows select start end = stmt.Select select start end
statement_asked Records select start end = stmt.Extract select start end
statement_asked Cursor select start end = stmt.Ask select start end

-- the statement of a written question, the command that it makes in a session, and its own text
abbrev pub written_statement : WrittenQuestion → Stmt
written_statement written =
    statement_asked written.handing written.select.now written.start written.end

abbrev pub written_command : ℕ → WrittenQuestion → Txt → Command
written_command session written text =
    commands.make_statement (speaker.Session session) (written_statement written) text

abbrev pub written_text : WrittenQuestion → Txt → Txt
written_text written text = text_between text written.start written.end

-- whether a statement asks a question
abbrev pub is_asking : Stmt → Bool
is_asking (stmt.Select select start end) = true
is_asking (stmt.Extract select start end) = true
is_asking (stmt.Ask select start end) = true
is_asking statement = false

-- the question that a statement asks, or none if it asks nothing
abbrev pub IsWritten : Stmt → Option WrittenQuestion → Type 0
IsWritten statement (Some written) = statement ≡ written_statement written
IsWritten statement None = is_asking statement ≡ false

-- how an answer is delivered, if there is room for one more entry
abbrev pub delivery_in_room : AnswerForm → Session → ℕ → ℕ → Checked Delivery
delivery_in_room handing session count limit = do
  delivery ← delivery_for handing session
  room ← refused_if (nat_le limit count) HistoryFull
  Ok delivery

abbrev pub asking_with : Asking → Checked Delivery → Checked Asking
asking_with asking (Ok delivery) = Ok (record asking { delivery = delivery })
asking_with asking (Err refusal) = Err refusal

-- what to do for a question that was found
abbrev pub deed_asked : ℕ → Asking → Deed
deed_asked session asking = deed_for asking.asker.now (question_of session asking) asking.delivery

-- the entry that logs a question, as the next entry
abbrev pub question_entry : State → Moment → Question → Entry
question_entry state clock question =
    record { seq = state.count + 1; moment = clock; act = question_act question }

-- a state can answer a query: it keeps the query's tables
pub record IsAnswerable (state : State) (query : Query) : Type 0 where
  pub tables : AreKeptTables state.tables query.tables
