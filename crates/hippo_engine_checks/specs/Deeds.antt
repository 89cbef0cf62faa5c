-- What to do for a line that is not refused, with what the checks found.
use Rattle.std.specs.Prelude.{ℕ, ◌+◌, length}
use Rattle.hippo_values.specs.declared.moments.Moment.{Moment}
use Rattle.hippo_values.specs.declared.names.Name.{Name}
use Rattle.hippo_model.specs.declared.audit.Audit.{Audit}
use Rattle.hippo_model.specs.declared.audit.Pair.{Pair}
use Rattle.hippo_model.specs.declared.entry.Act.{Act}
use Rattle.hippo_model.specs.declared.entry.Act.TheVariants.{Asked}
use Rattle.hippo_model.specs.declared.entry.Entry.{Entry}
use Rattle.hippo_model.specs.declared.query.Query.{Query}
use Rattle.hippo_model.specs.Terms.{History}
use Rattle.hippo_values.specs.Texts.{Txt}
use Rattle.hippo_engine_sessions.specs.declared.cursors.Cursor.{Cursor}
use Rattle.hippo_engine_sessions.specs.declared.sessions.Session.{Session}
use Rattle.hippo_engine_sessions.specs.Worlds.{World}
use Rattle.hippo_audit_job.specs.Jobs.{OpenAudit}

-- a question of a session: its text, and the query that it means
pub record Question : Type 0 where
  pub session : ℕ
  pub user : Name
  pub pair : Pair
  pub text : Txt
  pub query : Query

-- the act that logs a question
abbrev pub question_act : Question → Act
question_act question =
    Asked question.user question.pair.purpose question.pair.recipient question.text

-- the next entry, with this act
abbrev pub next_entry : History → World → Act → Entry
next_entry history world act = record { seq = length history + 1; moment = world.clock; act = act }

-- what is done for a command that is not refused
pub data Deed : Type 0 where
  do_nothing : Deed
  set_clock : Moment → Deed
  log_in : ℕ → Name → Pair → Deed
  log_out : ℕ → Deed
  -- up to this many further rows of a cursor: the session's number, the session, the cursor's
  -- number, the cursor
  hand_out : ℕ → Session → ℕ → Cursor → ℕ → Deed
  close_cursor : ℕ → Session → ℕ → Deed
  -- up to this many further entry numbers of the job with this number
  step_job : ℕ → OpenAudit → ℕ → Deed
  drop_job : ℕ → Deed
  end_watch : ℕ → Deed
  change : Act → Deed
  answer_question : Question → Deed
  -- the number is that of the new cursor in its session
  open_cursor : Session → ℕ → Question → Deed
  extract : Question → Deed
  explain : Entry → Deed
  audit : Audit → Deed
  -- the number is that of the new job or watch
  begin_audit : ℕ → Audit → Deed
  watch : ℕ → Audit → Deed
