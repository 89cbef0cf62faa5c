-- What storing and answering a question does.
use Rattle.std.specs.Prelude.{◌≡◌, ◌⊎◌, ℕ, nat_lt, length, if◌then◌else◌, List, [], ◌∷◌, ◌++◌, Some, Result, Ok, Err, IfOk, OnOk, OnErr, codes}
use Rattle.hippo_values.specs.Texts.{Txt}
use Rattle.hippo_model.specs.declared.entry.Entry.{Entry}
use Rattle.hippo_model.specs.Terms.{History, ShownRow}
use Rattle.hippo_values.specs.declared.memory.Memory.{Memory}
use Rattle.hippo_report.specs.declared.speaker.Speaker.TheVariants as speaker
use Rattle.hippo_report.specs.declared.refusal.Refusal.TheVariants.{Memory as NoMemory}
use Rattle.hippo_csv.specs.Records.{extract_line}
use Rattle.hippo_report.specs.Cells.{answer_line}
use Rattle.hippo_report.specs.Notices.{number_line}
use Rattle.hippo_report.specs.Refusals.{refusal_line}
use Rattle.hippo_keeper.specs.declared.faults.KeeperFault.{KeeperFault}
use Rattle.hippo_keeper.specs.declared.faults.KeeperFault.TheVariants.{Failed, Memory as KeeperMemory}
use Rattle.hippo_keeper.specs.Keeping.{KeeperState}
use Rattle.hippo_eval.specs.declared.answers.EvalFault.{EvalFault}
use Rattle.hippo_eval.specs.Answering.{IsAnswered}
use Rattle.hippo_eval_answer.specs.Lines.{IsSaid}
use Rattle.hippo_replay.specs.declared.state.State.{State}
use Rattle.hippo_replay.specs.Standing.{Represents}
use Rattle.hippo_replay.specs.Recording.{KeepsEntry}
use Rattle.hippo_engine_sessions.specs.declared.sessions.Session.{Session}
use Rattle.hippo_engine_sessions.specs.Worlds.{World, session_at, with_session, with_cursor, new_cursor}
use Rattle.hippo_engine_checks.specs.declared.asking.Delivery.{Delivery}
use Rattle.hippo_engine_checks.specs.declared.asking.Delivery.TheVariants as delivered
use Rattle.hippo_engine_queries.specs.declared.answered.Answered.{Answered}
use Rattle.hippo_engine_queries.specs.declared.answered.Answered.TheVariants.{Lines, Records, Held}
use Rattle.hippo_engine_rules.specs.declared.faults.EngineFault.{EngineFault}
use Rattle.hippo_engine_rules.specs.declared.faults.EngineFault.TheVariants.{Keeper}
use Rattle.hippo_engine_checks.specs.Deeds.{Question}
use Rattle.hippo_engine_rules.specs.Effects.{row_limit, question_rows, within_limit, lines_and_count}

-- the answer has these rows, in the form that its delivery needs; or they are too many, or memory
-- ran out
abbrev pub IsAnsweredBy : ℕ → Result Answered EvalFault → Delivery → List ShownRow → Type 0
IsAnsweredBy number (Ok (Lines lines)) delivery rows =
    (delivery ≡ delivered.Rows) × IsSaid row_limit number rows (Ok lines)
IsAnsweredBy number (Ok (Records answer)) delivery rows =
    (delivery ≡ delivered.Records) × IsAnswered row_limit rows (Ok answer)
IsAnsweredBy number (Ok (Held cursor answer)) delivery rows =
    (delivery ≡ delivered.Cursor cursor) × IsAnswered row_limit rows (Ok answer)
IsAnsweredBy number (Err fault) delivery rows = IsAnswered row_limit rows (Err fault)

-- the result of storing a question and answering it
abbrev pub KeptAnswer : Type 0
KeptAnswer = Result (Result Answered EvalFault) KeeperFault

-- a question's entry is stored, the state represents the history with it appended, and the answer
-- is as of before the entry; or storing it fails, and the state is the same
pub record Asks (entry : Entry) (world : World) (question : Question) (delivery : Delivery)
    (result : KeptAnswer) (old new : State) (before after : KeeperState) : Type 0 where
  pub keeps : KeepsEntry entry result old before after
  pub added : OnOk result ((history : History) → Represents old history
      → Represents new (history ++ entry ∷ []))
  pub same : OnErr result (new ≡ old)
  pub rows : IfOk result (λ answer. (history : History) → Represents old history
      → IsAnsweredBy question.session answer delivery (question_rows history world question))

-- the out-of-memory refusal, to a session
abbrev pub short_line : ℕ → Txt
short_line session = refusal_line (speaker.Session session) NoMemory

-- the result when storing a question fails: the keeper failed, or memory ran out and the reply says
-- so
abbrev pub IsUnkept : KeeperFault → ℕ → Result (Unit {0}) EngineFault → Txt → Type 0
IsUnkept Failed session result reply = result ≡ Err Keeper
IsUnkept KeeperMemory session result reply = (result ≡ Ok tt) × (reply ≡ short_line session)

-- the reply of an answer: its rows, as rows or as records, or the number of the cursor that holds
-- them
abbrev pub answer_said : ℕ → Delivery → List ShownRow → Txt
answer_said number delivered.Rows rows = lines_and_count number (answer_line number) rows
answer_said number delivered.Records rows = lines_and_count number (extract_line number) rows
answer_said number (delivered.Cursor cursor) rows = number_line number (codes "cursor") cursor

-- the world after it: if a cursor of the session is to hold the answer, it does, unless there are
-- too many rows
abbrev pub world_left : World → ℕ → Session → Delivery → List ShownRow → World
world_left world number session delivered.Rows rows = world
world_left world number session delivered.Records rows = world
world_left world number session (delivered.Cursor cursor) rows =
    if nat_lt row_limit (length rows) then world
    else with_session world number (Some (with_cursor session cursor (Some (new_cursor rows))))

-- the reply has the answer, then the watches' alarms; below, it is the out-of-memory refusal, and
-- nothing changes
pub record IsHandedOut (number : ℕ) (delivery : Delivery) (rows : List ShownRow)
    (alarms reply : Txt)
    (old new : World) : Type 0 where
  pub said : reply ≡ within_limit number rows (answer_said number delivery rows) ++ alarms
  pub left : (session : Session) → session_at old number ≡ Some session
      → new ≡ world_left old number session delivery rows

pub record IsShortReply (number : ℕ) (reply : Txt) (old new : World) : Type 0 where
  pub said : reply ≡ short_line number
  pub same : new ≡ old

-- the same, where memory may have run out for the alarms
abbrev pub HandsOutAnswer : ℕ → Delivery → List ShownRow → Result Txt Memory → Txt → World → World
    → Type 0
HandsOutAnswer number delivery rows (Ok alarms) reply old new =
    IsHandedOut number delivery rows alarms reply old new ⊎ IsShortReply number reply old new
HandsOutAnswer number delivery rows (Err fault) reply old new = IsShortReply number reply old new

-- the reply to a question, given the alarms and the result of storing and answering it
abbrev pub Replies :
    ℕ → Delivery → Result Txt Memory → KeptAnswer → Result (Unit {0}) EngineFault → Txt → World
    → World → Type 0
Replies number delivery alarms (Ok answer) result reply old new =
    (result ≡ Ok tt) × ((rows : List ShownRow) → IsAnsweredBy number answer delivery rows
    → HandsOutAnswer number delivery rows alarms reply old new)
Replies number delivery alarms (Err fault) result reply old new =
    IsUnkept fault number result reply × (new ≡ old)
