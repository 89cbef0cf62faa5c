-- The checks of a line, one after the other. The first one that fails refuses the line.
use Rattle.std.specs.Prelude.{◌≡◌, ◌⊎◌, ℕ, ℤ, pos, Bool, nat_le, if◌then◌else◌, List, [], ◌∷◌, length, find, ◌&&◌, Option, Some, is_some, Result, Ok, Err, ok_or}
use Rattle.std.specs.Ordering.{int_eq}
use Rattle.hippo_model.specs.declared.audit.Pair.{Pair}
use Rattle.hippo_values.specs.declared.names.Name.{Name}
use Rattle.hippo_values.specs.Results.{◌>>=◌}
use Rattle.hippo_model.specs.declared.entry.Act.{Act}
use Rattle.hippo_model.specs.HandedOver.{is_question}
use Rattle.hippo_model.specs.declared.entry.Entry.{Entry}
use Rattle.hippo_model.specs.declared.name_fault.NameFault.{NameFault}
use Rattle.hippo_model.specs.declared.policy.Authorization.{Authorization}
use Rattle.hippo_model.specs.declared.policy.Authorization.TheVariants.{Yes, No}
use Rattle.hippo_model.specs.declared.table_fault.TableFault.{TableFault}
use Rattle.hippo_model.specs.declared.table_fault.TableFault.TheVariants as tables
use Rattle.hippo_model.specs.Rules.{authorized_at}
use Rattle.hippo_model.specs.Terms.{History}
use Rattle.hippo_audit_job.specs.Jobs.{OpenAudit}
use Rattle.hippo_report.specs.declared.refusal.Refusal.{Refusal}
use Rattle.hippo_report.specs.declared.refusal.Refusal.TheVariants.{NoSession, SessionOpen, NotAuthorized, ConsoleOnly, SessionsOnly, Meaningless, KeyThere, KeyMissing, HistoryFull, NoCursor, NoJob, NoWatch, Memory}
use Rattle.hippo_report.specs.declared.speaker.Speaker.{Speaker}
use Rattle.hippo_report.specs.declared.speaker.Speaker.TheVariants.{Console, Session}
use Rattle.hippo_engine_sessions.specs.declared.cursors.Cursor.{Cursor}
use Rattle.hippo_engine_sessions.specs.declared.sessions.Session.{Session as OpenSession}
use Rattle.hippo_engine_sessions.specs.Worlds.{World, at_number, session_at}

-- the result of a check: what it finds, or a refusal
abbrev pub Checked : Type 0 → Type 0
Checked A = Result A Refusal

-- the refusal is the check's, or out of memory
abbrev pub Refuses : {A : Type 0} → Checked A → Refusal → Type 0
Refuses checked refusal = (checked ≡ Err refusal) ⊎ (refusal ≡ Memory)

-- the result, seen through `view`, is what the check finds; or it is the check's refusal, or out of
-- memory
abbrev pub Finds : {A B : Type 0} → (A → B) → Checked B → Checked A → Type 0
Finds view checked (Ok found) = checked ≡ Ok (view found)
Finds view checked (Err refusal) = Refuses checked refusal

-- refused if the test holds
abbrev pub refused_if : Bool → Refusal → Checked (Unit {0})
refused_if test refusal = if test then Err refusal else Ok tt

-- only a session may do this, and the check gives its number; only the console may do this
abbrev pub by_session : Speaker → Checked ℕ
by_session (Session number) = Ok number
by_session who = Err SessionsOnly

abbrev pub by_console : Speaker → Checked (Unit {0})
by_console Console = Ok tt
by_console who = Err ConsoleOnly

-- the session with this number is open
abbrev pub open_session : World → ℕ → Checked OpenSession
open_session world number = ok_or (session_at world number) NoSession

-- the cursor with this number is open in that session
abbrev pub cursor_in_session : World → ℕ → ℕ → Checked Cursor
cursor_in_session world number at =
    open_session world number >>= λ session. ok_or (at_number session.cursors at) (NoCursor at)

-- no session with this number is open
abbrev pub closed_session : World → ℕ → Checked (Unit {0})
closed_session world number = refused_if (is_some (session_at world number)) SessionOpen

-- a user is authorized to ask for a purpose and recipient
abbrev pub allowed_by : Authorization → Checked (Unit {0})
allowed_by Yes = Ok tt
allowed_by (No number) = Err (NotAuthorized number)

abbrev pub by_authorized_user : History → Name → Pair → Checked (Unit {0})
by_authorized_user history user pair =
    allowed_by (authorized_at history user pair.purpose pair.recipient)

-- a user may open the session with this number
abbrev pub may_log_in : History → World → ℕ → Name → Pair → Checked (Unit {0})
may_log_in history world number user pair =
    closed_session world number >>= λ _. by_authorized_user history user pair

-- what a statement means, or the first of its faults
abbrev pub unless_refused : {A : Type 0} → List NameFault → A → Checked A
unless_refused [] form = Ok form
unless_refused (fault ∷ more) form = Err (Meaningless fault)

-- why the existing rows do not allow a change
abbrev pub rows_refusal : TableFault → Refusal
rows_refusal (tables.KeyThere number) = KeyThere number
rows_refusal tables.KeyMissing = KeyMissing
rows_refusal tables.Memory = Memory

abbrev pub act_made : Result Act TableFault → Checked Act
act_made (Ok act) = Ok act
act_made (Err fault) = Err (rows_refusal fault)

-- the history has room for one more entry
abbrev pub has_room : History → World → Checked (Unit {0})
has_room history world = refused_if (nat_le world.limit (length history)) HistoryFull

-- the question with this number
abbrev pub question_at : History → ℤ → Option Entry
question_at history number =
    find (λ entry. int_eq (pos entry.seq) number && is_question entry.act) history

-- the job with a number
abbrev pub job_at : World → ℕ → Checked OpenAudit
job_at world at = ok_or (at_number world.jobs at) (NoJob at)

-- a job has this number
abbrev pub HasJob : World → ℕ → Type 0
HasJob world number = (job : OpenAudit) × (at_number world.jobs number ≡ Some job)

-- a watch has this number
abbrev pub held_watch : World → ℕ → Checked (Unit {0})
held_watch world at = ok_or (at_number world.watches at) (NoWatch at) >>= λ audit. Ok tt

-- a reply of at most this many bytes always fits
abbrev pub reply_room : ℕ
reply_room = 64
