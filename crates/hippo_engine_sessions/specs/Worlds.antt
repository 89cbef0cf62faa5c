-- The state of a run beside the history: the clock, open sessions with their cursors, audit jobs
-- and watches.
use Rattle.std.specs.Prelude.{ℕ, zero, suc, ◌+◌, List, slice_get, slice_set, replicate, Option, None, is_none, option_map, position, take, drop, length, min}
use Rattle.std.specs.Option.{option_flatten}
use Rattle.hippo_values.specs.declared.moments.Moment.{Moment}
use Rattle.hippo_values.specs.declared.names.Name.{Name}
use Rattle.hippo_model.specs.declared.audit.Audit.{Audit}
use Rattle.hippo_model.specs.declared.audit.Pair.{Pair}
use Rattle.hippo_model.specs.Terms.{ShownRow}
use Rattle.hippo_report.specs.declared.format.Format.{Format}
use Rattle.hippo_audit_job.specs.Jobs.{OpenAudit}
use Rattle.hippo_values.specs.Limits.{session_limit, cursor_limit, job_limit, watch_limit}
use Rattle.hippo_engine_sessions.specs.declared.cursors.Cursor.{Cursor}
use Rattle.hippo_engine_sessions.specs.declared.sessions.Session.{Session}

-- what a run holds beside the history: the clock, the limit of entries, the format of flags,
-- sessions, audit jobs and watches. Sessions, jobs and watches are listed by their numbers, from
-- number 1 on.
pub record World : Type 0 where
  pub clock : Moment
  -- the greatest number of entries that the history may have
  pub limit : ℕ
  pub format : Format
  pub sessions : List (Option Session)
  pub jobs : List (Option OpenAudit)
  pub watches : List (Option Audit)

-- the value at a number, if there is one
abbrev pub at_number : {A : Type 0} → List (Option A) → ℕ → Option A
at_number places zero = None
at_number places (suc place) = option_flatten (slice_get places place)

-- the slots with another value at a number, or with none there
abbrev pub with_at : {A : Type 0} → List (Option A) → ℕ → Option A → List (Option A)
with_at places zero held = places
with_at places (suc place) held = slice_set places place held

-- the lowest number without a value
abbrev pub free_number : {A : Type 0} → List (Option A) → Option ℕ
free_number places = option_map (λ place. place + 1) (position is_none places)

-- this many empty slots
abbrev pub empty_slots : {A : Type 0} → ℕ → List (Option A)
empty_slots count = replicate count None

-- the world in which a run begins
abbrev pub opening : Moment → ℕ → Format → World
opening clock limit format = record {
  clock = clock;
  limit = limit;
  format = format;
  sessions = empty_slots session_limit;
  jobs = empty_slots job_limit;
  watches = empty_slots watch_limit;
}

abbrev pub session_at : World → ℕ → Option Session
session_at world number = at_number world.sessions number

abbrev pub with_session : World → ℕ → Option Session → World
with_session world number session =
    record world { sessions = with_at world.sessions number session }

-- a session without cursors
abbrev pub new_session : Name → Pair → Session
new_session user pair = record { user = user; pair = pair; cursors = empty_slots cursor_limit }

-- a cursor before its first row
abbrev pub new_cursor : List ShownRow → Cursor
new_cursor answer = record { answer = answer; given = 0 }

-- the next rows of a cursor, up to this many, and below, the cursor after them
abbrev pub rows_next : Cursor → ℕ → List ShownRow
rows_next cursor count = take count (drop cursor.given cursor.answer)

abbrev pub moved_on : Cursor → ℕ → Cursor
moved_on cursor count = record cursor { given = min (cursor.given + count) (length cursor.answer) }

-- the session with another cursor at a number, or with none there
abbrev pub with_cursor : Session → ℕ → Option Cursor → Session
with_cursor session number cursor =
    record session { cursors = with_at session.cursors number cursor }
