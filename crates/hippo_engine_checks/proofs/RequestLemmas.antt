-- A request is refused to a speaker who may not make it.
use Rattle.std.proofs.Common.{◌≡◌, ◌<◌, ◌≤◌, true, false, length, Err, refl}
use Rattle.hippo_report.specs.declared.refusal.Refusal.TheVariants.{ConsoleOnly, SessionsOnly}
use Rattle.hippo_report.specs.declared.speaker.Speaker.{Speaker}
use Rattle.hippo_report.specs.declared.speaker.Speaker.TheVariants.{Nobody}
use Rattle.hippo_stmt_lines.specs.Forms.{Request, logs_in, logs_out, fetches, closes, steps, drops, unwatches, loads}
use Rattle.hippo_stmt_lines.specs.Commands.{make_request}
use Rattle.hippo_replay.specs.declared.state.State.{State}
use Rattle.hippo_engine_sessions.specs.Worlds.{World}
use Rattle.hippo_engine_checks.specs.Findings.{IsJudged, IsRefused, is_of_session}
use Rattle.hippo_engine_checks.proofs.FindingLemmas.{refused_so}
use Rattle.hippo_engine_checks.proofs.LengthLemmas.{IsSpeaker, console_only_fits, sessions_only_fits}

-- what only the console may ask for
pub console_only : (who : Speaker) (request : Request) (state : State) (world : World) → IsSpeaker who → IsJudged (make_request who request) state world (Err ConsoleOnly) → IsRefused (make_request who request) ConsoleOnly state world
console_only who request state world is judged = refused_so (make_request who request) ConsoleOnly state world judged (console_only_fits who is)

-- what only sessions may ask for
pub sessions_only : (who : Speaker) (request : Request) (state : State) (world : World) → IsSpeaker who → IsJudged (make_request who request) state world (Err SessionsOnly) → IsRefused (make_request who request) SessionsOnly state world
sessions_only who request state world is judged = refused_so (make_request who request) SessionsOnly state world judged (sessions_only_fits who is)

-- if nobody speaks, the line comes neither from a session nor from the console
pub no_session : (request : Request) (state : State) (world : World) → is_of_session request ≡ true → IsRefused (make_request Nobody request) SessionsOnly state world
no_session (logs_in user purpose recipient) state world is = sessions_only Nobody (logs_in user purpose recipient) state world tt (λ history stands. refl)
no_session logs_out state world is = sessions_only Nobody logs_out state world tt (λ history stands. refl)
no_session (fetches cursor count) state world is = sessions_only Nobody (fetches cursor count) state world tt (λ history stands. refl)
no_session (closes cursor) state world is = sessions_only Nobody (closes cursor) state world tt (λ history stands. refl)
no_session _ state world is = absurd cc

pub no_console : (request : Request) (state : State) (world : World) → is_of_session request ≡ false → IsRefused (make_request Nobody request) ConsoleOnly state world
no_console (steps job count) state world is = console_only Nobody (steps job count) state world tt (λ history stands. refl)
no_console (drops job) state world is = console_only Nobody (drops job) state world tt (λ history stands. refl)
no_console (unwatches watch) state world is = console_only Nobody (unwatches watch) state world tt (λ history stands. refl)
no_console (loads table text) state world is = console_only Nobody (loads table text) state world tt (λ history stands. refl)
no_console _ state world is = absurd cc
