-- If nobody speaks, a request for sessions is refused as to the console, and a request for the
-- console as to a session.
use Rattle.std.proofs.Common.{sym, ◌∙◌}
use Rattle.hippo_stmt_lines.specs.LentForms.{request}
use Rattle.hippo_engine_checks.proofs.RequestLemmas.{no_session, no_console}
use Rattle.hippo_engine_checks.proofs.requests.refused_to_nobody.Goals as goal

pub returns-then-is_of_session : goal.returns-then-is_of_session
returns-then-is_of_session c = λ state world. no_session (request c.args.asked.now) state world (sym c.is_of_session.ensures ∙ c.if-is_of_session.true)

pub returns-else-is_of_session : goal.returns-else-is_of_session
returns-else-is_of_session c = λ state world. no_console (request c.args.asked.now) state world (sym c.is_of_session.ensures ∙ c.if-is_of_session.false)
