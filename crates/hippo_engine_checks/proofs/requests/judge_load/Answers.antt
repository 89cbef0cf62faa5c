-- The entry of a record is added, or the record is refused.
use Rattle.std.proofs.Common.{refl}
use Rattle.hippo_stmt_lines.specs.Forms.{loads}
use Rattle.hippo_stmt_lines.specs.Commands.{make_request}
use Rattle.hippo_engine_checks.specs.Judging.{judged_load}
use Rattle.hippo_engine_checks.proofs.FindingLemmas.{may_change, refused_change}
use Rattle.hippo_report.specs.declared.speaker.Speaker.TheVariants.{Console}
use Rattle.hippo_engine_checks.proofs.requests.judge_load.Goals as goal

pub returns-in-Ok : goal.returns-in-Ok
returns-in-Ok g c =
    may_change c.args.state.now (g.W.WorldView.seen c.args.world.now) (make_request Console (loads c.args.loaded.now.table.now c.args.loaded.now.text.now)) (λ history. judged_load history (g.W.WorldView.seen c.args.world.now) Console c.args.loaded.now.table.now c.args.loaded.now.text.now) refl
    (λ history. refl)
    c.in-Ok.entry refl c.in-Ok.ensures.found c.in-Ok.ensures.number c.in-Ok.ensures.follows

pub returns-in-Err : goal.returns-in-Err
returns-in-Err g c =
    refused_change c.args.state.now (g.W.WorldView.seen c.args.world.now) (make_request Console (loads c.args.loaded.now.table.now c.args.loaded.now.text.now)) (λ history. judged_load history (g.W.WorldView.seen c.args.world.now) Console c.args.loaded.now.table.now c.args.loaded.now.text.now) refl
    (λ history. refl)
    c.in-Err.refusal c.in-Err.ensures.found
