use Rattle.std.proofs.Common.{refl, sym, subst, ap, ◌∙◌}
use Rattle.hippo_stmt_lines.specs.Commands as commands
use Rattle.hippo_engine_checks.specs.Checks.{Checked}
use Rattle.hippo_report.specs.declared.speaker.Speaker.TheVariants.{Console}
use Rattle.hippo_engine_checks.specs.declared.deeds.Deed.{Deed}
use Rattle.hippo_engine_checks.specs.Findings.{FindsDeed, begins, begun_with, free_to_begin}
use Rattle.hippo_engine_checks.proofs.FindingLemmas.{may_begin, refused_begin}
use Rattle.hippo_engine_checks.proofs.statements.judge_begin.Goals as goal

pub returns-in-Ok : goal.returns-in-Ok
returns-in-Ok g c = λ text.
    let command = commands.make_statement Console (begins c.args.lasting c.args.written.now) text in
    let finds = may_begin c.args.state.now (g.W.WorldView.seen c.args.world.now) c.args.written.now text c.in-Ok.audit
    (record { fits = c.in-Ok.ensures.audit; differ = c.in-Ok.ensures.differ }) c.in-Ok.ensures.found c.args.lasting (free_to_begin c.args.lasting (g.W.WorldView.seen c.args.world.now)) refl in
    subst (λ (found : Checked Deed). FindsDeed command found c.args.state.now (g.W.WorldView.seen c.args.world.now))
    (sym (c.begun_with.ensures ∙ ap (begun_with c.args.lasting c.in-Ok.audit) c.free_number.ensures)) finds

pub returns-in-Err : goal.returns-in-Err
returns-in-Err g c = λ text.
    refused_begin c.args.state.now (g.W.WorldView.seen c.args.world.now) c.args.written.now text c.args.lasting c.in-Err.refusal c.in-Err.ensures.found
