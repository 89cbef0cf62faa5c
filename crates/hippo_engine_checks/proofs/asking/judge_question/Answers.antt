-- The question that was found may be asked, or it is refused.
use Rattle.std.proofs.Common.{refl, sym, subst}
use Rattle.hippo_engine_checks.specs.declared.deeds.Deed.{Deed}
use Rattle.hippo_engine_checks.specs.declared.deeds.Question.{Question}
use Rattle.hippo_engine_checks.specs.Asking.{written_command}
use Rattle.hippo_engine_checks.specs.Findings.{Does}
use Rattle.hippo_engine_checks.proofs.AskedLemmas.{may_be_asked, refused_question}
use Rattle.hippo_engine_checks.proofs.asking.judge_question.Goals as goal

pub returns-in-Ok : goal.returns-in-Ok
returns-in-Ok g c =
    let asking = c.in-Ok.asking in
    let question : Question = record { session = c.args.session; text = c.in_ok-part.part; query = asking.query } in
    subst (λ (deed : Deed). Does (written_command c.args.session c.args.written.now c.args.text.now) deed c.args.state.now (g.W.WorldView.seen c.args.world.now)) (sym c.deed_of.ensures)
    (may_be_asked c.args.state.now (g.W.WorldView.seen c.args.world.now) c.args.session c.args.written.now c.args.text.now asking question
    c.requires.timely (rw c.clock.ensures at c.moment_fits.ensures) c.names_fit.ensures c.requires.of_line c.in_ok-part.ensures.short c.in-Ok.ensures.below c.in-Ok.ensures.answerable
    c.in-Ok.ensures.asker refl c.in-Ok.ensures.text refl (λ history stands. rw c.in_ok-part.ensures.cut at (c.in-Ok.ensures.found history stands)))

pub returns-in-Err : goal.returns-in-Err
returns-in-Err g c =
    refused_question c.args.state.now (g.W.WorldView.seen c.args.world.now) c.args.session c.args.written.now c.args.text.now c.in-Err.refusal
    (λ history stands. rw c.in_ok-part.ensures.cut at (c.in-Err.ensures.found history stands))
