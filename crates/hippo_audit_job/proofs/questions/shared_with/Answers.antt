-- The logged query is taken apart and its text is read; or the entry is damaged.
use Rattle.std.proofs.Common.{sym, ◌∙◌}
use Rattle.hippo_audit_job.proofs.QuestionLemmas.{LooksAt-meant, LooksAt-examined, LooksAt-unnamed}
use Rattle.hippo_audit_job.proofs.questions.shared_with.Goals as goal

pub returns-in-Ok-Some : goal.returns-in-Ok-Some
returns-in-Ok-Some g c = record {
  looks = LooksAt-examined g.X.Examiner.terms c.args.past.now c.args.audit.now c.args.entry.now c.in-Ok-Some.query c.examine-shared.result c.args.examiner.now c.examine-shared.new.self (g.P.Keeper.state c.args.keeper.now) (g.P.Keeper.state c.examine-shared.new.keeper) c.args.steps.now c.examine-shared.new.steps
      (c.in-Some.question.purpose.now, c.in-Some.question.recipient.now, c.in-Some.question.text.now) (sym c.in-Some.ensures) (rw c.in-Ok-Some.field-0-is at c.in-Ok-Some.ensures) (sym c.is_exempt.ensures ∙ c.if-is_exempt.false) c.examine-shared.ensures.examines;
}

pub returns-in-Ok-None : goal.returns-in-Ok-None
returns-in-Ok-None g c = record {
  looks = LooksAt-unnamed g.X.Examiner.terms c.args.past.now c.args.audit.now c.args.entry.now c.args.examiner.now (g.P.Keeper.state c.args.keeper.now) c.args.steps.now c.requires.may.ready c.requires.may.is_sound c.requires.may.order
      (c.in-Some.question.purpose.now, c.in-Some.question.recipient.now, c.in-Some.question.text.now) (sym c.in-Some.ensures) (rw c.in-Ok-None.field-0-is at c.in-Ok-None.ensures);
}

pub returns-in-Err : goal.returns-in-Err
returns-in-Err g c = record {
  looks =
      LooksAt-meant g.X.Examiner.terms c.args.past.now c.args.audit.now c.args.entry.now c.args.examiner.now (g.P.Keeper.state c.args.keeper.now) c.args.steps.now c.requires.may.ready c.requires.may.is_sound c.requires.may.order
      (c.in-Some.question.purpose.now, c.in-Some.question.recipient.now, c.in-Some.question.text.now) (sym c.in-Some.ensures) c.in-Err.fault c.in-Err.ensures;
}
