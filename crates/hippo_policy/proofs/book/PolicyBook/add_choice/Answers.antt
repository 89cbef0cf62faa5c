-- The patient and item have one more value.
use Rattle.hippo_policy.proofs.BookLemmas.{BookAdds-choice, as_before-choices, on_err}
use Rattle.hippo_policy.proofs.book.PolicyBook.add_choice.Goals as goal

pub returns-clause-ok : goal.returns-clause-ok
returns-clause-ok c = rw c.remember.ensures (rw c.in_ok-last.ensures (BookAdds-choice c.args.self.now c.args.number c.push.new.self c.args.subject.now c.args.item.now c.args.yes (rw c.in_ok-key.ensures at c.in_ok-push.ensures.ok)))

pub returns-in_err-push-clause-err : goal.returns-in_err-push-clause-err
returns-in_err-push-clause-err c = on_err c.from_residual-in_err-push.result (as_before-choices c.args.self.now c.push.new.self c.in_err-push.ensures.err)
