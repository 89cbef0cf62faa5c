-- The user has one more value.
use Rattle.std.proofs.Common.{refl}
use Rattle.hippo_policy.proofs.BookLemmas.{as_before-users, on_err}
use Rattle.hippo_policy.proofs.book.PolicyBook.add_user.Goals as goal

pub returns-clause-ok : goal.returns-clause-ok
returns-clause-ok c = record {
  users = rw c.remember.ensures (rw c.in_ok-key.ensures at c.in_ok-push.ensures.ok);
  others = rw c.remember.ensures (rw c.in_ok-last.ensures refl);
}

pub returns-in_err-push-clause-err : goal.returns-in_err-push-clause-err
returns-in_err-push-clause-err c = on_err c.from_residual-in_err-push.result (as_before-users c.args.self.now c.push.new.self c.in_err-push.ensures.err)
