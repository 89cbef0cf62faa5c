-- The cells have one more rule.
use Rattle.std.proofs.Common.{refl}
use Rattle.hippo_policy.proofs.BookLemmas.{as_before-rules, on_err}
use Rattle.hippo_policy.proofs.book.PolicyBook.add_rule.Goals as goal

pub returns-clause-ok : goal.returns-clause-ok
returns-clause-ok c = record {
  rules = rw c.remember.ensures (rw (c.as_slice.ensures, c.in_ok-keys.ensures, c.in_ok-ruling.ensures) at c.in_ok-push_all.ensures.ok);
  others = rw c.remember.ensures (rw c.in_ok-keys.ensures refl);
}

pub returns-in_err-push_all-clause-err : goal.returns-in_err-push_all-clause-err
returns-in_err-push_all-clause-err c = on_err c.from_residual-in_err-push_all.result (as_before-rules c.args.self.now c.push_all.new.self c.in_err-push_all.ensures.err)
