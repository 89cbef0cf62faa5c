-- The item has one more value.
use Rattle.hippo_policy.proofs.BookLemmas.{BookAdds-item}
use Rattle.hippo_policy.proofs.book.PolicyBook.add_item.Goals as goal

pub returns-clause-ok : goal.returns-clause-ok
returns-clause-ok c = rw c.remember.ensures (rw c.in_ok-last.ensures (BookAdds-item c.args.self.now c.args.number c.push.new.self c.args.item.now c.args.kind (rw c.in_ok-key.ensures at c.in_ok-push.ensures.ok)))
