-- The acts that set a value that a book keeps, and those that set none.
use Rattle.std.proofs.Common.{refl}
use Rattle.std.proofs.lemmas.Result.{on_ok_weaker}
use Rattle.hippo_policy.proofs.BookLemmas.{leaves_book-rest, BookAdds-silent, BookAdds-authorize, BookAdds-deauthorize, BookAdds-allow, BookAdds-revoke}
use Rattle.hippo_policy.proofs.book.PolicyBook.add.Goals as goal

pub returns-in_default : goal.returns-in_default
returns-in_default c =
    let rest = c.in_default in
    record {
      ok = rw c.remember.ensures (BookAdds-silent c.args.self.now c.args.entry.now.seq c.args.entry.now.act (leaves_book-rest c.args.entry.now.act rest.not-Item rest.not-Authorize rest.not-Deauthorize rest.not-Allow rest.not-Revoke rest.not-Choice));
      err = tt;
      deletes = λ silent. refl;
    }

pub returns-in-Authorize-clause-ok : goal.returns-in-Authorize-clause-ok
returns-in-Authorize-clause-ok c =
    let added = BookAdds-authorize c.args.self.now c.args.entry.now.seq c.add_user.new.self c.in-Authorize.user c.in-Authorize.purpose c.in-Authorize.recipient in
    rw c.in-Authorize.is (on_ok_weaker c.add_user.result added c.add_user.ensures.ok)

pub returns-in-Deauthorize-clause-ok : goal.returns-in-Deauthorize-clause-ok
returns-in-Deauthorize-clause-ok c =
    let added = BookAdds-deauthorize c.args.self.now c.args.entry.now.seq c.add_user-in-Deauthorize.new.self c.in-Deauthorize.user c.in-Deauthorize.purpose c.in-Deauthorize.recipient in
    rw c.in-Deauthorize.is (on_ok_weaker c.add_user-in-Deauthorize.result added c.add_user-in-Deauthorize.ensures.ok)

pub returns-in-Allow-clause-ok : goal.returns-in-Allow-clause-ok
returns-in-Allow-clause-ok c =
    let added = BookAdds-allow c.args.self.now c.args.entry.now.seq c.add_rule.new.self c.in-Allow.purpose c.in-Allow.recipient c.in-Allow.table c.in-Allow.columns c.in-Allow.item c.in-Allow.days in
    rw c.in-Allow.is (on_ok_weaker c.add_rule.result added (rw c.in-Allow.is at c.add_rule.ensures.ok))

pub returns-in-Revoke-clause-ok : goal.returns-in-Revoke-clause-ok
returns-in-Revoke-clause-ok c =
    let added = BookAdds-revoke c.args.self.now c.args.entry.now.seq c.add_rule-in-Revoke.new.self c.in-Revoke.purpose c.in-Revoke.recipient c.in-Revoke.table c.in-Revoke.columns in
    rw c.in-Revoke.is (on_ok_weaker c.add_rule-in-Revoke.result added (rw c.in-Revoke.is at c.add_rule-in-Revoke.ensures.ok))
