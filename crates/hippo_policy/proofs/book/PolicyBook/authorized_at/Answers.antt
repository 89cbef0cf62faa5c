-- The last value of the user.
use Rattle.std.proofs.Common.{◌∙◌, ap}
use Rattle.hippo_model.specs.declared.policy.Authorization.TheVariants.{No}
use Rattle.std.proofs.Common.{unwrap_or}
use Rattle.hippo_policy.specs.declared.keys.UserKey.{UserKey}
use Rattle.hippo_policy.specs.Books.{user_word}
use Rattle.hippo_policy.proofs.book.PolicyBook.authorized_at.Goals as goal

pub returns : goal.returns
returns c history kept =
    let key : UserKey = record { user = c.args.user.now; purpose = c.args.purpose.now; recipient = c.args.recipient.now } in
    let found = rw c.lent-key.ensures at c.at.ensures.history in
    c.unwrap_or.ensures ∙ ap (λ word. unwrap_or word (No 0)) (c.copied.ensures ∙ found (user_word key) history (kept.users key))
