-- The last value of the item.
use Rattle.std.proofs.Common.{◌∙◌}
use Rattle.hippo_policy.specs.Books.{item_word}
use Rattle.hippo_policy.proofs.book.PolicyBook.item_at.Goals as goal

pub returns : goal.returns
returns c history kept =
    let found = rw c.lent.ensures at c.at.ensures.history in
    c.copied.ensures ∙ found (item_word c.args.item.now) history (kept.items c.args.item.now)
