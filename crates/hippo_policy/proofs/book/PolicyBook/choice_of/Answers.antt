-- The last choice of the patient on the item.
use Rattle.std.proofs.Common.{◌∙◌}
use Rattle.hippo_policy.specs.declared.keys.ChoiceKey.{ChoiceKey}
use Rattle.hippo_policy.specs.Books.{choice_word}
use Rattle.hippo_policy.proofs.book.PolicyBook.choice_of.Goals as goal

pub returns-clause-history : goal.returns-clause-history
returns-clause-history c history kept =
    let key : ChoiceKey = record { subject = c.args.subject.now; item = c.args.item.now } in
    let found = rw c.lent.ensures at c.at.ensures.history in
    c.copied.ensures ∙ found (choice_word key) history (kept.choices key)
