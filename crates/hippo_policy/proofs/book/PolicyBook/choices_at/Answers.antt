-- The choices that are kept are those of the history.
use Rattle.std.proofs.Common.{◌∙◌, ap}
use Rattle.hippo_policy.specs.declared.keys.ChoiceKey.{ChoiceKey}
use Rattle.hippo_policy.specs.Words.{latest}
use Rattle.hippo_policy.specs.Books.{choice_word}
use Rattle.hippo_policy.proofs.SaidLemmas.{latest-numbered_words}
use Rattle.hippo_policy.proofs.book.PolicyBook.choices_at.Goals as goal

pub returns : goal.returns
returns c history kept subject item =
    let key : ChoiceKey = record { subject = subject; item = item } in
    ap (latest c.args.n) (kept.choices key) ∙ latest-numbered_words (choice_word key) c.args.n history
