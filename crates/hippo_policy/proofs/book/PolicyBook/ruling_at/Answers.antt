-- The last rule of the cell.
use Rattle.hippo_policy.specs.Books.{rule_word}
use Rattle.hippo_policy.proofs.book.PolicyBook.ruling_at.Goals as goal

pub returns : goal.returns
returns c history kept = c.at.ensures (rule_word c.args.cell.now) history (kept.rules c.args.cell.now)
