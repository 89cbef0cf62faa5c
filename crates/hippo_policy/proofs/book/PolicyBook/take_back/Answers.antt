-- The values that the last entry set are removed.
use Rattle.std.proofs.Common.{sym, ◌∙◌}
use Rattle.hippo_policy.proofs.TakeBackLemmas.{before-nothing, before-cells, before-choice, before-user, before-item}
use Rattle.hippo_policy.proofs.book.PolicyBook.take_back.Goals as goal

pub returns-in-Nothing : goal.returns-in-Nothing
returns-in-Nothing c history entry of kept = before-nothing c.args.self.now history entry kept (sym c.in-Nothing.is ∙ of)

pub returns-in-Cells : goal.returns-in-Cells
returns-in-Cells c history entry of kept = before-cells c.args.self.now history entry kept c.in-Cells.keys (sym c.in-Cells.is ∙ of) c.pop_all.new.self (rw c.as_slice.ensures at c.pop_all.ensures)

pub returns-in-Choice : goal.returns-in-Choice
returns-in-Choice c history entry of kept = before-choice c.args.self.now history entry kept c.in-Choice.key (sym c.in-Choice.is ∙ of) c.pop.new.self c.pop.ensures

pub returns-in-User : goal.returns-in-User
returns-in-User c history entry of kept = before-user c.args.self.now history entry kept c.in-User.key (sym c.in-User.is ∙ of) c.pop-in-User.new.self c.pop-in-User.ensures

pub returns-in-Item : goal.returns-in-Item
returns-in-Item c history entry of kept = before-item c.args.self.now history entry kept c.in-Item.key (sym c.in-Item.is ∙ of) c.pop-in-Item.new.self c.pop-in-Item.ensures
