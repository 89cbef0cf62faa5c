-- Each part is that of the entries before the query.
use Rattle.std.proofs.Common.{◌∙◌}
use Rattle.hippo_model.specs.Rows.{key_of}
use Rattle.hippo_history_uses.proofs.cells.UsedRow.access.Goals as goal

pub returns : goal.returns
returns c = λ history stands. λ i. record {
  entry = c.args.self.now.asked.now.entry;
  moment = c.args.self.now.asked.now.moment;
  user = c.in_ok-user.ensures i;
  purpose = c.in_ok-purpose.ensures i;
  recipient = c.in_ok-recipient.ensures i;
  table = c.in_ok-table.ensures i;
  key = (c.in_ok-key.ensures ∙ (λ j. key_of (c.as_slice.ensures j) (c.as_slice-2.ensures j))) i;
  shown = c.in_ok-shown.ensures history stands i;
  tested = c.in_ok-tested.ensures history stands i;
  denied = c.in_ok-denied.ensures history stands i;
}
