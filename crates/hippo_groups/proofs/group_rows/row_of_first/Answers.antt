-- The first member joins an empty group.
use Rattle.std.proofs.Common.{[]}
use Rattle.hippo_groups.proofs.group_rows.row_of_first.Goals as goal

pub returns : goal.returns
returns g c = c.joined.ensures c.args.key.now [] c.in_ok-first.ensures
