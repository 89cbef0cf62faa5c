-- The first member joins an empty group.
use Rattle.std.proofs.Common.{[]}
use Rattle.hippo_audit_needs.proofs.group_marks.marks_of_first.Goals as goal

pub returns : goal.returns
returns c = c.joined.ensures [] c.in_ok-none.ensures
