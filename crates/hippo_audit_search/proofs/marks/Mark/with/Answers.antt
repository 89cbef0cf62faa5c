-- One more combination: all have one tuple, or two of them differ.
use Rattle.std.proofs.Common.{sym, ◌∙◌}
use Rattle.hippo_audit_search.proofs.MarkLemmas.{mark-same, mark-other}
use Rattle.hippo_audit_search.proofs.marks.Mark.with.Goals as goal

pub returns-then-has_no_other : goal.returns-then-has_no_other
returns-then-has_no_other c tuples is = mark-same c.args.self.now tuples c.args.places is (sym c.has_no_other.ensures ∙ c.if-has_no_other.true)

pub returns-else-has_no_other : goal.returns-else-has_no_other
returns-else-has_no_other c tuples is = mark-other c.args.self.now tuples c.args.places is (sym c.has_no_other.ensures ∙ c.if-has_no_other.false)
