-- Unmasked rows are the rows with every cell shown.
use Rattle.std.proofs.Common.{◌∙◌}
use Rattle.hippo_audit_search.proofs.HistoryLemmas.{audit-has}
use Rattle.hippo_audit_search.proofs.laws.audit_needs_what_it_has.Goals as goal

pub returns : goal.returns
returns c = λ history audit tuple all. c.audit_needs.ensures history audit tuple ∙ audit-has history audit tuple all
