-- Combinations count for the query that represents the audit.
use Rattle.hippo_audit_search.proofs.SideLemmas.{audit-none}
use Rattle.hippo_audit_search.proofs.candidates.audit_has_any.Goals as goal

pub returns : goal.returns
returns g c = audit-none (g.C.ChoiceView.choices c.args.audited.now.choices.now) c.args.audited.now.audit.now c.args.audited.now.audit_sets.now c.in_ok-unmasked.unmasked c.in_ok-unmasked.ensures c.any_counts-has.result c.any_counts-has.ensures
