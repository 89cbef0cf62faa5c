use Rattle.std.proofs.Common.{◌&&◌}
use Rattle.hippo_model_laws.proofs.audits.both_needs.Goals as goal

pub returns : goal.returns
returns c = λ history context query audit tuple is_plain.
    λ i. c.plain_query_needs.ensures history context query tuple is_plain i && c.audit_needs.ensures history audit tuple i
