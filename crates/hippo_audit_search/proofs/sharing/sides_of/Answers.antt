-- The sides are made of what represents the audit.
use Rattle.std.proofs.Common.{refl}
use Rattle.hippo_audit_search.proofs.SharedTheorem.{common-served}
use Rattle.hippo_audit_search.proofs.sharing.sides_of.Goals as goal

pub returns-clause-are : goal.returns-clause-are
returns-clause-are g c = record {
  query_is = refl;
  query_rows = refl;
  query_choices = refl;
  audit_is = c.requires.side.condition;
  audit_rows = refl;
  audit_choices = refl;
  seen_is = c.as_slice.ensures;
  query_places = c.requires.side.query_places;
  audit_places = c.requires.side.audit_places;
}

pub returns-clause-common : goal.returns-clause-common
returns-clause-common g c = common-served c.args.compared.now.query.now c.args.compared.now.audited.now c.requires.rows c.args.side.now c.requires.side
