-- What represents an audit in a search, and the two sides that are made of it.
use Rattle.std.specs.Prelude.{◌≡◌, List, [], map, length, Option, IfSome}
use Rattle.hippo_values.specs.declared.names.Name.{Name}
use Rattle.hippo_model.specs.declared.audit.Audit.{Audit}
use Rattle.hippo_model.specs.declared.audit.SharedRow.{SharedRow}
use Rattle.hippo_model.specs.declared.query.Expr.{Expr}
use Rattle.hippo_model.specs.declared.query.Masked.{Masked}
use Rattle.hippo_model.specs.Terms.{Place}
use Rattle.hippo_eval.specs.Unmasked.{unmasked_condition}
use Rattle.hippo_join_implied.specs.Implied.{query_with_implied}
use Rattle.hippo_join_lookups.specs.Places.{blank}
use Rattle.hippo_audit_search.specs.declared.audited.Audited.{Audited}
use Rattle.hippo_audit_search.specs.declared.audited.Compared.{Compared}
use Rattle.hippo_audit_search.specs.declared.sharing.AuditSide.{AuditSide}
use Rattle.hippo_audit_search.specs.declared.sides.Sides.{Sides}
use Rattle.hippo_audit_common.specs.Commons.{common_tables, place_in}
use Rattle.hippo_audit_search.specs.Tuples.{tuple_at}

-- an audit's condition, with what it implies, as a query without guards
abbrev pub condition_alone : Audit → Masked
condition_alone audit =
    query_with_implied
    (record { items = []; tables = []; guards = []; cond = unmasked_condition audit.cond })

-- the places, among some tables, of those that a query and an audit have in common
abbrev pub common_in : List Name → Masked → Audit → List Place
common_in tables query audit = map (place_in tables) (common_tables query.tables audit.tables)

-- a query represents an audit, and the places of its tables in common with another query are known
pub record RepresentsAudit (query : Masked) (audit : Audit) (side : AuditSide) : Type 0 where
  pub condition : side.unmasked ≡ condition_alone audit
  pub query_places : side.common.query.items ≡ common_in query.tables query audit
  pub audit_places : side.common.audit.items ≡ common_in audit.tables query audit
  pub blank_is : side.blank ≡ blank

-- these are the sides of a query and of an audit, over the rows given with the audit
pub record AreSidesOf {C : Type 0} (query : Masked) (shown : List Expr) (audited : Audited C)
    (sides : Sides C)
    : Type 0 where
  pub query_is : sides.query.query.now ≡ query
  pub query_rows : sides.query.sets.now ≡ audited.query_sets.now
  pub query_choices : sides.query.choices.now ≡ audited.choices.now
  pub audit_is : sides.audit.query.now ≡ condition_alone audited.audit.now
  pub audit_rows : sides.audit.sets.now ≡ audited.audit_sets.now
  pub audit_choices : sides.audit.choices.now ≡ audited.choices.now
  pub seen_is : sides.seen.now ≡ shown
  pub query_places : sides.common.now.query.items ≡ common_in query.tables query audited.audit.now
  pub audit_places : sides.common.now.audit.items
      ≡ common_in audited.audit.now.tables query audited.audit.now

-- the places of the common tables among the audit's tables
abbrev pub places_beside : {C : Type 0} → Compared C → List Place
places_beside compared =
    let audit = compared.audited.now.audit.now in common_in audit.tables compared.query.now audit

-- if places were found, there is one for each common table
abbrev pub AreOfTuple : {C : Type 0} → Compared C → Option (List Place) → Type 0
AreOfTuple compared found =
    IfSome found (λ places. length places ≡ length (places_beside compared))

-- the virtual tuple of the rows at some places of the common tables
abbrev pub tuple_there : {C : Type 0} → Compared C → List Place → List SharedRow
tuple_there compared places =
    tuple_at compared.audited.now.audit.now.tables compared.audited.now.audit_sets.now
    (places_beside compared) places
