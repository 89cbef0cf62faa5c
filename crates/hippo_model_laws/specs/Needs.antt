-- Laws on what a plain query and an audit expression need.
use Rattle.std.specs.Prelude.{◌≡◌, Bool, ◌&&◌, List}
use Rattle.std.specs.List.{list_any}
use Rattle.hippo_values.specs.declared.names.Name.{Name}
use Rattle.hippo_model.specs.declared.audit.Audit.{Audit}
use Rattle.hippo_model.specs.declared.audit.SharedRow.{SharedRow}
use Rattle.hippo_model.specs.declared.query.CondOf.{CondOf}
use Rattle.hippo_model.specs.declared.query.Form.TheVariants.{Plain}
use Rattle.hippo_model.specs.declared.query.Operand.{Operand}
use Rattle.hippo_model.specs.declared.query.Query.{Query}
use Rattle.hippo_model.specs.Terms.{History, ShownRow}
use Rattle.hippo_model.specs.Verdicts.{Context}
use Rattle.hippo_model.specs.Answers.{passes, seen_combinations, unmasked_combinations}
use Rattle.hippo_model.specs.Audits.{has_tuple, query_needs, audit_needs}

-- whether a condition is true of some combination of the tables' rows that has a virtual tuple's
-- keys
abbrev pub has_true : History → List Name → CondOf Operand → List SharedRow → List (List ShownRow)
    → Bool
has_true history tables condition tuple combinations =
    list_any (λ rows. has_tuple history tables tuple rows && passes condition rows) combinations

-- a plain query needs a virtual tuple exactly when its condition is true of some combination of
-- view rows that has the tuple
abbrev pub PlainQueryNeeds : Type 0
PlainQueryNeeds =
    (history : History) (context : Context) (query : Query) (tuple : List SharedRow)
    → query.form ≡ Plain
    → query_needs history context query tuple
    ≡ has_true history query.tables query.cond tuple (seen_combinations history context query)

-- an audit expression needs a virtual tuple exactly when its condition is true of some combination
-- of unmasked rows that has the tuple
abbrev pub AuditNeeds : Type 0
AuditNeeds =
    (history : History) (audit : Audit) (tuple : List SharedRow)
    → audit_needs history audit tuple
    ≡ has_true history audit.tables audit.cond tuple (unmasked_combinations history audit)

-- a plain query and an audit both need a virtual tuple exactly when each has a combination with the
-- tuple of which its condition is true
abbrev pub BothNeeds : Type 0
BothNeeds =
    (history : History) (context : Context) (query : Query) (audit : Audit) (tuple : List SharedRow)
    → query.form ≡ Plain
    → (query_needs history context query tuple && audit_needs history audit tuple)
    ≡ (has_true history query.tables query.cond tuple (seen_combinations history context query)
    && has_true history audit.tables audit.cond tuple (unmasked_combinations history audit))
