-- A query compared with an audit over the rows of both: what they share.
use Rattle.std.specs.Prelude.{◌≡◌, Bool, List, Option}
use Rattle.hippo_model.specs.declared.audit.SharedRow.{SharedRow}
use Rattle.hippo_model.specs.declared.query.Form.{Form}
use Rattle.hippo_model.specs.Terms.{Place}
use Rattle.hippo_model.specs.Masking.{Choices}
use Rattle.hippo_audit_common.specs.Commons.{common_tables}
use Rattle.hippo_audit_search.specs.declared.audited.Compared.{Compared}
use Rattle.hippo_audit_search.specs.Audited.{HasRowsFor}
use Rattle.hippo_audit_search.specs.Candidates.{AreCandidates, first_passing}
use Rattle.hippo_audit_search.specs.Needs.{first_needed}
use Rattle.hippo_audit_search.specs.Sharing.{first_shared}

-- the rows are those of the query's tables and of the audit's
abbrev pub HaveRows : {C : Type 0} → Compared C → Type 0
HaveRows compared = HasRowsFor compared.query.now.tables compared.audited.now

-- the first virtual tuple that a combination of each side has
abbrev pub shared_between : {C : Type 0} → (C → Choices) → Compared C → Option (List SharedRow)
shared_between choices compared =
    first_shared (choices compared.audited.now.choices.now) compared.query.now
    compared.audited.now.audit.now compared.seen.now
    compared.audited.now.query_sets.now compared.audited.now.audit_sets.now

-- the first virtual tuple that a query of this form needs and the audit has
abbrev pub needed_between : {C : Type 0} → (C → Choices) → Form → Compared C
    → Option (List SharedRow)
needed_between choices form compared =
    first_needed (choices compared.audited.now.choices.now) compared.query.now form
    compared.audited.now.audit.now compared.seen.now
    compared.audited.now.query_sets.now compared.audited.now.audit_sets.now

-- for every test that exactly the virtual tuples at these places pass, this is the first tuple that
-- passes and that a combination of each side has
abbrev pub IsFirstPassing : {C : Type 0} → (C → Choices) → Compared C → List (List Place)
    → Option (List SharedRow) → Type 0
IsFirstPassing choices compared candidates shared =
    (test : List SharedRow → Bool)
    → AreCandidates test compared.audited.now.audit.now.tables compared.audited.now.audit_sets.now
    (common_tables compared.query.now.tables compared.audited.now.audit.now.tables) candidates
    → shared ≡ first_passing test (choices compared.audited.now.choices.now) compared.query.now
    compared.audited.now.audit.now compared.seen.now
    compared.audited.now.query_sets.now compared.audited.now.audit_sets.now
