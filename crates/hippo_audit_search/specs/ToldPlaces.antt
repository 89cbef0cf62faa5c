-- What lookups on a side find for the common tables: the only possible places, or few places in the
-- only table.
use Rattle.std.specs.Prelude.{List}
use Rattle.hippo_model.specs.Terms.{Place}
use Rattle.hippo_model.specs.Masking.{Choices}
use Rattle.hippo_join_stages.specs.declared.sides.Side.{Side}
use Rattle.hippo_audit_search.specs.declared.sides.Sides.{Sides}
use Rattle.hippo_audit_search.specs.declared.told.HowMany.{HowMany}
use Rattle.hippo_audit_search.specs.declared.told.HowMany.TheVariants.{Only, Few}
use Rattle.hippo_audit_search.specs.Searching.{AreDetermined, AreFewOf, IsOnlyShared, AreFewShared}

-- what the lookups of a side find for some tables
abbrev pub AreToldOf : {C : Type 0} → HowMany → (C → Choices) → Side C → List Place → List Place
    → Type 0
AreToldOf Only choices side tables told = AreDetermined choices side tables told
AreToldOf Few choices side tables told = AreFewOf choices side tables told

-- what they say about the shared places
abbrev pub AreToldShared : {C : Type 0} → HowMany → (C → Choices) → Sides C → List Place → Type 0
AreToldShared Only choices sides told = IsOnlyShared choices sides told
AreToldShared Few choices sides told = AreFewShared choices sides told
