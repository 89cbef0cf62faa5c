-- The search for the first places of rows in the common tables: what it requires, and what it
-- finds.
use Rattle.std.specs.Prelude.{◌≡◌, ℕ, true, List, [], ◌∷◌, get_or, map, length, take, replicate, Option, None, Result, OnOk, IfOk, option_map}
use Rattle.std.specs.List.{All, Contains}
use Rattle.std.specs.List.Sorted.{IsNonDecreasing}
use Rattle.std.specs.Global.{Vec}
use Rattle.hippo_values.specs.declared.memory.Memory.{Memory}
use Rattle.hippo_model.specs.declared.query.Expr.{Expr}
use Rattle.hippo_model.specs.Terms.{Place}
use Rattle.hippo_model.specs.Masking.{Choices}
use Rattle.hippo_join_stages.specs.declared.sides.Side.{Side}
use Rattle.hippo_join_stages.specs.declared.stages.Stage.{Stage}
use Rattle.hippo_join.specs.Existence.{HasOne}
use Rattle.hippo_join_lookups.specs.Places.{stands}
use Rattle.hippo_join_stages.specs.Stages.{IsStage, Reaches, ReachesFrom}
use Rattle.hippo_audit_common.specs.declared.commons.CommonStages.{CommonStages}
use Rattle.hippo_audit_search.specs.declared.searching.Search.{Search}
use Rattle.hippo_audit_search.specs.declared.sides.Sides.{Sides}
use Rattle.hippo_audit_search.specs.FirstPlaces.{AgreeAt, AreCommon, AreOpen, AreWhole, ShareAt, IsFirst}

-- the chosen row of each of a side's tables, if one is chosen
abbrev pub Slots : Type 0
Slots = List (Option Place)

abbrev pub query_tables : List CommonStages → List Place
query_tables common = map (λ stages. stages.query.now.table) common

abbrev pub audit_tables : List CommonStages → List Place
audit_tables common = map (λ stages. stages.audit.now.table) common

abbrev pub IsStageOf : {C : Type 0} → (C → Choices) → Side C → Stage → Type 0
IsStageOf choices side stage = IsStage (choices side.choices.now) side.query.now side.sets.now stage

-- these are stages of all of a side's tables
abbrev pub AreWholeOf : {C : Type 0} → (C → Choices) → Side C → List Stage → Type 0
AreWholeOf choices side stages =
    AreWhole (choices side.choices.now) side.query.now side.sets.now stages

-- the first stages are those of these tables
abbrev pub BeginWith : List Stage → List Place → Type 0
BeginWith stages tables = take (length tables) (map (λ stage. stage.table) stages) ≡ tables

-- a side has a combination with the chosen rows that shows all wanted cells
abbrev pub HasOneOf : {C : Type 0} → (C → Choices) → Side C → List Expr → Slots → Type 0
HasOneOf choices side seen slots =
    HasOne (choices side.choices.now) side.query.now seen side.sets.now slots

-- every combination that counts for a side, with the chosen rows, has one of these places in the
-- stage's table
abbrev pub ReachesOf : {C : Type 0} → (C → Choices) → Side C → Stage → Slots → List Place → Type 0
ReachesOf choices side stage slots places =
    ReachesFrom (choices side.choices.now) side.query.now side.sets.now slots stage.table places

-- both sides have a combination with these places in the common tables that are left
abbrev pub Shared : {C : Type 0} → (C → Choices) → Search C → List CommonStages → Slots → Slots
    → List Place → Type 0
Shared choices sides left query audit =
    ShareAt (HasOneOf choices sides.query.now sides.seen.now) (HasOneOf choices sides.audit.now [])
    (query_tables left) (audit_tables left) query audit

-- each side has stages of all its tables, and no row is chosen in the common tables that are left
pub record IsSearchReady {C : Type 0} (choices : C → Choices) (sides : Search C)
    (left : List CommonStages)
    (query audit : Slots) : Type 0 where
  pub query_stages : AreWholeOf choices sides.query.now sides.query_stages.now
  pub audit_stages : AreWholeOf choices sides.audit.now sides.audit_stages.now
  pub query_left : All (IsStageOf choices sides.query.now) (map (λ stages. stages.query.now) left)
  pub audit_left : All (IsStageOf choices sides.audit.now) (map (λ stages. stages.audit.now) left)
  pub query_long : length query ≡ length sides.query.now.sets.now
  pub audit_long : length audit ≡ length sides.audit.now.sets.now
  pub query_open : AreOpen (query_tables left) query
  pub audit_open : AreOpen (audit_tables left) audit

-- the first shared places are found, and the slots are restored
pub record FindsFirstOf (shares : List Place → Type 0)
    (query audit query_after audit_after : Slots) (result : Result (Option (Vec ℕ)) Memory)
    : Type 0 where
  pub same_query : OnOk result (query_after ≡ query)
  pub same_audit : OnOk result (audit_after ≡ audit)
  pub first : IfOk result (λ found. IsFirst shares (option_map (λ places. places.items) found))

-- the first shared places in the common tables that are left are found, and the slots are restored
abbrev pub FindsFirst : {C : Type 0} → (C → Choices) → Search C → List CommonStages → Slots → Slots
    → Slots → Slots → Result (Option (Vec ℕ)) Memory → Type 0
FindsFirst choices sides left query audit query_after audit_after result =
    FindsFirstOf (Shared choices sides left query audit) query audit query_after audit_after result

-- with no other row chosen, both sides have a combination with these places of some tables
abbrev pub SharedPlaces : {C : Type 0} → (C → Choices) → Side C → Side C → List Expr → List Place
    → List Place
    → List Place → Type 0
SharedPlaces choices query audit seen tables others =
    ShareAt (HasOneOf choices query seen) (HasOneOf choices audit []) tables others
    (replicate (length query.sets.now) None) (replicate (length audit.sets.now) None)

-- the places of the common tables are valid on both sides
abbrev pub HaveCommon : {C : Type 0} → Sides C → Type 0
HaveCommon sides =
    AreCommon (length sides.query.sets.now) (length sides.audit.sets.now)
    sides.common.now.query.items
    sides.common.now.audit.items

-- both sides have a combination with these places in the common tables
abbrev pub SharedBy : {C : Type 0} → (C → Choices) → Sides C → List Place → Type 0
SharedBy choices sides =
    SharedPlaces choices sides.query sides.audit sides.seen.now sides.common.now.query.items
    sides.common.now.audit.items

-- every combination that counts for a side has these places in some tables
abbrev pub AreDetermined : {C : Type 0} → (C → Choices) → Side C → List Place → List Place → Type 0
AreDetermined choices side tables told =
    (places : List Place) → stands (choices side.choices.now) side.query.now side.sets.now places
    ≡ true
    → AgreeAt tables told places

-- no other places in the common tables are shared
abbrev pub IsOnlyShared : {C : Type 0} → (C → Choices) → Sides C → List Place → Type 0
IsOnlyShared choices sides told = (given : List Place) → SharedBy choices sides given → given ≡ told

-- of one table, every combination that counts for a side has a row at one of these ascending places
pub record AreFewOf {C : Type 0} (choices : C → Choices) (side : Side C) (tables few : List Place)
    : Type 0 where
  pub one : length tables ≡ 1
  pub rises : IsNonDecreasing few
  pub reaches : Reaches (choices side.choices.now) side.query.now side.sets.now (get_or tables 0 0)
      few

-- every shared place is one of these ascending places
pub record AreFewShared {C : Type 0} (choices : C → Choices) (sides : Sides C) (few : List Place)
    : Type 0 where
  pub rises : IsNonDecreasing few
  pub all : (given : List Place) → SharedBy choices sides given
      → (place : Place) × (given ≡ place ∷ []) × Contains few place
