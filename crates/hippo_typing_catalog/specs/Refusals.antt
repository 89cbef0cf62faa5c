-- Why a statement is refused: a list of all refusals that apply, in the order in which they are
-- reported. The reply is the first one. Each group of refusals is listed as if the groups before it
-- were empty.
use Rattle.std.specs.Prelude.{◌≡◌, ◌≢◌, Bool, not, List, [], ◌∷◌, ◌++◌, Some, is_none, Result, MatchResult, slice_get, if◌then◌else◌, bytes_eq}
use Rattle.std.specs.List.{list_any}
use Rattle.hippo_values.specs.declared.names.Name.{Name}
use Rattle.hippo_model.specs.declared.name_fault.NameFault.{NameFault}
use Rattle.hippo_model.specs.declared.name_fault.NameFault.TheVariants.{UnknownTable, UnknownPurpose, UnknownRecipient, UnknownItem, RepeatedName, Memory}
use Rattle.hippo_typing_catalog.specs.Catalogs.{KnownNames, table_of, has_purpose, has_recipient, item_of}

-- one refusal if the test holds, otherwise none
abbrev pub fault_if : Bool → NameFault → List NameFault
fault_if test fault = if test then fault ∷ [] else []

-- the fault is the first refusal, or out of memory
abbrev pub IsFirstOf : List NameFault → NameFault → Type 0
IsFirstOf refusals fault = fault ≢ Memory → slice_get refusals 0 ≡ Some fault

-- nothing is refused and the result is this form; or the result is the first refusal, or out of
-- memory
abbrev pub Resolves : {A : Type 0} → List NameFault → A → Result A NameFault → Type 0
Resolves refusals form result =
    MatchResult result (λ made. (refusals ≡ []) × (made ≡ form)) (λ fault. IsFirstOf refusals fault)

abbrev pub unknown_table : KnownNames → Name → List NameFault
unknown_table known table = fault_if (is_none (table_of known table)) (UnknownTable table)

abbrev pub unknown_purpose : KnownNames → Name → List NameFault
unknown_purpose known purpose = fault_if (not (has_purpose known purpose)) (UnknownPurpose purpose)

abbrev pub unknown_recipient : KnownNames → Name → List NameFault
unknown_recipient known recipient =
    fault_if (not (has_recipient known recipient)) (UnknownRecipient recipient)

abbrev pub unknown_item : KnownNames → Name → List NameFault
unknown_item known item = fault_if (is_none (item_of known item)) (UnknownItem item)

-- an unknown purpose, then an unknown recipient
abbrev pub unknown_pair : KnownNames → Name → Name → List NameFault
unknown_pair known purpose recipient =
    unknown_purpose known purpose ++ unknown_recipient known recipient

-- a refusal for each name that occurs before it
abbrev pub repeated_after : List Name → List Name → List NameFault
repeated_after before [] = []
repeated_after before (name ∷ rest) =
    fault_if (list_any (bytes_eq name) before) (RepeatedName name)
    ++ repeated_after (before ++ name ∷ []) rest

-- a refusal for each name that repeats an earlier one, in the order of the names
abbrev pub repeated_names : List Name → List NameFault
repeated_names names = repeated_after [] names
