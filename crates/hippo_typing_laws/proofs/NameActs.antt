-- What the checks guarantee of the names of a changing statement.
use Rattle.std.proofs.Common.{◌≡◌, true, [], sym, ap, ◌∙◌}
use Rattle.std.specs.Prelude.{is_none, is_some, not}
use Rattle.std.proofs.lemmas.Bool.{and_from, not_from_false}
use Rattle.hippo_values.specs.declared.names.Name.{Name}
use Rattle.hippo_model.specs.declared.name_fault.NameFault.TheVariants.{UnknownPurpose, UnknownRecipient, UnknownItem, AlreadyThere}
use Rattle.hippo_model.specs.Histories.{item_at}
use Rattle.hippo_model.specs.Terms.{History}
use Rattle.hippo_model.specs.Validity.{is_purpose, is_recipient, pair_exists}
use Rattle.hippo_typing_catalog.specs.Catalogs.{known_at, has_purpose, has_recipient, item_of}
use Rattle.hippo_typing_catalog.specs.ChangesRefused.{known_name_refused}
use Rattle.hippo_typing_catalog.specs.Refusals.{unknown_purpose, unknown_recipient, unknown_pair, unknown_item}
use Rattle.hippo_typing.specs.ResolutionLaws.{NamesAreThoseOf}
use Rattle.hippo_typing_laws.proofs.RefusalLemmas.{none_of_both, not_refused, passed, there, absent}

module _ (history : History) (names : NamesAreThoseOf history) where
  pub new_purpose : (purpose : Name) → known_name_refused (has_purpose (known_at history) purpose) purpose ≡ [] → not (is_purpose history purpose) ≡ true
  new_purpose purpose none = not_from_false _ (sym (names.purposes purpose) ∙ not_refused (has_purpose (known_at history) purpose) (AlreadyThere purpose) none)

  pub new_recipient : (recipient : Name) → known_name_refused (has_recipient (known_at history) recipient) recipient ≡ [] → not (is_recipient history recipient) ≡ true
  new_recipient recipient none = not_from_false _ (sym (names.recipients recipient) ∙ not_refused (has_recipient (known_at history) recipient) (AlreadyThere recipient) none)

  pub new_item : (item : Name) → known_name_refused (is_some (item_of (known_at history) item)) item ≡ [] → is_none (item_at history item) ≡ true
  new_item item none = sym (ap is_none (names.items item)) ∙ absent (item_of (known_at history) item) (AlreadyThere item) none

  pub known_item : (item : Name) → unknown_item (known_at history) item ≡ [] → is_some (item_at history item) ≡ true
  known_item item none = sym (ap is_some (names.items item)) ∙ there (item_of (known_at history) item) (UnknownItem item) none

  pub known_pair : (purpose recipient : Name) → unknown_pair (known_at history) purpose recipient ≡ [] → pair_exists history purpose recipient ≡ true
  known_pair purpose recipient none =
      let both = none_of_both (unknown_purpose (known_at history) purpose) (unknown_recipient (known_at history) recipient) none in
      and_from _ _
      (sym (names.purposes purpose) ∙ passed (has_purpose (known_at history) purpose) (UnknownPurpose purpose) both.0)
      (sym (names.recipients recipient) ∙ passed (has_recipient (known_at history) recipient) (UnknownRecipient recipient) both.1)
