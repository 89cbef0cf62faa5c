-- The same cells are shown.
use Rattle.std.proofs.Common.{◌≡◌, ◌∙◌, ℤ, Bool, true, false, not, ◌||◌, Option, Some, None, refl, sym, ap}
use Rattle.std.specs.Prelude.{ℕ, ◌-ℤ◌, option_map, if◌then◌else◌}
use Rattle.std.specs.Option.{option_map_or}
use Rattle.hippo_values.specs.declared.names.Name.{Name}
use Rattle.hippo_model.specs.declared.policy.Verdict.TheVariants.{Shown, Denied}
use Rattle.hippo_model.specs.Rules.{Rule, allowed, revoked, rule_at}
use Rattle.hippo_model.specs.Terms.{History}
use Rattle.hippo_model.specs.Verdicts.{agrees, consents, has_ended, verdict_by, subject_of}
use Rattle.hippo_model.specs.Views.{is_shown}
use Rattle.hippo_history_carry.specs.Carrying.{carried}
use Rattle.hippo_history_carry.specs.CarryLaws.{without_number, CarriesVerdicts}
use Rattle.hippo_history_carry.proofs.WordLemmas.{carries_names, carries_choices, carries_rules}

-- whether a cell is shown does not depend on a rule's number
shown_or_denied : (denied : Bool) (number : ℕ) → is_shown (if denied then Denied number else Shown) ≡ is_shown (if denied then Denied 0 else Shown)
shown_or_denied true number = refl
shown_or_denied false number = refl

unnumbered : (history : History) (age : ℤ) (subject : Option ℤ) (rule : Option Rule) → is_shown (verdict_by history age subject rule) ≡ is_shown (verdict_by history age subject (option_map without_number rule))
unnumbered history age subject None = refl
unnumbered history age subject (Some (revoked number)) = refl
unnumbered history age subject (Some (allowed number item days)) = shown_or_denied (has_ended age days || not (consents history subject item)) number

module _ (history : History) where
  same_consents : (subject : Option ℤ) (item : Option Name) → consents (carried history) subject item ≡ consents history subject item
  same_consents subject None = refl
  same_consents None (Some item) = refl
  same_consents (Some subject) (Some item) = λ i. option_map_or (λ kind. agrees kind (carries_choices history subject item i)) ((carries_names history).items item i) false

  same_verdict : (age : ℤ) (subject : Option ℤ) (rule : Option Rule) → verdict_by (carried history) age subject rule ≡ verdict_by history age subject rule
  same_verdict age subject None = refl
  same_verdict age subject (Some (revoked number)) = refl
  same_verdict age subject (Some (allowed number item days)) = ap (λ (b : Bool). if has_ended age days || not b then Denied number else Shown) (same_consents subject item)

pub carries_verdicts : CarriesVerdicts
carries_verdicts history context schema kept column =
    let age : ℤ = context.moment -ℤ kept.born in
    let subject : Option ℤ = subject_of schema kept.row in
    let old : Option Rule = rule_at history context.purpose context.recipient schema.name column in
    let new : Option Rule = rule_at (carried history) context.purpose context.recipient schema.name column in
    unnumbered (carried history) age subject new
    ∙ ap (λ (rule : Option Rule). is_shown (verdict_by (carried history) age subject rule)) (carries_rules history context.purpose context.recipient schema.name column)
    ∙ ap is_shown (same_verdict history age subject (option_map without_number old)) ∙ sym (unnumbered history age subject old)
