-- The gate of a rule decides as the rule's verdict does.
use Rattle.std.proofs.Common.{◌≡◌, ◌∙◌, refl, ap, arith, ℕ, ◌<◌, ℤ, ◌-ℤ◌, Bool, true, false, not, ◌&&◌, ◌||◌, if◌then◌else◌, length, Option, None, Some, option_map}
use Rattle.std.proofs.lemmas.Int.{ints}
use Rattle.std.proofs.lemmas.List.FromFn.{get_or-map-range_with_len}
use Rattle.std.specs.Prelude.{int_le}
use Rattle.std.specs.Option.{option_map_or}
use Rattle.hippo_values.specs.declared.moments.Moment.{Moment}
use Rattle.hippo_values.specs.declared.names.Name.{Name}
use Rattle.hippo_model.specs.declared.born_row.BornRow.{BornRow}
use Rattle.hippo_model.specs.declared.entry.ItemKind.{ItemKind}
use Rattle.hippo_model.specs.declared.entry.ItemKind.TheVariants.{OptIn, OptOut}
use Rattle.hippo_model.specs.declared.policy.Gate.{Gate}
use Rattle.hippo_model.specs.declared.policy.Gate.TheVariants.{Never}
use Rattle.hippo_model.specs.declared.policy.Verdict.{Verdict}
use Rattle.hippo_model.specs.declared.policy.Verdict.TheVariants.{Shown, Denied}
use Rattle.hippo_model.specs.declared.schema.Schema.{Schema}
use Rattle.hippo_model.specs.Terms.{History, Place}
use Rattle.hippo_model.specs.Histories.{item_at}
use Rattle.hippo_model.specs.Rules.{Rule, allowed, revoked, rule_at, choice_at}
use Rattle.hippo_model.specs.Verdicts.{Context, agrees, days_long, has_ended, subject_of, verdict, verdict_by}
use Rattle.hippo_policy.specs.Gates.{after, gate_of_item, gate_by, table_rules, is_born_after, gate_verdict, gate_in, rules_verdict}

-- a row's age and its birth agree on a rule's days
ended : (moment born : Moment) (days : ℕ) → int_le born (after moment days) ≡ int_le (days_long days) (moment -ℤ born)
ended moment born days = grind (arith, ints)

born_after : (moment born : Moment) (days : Option ℕ) → is_born_after born (option_map (after moment) days) ≡ not (has_ended (moment -ℤ born) days)
born_after moment born None = refl
born_after moment born (Some days) = ap not (ended moment born days)

denied_or : (rule : ℕ) (is_over : Bool) → ◌≡◌ {A = Verdict} (Denied rule) (if is_over || true then Denied rule else Shown)
denied_or rule true = refl
denied_or rule false = refl

aged : (rule : ℕ) (is_over : Bool) → ◌≡◌ {A = Verdict} (if not is_over then Shown else Denied rule) (if is_over || false then Denied rule else Shown)
aged rule true = refl
aged rule false = refl

with_choice : (rule : ℕ) (is_over agreed : Bool) → ◌≡◌ {A = Verdict} (if not is_over && agreed then Shown else Denied rule) (if is_over || not agreed then Denied rule else Shown)
with_choice rule true agreed = refl
with_choice rule false true = refl
with_choice rule false false = refl

module _ (history : History) (moment born : Moment) (rule : ℕ) (item : Name) (days : Option ℕ) where
  abbrev by_item : Option ℤ → Option ItemKind → Verdict
  by_item subject found = gate_verdict (choice_at history) born subject (gate_of_item moment rule item days found)

  -- if the row is about nobody
  about_nobody : (found : Option ItemKind) → by_item None found ≡ (if has_ended (moment -ℤ born) days || true then Denied rule else Shown)
  about_nobody None = denied_or rule (has_ended (moment -ℤ born) days)
  about_nobody (Some kind) = rw (born_after moment born days) (with_choice rule (has_ended (moment -ℤ born) days) false)

  -- if the row is about a patient
  about : (subject : ℤ) (found : Option ItemKind) → by_item (Some subject) found
      ≡ (if has_ended (moment -ℤ born) days || not (option_map_or (λ kind. agrees kind (choice_at history subject item)) found false) then Denied rule else Shown)
  about subject None = denied_or rule (has_ended (moment -ℤ born) days)
  about subject (Some OptIn) = rw (born_after moment born days) (with_choice rule (has_ended (moment -ℤ born) days) (agrees OptIn (choice_at history subject item)))
  about subject (Some OptOut) = rw (born_after moment born days) (with_choice rule (has_ended (moment -ℤ born) days) (agrees OptOut (choice_at history subject item)))

-- the gate of a rule decides as its verdict does
pub gate_verdict-gate_by : (history : History) (moment born : Moment) (subject : Option ℤ) (rule : Option Rule)
    → gate_verdict (choice_at history) born subject (gate_by history moment rule) ≡ verdict_by history (moment -ℤ born) subject rule
gate_verdict-gate_by history moment born subject None = refl
gate_verdict-gate_by history moment born subject (Some (revoked rule)) = refl
gate_verdict-gate_by history moment born subject (Some (allowed rule None None)) = refl
gate_verdict-gate_by history moment born subject (Some (allowed rule None (Some days))) = rw (ended moment born days) (aged rule (has_ended (moment -ℤ born) (Some days)))
gate_verdict-gate_by history moment born None (Some (allowed rule (Some item) days)) = about_nobody history moment born rule item days (item_at history item)
gate_verdict-gate_by history moment born (Some subject) (Some (allowed rule (Some item) days)) = about history moment born rule item days subject (item_at history item)

-- the gate of each column decides as the verdict on its cells does
pub rules_verdict-table_rules : (history : History) (context : Context) (schema : Schema) (kept : BornRow) (column : Place) → column < length schema.columns
    → rules_verdict (choice_at history) (table_rules history context schema) kept column ≡ verdict history context schema kept column
rules_verdict-table_rules history context schema kept column within =
    let gate : Place → Gate = λ place. gate_by history context.moment (rule_at history context.purpose context.recipient schema.name place) in
    let found : gate_in (table_rules history context schema) column ≡ gate column = get_or-map-range_with_len gate 0 (length schema.columns) column column (Never 0) within (omega arith) in
    ap (gate_verdict (choice_at history) kept.born (subject_of schema kept.row)) found
    ∙ gate_verdict-gate_by history context.moment kept.born (subject_of schema kept.row) (rule_at history context.purpose context.recipient schema.name column)
