-- Whether a cell is shown, or which rule denies it (LeFevre and others, Limiting Disclosure in
-- Hippocratic Databases, VLDB 2004). A rule may end some days after a row's birth. This is the
-- project's own form of limited retention, which Agrawal and others, Hippocratic Databases, VLDB
-- 2002, name among the principles.
use Rattle.std.specs.Prelude.{ℕ, ◌*◌, ℤ, pos, ◌-ℤ◌, int_le, Bool, true, false, not, ◌||◌, Option, Some, None, if◌then◌else◌, unwrap_or, option_and_then}
use Rattle.std.specs.Option.{option_map_or}
use Rattle.hippo_values.specs.Moments.{day_seconds}
use Rattle.hippo_values.specs.declared.moments.Moment.{Moment}
use Rattle.hippo_values.specs.declared.names.Name.{Name}
use Rattle.hippo_values.specs.declared.values.Value.{Value}
use Rattle.hippo_values.specs.declared.values.Value.TheVariants.{Int}
use Rattle.hippo_model.specs.declared.audit.Pair.{Pair}
use Rattle.hippo_model.specs.declared.born_row.BornRow.{BornRow}
use Rattle.hippo_model.specs.declared.schema.Schema.{Schema}
use Rattle.hippo_model.specs.declared.entry.ItemKind.{ItemKind}
use Rattle.hippo_model.specs.declared.entry.ItemKind.TheVariants.{OptIn, OptOut}
use Rattle.hippo_model.specs.declared.policy.Verdict.{Verdict}
use Rattle.hippo_model.specs.declared.policy.Verdict.TheVariants.{Shown, Denied}
use Rattle.hippo_model.specs.Terms.{History, Row, Place}
use Rattle.hippo_model.specs.Histories.{item_at}
use Rattle.hippo_model.specs.Rows.{cell_at}
use Rattle.hippo_model.specs.Rules.{Rule, allowed, revoked, rule_at, choice_at}

-- the purpose, recipient and moment for which something is shown
pub record Context : Type 0 where
  pub purpose : Name
  pub recipient : Name
  pub moment : Moment

-- the context of a purpose and recipient at a moment
abbrev pub context_of : Pair → Moment → Context
context_of pair moment =
    record { purpose = pair.purpose; recipient = pair.recipient; moment = moment }

abbrev pub number_in : Value → Option ℤ
number_in (Int number) = Some number
number_in value = None

-- the patient whom a row is about: the number in its SUBJECT column
abbrev pub subject_of : Schema → Row → Option ℤ
subject_of schema row = option_and_then (λ place. number_in (cell_at row place)) schema.subject

-- whether a patient's choice on an item shows a cell: opt-in needs a YES; opt-out only needs that
-- there is no NO
abbrev pub agrees : ItemKind → Option Bool → Bool
agrees OptIn choice = unwrap_or choice false
agrees OptOut choice = unwrap_or choice true

-- whether the patient whom a row is about agrees to a rule's item, if the rule has one
abbrev pub consents : History → Option ℤ → Option Name → Bool
consents history subject None = true
consents history None (Some item) = false
consents history (Some subject) (Some item) =
    option_map_or (λ kind. agrees kind (choice_at history subject item)) (item_at history item)
    false

-- the length of this many days in seconds
abbrev pub days_long : ℕ → ℤ
days_long days = pos (day_seconds * days)

-- whether a rule that shows cells for a number of days has ended for a row of this age in seconds;
-- a rule without days never ends
abbrev pub has_ended : ℤ → Option ℕ → Bool
has_ended age None = false
has_ended age (Some days) = int_le (days_long days) age

-- the verdict of a rule on a cell, given the age of the cell's row and the patient whom the row is
-- about
abbrev pub verdict_by : History → ℤ → Option ℤ → Option Rule → Verdict
verdict_by history age subject None = Denied 0
verdict_by history age subject (Some (revoked number)) = Denied number
verdict_by history age subject (Some (allowed number item days)) =
    if has_ended age days || not (consents history subject item) then Denied number else Shown

-- the verdict on a cell of a row
abbrev pub verdict : History → Context → Schema → BornRow → Place → Verdict
verdict history context schema kept column =
    verdict_by history (context.moment -ℤ kept.born) (subject_of schema kept.row)
    (rule_at history context.purpose context.recipient schema.name column)
