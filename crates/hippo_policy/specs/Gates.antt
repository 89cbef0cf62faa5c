-- Gates: what decides whether the cells of a table's columns are shown.
use Rattle.std.specs.Prelude.{ℕ, ℤ, ◌-ℤ◌, int_le, Bool, true, not, ◌&&◌, List, map, Option, Some, None, length, option_map, option_and_then, slice_index_or, if◌then◌else◌}
use Rattle.std.specs.List.{range_with_len}
use Rattle.std.specs.Option.{option_map_or}
use Rattle.hippo_values.specs.declared.moments.Moment.{Moment}
use Rattle.hippo_values.specs.declared.names.Name.{Name}
use Rattle.hippo_model.specs.declared.born_row.BornRow.{BornRow}
use Rattle.hippo_model.specs.declared.entry.ItemKind.{ItemKind}
use Rattle.hippo_model.specs.declared.policy.Gate.{Gate}
use Rattle.hippo_model.specs.declared.policy.Gate.TheVariants.{Always, Never, Aged, With}
use Rattle.hippo_model.specs.declared.policy.TableRules.{TableRules}
use Rattle.hippo_model.specs.declared.policy.Verdict.{Verdict}
use Rattle.hippo_model.specs.declared.policy.Verdict.TheVariants.{Shown, Denied}
use Rattle.hippo_model.specs.declared.schema.Schema.{Schema}
use Rattle.hippo_model.specs.Terms.{History, Row, Place}
use Rattle.hippo_model.specs.Histories.{item_at}
use Rattle.hippo_model.specs.Rows.{cell_at}
use Rattle.hippo_model.specs.Rules.{Rule, allowed, revoked, rule_at}
use Rattle.hippo_model.specs.Verdicts.{Context, days_long, number_in}
use Rattle.hippo_model.specs.Masking.{Choices, agrees_by}
use Rattle.hippo_policy.specs.Rulings.{is_opt_in}

-- the second after which a row must be born to be shown for this many days
abbrev pub after : Moment → ℕ → ℤ
after moment days = moment -ℤ days_long days

abbrev pub gate_of_age : Moment → ℕ → Option ℕ → Gate
gate_of_age moment rule None = Always
gate_of_age moment rule (Some days) = Aged rule (after moment days)

abbrev pub gate_of_item : Moment → ℕ → Name → Option ℕ → Option ItemKind → Gate
gate_of_item moment rule item days None = Never rule
gate_of_item moment rule item days (Some kind) =
    With rule item (is_opt_in (Some kind)) (option_map (after moment) days)

abbrev pub gate_by : History → Moment → Option Rule → Gate
gate_by history moment None = Never 0
gate_by history moment (Some (revoked rule)) = Never rule
gate_by history moment (Some (allowed rule None days)) = gate_of_age moment rule days
gate_by history moment (Some (allowed rule (Some item) days)) =
    gate_of_item moment rule item days (item_at history item)

abbrev pub gates_at : History → Context → Schema → List Gate
gates_at history context schema =
    map
    (λ place. gate_by history context.moment
    (rule_at history context.purpose context.recipient schema.name place))
    (range_with_len 0 (length schema.columns))

-- the gate of each column of a table, with the table's key and subject
abbrev pub table_rules : History → Context → Schema → TableRules
table_rules history context schema =
    record { gates = gates_at history context schema; key = schema.key; subject = schema.subject }

-- whether a row was born after a second; true if no second is given
abbrev pub is_born_after : Moment → Option ℤ → Bool
is_born_after born after = option_map_or (λ second. not (int_le born second)) after true

-- the verdict of a gate on a cell, given the choices, the row's birth and the patient whom the row
-- is about
abbrev pub gate_verdict : Choices → Moment → Option ℤ → Gate → Verdict
gate_verdict choices born subject Always = Shown
gate_verdict choices born subject (Never rule) = Denied rule
gate_verdict choices born subject (Aged rule second) =
    if is_born_after born (Some second) then Shown else Denied rule
gate_verdict choices born subject (With rule item opt_in second) =
    if is_born_after born second && agrees_by choices subject item opt_in then Shown
    else Denied rule

-- the patient whom a row of a table with these rules is about
abbrev pub subject_in : TableRules → Row → Option ℤ
subject_in rules row = option_and_then (λ place. number_in (cell_at row place)) rules.subject

-- the gate of a column; a place that is no column is never shown
abbrev pub gate_in : TableRules → Place → Gate
gate_in rules column = slice_index_or rules.gates column (Never 0)

-- the verdict of a table's rules on a row's cell
abbrev pub rules_verdict : Choices → TableRules → BornRow → Place → Verdict
rules_verdict choices rules kept column =
    gate_verdict choices kept.born (subject_in rules kept.row) (gate_in rules column)
