-- The moments of entries, by their numbers.
use Rattle.std.specs.Prelude.{ℕ, ◌-◌, ◌==◌, Bool, List, map, filter, count_by, nat_le, int_le, slice_get, Option, None, if◌then◌else◌}
use Rattle.hippo_values.specs.declared.moments.Moment.{Moment}
use Rattle.hippo_model.specs.declared.entry.Entry.{Entry}
use Rattle.hippo_model.specs.Terms.{History}
use Rattle.hippo_report.specs.declared.format.Format.{Format}
use Rattle.hippo_history_top.specs.declared.asking.Bound.{Bound}
use Rattle.hippo_history_top.specs.declared.asking.Bound.TheVariants.{Number, At}
use Rattle.hippo_history_top.specs.Ruling.{RuleLine}
use Rattle.hippo_history_formats.specs.Formats.{rule_number, rule_line}

-- whether an entry is at a bound or after it, and whether it is at a bound or before it
abbrev pub is_from : Bound → Entry → Bool
is_from (Number number) entry = nat_le number entry.seq
is_from (At moment) entry = int_le moment entry.moment

abbrev pub is_to : Bound → Entry → Bool
is_to (Number number) entry = nat_le entry.seq number
is_to (At moment) entry = int_le entry.moment moment

-- the entries at a bound or before it
abbrev pub entries_to : Bound → History → History
entries_to bound history = filter (is_to bound) history

-- the moments of the entries of a history
abbrev pub moments_of : History → List Moment
moments_of history = map (λ entry. entry.moment) history

-- the moment of the entry with a number; entries are numbered from 1
abbrev pub moment_at : List Moment → ℕ → Option Moment
moment_at moments number = if number == 0 then None else slice_get moments (number - 1)

-- how many entries are at a bound or before it, by their moments
abbrev pub count_to : Bound → List Moment → ℕ
count_to (Number number) moments = number
count_to (At moment) moments = count_by (λ set. int_le set moment) moments

-- the rule of a column as a line, with the moment of the rule's entry
abbrev pub dated_line : Format → List Moment → RuleLine
dated_line format moments purpose recipient schema place rule opt_in =
    rule_line format purpose recipient schema place rule (moment_at moments (rule_number rule))
    opt_in
