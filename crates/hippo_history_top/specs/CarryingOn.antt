-- The lines that carry a history on in a new store: those that make the entries that are left of it.
use Rattle.std.specs.Prelude.{ℕ, ◌+◌, Bool, true, false, List, [], ◌∷◌, ◌++◌, filter, flat_map, map, length, nat_le, Option, Some, None, if◌then◌else◌}
use Rattle.std.specs.List.{range_with_len, zip}
use Rattle.hippo_values.specs.Limits.{line_limit}
use Rattle.hippo_values.specs.Texts.{Txt}
use Rattle.hippo_values.specs.declared.moments.Moment.{Moment}
use Rattle.hippo_values.specs.declared.names.Name.{Name}
use Rattle.hippo_values.specs.declared.values.Value.{Value}
use Rattle.hippo_values.specs.declared.values.Value.TheVariants.{Text}
use Rattle.hippo_model.specs.declared.entry.Act.{Act}
use Rattle.hippo_model.specs.declared.entry.Act.TheVariants.{Insert}
use Rattle.hippo_model.specs.declared.entry.Entry.{Entry}
use Rattle.hippo_model.specs.declared.schema.Schema.{Schema}
use Rattle.hippo_model.specs.Rows.{cell_at}
use Rattle.hippo_model.specs.Terms.{History, Place, Row}
use Rattle.hippo_typing_catalog.specs.Catalogs.{KnownNames, known_at}
use Rattle.hippo_history_statements.specs.Telling.{is_set, set_places, insert_text, set_text}
use Rattle.hippo_history_carry.specs.Carrying.{carried}
use Rattle.hippo_history_top.specs.ScriptLines.{console_lines, act_lines, clock_line, schema_named}

-- whether a line of the console, with its line feed, is no longer than a line may be
abbrev pub is_short_line : Txt → Bool
is_short_line line = nat_le (length line) (line_limit + 1)

abbrev pub is_filled_text : Value → Bool
is_filled_text (Text []) = false
is_filled_text (Text text) = true
is_filled_text value = false

-- the texts outside the key that are not empty
abbrev pub filled_texts : Schema → Row → List Place
filled_texts schema row =
    filter (λ place. is_filled_text (cell_at row place)) (set_places schema.columns schema.key)

-- a row in which these texts are empty
abbrev pub emptied_value : Value → Value
emptied_value (Text text) = Text []
emptied_value value = value

abbrev pub emptied_cell : List Place → Place → Value → Value
emptied_cell key place value = if is_set key place then emptied_value value else value

abbrev pub emptied_row : List Place → Row → Row
emptied_row key row =
    map (λ (place, value). emptied_cell key place value) (zip (range_with_len 0 (length row)) row)

-- the line that inserts a row, and the line that sets one of its columns
abbrev pub insert_line : Name → Row → Txt
insert_line table row = console_lines (insert_text table row)

abbrev pub set_line : Schema → Name → Row → Place → Txt
set_line schema table row place =
    console_lines (set_text schema.columns schema.key table row place)

-- a row in several lines: it is inserted without its texts, and then each of them is set
abbrev pub parted_lines : Schema → Name → Row → Txt
parted_lines schema table row =
    insert_line table (emptied_row schema.key row)
    ++ flat_map (set_line schema table row) (filled_texts schema row)

-- a row in one line, or in several if this one would be too long
abbrev pub row_lines : Schema → Name → Row → Txt
row_lines schema table row =
    if is_short_line (insert_line table row) then insert_line table row
    else parted_lines schema table row

abbrev pub inserts_row : Act → Bool
inserts_row (Insert table row) = true
inserts_row act = false

-- the lines that make an act, with the schema of the table that it names
abbrev pub carried_lines : Option Schema → Act → Txt
carried_lines (Some schema) (Insert table row) = row_lines schema table row
carried_lines schema act = act_lines schema act

-- the lines that make some entries; `clock` is the moment of the entry before them
abbrev pub entries_carried : KnownNames → Option Moment → History → Txt
entries_carried known clock [] = []
entries_carried known clock (entry ∷ later) =
    clock_line clock entry.moment ++ (carried_lines (schema_named known entry.act) entry.act
    ++ entries_carried known (Some entry.moment) later)

-- the lines that carry a history on
abbrev pub carrying_lines : History → Txt
carrying_lines history = entries_carried (known_at history) None (carried history)
