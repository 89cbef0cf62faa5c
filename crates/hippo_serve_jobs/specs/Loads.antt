-- The lines that a job asks for: a run takes the lines that it reads, and a load makes its lines
-- from those that it reads.
use Rattle.std.specs.Prelude.{ℕ, List, ◌∷◌, ◌++◌, length, map, nat_lt, codes, if◌then◌else◌}
use Rattle.hippo_values_text.specs.Dates.{moment_text}
use Rattle.hippo_values.specs.Limits.{line_limit}
use Rattle.hippo_values.specs.Texts.{Txt}
use Rattle.hippo_values.specs.declared.moments.Moment.{Moment}
use Rattle.hippo_values.specs.declared.names.Name.{Name}
use Rattle.hippo_io.specs.Lines.{LineText, text_line, too_long_line}
use Rattle.hippo_serve_args.specs.declared.calls.Job.{Job}
use Rattle.hippo_serve_args.specs.declared.calls.Job.TheVariants.{Load}

-- the line that loads a record of a table, and then the line that sets the clock
abbrev pub load_text : Name → Txt → Txt
load_text table fields = codes "0 load " ++ (table ++ (codes " " ++ fields))

abbrev pub at_line : Moment → Txt
at_line moment = codes "at " ++ moment_text moment

-- a text is a record of the table; a line that is not a text stays as it is
abbrev pub record_line : Name → LineText → LineText
record_line table (text_line fields) = text_line (load_text table fields)
record_line table line = line

-- the highest number of bytes in such a line
abbrev pub made_room : ℕ
made_room = 65607

-- the line that a job asks for when it reads this one
abbrev pub asked_line : Job → LineText → LineText
asked_line (Load setting table moment) line = record_line table line
asked_line job line = line

-- the lines that a job asks for when it reads these; a load sets the clock first
abbrev pub asked_lines : Job → List LineText → List LineText
asked_lines (Load setting table moment) lines =
    text_line (at_line moment) ∷ map (record_line table) lines
asked_lines job lines = lines

-- a text that is longer than a line may be is not a record; no input has such a line
abbrev pub limited_line : LineText → LineText
limited_line (text_line text) =
    if nat_lt line_limit (length text) then too_long_line else text_line text
limited_line line = line

-- a line as a job counts it
abbrev pub counted_line : Job → LineText → LineText
counted_line (Load setting table moment) line = limited_line line
counted_line job line = line
