-- The lines of a script.
use Rattle.std.specs.Prelude.{Bool, false, [], ◌++◌, Option, option_and_then, if◌then◌else◌, codes}
use Rattle.std.specs.Option.{option_map_or}
use Rattle.std.specs.Ordering.{int_eq}
use Rattle.hippo_values_text.specs.Dates.{moment_text}
use Rattle.hippo_values.specs.Texts.{Txt}
use Rattle.hippo_values.specs.declared.moments.Moment.{Moment}
use Rattle.hippo_values.specs.declared.names.Name.{Name}
use Rattle.hippo_model.specs.declared.entry.Act.{Act}
use Rattle.hippo_model.specs.declared.entry.Act.TheVariants.{Asked}
use Rattle.hippo_model.specs.declared.schema.Schema.{Schema}
use Rattle.hippo_typing_catalog.specs.Catalogs.{KnownNames, table_of}
use Rattle.hippo_history_statements.specs.Telling.{act_statement, table_named}

-- a line of the console, and then the lines of a session that asks one question
abbrev pub console_lines : Txt → Txt
console_lines statement = codes "0 " ++ (statement ++ codes "\n")

abbrev pub session_lines : Name → Name → Name → Txt → Txt
session_lines user purpose recipient text =
    codes "1 login " ++ (user ++ (codes " " ++ (purpose ++ (codes " " ++ (recipient
    ++ (codes "\n1 " ++ (text ++ codes "\n1 logout\n")))))))

-- the lines that repeat an act, with the schema of the table that it names
abbrev pub act_lines : Option Schema → Act → Txt
act_lines schema (Asked user purpose recipient text) = session_lines user purpose recipient text
act_lines schema act = console_lines (act_statement schema act)

-- whether the clock is set to this moment
abbrev pub stands_at : Option Moment → Moment → Bool
stands_at clock moment = option_map_or (λ set. int_eq set moment) clock false

-- a line that sets the clock, unless it is already set to this moment
abbrev pub clock_line : Option Moment → Moment → Txt
clock_line clock moment =
    if stands_at clock moment then [] else codes "at " ++ (moment_text moment ++ codes "\n")

-- the schema of the table that an act names
abbrev pub schema_named : KnownNames → Act → Option Schema
schema_named known act = option_and_then (table_of known) (table_named act)
