-- The command line: which words the program takes, and what they ask for.
use Rattle.std.specs.Prelude.{List, [], ◌∷◌, Option, Some, None, option_and_then, unwrap_or, if◌then◌else◌, codes, bytes_eq}
use Rattle.clap.specs.Words.{App, Row, first_of, matches_of}
use Rattle.hippo_values.specs.Texts.{Txt}
use Rattle.hippo_values.specs.Names.{name_of}
use Rattle.hippo_stmt_lines.specs.Moments.{moment_in}
use Rattle.hippo_report.specs.declared.format.Format.{Format}
use Rattle.hippo_program_args.specs.Arguments.{word, text_option, number_option, entry_option, command_with, is_taken, number_or, format_in}
use Rattle.hippo_serve_args.specs.declared.calls.Call.{Call}
use Rattle.hippo_serve_args.specs.declared.calls.Setting.{Setting}
use Rattle.hippo_serve_args.specs.declared.calls.Job.{Job}
use Rattle.hippo_serve_args.specs.declared.calls.Job.TheVariants.{Run, Load, Check, Drill}

-- the command, as clap is given it
abbrev pub command_line : App
command_line = command_with (codes "hippo")
    (word (codes "job") ∷ text_option (codes "store") ∷ entry_option (codes "history")
    ∷ number_option (codes "size") 2 20000 ∷ number_option (codes "number") 0 999
    ∷ text_option (codes "format")
    ∷ text_option (codes "table") ∷ text_option (codes "moment") ∷ [])

-- the setting with which a run begins, with a format
abbrev pub setting_with : List Row → Format → Setting
setting_with rows format =
    record { limit = number_or 4000000 (first_of (codes "history") rows); format = format }

-- a load needs a table's name and a moment
abbrev pub load_with : List Row → Format → Option Job
load_with rows format =
    option_and_then (λ table. option_and_then
    (λ moment. Some (Load (setting_with rows format) table moment))
    (option_and_then moment_in (first_of (codes "moment") rows)))
    (option_and_then name_of (first_of (codes "table") rows))

-- the job with this name, with the given values that it uses
abbrev pub job_named : List Row → Format → Txt → Option Job
job_named rows format name =
    if bytes_eq name (codes "run") then Some (Run (setting_with rows format))
    else if bytes_eq name (codes "load") then load_with rows format
    else if bytes_eq name (codes "check") then Some Check
    else if bytes_eq name (codes "drill") then
    Some (Drill (number_or 2000 (first_of (codes "size") rows))
    (number_or 7 (first_of (codes "number") rows)))
    else None

abbrev pub job_in : List Row → Option Job
job_in rows =
    option_and_then (λ format. option_and_then (job_named rows format)
    (first_of (codes "job") rows))
    (format_in rows)

-- what is asked for by words that the command takes; the store with the empty name is one in memory
abbrev pub call_in : List Row → Option Call
call_in rows =
    option_and_then (λ job. Some (record
    { store = unwrap_or (first_of (codes "store") rows) []; job = job }))
    (job_in rows)

-- what the words of a call ask for, if anything
unfoldable pub call_of : List Txt → Option Call
call_of words =
    if is_taken command_line words then call_in (matches_of command_line words) else None
