-- The arguments of a command line, and what is found in the words of a call.
use Rattle.std.specs.Prelude.{◌≡◌, ◌≢◌, ℕ, Bool, true, List, [], Option, Some, None, MatchOption, unwrap_or, if◌then◌else◌, codes, bytes_eq}
use Rattle.std.specs.Option.{option_map_or}
use Rattle.std.specs.Str.Parse.{digits_value, without_leading_plus}
use Rattle.clap.specs.Words.{App, Rule, Row, new_rule, first_of, rows_of, found_of, matches_of, fault_of}
use Rattle.clap.specs.Simple.{new_shape}
use Rattle.clap.specs.Walk.{is_empty}
use Rattle.clap.specs.declared.builder.action.ArgAction.TheVariants.{SetTrue}
use Rattle.clap.specs.declared.builder.value_parser.ValueParser.TheVariants.{Unsigned}
use Rattle.clap.specs.declared.parser.matches.ArgMatches.{ArgMatches}
use Rattle.hippo_values.specs.Texts.{Txt}
use Rattle.hippo_report.specs.declared.format.Format.{Format}
use Rattle.hippo_report.specs.declared.format.Format.TheVariants as formats
use Rattle.hippo_program_args.specs.declared.arguments.Argument.{Argument}
use Rattle.hippo_program_args.specs.declared.arguments.Argument.TheVariants.{Word, Text, Needed, Number, Entry, Flag}

-- the kinds of arguments: a required word, a text with a name, a required text with a name, a
-- number, the number of an entry, a name alone
abbrev pub word : Txt → Rule
word name = record (new_rule name) { required = true }

abbrev pub text_option : Txt → Rule
text_option name = record (new_rule name) { long = Some name }

abbrev pub needed_option : Txt → Rule
needed_option name = record (text_option name) { required = true }

abbrev pub number_option : Txt → ℕ → ℕ → Rule
number_option name least most = record (text_option name) { parser = Some (Unsigned least most) }

abbrev pub entry_option : Txt → Rule
entry_option name = number_option name 1 4000000

abbrev pub flag : Txt → Rule
flag name = record (text_option name) { action = Some SetTrue }

abbrev pub rule_by : Argument → Rule
rule_by (Word name) = word name.now
rule_by (Text name) = text_option name.now
rule_by (Needed name) = needed_option name.now
rule_by (Number name least most) = number_option name.now least most
rule_by (Entry name) = entry_option name.now
rule_by (Flag name) = flag name.now

-- a command with these arguments, as clap is given it
abbrev pub command_with : Txt → List Rule → App
command_with name rules = record {
  top = record (new_shape name) { rules = rules; no_binary_name = true; disable_help_flag = true };
  subs = [];
}

-- whether a command takes these words: it finds no fault in them
abbrev pub is_taken : App → List Txt → Bool
is_taken command words = is_empty (fault_of command words)

-- what a command finds in the words; nothing exactly when it does not take them
abbrev pub FindsMatches : App → List Txt → Option ArgMatches → Type 0
FindsMatches command words found = MatchOption found (fault_of command words ≢ [])
    (λ matches. (fault_of command words ≡ [])
    × (rows_of (found_of matches) ≡ matches_of command words))

-- the number that is written, or `otherwise` if none is
abbrev pub number_or : ℕ → Option Txt → ℕ
number_or otherwise written =
    option_map_or (λ text. digits_value 10 (without_leading_plus text)) written otherwise

-- the format with this name
abbrev pub format_named : Txt → Option Format
format_named name =
    if bytes_eq name (codes "text") then Some formats.Text
    else if bytes_eq name (codes "json") then Some formats.Json
    else if bytes_eq name (codes "csv") then Some formats.Csv
    else None

-- the format that is asked for; text if none is given
abbrev pub format_in : List Row → Option Format
format_in rows = format_named (unwrap_or (first_of (codes "format") rows) (codes "text"))
