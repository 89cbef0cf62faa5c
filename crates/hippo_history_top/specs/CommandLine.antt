-- The command line: which words the program takes, and what they ask for.
use Rattle.std.specs.Prelude.{ℕ, ℤ, Bool, true, false, not, ◌&&◌, ◌||◌, List, [], ◌∷◌, Option, Some, None, is_some, option_map, option_and_then, unwrap_or, if◌then◌else◌, codes, bytes_eq}
use Rattle.std.specs.Bool.{then_some}
use Rattle.std.specs.Option.{option_or, option_map_or}
use Rattle.std.specs.Str.Parse.{digits_value, signed_digits_value, without_leading_plus}
use Rattle.clap.specs.ValueTests.{is_signed_in, is_unsigned_in}
use Rattle.clap.specs.Words.{App, Row, first_of, matches_of}
use Rattle.hippo_values.specs.Texts.{Txt}
use Rattle.hippo_values.specs.Moments.{signed_numbers}
use Rattle.hippo_values.specs.Names.{name_of}
use Rattle.hippo_stmt_lines.specs.Moments.{moment_in}
use Rattle.hippo_report.specs.declared.format.Format.{Format}
use Rattle.hippo_report.specs.declared.format.Format.TheVariants as formats
use Rattle.hippo_program_args.specs.Arguments.{text_option, needed_option, entry_option, flag, command_with, is_taken, format_in}
use Rattle.hippo_history_top.specs.declared.asking.Acts.{Acts}
use Rattle.hippo_history_top.specs.declared.asking.Acts.TheVariants.{All, Tables}
use Rattle.hippo_history_top.specs.declared.asking.Bound.{Bound}
use Rattle.hippo_history_top.specs.declared.asking.Bound.TheVariants.{Number, At}
use Rattle.hippo_history_top.specs.declared.asking.Call.{Call}
use Rattle.hippo_history_top.specs.declared.asking.Excerpt.{Excerpt}
use Rattle.hippo_history_top.specs.declared.asking.Form.{Form}
use Rattle.hippo_history_top.specs.declared.asking.Form.TheVariants.{Listing, Script}
use Rattle.hippo_history_top.specs.declared.asking.Layout.{Layout}
use Rattle.hippo_history_top.specs.declared.asking.Layout.TheVariants.{Lines, Html}
use Rattle.hippo_history_top.specs.declared.asking.Scope.{Scope}
use Rattle.hippo_history_top.specs.declared.asking.Scope.TheVariants.{Whole, Table}
use Rattle.hippo_history_top.specs.declared.asking.View.{View}
use Rattle.hippo_history_top.specs.declared.asking.View.TheVariants.{Entries, Rules, Users, Digest, Patient, Carry}

-- the command, as clap is given it
abbrev pub showing_command_line : App
showing_command_line = command_with (codes "hippo_history")
    (needed_option (codes "store") ∷ entry_option (codes "entry") ∷ text_option (codes "from")
    ∷ text_option (codes "to") ∷ text_option (codes "at") ∷ text_option (codes "table")
    ∷ flag (codes "tables") ∷ flag (codes "script") ∷ flag (codes "rules")
    ∷ flag (codes "users") ∷ flag (codes "digest") ∷ text_option (codes "patient")
    ∷ flag (codes "carry")
    ∷ text_option (codes "format") ∷ [])

-- whether a flag, a name without a value, is given
abbrev pub is_on : Txt → List Row → Bool
is_on name rows = option_map_or (λ text. bytes_eq text (codes "true")) (first_of name rows) false

-- the number of an entry that a word writes
abbrev pub entry_number : Txt → Option ℕ
entry_number word =
    then_some (is_unsigned_in 1 4000000 word) (digits_value 10 (without_leading_plus word))

-- the bound that a word writes: the number of an entry, or a moment
abbrev pub bound_of : Txt → Option Bound
bound_of word = option_or (option_map Number (entry_number word)) (option_map At (moment_in word))

-- the word of a bound: one entry alone is both bounds
abbrev pub bound_word : Txt → List Row → Option Txt
bound_word name rows = option_or (first_of (codes "entry") rows) (first_of name rows)

-- one entry alone, or the entries from one bound to another; `None` if a word is not a bound
abbrev pub first_in : List Row → Option Bound
first_in rows = option_map_or bound_of (bound_word (codes "from") rows) (Some (Number 1))

abbrev pub last_in : List Row → Option Bound
last_in rows = option_map_or bound_of (bound_word (codes "to") rows) (Some (Number 4000000))

-- one entry, or one bound, after which rules or authorizations are in force
abbrev pub page_end : List Row → Option Bound
page_end rows = option_map_or bound_of (bound_word (codes "at") rows) (Some (Number 4000000))

-- one entry cannot be combined with an end of a range
abbrev pub has_end : List Row → Bool
has_end rows = is_some (first_of (codes "from") rows) || is_some (first_of (codes "to") rows)

abbrev pub entry_fits : List Row → Bool
entry_fits rows = not (is_some (first_of (codes "entry") rows) && has_end rows)

-- rules and authorizations are those after one entry, up to one bound, or after all; they cannot be
-- combined with an end of a range, nor with a form of entries
abbrev pub has_form : List Row → Bool
has_form rows = is_on (codes "tables") rows || is_on (codes "script") rows

abbrev pub is_page : List Row → Bool
is_page rows = is_on (codes "rules") rows || is_on (codes "users") rows

abbrev pub page_fits : List Row → Bool
page_fits rows = not (is_page rows && (has_end rows || has_form rows))

-- authorizations are of no table, and are not shown with the rules
abbrev pub users_fit : List Row → Bool
users_fit rows =
    not (is_on (codes "users") rows
    && (is_on (codes "rules") rows || is_some (first_of (codes "table") rows)))

-- a bound for rules or authorizations takes the place of an entry
abbrev pub bound_fits : List Row → Bool
bound_fits rows =
    not (is_some (first_of (codes "at") rows)
    && (not (is_page rows) || is_some (first_of (codes "entry") rows)))

-- the digest is that of the entries up to one, or of all; it cannot be combined with anything else
abbrev pub has_selection : List Row → Bool
has_selection rows =
    is_some (first_of (codes "entry") rows) || is_some (first_of (codes "from") rows)
    || is_some (first_of (codes "table") rows) || is_some (first_of (codes "format") rows)

abbrev pub digest_fits : List Row → Bool
digest_fits rows =
    not (is_on (codes "digest") rows
    && (has_selection rows || has_form rows || is_page rows))

abbrev pub has_view : List Row → Bool
has_view rows = has_form rows || is_page rows || is_on (codes "digest") rows

-- what was disclosed of a patient is asked for over a range; it cannot be combined with anything
-- else
abbrev pub has_other_view : List Row → Bool
has_other_view rows =
    is_some (first_of (codes "entry") rows) || is_some (first_of (codes "table") rows)
    || has_view rows

abbrev pub patient_fits : List Row → Bool
patient_fits rows = not (is_some (first_of (codes "patient") rows) && has_other_view rows)

-- the lines that carry a history on are asked for alone
abbrev pub carry_fits : List Row → Bool
carry_fits rows =
    not (is_on (codes "carry") rows
    && (has_selection rows || is_some (first_of (codes "to") rows) || has_view rows
    || is_some (first_of (codes "patient") rows)))

abbrev pub options_fit : List Row → Bool
options_fit rows =
    entry_fits rows && page_fits rows && users_fit rows && bound_fits rows && digest_fits rows
    && patient_fits rows
    && carry_fits rows

-- the table whose entries or rules are shown; `None` if the word is not a name
abbrev pub scope_of : Option Txt → Option Scope
scope_of None = Some Whole
scope_of (Some word) = option_map Table (name_of word)

-- a script is written as lines of text
abbrev pub is_text_format : Format → Bool
is_text_format formats.Text = true
is_text_format formats.Json = false
is_text_format formats.Csv = false

abbrev pub format_fits : List Row → Format → Bool
format_fits rows format = is_text_format format || not (is_on (codes "script") rows)

abbrev pub shown_form : List Row → Format → Form
shown_form rows format = if is_on (codes "script") rows then Script else Listing format

abbrev pub acts_in : List Row → Acts
acts_in rows = if is_on (codes "tables") rows then Tables else All

abbrev pub excerpt_in : List Row → Format → Scope → Bound → Bound → Excerpt
excerpt_in rows format scope first last =
    record {
      first = first;
      last = last;
      acts = acts_in rows;
      scope = scope;
      form = shown_form rows format;
    }

abbrev pub excerpt_view : List Row → Format → Scope → Option View
excerpt_view rows format scope =
    option_and_then
    (λ first. option_map (λ last. Entries (excerpt_in rows format scope first last)) (last_in rows))
    (first_in rows)

abbrev pub page_to : Format → Scope → Bound → View
page_to format scope last = Rules (record { last = last; scope = scope; format = format })

abbrev pub roster_to : Format → Bound → View
roster_to format last = Users (record { last = last; format = format })

-- the number that an option gives, or the highest one
abbrev pub number_given : Txt → List Row → Option ℕ
number_given name rows = option_map_or entry_number (first_of name rows) (Some 4000000)

-- the number of a patient that a word writes
abbrev pub patient_number : Txt → Option ℤ
patient_number word =
    then_some (is_signed_in signed_numbers.0 signed_numbers.1 word) (signed_digits_value 10 word)

abbrev pub inquiry_for : Layout → Bound → Bound → ℤ → View
inquiry_for layout first last patient =
    Patient (record { patient = patient; first = first; last = last; layout = layout })

-- what was disclosed of the patient with the number in a word
abbrev pub inquiry_view : List Row → Layout → Txt → Option View
inquiry_view rows layout word =
    option_and_then
    (λ first. option_and_then
    (λ last. option_map (inquiry_for layout first last) (patient_number word)) (last_in rows))
    (first_in rows)

-- the rules, the authorizations, the digest or the entries
abbrev pub listing_in : List Row → Format → Scope → Option View
listing_in rows format scope =
    if is_on (codes "rules") rows then option_map (page_to format scope) (page_end rows)
    else if is_on (codes "users") rows then option_map (roster_to format) (page_end rows)
    else if is_on (codes "digest") rows then option_map Digest (number_given (codes "to") rows)
    else if is_on (codes "carry") rows then Some Carry
    else excerpt_view rows format scope

abbrev pub view_in : List Row → Format → Scope → Option View
view_in rows format scope =
    option_map_or (inquiry_view rows (Lines format)) (first_of (codes "patient") rows)
    (listing_in rows format scope)

abbrev pub call_with : List Row → View → Call
call_with rows view =
    record { store = unwrap_or (first_of (codes "store") rows) []; view = view }

-- what is asked for, in this format
abbrev pub call_in_format : List Row → Format → Option Call
call_in_format rows format =
    if format_fits rows format
    then option_map (call_with rows)
    (option_and_then (view_in rows format) (scope_of (first_of (codes "table") rows))) else None

-- whether a page is asked for; a page shows what was disclosed of a patient
abbrev pub is_html : List Row → Bool
is_html rows =
    option_map_or (λ text. bytes_eq text (codes "html")) (first_of (codes "format") rows) false

abbrev pub page_call : List Row → Option Call
page_call rows =
    option_map (call_with rows)
    (option_and_then (inquiry_view rows Html) (first_of (codes "patient") rows))

-- what is asked for by words that the command takes
abbrev pub showing_asked : List Row → Option Call
showing_asked rows =
    if is_html rows then page_call rows else option_and_then (call_in_format rows) (format_in rows)

abbrev pub showing_call : List Row → Option Call
showing_call rows = if options_fit rows then showing_asked rows else None

-- what the words of a call ask for, if anything
unfoldable pub asked_of : List Txt → Option Call
asked_of words =
    if is_taken showing_command_line words then showing_call (matches_of showing_command_line words)
    else None
