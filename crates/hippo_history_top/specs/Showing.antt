-- What is shown of a history: the entries that are asked for, each with the statement that made it.
use Rattle.std.specs.Prelude.{Bool, true, false, ◌&&◌, [], ◌∷◌, ◌++◌, take, Option, Some, None, if◌then◌else◌, codes, bytes_eq}
use Rattle.std.specs.List.{list_any}
use Rattle.std.specs.Option.{option_map_or}
use Rattle.std.specs.Ordering.{int_eq}
use Rattle.hippo_values_text.specs.Dates.{moment_text}
use Rattle.hippo_values.specs.Texts.{Txt}
use Rattle.hippo_values.specs.declared.moments.Moment.{Moment}
use Rattle.hippo_values.specs.declared.names.Name.{Name}
use Rattle.hippo_model.specs.declared.entry.Act.{Act}
use Rattle.hippo_model.specs.declared.entry.Act.TheVariants.{Create, Insert, Update, Delete, Allow, Revoke, Asked}
use Rattle.hippo_model.specs.declared.entry.Entry.{Entry}
use Rattle.hippo_model.specs.declared.schema.Schema.{Schema}
use Rattle.hippo_model.specs.Histories.{before_entry}
use Rattle.hippo_model.specs.Terms.{History}
use Rattle.hippo_typing_catalog.specs.Catalogs.{KnownNames, known_at}
use Rattle.hippo_typing.specs.Meanings.{meaning_in}
use Rattle.hippo_history_statements.specs.Telling.{act_statement, schema_before}
use Rattle.hippo_model.specs.Validity.{creates_table}
use Rattle.hippo_history_top.specs.declared.asking.Acts.{Acts}
use Rattle.hippo_history_top.specs.declared.asking.Acts.TheVariants.{All, Tables}
use Rattle.hippo_history_top.specs.declared.asking.Excerpt.{Excerpt}
use Rattle.hippo_history_top.specs.declared.asking.Form.{Form}
use Rattle.hippo_history_top.specs.declared.asking.Form.TheVariants.{Listing, Script}
use Rattle.hippo_history_top.specs.declared.asking.Scope.{Scope}
use Rattle.hippo_history_top.specs.declared.asking.Scope.TheVariants.{Whole, Table}
use Rattle.hippo_history_top.specs.declared.asking.View.{View}
use Rattle.hippo_history_top.specs.declared.asking.View.TheVariants.{Entries, Rules, Users, Digest, Patient, Carry}
use Rattle.hippo_history_formats.specs.Formats.{entry_by}
use Rattle.hippo_history_top.specs.Dating.{is_from, is_to, entries_to, moments_of, dated_line}
use Rattle.hippo_history_top.specs.Granting.{grants_of, grants_shown}
use Rattle.hippo_history_top.specs.Ruling.{rules_shown}
use Rattle.hippo_history_top.specs.Digests.{digest_shown}
use Rattle.hippo_history_top.specs.Inquiring.{accesses_asked, inquiry_shown}
pub use Rattle.hippo_history_top.specs.ScriptLines.{console_lines, session_lines, act_lines, stands_at, clock_line}
use Rattle.hippo_history_top.specs.CarryingOn.{carrying_lines}

-- whether a text is a question that names this table in FROM
abbrev pub is_question_of : KnownNames → Name → Txt → Bool
is_question_of known table text =
    option_map_or (λ query. list_any (bytes_eq table) query.tables) (meaning_in known text) false

-- whether an act is about a table. It creates the table, changes a row of it, sets or revokes a
-- rule on it, or asks a question that reads it.
abbrev pub speaks_of : KnownNames → Name → Act → Bool
speaks_of known table (Create schema) = bytes_eq table schema.name
speaks_of known table (Insert name row) = bytes_eq table name
speaks_of known table (Update name row) = bytes_eq table name
speaks_of known table (Delete name key) = bytes_eq table name
speaks_of known table (Allow purpose recipient name columns item days) = bytes_eq table name
speaks_of known table (Revoke purpose recipient name columns) = bytes_eq table name
speaks_of known table (Asked user purpose recipient text) = is_question_of known table text
speaks_of known table act = false

abbrev pub is_in_scope : KnownNames → Scope → Act → Bool
is_in_scope known Whole act = true
is_in_scope known (Table table) act = speaks_of known table act

abbrev pub is_of : Acts → Act → Bool
is_of All act = true
is_of Tables act = creates_table act

-- whether an entry is asked for
abbrev pub is_in_excerpt : KnownNames → Excerpt → Entry → Bool
is_in_excerpt known excerpt entry =
    is_from excerpt.first entry && is_to excerpt.last entry && is_of excerpt.acts entry.act
    && is_in_scope known excerpt.scope entry.act

-- an entry of a history as it is shown; `clock` is the moment of the entry that was shown last
abbrev pub told_as : History → Form → Option Moment → Entry → Txt
told_as history (Listing format) clock entry = entry_by format (schema_before history entry) entry
told_as history Script clock entry =
    clock_line clock entry.moment ++ act_lines (schema_before history entry) entry.act

-- the entry, if it passes, and then the clock after it
abbrev pub entry_where : (Entry → Bool) → (Option Moment → Entry → Txt) → Option Moment → Entry
    → Txt
entry_where passes lines clock entry = if passes entry then lines clock entry else []

abbrev pub clock_where : (Entry → Bool) → Option Moment → Entry → Option Moment
clock_where passes clock entry = if passes entry then Some entry.moment else clock

-- entries of a history, one after another
abbrev pub entries_where : (Entry → Bool) → (Option Moment → Entry → Txt) → Option Moment
    → History → Txt
entries_where passes lines clock [] = []
entries_where passes lines clock (entry ∷ later) =
    entry_where passes lines clock entry
    ++ entries_where passes lines (clock_where passes clock entry) later

-- whether an entry is asked for, by the names that existed before it; and then all entries that are
abbrev pub is_told : History → Excerpt → Entry → Bool
is_told history excerpt entry = is_in_excerpt (known_at (before_entry entry history)) excerpt entry

abbrev pub entries_told : History → Excerpt → Option Moment → History → Txt
entries_told history excerpt clock entries =
    entries_where (is_told history excerpt) (told_as history excerpt.form) clock entries

-- what is asked for: an excerpt; the rules, authorizations or digest after the first entries; or
-- what was disclosed of a patient
abbrev pub shown_text : View → History → Txt
shown_text (Entries excerpt) history = entries_told history excerpt None history
shown_text (Rules page) history =
    rules_shown (dated_line page.format (moments_of history)) page.scope (entries_to page.last history)
shown_text (Users roster) history =
    grants_shown roster.format (grants_of (entries_to roster.last history))
shown_text (Digest last) history = digest_shown (take last history)
shown_text (Patient inquiry) history =
    inquiry_shown inquiry (accesses_asked inquiry history)
shown_text Carry history = carrying_lines history
