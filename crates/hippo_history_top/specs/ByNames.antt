-- What is shown of entries when one set of names is used for all of them. A valid history's entries
-- are shown this way, by the names of the whole history.
use Rattle.std.specs.Prelude.{[], ◌∷◌, ◌++◌, Option, option_and_then}
use Rattle.hippo_values.specs.Texts.{Txt}
use Rattle.hippo_values.specs.declared.moments.Moment.{Moment}
use Rattle.hippo_model.specs.declared.entry.Act.{Act}
use Rattle.hippo_model.specs.declared.entry.Entry.{Entry}
use Rattle.hippo_model.specs.declared.schema.Schema.{Schema}
use Rattle.hippo_model.specs.Terms.{History}
use Rattle.hippo_typing_catalog.specs.Catalogs.{KnownNames, table_of}
use Rattle.hippo_history_statements.specs.Telling.{table_named}
use Rattle.hippo_history_top.specs.declared.asking.Excerpt.{Excerpt}
use Rattle.hippo_history_top.specs.declared.asking.Form.{Form}
use Rattle.hippo_history_top.specs.declared.asking.Form.TheVariants.{Listing, Script}
use Rattle.hippo_history_formats.specs.Formats.{entry_by}
pub use Rattle.hippo_history_top.specs.ScriptLines.{schema_named}
use Rattle.hippo_history_top.specs.Showing.{is_in_excerpt, act_lines, clock_line, entry_where, clock_where, entries_where}

-- an entry as it is shown
abbrev pub shown_as : KnownNames → Form → Option Moment → Entry → Txt
shown_as known (Listing format) clock entry = entry_by format (schema_named known entry.act) entry
shown_as known Script clock entry =
    clock_line clock entry.moment ++ act_lines (schema_named known entry.act) entry.act

abbrev pub entry_shown : KnownNames → Excerpt → Option Moment → Entry → Txt
entry_shown known excerpt clock entry =
    entry_where (is_in_excerpt known excerpt) (shown_as known excerpt.form) clock entry

abbrev pub clock_after : KnownNames → Excerpt → Option Moment → Entry → Option Moment
clock_after known excerpt clock entry = clock_where (is_in_excerpt known excerpt) clock entry

-- entries, one after another
abbrev pub entries_shown : KnownNames → Excerpt → Option Moment → History → Txt
entries_shown known excerpt clock entries =
    entries_where (is_in_excerpt known excerpt) (shown_as known excerpt.form) clock entries

abbrev pub clock_at_end : KnownNames → Excerpt → Option Moment → History → Option Moment
clock_at_end known excerpt clock [] = clock
clock_at_end known excerpt clock (entry ∷ later) =
    clock_at_end known excerpt (clock_after known excerpt clock entry) later
