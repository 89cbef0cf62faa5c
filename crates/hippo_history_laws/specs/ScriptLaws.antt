-- Scripts: their lines, and what running them does.
use Rattle.std.specs.Prelude.{◌≡◌, ◌≤◌, ℕ, Bool, true, false, not, ◌&&◌, ◌||◌, ◌==◌, List, [], ◌∷◌, ◌++◌, filter, map, flat_map, length, int_le, nat_le, slice_get, slice_range, Option, Some, None, is_none, if◌then◌else◌, codes}
use Rattle.std.specs.List.{last_or, list_all}
use Rattle.std.specs.Option.{option_map_or}
use Rattle.hippo_values_text.specs.Dates.{moment_text}
use Rattle.hippo_values.specs.Limits.{line_limit}
use Rattle.hippo_values.specs.Texts.{Txt}
use Rattle.hippo_values.specs.declared.moments.Moment.{Moment}
use Rattle.hippo_values.specs.declared.names.Name.{Name}
use Rattle.hippo_io.specs.Lines.{LineText, carriage_return, line_feed, lines, text_line}
use Rattle.hippo_lexer.specs.Spelling.{begins_with, is_blank}
use Rattle.hippo_model.specs.declared.entry.Act.{Act}
use Rattle.hippo_model.specs.declared.entry.Act.TheVariants.{Asked}
use Rattle.hippo_model.specs.declared.entry.Entry.{Entry}
use Rattle.hippo_model.specs.declared.schema.Schema.{Schema}
use Rattle.hippo_stmt_ast.specs.declared.statement.RawSelect.{RawSelect}
use Rattle.hippo_model.specs.Terms.{History}
use Rattle.hippo_model.specs.Validity.{is_valid}
use Rattle.hippo_typing.specs.Meanings.{meaning}
use Rattle.hippo_typing_laws.specs.ReadingLaws.{IsQuestion}
use Rattle.hippo_report.specs.declared.format.Format.{Format}
use Rattle.hippo_engine_sessions.specs.Worlds.{World, opening}
use Rattle.hippo_stmt_lines.specs.Commands.{command_of}
use Rattle.hippo_model.specs.HandedOver.{is_question}
use Rattle.hippo_engine_rules.specs.Effects.{Effect, effect_of}
use Rattle.hippo_history_statements.specs.Telling.{schema_before, act_statement}
use Rattle.hippo_history_laws.specs.TellingLaws.{is_stated}
use Rattle.hippo_history_top.specs.declared.asking.Excerpt.{Excerpt}
use Rattle.hippo_history_top.specs.declared.asking.Form.TheVariants.{Script}
use Rattle.hippo_history_top.specs.declared.asking.View.TheVariants.{Entries}
use Rattle.hippo_history_top.specs.Showing.{stands_at, is_told, entries_told, shown_text}

-- whether the last byte passes the test
abbrev pub ends_with : (ℕ → Bool) → Txt → Bool
ends_with test text = option_map_or test (last_or None text) false

-- a byte that is dropped at the end of a question's line: a blank, or a carriage return
abbrev pub is_lost : ℕ → Bool
is_lost byte = is_blank byte || byte == carriage_return

abbrev pub is_unfed : ℕ → Bool
is_unfed byte = not (byte == line_feed)

-- whether a text is bare: it begins with no blank, ends with no byte that is dropped there, and has
-- no line feed
abbrev pub is_bare : Txt → Bool
is_bare text =
    not (begins_with is_blank text) && not (ends_with is_lost text) && list_all is_unfed text

-- whether an act's lines ask for it: it is shown as a statement, or it is a question whose text is
-- bare
abbrev pub is_scripted : Option Schema → Act → Bool
is_scripted schema (Asked user purpose recipient text) = is_bare text
is_scripted schema act = is_stated schema act

-- whether this holds of some entries of a history
abbrev pub are_scripted : History → History → Bool
are_scripted history entries =
    list_all (λ entry. is_scripted (schema_before history entry) entry.act) entries

-- the lines of a script: a line sets the clock, unless it is already set to this moment, ..
abbrev pub clock_lines : Option Moment → Moment → List Txt
clock_lines clock moment =
    if stands_at clock moment then [] else (codes "at " ++ moment_text moment) ∷ []

-- .. a question is asked in a session that asks nothing else, ..
abbrev pub login_line_of : Name → Name → Name → Txt
login_line_of user purpose recipient =
    codes "1 login " ++ (user ++ (codes " " ++ (purpose ++ (codes " " ++ recipient))))

abbrev pub question_lines : Name → Name → Name → Txt → List Txt
question_lines user purpose recipient text =
    login_line_of user purpose recipient ∷ (codes "1 " ++ text) ∷ codes "1 logout" ∷ []

-- .. and a statement is a line of the console
abbrev pub act_script : Option Schema → Act → List Txt
act_script schema (Asked user purpose recipient text) = question_lines user purpose recipient text
act_script schema act = (codes "0 " ++ act_statement schema act) ∷ []

abbrev pub entry_lines : History → Entry → List Txt
entry_lines history entry = act_script (schema_before history entry) entry.act

-- the script lines of some entries of a history
abbrev pub script_lines : History → Option Moment → History → List Txt
script_lines history clock [] = []
script_lines history clock (entry ∷ later) =
    clock_lines clock entry.moment ++ (entry_lines history entry
    ++ script_lines history (Some entry.moment) later)

-- the text that is shown as a script consists of the script lines of the entries that are asked
-- for, whichever these are
abbrev pub ScriptsAreLines : Type 0
ScriptsAreLines =
    (history : History) (excerpt : Excerpt) (clock : Option Moment) (entries : History)
    → excerpt.form ≡ Script
    → entries_told history excerpt clock entries
    ≡ flat_map (λ line. line ++ codes "\n")
    (script_lines history clock (filter (is_told history excerpt) entries))

-- the history after these lines, each with its effect under the rules
abbrev pub history_by_rules : History → World → List LineText → History
history_by_rules history world [] = history
history_by_rules history world (line ∷ lines) =
    let effect : Effect = effect_of history world (command_of line) in
    history_by_rules (history ++ effect.added) effect.world lines

-- a world's clock is no later than the first of some entries
abbrev pub starts_before : World → History → Bool
starts_before world history =
    option_map_or (λ entry. int_le world.clock entry.moment) (slice_get history 0) true

-- nobody is logged in at session 1, the session in which scripts ask
abbrev pub is_free : World → Bool
is_free world = option_map_or is_none (slice_get world.sessions 0) false

-- whether session 1 is free, if there is a question among some entries
abbrev pub finds_free_session : World → History → Bool
finds_free_session world entries =
    list_all (λ entry. not (is_question entry.act) || is_free world) entries

-- session 1 is free in the world in which a run begins
abbrev pub RunsBeginFree : Type 0
RunsBeginFree =
    (clock : Moment) (limit : ℕ) (format : Format) (entries : History)
    → finds_free_session (opening clock limit format) entries ≡ true

-- the lines of a valid history's script make the history again
abbrev pub ScriptsMakeHistories : Type 0
ScriptsMakeHistories =
    (history : History) (world : World) → is_valid meaning history ≡ true
    → are_scripted history history ≡ true
    → length history ≤ world.limit → starts_before world history ≡ true
    → finds_free_session world history ≡ true
    → history_by_rules [] world (map text_line (script_lines history None history)) ≡ history

-- if all entries are asked for and no line is longer than a line may be, the text that is shown
-- makes the history again
abbrev pub ScriptsRunAgain : Type 0
ScriptsRunAgain =
    (history : History) (excerpt : Excerpt) (world : World) → is_valid meaning history ≡ true
    → are_scripted history history ≡ true → excerpt.form ≡ Script
    → list_all (is_told history excerpt) history ≡ true
    → length history ≤ world.limit → starts_before world history ≡ true
    → finds_free_session world history ≡ true
    → list_all (λ line. nat_le (length line) line_limit) (script_lines history None history) ≡ true
    → history_by_rules [] world (lines (shown_text (Entries excerpt) history)) ≡ history

-- the text of a question that is cut from a line without a line feed is bare
abbrev pub QuestionsAreBare : Type 0
QuestionsAreBare =
    (text : Txt) (select : RawSelect) (start end : ℕ) → IsQuestion text select start end
    → list_all is_unfed text ≡ true → is_bare (slice_range text start end) ≡ true
