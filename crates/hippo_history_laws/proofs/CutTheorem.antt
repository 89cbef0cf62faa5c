-- A script is cut into its lines.
use Rattle.std.proofs.Common.{◌≡◌, ◌∙◌, ℕ, ◌+◌, ◌-◌, ◌/◌, ◌%◌, ◌<◌, Bool, true, false, not, ◌&&◌, List, [], ◌∷◌, ◌++◌, filter, flat_map, length, map, Option, Some, None, refl, sym, ap, subst, arith, codes}
use Rattle.std.specs.Prelude.{◌==◌, IsUtf8, if◌then◌else◌, nat_le, nat_lt, option_and_then, slice_index}
use Rattle.std.specs.Io.BufRead.{ends_with_byte, strip_last}
use Rattle.std.specs.List.{last_or, list_all}
use Rattle.std.specs.Option.{option_map_or}
use Rattle.std.specs.Str.{is_utf8}
use Rattle.std.proofs.lemmas.Bool.{and_from, and_parts, and_right, le-ltb, leb-true, lt-ltb, not-true, not_from_false, or_parts}
use Rattle.std.proofs.lemmas.List.{append_assoc}
use Rattle.std.proofs.lemmas.List.Folds.{list_all-append}
use Rattle.std.proofs.lemmas.Str.{IsUtf8-append, IsUtf8-from_is_utf8, is_utf8-from_IsUtf8}
use Rattle.jiff_core.proofs.SignedLemmas.{signed_arith}
use Rattle.hippo_values_text.specs.Dates.{clock_text, day_text, moment_text, time_text}
use Rattle.hippo_values.specs.Limits.{line_limit}
use Rattle.hippo_values.specs.Moments.{is_moment}
use Rattle.hippo_values.specs.Texts.{Txt}
use Rattle.hippo_values.specs.declared.moments.Moment.{Moment}
use Rattle.hippo_values.specs.declared.names.Name.{Name}
use Rattle.hippo_values_text.proofs.MomentTextLemmas.{IsDayNumber-of_moment, day_of, second_of}
use Rattle.hippo_io.specs.Lines.{line_of, lines, pieces, text_line, text_or_not, too_long_line, with_first_byte}
use Rattle.hippo_lexer.specs.Spelling.{is_blank}
use Rattle.hippo_model.specs.declared.entry.Act.{Act}
use Rattle.hippo_model.specs.declared.entry.Act.TheVariants.{Asked}
use Rattle.hippo_model.specs.declared.entry.Entry.{Entry}
use Rattle.hippo_model.specs.declared.schema.Schema.{Schema}
use Rattle.hippo_model.specs.Histories.{schema_at}
use Rattle.hippo_model.specs.Keepable.{act_is_keepable, is_folded_name, is_text, question_is_keepable}
use Rattle.hippo_model.specs.Terms.{History}
use Rattle.hippo_model.specs.Validity.{is_acceptable, is_valid}
use Rattle.hippo_model_laws.proofs.ValidFronts.{entries_before, front_is_valid}
use Rattle.hippo_typing.specs.Meanings.{meaning}
use Rattle.hippo_typing_laws.proofs.HistoryLemmas.{acceptable, keepable}
use Rattle.hippo_history_statements.specs.Telling.{schema_before, table_named, act_statement}
use Rattle.hippo_history_laws.specs.TellingLaws.{is_stated}
use Rattle.hippo_history_laws.proofs.ReadingTheorem.{three-names}
use Rattle.hippo_history_top.specs.declared.asking.View.TheVariants.{Entries}
use Rattle.hippo_history_top.specs.Showing.{is_told, shown_text, stands_at}
use Rattle.hippo_history_laws.specs.ScriptLaws.{ScriptsRunAgain, act_script, are_scripted, clock_lines, ends_with, entry_lines, is_bare, is_lost, is_scripted, is_unfed, login_line_of, question_lines, history_by_rules, script_lines}
use Rattle.hippo_history_laws.proofs.AskingTheorem.{bare-parts}
use Rattle.hippo_history_laws.proofs.InnerLemmas.{AreInner, both, inner-day, inner-digit, inner-name, is_inner, is_simple, said}
use Rattle.hippo_history_laws.proofs.LineLemmas.{moment-fits}
use Rattle.hippo_history_laws.proofs.LinesTheorem.{fed, scripts_are_lines}
use Rattle.hippo_history_laws.proofs.ScriptTheorem.{follows, may, scripts_make_histories, stated-lines}
use Rattle.hippo_history_laws.proofs.ToldTheorem.{told-inner}

-- no line ends within the text of a moment
simple-digit : (n : ℕ) → n < 80 → is_simple (48 + n) ≡ true
simple-digit n small =
    and_from _ _ (inner-digit n) (lt-ltb (48 + n) 128 (omega (arith, small)))

inner-clock : (h m s : ℕ) → h < 100 → m < 100 → s < 100 → AreInner (clock_text h m s)
inner-clock h m s hours minutes seconds =
    let hour = simple-digit (h / 10) (omega (arith, hours)) in
    let minute = simple-digit (m / 10) (omega (arith, minutes)) in
    let second = simple-digit (s / 10) (omega (arith, seconds)) in
    let hour_end = simple-digit (h % 10) (omega arith) in
    let minute_end = simple-digit (m % 10) (omega arith) in
    let second_end = simple-digit (s % 10) (omega arith) in
    said (rw (hour, hour_end, minute, minute_end, second, second_end) refl)

inner-time : (second : ℕ) → second < 86400 → AreInner (time_text second)
unfolding time_text
inner-time second below =
    inner-clock (second / 3600) (second / 60 % 60) (second % 60) (omega (arith, below))
    (omega arith) (omega arith)

inner-moment : (moment : Moment) → is_moment moment ≡ true → AreInner (moment_text moment)
unfolding moment_text
inner-moment moment fits =
    both (day_text (day_of moment)) (time_text (second_of moment))
    (inner-day (day_of moment) (IsDayNumber-of_moment moment (moment-fits moment fits)))
    (inner-time (second_of moment) (omega (arith, signed_arith)))

-- a text that is a line as it is: it has no line feed, and does not end with a carriage return
abbrev is_line : Txt → Bool
is_line line = list_all is_unfed line && not (ends_with_byte 13 line) && is_utf8 line

record IsLine (line : Txt) : Type 0 where
  unfed : list_all is_unfed line ≡ true
  no_return : ends_with_byte 13 line ≡ false
  utf8 : is_utf8 line ≡ true

line-parts : (line : Txt) → is_line line ≡ true → IsLine line
line-parts line is =
    let outer = and_parts (list_all is_unfed line && not (ends_with_byte 13 line)) (is_utf8 line)
    is in
    let inner = and_parts (list_all is_unfed line) (not (ends_with_byte 13 line)) outer.0 in
    record {
      unfed = inner.0;
      no_return = not-true (ends_with_byte 13 line) inner.1;
      utf8 = outer.1;
    }

line-from : (line : Txt) → list_all is_unfed line ≡ true → ends_with_byte 13 line ≡ false
    → IsUtf8 line → is_line line ≡ true
line-from line unfed no_return utf8 =
    and_from _ _ (and_from _ _ unfed (not_from_false _ no_return)) (is_utf8-from_IsUtf8 line utf8)

-- such a text, with a line feed, is a piece
cut-line : (line rest : Txt) → list_all is_unfed line ≡ true → pieces (line ++ 10 ∷ rest)
    ≡ line ∷ pieces rest
cut-line [] rest unfed = refl
cut-line (byte ∷ line) rest unfed =
    let parts = and_parts (is_unfed byte) (list_all is_unfed line) unfed in
    let other = not-true (byte == 10) parts.0 in
    ap (λ (feed : Bool). if feed then [] ∷ pieces (line ++ 10 ∷ rest) else with_first_byte byte
    (pieces (line ++ 10 ∷ rest))) other
    ∙ ap (with_first_byte byte) (cut-line line rest parts.1)

cut-lines : (written : List Txt) → list_all is_line written ≡ true
    → pieces (flat_map fed written) ≡ written
cut-lines [] are = refl
cut-lines (line ∷ written) are =
    let parts = and_parts (is_line line) (list_all is_line written) are in
    ap pieces (append_assoc line (10 ∷ []) (flat_map fed written))
    ∙ cut-line line (flat_map fed written) (line-parts line parts.0).unfed
    ∙ ap (λ (rest : List Txt). line ∷ rest) (cut-lines written parts.1)

-- how a text ends
last-byte : (byte : ℕ) (text : Txt) → last_or (Some byte) text
    ≡ Some (slice_index (byte ∷ text) (length text))
last-byte byte [] = refl
last-byte byte (next ∷ text) = last-byte next text

no-return : (text : Txt) → ends_with (λ byte. byte == 13) text ≡ false
    → ends_with_byte 13 text ≡ false
no-return [] ends = refl
no-return (byte ∷ text) ends =
    let size : length (byte ∷ text) - 1 ≡ length text = omega arith in
    let last : (slice_index (byte ∷ text) (length text) == 13) ≡ false =
    subst (λ (found : Option ℕ). option_map_or (λ b. b == 13) found false ≡ false)
    (last-byte byte text) ends in
    and_right (nat_lt 0 (length (byte ∷ text)))
    (slice_index (byte ∷ text) (length (byte ∷ text) - 1) == 13)
    (ap (λ (place : ℕ). slice_index (byte ∷ text) place == 13) size ∙ last)

-- a text of such bytes only
inner-unfed : (text : Txt) → list_all is_inner text ≡ true → list_all is_unfed text ≡ true
inner-unfed [] inner = refl
inner-unfed (byte ∷ text) inner =
    let parts = and_parts (is_inner byte) (list_all is_inner text) inner in
    and_from _ _ (and_parts (is_unfed byte) (not (byte == 13)) parts.0).0 (inner-unfed text parts.1)

inner-ends : (before : Option ℕ) (text : Txt) → option_map_or (λ b. b == 13) before false ≡ false
    → list_all is_inner text ≡ true
    → option_map_or (λ b. b == 13) (last_or before text) false ≡ false
inner-ends before [] plain inner = plain
inner-ends before (byte ∷ text) plain inner =
    let parts = and_parts (is_inner byte) (list_all is_inner text) inner in
    inner-ends (Some byte) text
    (not-true (byte == 13) (and_parts (is_unfed byte) (not (byte == 13)) parts.0).1) parts.1

inner-line : (line : Txt) → AreInner line → is_line line ≡ true
inner-line line inner =
    line-from line (inner-unfed line inner.all)
    (no-return line (inner-ends None line refl inner.all)) inner.utf8

-- a bare text after the number of a session
lost-return : (last : Option ℕ) → option_map_or is_lost last false ≡ false
    → option_map_or (λ b. b == 13) last false ≡ false
lost-return None none = refl
lost-return (Some byte) none = (or_parts (is_blank byte) (byte == 13) none).1

session-ends : (text : Txt) → ends_with is_lost text ≡ false
    → ends_with (λ byte. byte == 13) (codes "1 " ++ text) ≡ false
session-ends [] ends = refl
session-ends (byte ∷ text) ends = lost-return (last_or (Some byte) text) ends

bare-line : (text : Txt) → is_bare text ≡ true → is_utf8 text ≡ true
    → is_line (codes "1 " ++ text) ≡ true
bare-line text bare utf8 =
    let is = bare-parts text bare in
    let front : AreInner (codes "1 ") = said refl in
    line-from (codes "1 " ++ text) is.one_line
    (no-return (codes "1 " ++ text) (session-ends text is.end))
    (IsUtf8-append (codes "1 ") text front.utf8 (IsUtf8-from_is_utf8 text utf8))

-- a text that is no longer than a line may be is a line
abbrev is_short : Txt → Bool
is_short line = nat_le (length line) line_limit

whole-line : (line : Txt) → is_line line ≡ true → is_short line ≡ true
    → line_of line ≡ text_line line
whole-line line is fits =
    let parts = line-parts line is in
    let short = le-ltb line_limit (length line) (leb-true (length line) line_limit fits) in
    let kept : strip_last 13 line ≡ line = rw parts.no_return refl in
    ap (λ (long : Bool). if long then too_long_line else text_or_not (strip_last 13 line)) short
    ∙ ap text_or_not kept ∙ rw parts.utf8 refl

whole-lines : (written : List Txt) → list_all is_line written ≡ true
    → list_all is_short written ≡ true → map line_of written ≡ map text_line written
whole-lines [] are fit = refl
whole-lines (line ∷ written) are fit =
    let first = and_parts (is_line line) (list_all is_line written) are in
    let second = and_parts (is_short line) (list_all is_short written) fit in
    let here : line_of line ≡ text_line line = whole-line line first.0 second.0 in
    let later : map line_of written ≡ map text_line written =
    whole-lines written first.1 second.1 in
    λ i. here i ∷ later i

-- the lines of a question, and those of any act that a script makes again
question-are : (user purpose recipient : Name) (text : Txt)
    → act_is_keepable (Asked user purpose recipient text) ≡ true → is_bare text ≡ true
    → list_all is_line (question_lines user purpose recipient text) ≡ true
question-are user purpose recipient text kept bare =
    let outer =
    and_parts (is_folded_name user && is_folded_name purpose && is_folded_name recipient)
    (question_is_keepable text) kept in
    let names = three-names user purpose recipient outer.0 in
    let is_text = (and_parts (nat_le 1 (length text)) (is_text line_limit text) outer.1).1 in
    let utf8 = (and_parts (nat_le (length text) line_limit) (is_utf8 text) is_text).1 in
    let login : AreInner (login_line_of user purpose recipient) =
    both (codes "1 login ") _ (said refl) (both user _ (inner-name user names.0)
    (both (codes " ") _ (said refl) (both purpose _ (inner-name purpose names.1)
    (both (codes " ") recipient (said refl) (inner-name recipient names.2))))) in
    let logout : AreInner (codes "1 logout") = said refl in
    and_from _ _ (inner-line _ login) (and_from _ _ (bare-line text bare utf8)
    (and_from _ _ (inner-line _ logout) refl))

script-are : (before : History) → is_valid meaning before ≡ true → (act : Act)
    → act_is_keepable act ≡ true → is_acceptable meaning before act ≡ true
    → (schema : Option Schema) → schema ≡ option_and_then (schema_at before) (table_named act)
    → is_scripted schema act ≡ true → list_all is_line (act_script schema act) ≡ true
script-are before valid (Asked user purpose recipient text) kept fit schema same bare =
    question-are user purpose recipient text kept bare
script-are before valid act kept fit schema same stated =
    let told : AreInner (act_statement schema act) =
    subst (λ (s : Option Schema). is_stated s act ≡ true → AreInner (act_statement s act)) (sym same)
    (told-inner meaning before valid act kept fit) stated in
    let line : AreInner (codes "0 " ++ act_statement schema act) =
    both (codes "0 ") (act_statement schema act) (said refl) told in
    ap (list_all is_line) (stated-lines schema act stated) ∙ and_from _ _ (inner-line _ line) refl

both-are : (first second : List Txt) → list_all is_line first ≡ true → list_all is_line second ≡ true
    → list_all is_line (first ++ second) ≡ true
both-are first second one other = list_all-append is_line first second ∙ and_from _ _ one other

clock-are : (test : Bool) (moment : Moment) → is_moment moment ≡ true
    → list_all is_line (if test then [] else (codes "at " ++ moment_text moment) ∷ []) ≡ true
clock-are true moment fits = refl
clock-are false moment fits =
    let clock : AreInner (codes "at " ++ moment_text moment) =
    both (codes "at ") (moment_text moment) (said refl) (inner-moment moment fits) in
    and_from _ _ (inner-line _ clock) refl

-- a script's lines are lines as they are
module _ (whole : History) (valid : is_valid meaning whole ≡ true) where
  scripts-are : (later before : History) (clock : Option Moment) → whole ≡ before ++ later
      → are_scripted whole later ≡ true → list_all is_line (script_lines whole clock later) ≡ true
  scripts-are [] before clock parts scripted = refl
  scripts-are (entry ∷ later) before clock parts scripted =
      let each = and_parts (is_scripted (schema_before whole entry) entry.act)
      (are_scripted whole later) scripted in
      let here : is_valid meaning (before ++ entry ∷ later) ≡ true =
      ap (is_valid meaning) (sym parts) ∙ valid in
      let next = may before later entry here in
      let first = front_is_valid meaning before (entry ∷ later) here in
      let schema : schema_before whole entry
      ≡ option_and_then (schema_at before) (table_named entry.act) =
      ap (λ (h : History). schema_before h entry) parts
      ∙ ap (λ (h : History). option_and_then (schema_at h) (table_named entry.act))
      (entries_before meaning before entry next later) in
      let written = script-are before first entry.act (keepable meaning before entry next)
      (acceptable meaning before entry next) (schema_before whole entry) schema each.0 in
      let regrouped : whole ≡ (before ++ entry ∷ []) ++ later =
      parts ∙ sym (append_assoc before (entry ∷ []) later) in
      let rest = scripts-are later (before ++ entry ∷ []) (Some entry.moment) regrouped each.1 in
      both-are (clock_lines clock entry.moment)
      (entry_lines whole entry ++ script_lines whole (Some entry.moment) later)
      (clock-are (stands_at clock entry.moment) entry.moment (follows before entry next).moment_fits)
      (both-are (entry_lines whole entry) (script_lines whole (Some entry.moment) later) written
      rest)

-- if all entries are asked for, none is left out
all-told : (test : Entry → Bool) (entries : History) → list_all test entries ≡ true
    → filter test entries ≡ entries
all-told test [] all = refl
all-told test (entry ∷ later) all =
    let parts = and_parts (test entry) (list_all test later) all in
    rw parts.0 (ap (λ (rest : History). entry ∷ rest) (all-told test later parts.1))

pub scripts_run_again : ScriptsRunAgain
scripts_run_again history excerpt world valid scripted is_script all room starts served texts =
    let written : List Txt = script_lines history None history in
    let told : filter (is_told history excerpt) history ≡ history =
    all-told (is_told history excerpt) history all in
    let spelled : shown_text (Entries excerpt) history ≡ flat_map fed written =
    scripts_are_lines history excerpt None history is_script
    ∙ ap (λ (entries : History). flat_map fed (script_lines history None entries)) told in
    let are = scripts-are history valid history [] None refl scripted in
    let cut : lines (shown_text (Entries excerpt) history) ≡ map text_line written =
    ap lines spelled ∙ ap (map line_of) (cut-lines written are) ∙ whole-lines written are texts in
    ap (history_by_rules [] world) cut
    ∙ scripts_make_histories history world valid scripted room starts served
