-- The command of each line of a script.
use Rattle.std.proofs.Common.{◌≡◌, ◌∙◌, ℕ, suc, ◌+◌, ◌/◌, ◌%◌, ◌<◌, Bool, true, false, not, List, [], ◌∷◌, ◌++◌, length, Option, Some, None, Ok, refl, subst, ap, arith, ℤ, pos, codes, bytes_eq}
use Rattle.std.specs.Prelude.{if◌then◌else◌, int_le, nat_lt, ok_or, option_and_then, option_map, unsigned_abs}
use Rattle.std.specs.Int.{int_div_euclid, int_rem_euclid}
use Rattle.std.specs.List.{filter, list_all, slice_split}
use Rattle.std.proofs.lemmas.Bool.{and_from, and_parts, both_ways, lt-ltb, ne_eqb, not_from_false, not-true}
use Rattle.std.proofs.lemmas.Int.{ints}
use Rattle.std.proofs.lemmas.Slice.Eq.{bytes_eq-Decides}
use Rattle.hippo_values_text.specs.Dates.{clock_text, date_text, day_of_month, day_text, moment_text, month_of, time_text, year_of}
use Rattle.hippo_values.specs.Moments.{IsMoment, day_seconds, first_moment, is_moment, last_moment}
use Rattle.hippo_values.specs.Names.{begins_with_letter, lower_case, is_name, is_word_byte, name_of}
use Rattle.hippo_values.specs.Texts.{Txt, is_space}
use Rattle.hippo_values.specs.declared.moments.Moment.{Moment}
use Rattle.hippo_values.specs.declared.names.Name.{Name}
use Rattle.hippo_values.specs.Options.{◌>>=◌}
use Rattle.hippo_io.specs.Lines.{text_line}
use Rattle.hippo_stmt_ast.specs.declared.statement.Stmt.{Stmt}
use Rattle.hippo_model.specs.Keepable.{is_folded_name}
use Rattle.hippo_report.specs.declared.refusal.Refusal.TheVariants.{BadSyntax}
use Rattle.hippo_stmt_lines.specs.Words.{is_filled, words_of, only}
use Rattle.hippo_stmt_lines.specs.Forms.{makes_request, logs_in, logs_out, sets_clock, makes_statement, short_word_of, form_with, line_form}
use Rattle.hippo_report.specs.declared.speaker.Speaker.TheVariants.{Console, Session}
use Rattle.hippo_stmt_lines.specs.Commands.{make_request, make_statement, set_clock, command_of, command_by, clock_command, state_command, statement_among, statement_by, statement_in}
use Rattle.hippo_stmt_lines.proofs.MomentLemmas.{moments_are_read}
use Rattle.hippo_history_laws.specs.TellingLaws.{ReadsAs}
use Rattle.hippo_history_laws.specs.ScriptLaws.{login_line_of}

-- a text that parses as a statement is that statement
pub statement-is : (text : Txt) (statement : Stmt) → ReadsAs text statement → statement_in text
    ≡ Ok statement
statement-is text statement reads =
    ap statement_among reads.cut ∙ ap (statement_by reads.tokens) reads.words
    ∙ ap (λ (found : Option Stmt). ok_or found BadSyntax) reads.found

-- the form of a console's line that begins with a word other than the short words
pub console_form : (text word : Txt) (words : List Txt) → words_of text ≡ word ∷ words
    → short_word_of word ≡ None → line_form (codes "0 " ++ text) ≡ Some (makes_statement 0 text)
console_form text word words are plain =
    let more : 1 < suc (suc (length text)) = omega arith in
    let within : nat_lt 1 (length (codes "0 " ++ text)) ≡ true =
    lt-ltb 1 (suc (suc (length text))) more in
    rw within (ap (form_with 0 text) are ∙ rw plain refl)

-- the console's line with a text that parses as a statement
pub makes_statement-it : (text word : Txt) (words : List Txt) (statement : Stmt) → words_of text
    ≡ word ∷ words → short_word_of word ≡ None → ReadsAs text statement
    → command_of (text_line (codes "0 " ++ text)) ≡ make_statement Console statement text
makes_statement-it text word words statement are plain reads =
    ap command_by (console_form text word words are plain)
    ∙ ap (state_command Console text) (statement-is text statement reads)

-- a moment is one word
unspaced : (n : ℕ) → is_space (48 + n) ≡ false
unspaced n = ne_eqb (48 + n) 32 (λ same. absurd (omega (arith, same)))

clock-words : (y m d h mi s : ℕ) → words_of (date_text y m d ++ clock_text h mi s)
    ≡ (date_text y m d ++ clock_text h mi s) ∷ []
unfolding words_of
clock-words y m d h mi s =
    rw (
      unspaced (y / 100 / 10),
      unspaced (y / 100 % 10),
      unspaced (y % 100 / 10),
      unspaced
          (y % 100 % 10),
      unspaced (m / 10),
      unspaced (m % 10),
      unspaced (d / 10),
      unspaced (d % 10),
      unspaced (h / 10),
      unspaced (h % 10),
      unspaced (mi / 10),
      unspaced (mi % 10),
      unspaced
          (s / 10),
      unspaced (s % 10),
    )
    refl

moment-words : (moment : Moment) → words_of (moment_text moment) ≡ moment_text moment ∷ []
unfolding moment_text day_text time_text
moment-words moment =
    let day : ℤ = int_div_euclid moment (pos day_seconds) in
    let second : ℕ = unsigned_abs (int_rem_euclid moment (pos day_seconds)) in
    clock-words (year_of day) (month_of day) (day_of_month day) (second / 3600) (second / 60 % 60)
    (second % 60)

clock_form : (text : Txt) → words_of text ≡ text ∷ [] → line_form (codes "at " ++ text)
    ≡ Some (sets_clock text)
clock_form text are =
    let more : 2 < suc (suc (suc (length text))) = omega arith in
    let within : nat_lt 2 (length (codes "at " ++ text)) ≡ true =
    lt-ltb 2 (suc (suc (suc (length text)))) more in
    rw within (ap
    (λ (words : List Txt). option_and_then (λ (moment : Txt). Some (sets_clock moment))
    (only words)) are)

pub moment-fits : (moment : Moment) → is_moment moment ≡ true → IsMoment moment
moment-fits moment fits = let parts =
    and_parts (int_le first_moment moment) (int_le moment last_moment) fits in grind (arith, ints)

-- the line that sets the clock
pub sets-it : (moment : Moment) → is_moment moment ≡ true
    → command_of (text_line (codes "at " ++ moment_text moment)) ≡ set_clock moment
sets-it moment fits =
    ap command_by (clock_form (moment_text moment) (moment-words moment))
    ∙ ap clock_command
    ((moments_are_read (moment_text moment) moment).1 (moment-fits moment fits, refl))

-- a text begins with a word other than the short words
pub record Begins (text : Txt) : Type 0 where
  pub word : Txt
  pub words : List Txt
  pub are : words_of text ≡ word ∷ words
  pub plain : short_word_of word ≡ None

-- a word contains no space
abbrev pub is_whole : Txt → Bool
is_whole word = list_all (λ byte. not (is_space byte)) word

-- a word followed by a space is the first, and a word followed by nothing is the last
pub split-word : (word rest : Txt) → is_whole word ≡ true
    → slice_split is_space (word ++ 32 ∷ rest) ≡ word ∷ slice_split is_space rest
split-word [] rest one = refl
split-word (byte ∷ word) rest one =
    let parts = and_parts (not (is_space byte)) (is_whole word) one in
    rw (not-true (is_space byte) parts.0) (rw (split-word word rest parts.1) refl)

split-last : (word : Txt) → is_whole word ≡ true → slice_split is_space word ≡ word ∷ []
split-last [] one = refl
split-last (byte ∷ word) one =
    let parts = and_parts (not (is_space byte)) (is_whole word) one in
    rw (not-true (is_space byte) parts.0) (rw (split-last word parts.1) refl)

-- a name in lower case is one word, and is read as itself
record IsWord (name : Name) : Type 0 where
  filled : is_filled name ≡ true
  one : is_whole name ≡ true
  named : name_of name ≡ Some name

no_space : (byte : ℕ) → is_word_byte byte ≡ true → not (is_space byte) ≡ true
no_space byte is =
    not_from_false _ (ne_eqb byte 32 (λ same. both_ways (is_word_byte 32) refl
    (subst (λ (b : ℕ). is_word_byte b ≡ true) same is)))

no_spaces : (word : Txt) → list_all is_word_byte word ≡ true → is_whole word ≡ true
no_spaces [] all = refl
no_spaces (byte ∷ word) all =
    let parts = and_parts (is_word_byte byte) (list_all is_word_byte word) all in
    and_from _ _ (no_space byte parts.0) (no_spaces word parts.1)

some_letter : (word : Txt) → begins_with_letter word ≡ true → is_filled word ≡ true
some_letter [] begins = absurd cc
some_letter (byte ∷ word) begins = refl

name-word : (name : Name) → is_folded_name name ≡ true → IsWord name
name-word name is =
    let parts = and_parts (is_name name) (bytes_eq (lower_case name) name) is in
    let form = (and_parts _ _ (and_parts _ _ parts.0).0).0 in
    let word = and_parts (begins_with_letter name) (list_all is_word_byte name) form in
    let same : lower_case name ≡ name = (bytes_eq-Decides (lower_case name) name).0 parts.1 in
    record {
      filled = some_letter name word.0;
      one = no_spaces name word.1;
      named = ap (λ (test : Bool). if test then Some (lower_case name) else None) parts.0
          ∙ ap Some same;
    }

-- the form of a line of session 1
session-form : (text : Txt) → line_form (codes "1 " ++ text) ≡ form_with 1 text (words_of text)
session-form text =
    let more : 1 < suc (suc (length text)) = omega arith in
    let within : nat_lt 1 (length (codes "1 " ++ text)) ≡ true =
    lt-ltb 1 (suc (suc (length text))) more in
    rw within refl

-- its command, if its text parses as a statement
pub makes_request-it : (text : Txt) (statement : Stmt) → Begins text → statement_in text ≡ Ok statement
    → command_of (text_line (codes "1 " ++ text)) ≡ make_statement (Session 1) statement text
makes_request-it text statement begins is =
    let stated : form_with 1 text (begins.word ∷ begins.words) ≡ Some (makes_statement 1 text) =
    rw begins.plain refl in
    let form : line_form (codes "1 " ++ text) ≡ Some (makes_statement 1 text) =
    session-form text ∙ ap (form_with 1 text) begins.are ∙ stated in
    ap command_by form ∙ ap (state_command (Session 1) text) is

-- the lines that open and end it
login-words : (user purpose recipient : Name) → IsWord user → IsWord purpose → IsWord recipient
    → words_of (codes "login " ++ (user ++ (codes " " ++ (purpose ++ (codes " " ++ recipient)))))
    ≡ codes "login" ∷ user ∷ purpose ∷ recipient ∷ []
unfolding words_of
login-words user purpose recipient who why whom =
    let all : slice_split is_space (user ++ 32 ∷ (purpose ++ 32 ∷ recipient))
    ≡ user ∷ purpose ∷ recipient ∷ [] =
    split-word user (purpose ++ 32 ∷ recipient) who.one
    ∙ ap (λ (later : List Txt). user ∷ later) (split-word purpose recipient why.one)
    ∙ ap (λ (later : List Txt). user ∷ purpose ∷ later) (split-last recipient whom.one) in
    ap (λ (later : List Txt). filter is_filled (codes "login" ∷ later)) all
    ∙ rw (who.filled, why.filled, whom.filled) refl

login-makes_request : (user purpose recipient : Name) (text : Txt) → IsWord user → IsWord purpose
    → IsWord recipient → form_with 1 text (codes "login" ∷ user ∷ purpose ∷ recipient ∷ [])
    ≡ Some (makes_request 1 (logs_in user purpose recipient))
login-makes_request user purpose recipient text who why whom =
    ap (λ (name : Option Name). option_map (makes_request 1) (name >>= λ u. (name_of purpose >>= λ p.
    (name_of recipient >>= λ r. Some (logs_in u p r))))) who.named
    ∙ ap (λ (name : Option Name). option_map (makes_request 1) (name >>= λ p. (name_of recipient >>= λ r.
    Some (logs_in user p r)))) why.named
    ∙ ap (λ (name : Option Name). option_map (makes_request 1) (name >>= λ r.
    Some (logs_in user purpose r))) whom.named

pub logs-in-it : (user purpose recipient : Name) → is_folded_name user ≡ true
    → is_folded_name purpose ≡ true → is_folded_name recipient ≡ true
    → command_of (text_line (login_line_of user purpose recipient))
    ≡ make_request (Session 1) (logs_in user purpose recipient)
logs-in-it user purpose recipient is_user is_purpose is_recipient =
    let who = name-word user is_user in
    let why = name-word purpose is_purpose in
    let whom = name-word recipient is_recipient in
    let text : Txt =
    codes "login " ++ (user ++ (codes " " ++ (purpose ++ (codes " " ++ recipient)))) in
    let form : line_form (codes "1 " ++ text) ≡ Some (makes_request 1 (logs_in user purpose recipient)) =
    session-form text ∙ ap (form_with 1 text) (login-words user purpose recipient who why whom)
    ∙ login-makes_request user purpose recipient text who why whom in
    ap command_by form

pub logs-out-it : command_of (text_line (codes "1 logout")) ≡ make_request (Session 1) logs_out
unfolding words_of
logs-out-it = refl
