-- What form a line of the input has.
use Rattle.std.specs.Prelude.{ℕ, Bool, false, ◌||◌, ◌==◌, List, [], ◌∷◌, Option, Some, None, option_map, option_and_then, if◌then◌else◌, codes, bytes_eq}
use Rattle.std.specs.List.{list_all}
use Rattle.std.specs.Map.{lookup}
use Rattle.hippo_values.specs.declared.names.Name.{Name}
use Rattle.hippo_values.specs.Texts.{Txt, is_space}
use Rattle.hippo_values.specs.Names.{lower_case, name_of}
use Rattle.hippo_stmt_lines.specs.declared.short_words.ShortWord.{ShortWord}
use Rattle.hippo_stmt_lines.specs.declared.short_words.ShortWord.TheVariants.{Login, Logout, Fetch, Close, Step, Drop, Unwatch, Load}
use Rattle.hippo_values.specs.Limits.{session_limit, cursor_limit, job_limit, watch_limit, fetch_limit, step_limit}
use Rattle.hippo_values.specs.Options.{◌>>=◌}
use Rattle.hippo_stmt_lines.specs.Words.{words_of, split_at_space, trimmed_text, only, two, three}
use Rattle.hippo_stmt_lines.specs.Numbers.{numeral_value}

-- the request that a short word and its arguments make
pub data Request : Type 0 where
  logs_in : Name → Name → Name → Request
  logs_out : Request
  fetches : ℕ → ℕ → Request
  closes : ℕ → Request
  steps : ℕ → ℕ → Request
  drops : ℕ → Request
  unwatches : ℕ → Request
  loads : Name → Txt → Request

-- a line says nothing, sets the clock, makes a request in a session, or a statement there
pub data Form : Type 0 where
  says_nothing : Form
  sets_clock : Txt → Form
  makes_request : ℕ → Request → Form
  makes_statement : ℕ → Txt → Form

-- login USER PURPOSE RECIPIENT
abbrev pub login_of : List Txt → Option Request
login_of arguments = do
  (user, purpose, recipient) ← three arguments
  who ← name_of user
  why ← name_of purpose
  whom ← name_of recipient
  Some (logs_in who why whom)

-- logout
abbrev pub logout_of : List Txt → Option Request
logout_of [] = Some logs_out
logout_of (word ∷ words) = None

-- the number that the only word writes, from 1
abbrev pub one_number : ℕ → List Txt → Option ℕ
one_number most arguments = option_and_then (numeral_value 1 most) (only arguments)

-- the numbers that the two words write, each from 1
abbrev pub two_numbers : ℕ → ℕ → List Txt → Option (ℕ × ℕ)
two_numbers most most_after arguments = do
  (word, remaining) ← two arguments
  number ← numeral_value 1 most word
  other ← numeral_value 1 most_after remaining
  Some (number, other)

-- fetch CURSOR COUNT
abbrev pub fetch_of : List Txt → Option Request
fetch_of arguments =
    option_map (λ (cursor, count). fetches cursor count)
    (two_numbers cursor_limit fetch_limit arguments)

-- close CURSOR
abbrev pub close_of : List Txt → Option Request
close_of arguments = option_map closes (one_number cursor_limit arguments)

-- step JOB COUNT
abbrev pub step_of : List Txt → Option Request
step_of arguments =
    option_map (λ (job, count). steps job count) (two_numbers job_limit step_limit arguments)

-- drop JOB
abbrev pub drop_of : List Txt → Option Request
drop_of arguments = option_map drops (one_number job_limit arguments)

-- unwatch WATCH
abbrev pub unwatch_of : List Txt → Option Request
unwatch_of arguments = option_map unwatches (one_number watch_limit arguments)

-- load TABLE RECORD: the record is everything after the one space that follows TABLE
abbrev pub load_of : Txt → Option Request
load_of text = do
  (_, remaining) ← split_at_space (trimmed_text text)
  (table, fields) ← split_at_space (trimmed_text remaining)
  name ← name_of table
  Some (loads name fields)

-- the short words, in lower case
abbrev pub short_words : List (Txt × ShortWord)
short_words =
    (codes "login", Login) ∷ (codes "logout", Logout) ∷ (codes "fetch", Fetch)
    ∷ (codes "close", Close) ∷ (codes "step", Step) ∷ (codes "drop", Drop)
    ∷ (codes "unwatch", Unwatch) ∷ (codes "load", Load) ∷ []

abbrev pub short_word_of : Txt → Option ShortWord
short_word_of word = lookup (λ known. bytes_eq known (lower_case word)) short_words

-- the request that a text makes, given its short word and its arguments
abbrev pub request_by : ShortWord → Txt → List Txt → Option Request
request_by Login text arguments = login_of arguments
request_by Logout text arguments = logout_of arguments
request_by Fetch text arguments = fetch_of arguments
request_by Close text arguments = close_of arguments
request_by Step text arguments = step_of arguments
request_by Drop text arguments = drop_of arguments
request_by Unwatch text arguments = unwatch_of arguments
request_by Load text arguments = load_of text

-- at MOMENT
abbrev pub at_of : Txt → Option Form
at_of text = do
  moment ← only (words_of text)
  Some (sets_clock moment)

-- the form of a line with a session's number followed by this text; without a short word the text
-- is a statement
abbrev pub form_in : ℕ → Txt → Option ShortWord → List Txt → Option Form
form_in session text (Some short) arguments =
    option_map (makes_request session) (request_by short text arguments)
form_in session text None arguments = Some (makes_statement session text)

abbrev pub form_with : ℕ → Txt → List Txt → Option Form
form_with session text [] = None
form_with session text (word ∷ arguments) = form_in session text (short_word_of word) arguments

-- SESSION, followed by a text
abbrev pub session_form : Txt → Txt → Option Form
session_form number text = do
  session ← numeral_value 0 session_limit number
  form_with session text (words_of text)

-- whether a line begins with `#`
abbrev pub is_comment : Txt → Bool
is_comment [] = false
is_comment (first ∷ rest) = first == 35

-- whether a line is empty, has only spaces, or is a comment
abbrev pub is_silent : Txt → Bool
is_silent line = is_comment line || list_all is_space line

-- the form of a line, given its first word and the text after the one space that follows it
abbrev pub form_by : Txt → Txt → Option Form
form_by first remaining =
    if bytes_eq (codes "at") (lower_case first) then at_of remaining else session_form first remaining

-- the form of a line; no space may come before the first word
abbrev pub line_form : Txt → Option Form
line_form line =
    if is_silent line then Some says_nothing
    else (split_at_space line >>= λ (first, remaining). form_by first remaining)
