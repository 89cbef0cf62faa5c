-- The lengths of the replies that need no memory: each fits into the reply's reserved room.
use Rattle.std.proofs.Common.{◌≡◌, ◌+◌, ◌≤◌, ◌<◌, ◌^◌, ℕ, ℤ, [], true, Some, None, Result, Ok, Err, IsOk, is_err, length, decimal, codes, refl, ap, arith, length-append}
use Rattle.std.proofs.lemmas.Fmt.{length-decimal-le}
use Rattle.hippo_values.specs.Texts.{Txt}
use Rattle.hippo_values_text.specs.Dates.{day_text, time_text, moment_text}
use Rattle.hippo_report.specs.declared.refusal.Refusal.TheVariants.{MomentBack, NoSession, SessionsOnly, ConsoleOnly, NoCursor, NoJob, NoWatch, Memory}
use Rattle.hippo_report.specs.Notices.{done_line, number_line}
use Rattle.hippo_report.specs.declared.speaker.Speaker.{Speaker}
use Rattle.hippo_report.specs.declared.speaker.Speaker.TheVariants.{Nobody, Console, Session}
use Rattle.hippo_report.specs.Refusals.{said_of, refusal_line}
use Rattle.hippo_report.specs.Speakers.{who_text}
use Rattle.hippo_engine_checks.specs.Checks.{reply_room}

-- a number of 8 bits has at most three digits, one of 64 bits at most twenty
pub length-decimal_byte : (n : ℕ) → n < 256 → length (decimal n) ≤ 3
length-decimal_byte n small = length-decimal-le 3 n (omega arith) (omega arith) (omega arith)

pub length-decimal_word : (n : ℕ) → n < 2 ^ 64 → length (decimal n) ≤ 20
length-decimal_word n small = length-decimal-le 20 n (omega arith) (omega arith) small

-- each moment is written in twenty bytes
pub length-moment_text : (moment : ℤ) → length (moment_text moment) ≡ 20
unfolding moment_text day_text time_text
length-moment_text moment = refl

-- a session that gets a reply has a number of 8 bits
abbrev pub IsSpeaker : Speaker → Type 0
IsSpeaker Nobody = Unit {0}
IsSpeaker Console = Unit {0}
IsSpeaker (Session number) = number < 256

pub length-who_text : (who : Speaker) → IsSpeaker who → length (who_text who) ≤ 3
length-who_text Nobody is = omega arith
length-who_text Console is = omega arith
length-who_text (Session number) is = length-decimal_byte number is

-- the length of a refusal that names nothing, and of one that names something
pub length-plain : (who title : Txt) → length (said_of who title None) ≡ length who + length title + 5
unfolding said_of
length-plain who title = simp length-append (omega arith)

pub length-naming : (who title detail : Txt) → length (said_of who title (Some detail)) ≡ length who + length title + length detail + 6
unfolding said_of
length-naming who title detail = simp length-append (omega arith)

-- they fit if the title and what is named are short
pub plain_fits : (who : Speaker) (title : Txt) → IsSpeaker who → length title ≤ 20 → length (said_of (who_text who) title None) ≤ reply_room
plain_fits who title is short = omega (arith, length-plain (who_text who) title, length-who_text who is)

pub naming_fits : (who : Speaker) (title detail : Txt) → IsSpeaker who → length title ≤ 20 → length detail ≤ 20
    → length (said_of (who_text who) title (Some detail)) ≤ reply_room
naming_fits who title detail is short small = omega (arith, length-naming (who_text who) title detail, length-who_text who is)

pub memory_fits : (who : Speaker) → IsSpeaker who → length (refusal_line who Memory) ≤ reply_room
memory_fits who is = plain_fits who (codes "90 Memory") is (omega arith)

pub no_session_fits : (who : Speaker) → IsSpeaker who → length (refusal_line who NoSession) ≤ reply_room
no_session_fits who is = plain_fits who (codes "20 NoSession") is (omega arith)

pub sessions_only_fits : (who : Speaker) → IsSpeaker who → length (refusal_line who SessionsOnly) ≤ reply_room
sessions_only_fits who is = plain_fits who (codes "25 SessionsOnly") is (omega arith)

pub no_cursor_fits : (who : Speaker) (number : ℕ) → IsSpeaker who → number < 2 ^ 64 → length (refusal_line who (NoCursor number)) ≤ reply_room
no_cursor_fits who number is small = naming_fits who (codes "53 NoCursor") (decimal number) is (omega arith) (length-decimal_word number small)

pub console_only_fits : (who : Speaker) → IsSpeaker who → length (refusal_line who ConsoleOnly) ≤ reply_room
console_only_fits who is = plain_fits who (codes "24 ConsoleOnly") is (omega arith)

pub no_job_fits : (who : Speaker) (number : ℕ) → IsSpeaker who → number < 2 ^ 64 → length (refusal_line who (NoJob number)) ≤ reply_room
no_job_fits who number is small = naming_fits who (codes "55 NoJob") (decimal number) is (omega arith) (length-decimal_word number small)

pub no_watch_fits : (who : Speaker) (number : ℕ) → IsSpeaker who → number < 2 ^ 64 → length (refusal_line who (NoWatch number)) ≤ reply_room
no_watch_fits who number is small = naming_fits who (codes "64 NoWatch") (decimal number) is (omega arith) (length-decimal_word number small)

pub moment_back_fits : (who : Speaker) (moment : ℤ) → IsSpeaker who → length (refusal_line who (MomentBack moment)) ≤ reply_room
moment_back_fits who moment is =
    naming_fits who (codes "19 MomentBack") (moment_text moment) is (omega arith) (omega (arith, length-moment_text moment))

-- the reply to a line that was carried out, and the one with a number
pub done_fits : (who : Speaker) → IsSpeaker who → length (done_line who) ≤ reply_room
done_fits who is = omega (arith, length-append (who_text who) (codes " ok\n"), length-who_text who is)

pub number_fits : (session number : ℕ) (word : Txt) → session < 256 → number < 2 ^ 64 → length word ≤ 8
    → length (number_line session word number) ≤ reply_room
number_fits session number word few small short =
    simp length-append (omega (arith, length-decimal_byte session few, length-decimal_word number small))

-- text that has room is not refused
pub never_short : {E : Type 0} (result : Result (Unit {0}) E) (old text : Txt) (room : ℕ) → (length old + length text ≤ room → IsOk result)
    → old ≡ [] → length text ≤ room → is_err result ≡ true → ⊥
never_short (Ok done) old text room within empty fits fails = absurd cc
never_short (Err fault) old text room within empty fits fails =
    let sizes = ap length empty in
    let same : length old + length text ≤ room = omega arith in
    let is = within same in
    absurd cc
