-- The accesses to a patient's rows, gathered entry by entry.
use Rattle.std.specs.Prelude.{◌≡◌, ◌-◌, ℤ, Bool, true, [], ◌∷◌, ◌++◌, Option, None, Some, if◌then◌else◌}
use Rattle.hippo_values.specs.Texts.{Txt}
use Rattle.hippo_model.specs.declared.entry.Act.{Act}
use Rattle.hippo_model.specs.declared.entry.Act.TheVariants.{Asked}
use Rattle.hippo_model.specs.declared.entry.Entry.{Entry}
use Rattle.hippo_model.specs.declared.query.Query.{Query}
use Rattle.hippo_model.specs.Histories.{before_entry}
use Rattle.hippo_model.specs.Terms.{History}
use Rattle.hippo_tables.specs.Standing.{TablesStandFor}
use Rattle.hippo_typing.specs.Meanings.{meaning}
use Rattle.hippo_audit_job.specs.declared.past.Past.{Past}
use Rattle.hippo_audit_job.specs.Examining.{IsPastOf}
use Rattle.hippo_history_uses.specs.declared.asked.AskedThen.{AskedThen}
use Rattle.hippo_history_uses.specs.declared.disclosing.Disclosures.{Disclosures}
use Rattle.hippo_history_uses.specs.Accesses.{entry_accesses, accesses_in}

-- the text of a logged query
abbrev pub text_asked : Act → Option Txt
text_asked (Asked user purpose recipient text) = Some text
text_asked act = None

-- a logged query, as its own time knew it
pub record IsAskedAs (past : Past) (entry : Entry) (query : Query) (patient : ℤ)
    (asked : AskedThen) : Type 0 where
  pub book_is : asked.book.now ≡ past.book.now
  pub number_is : asked.number ≡ entry.seq - 1
  pub entry_is : asked.entry ≡ entry.seq
  pub moment_is : asked.moment ≡ entry.moment
  pub query_is : asked.query.now ≡ query
  pub patient_is : asked.patient ≡ patient
  pub text : Txt
  pub act_is : entry.act ≡ Asked asked.user.now asked.purpose.now asked.recipient.now text

-- the entry is a logged query, as its own time knew it, or of another kind
abbrev pub IsAskedBy : Past → Entry → Query → ℤ → Option AskedThen → Type 0
IsAskedBy past entry query patient (Some asked) = IsAskedAs past entry query patient asked
IsAskedBy past entry query patient None = text_asked entry.act ≡ None

-- the accesses to a patient's rows, and the tables, by the entries read so far; only entries that
-- pass a test count
pub record AreDisclosed (patient : ℤ) (test : Entry → Bool) (history read : History)
    (disclosures : Disclosures) : Type 0 where
  pub patient_is : disclosures.patient ≡ patient
  pub tables_are : TablesStandFor disclosures.tables read
  pub accesses_are : disclosures.accesses ≡ accesses_in patient test history read

-- an entry comes after those read so far in a history with this past
pub record ComesAfter (past : Past) (entry : Entry) (history read later : History) : Type 0 where
  pub past_is : IsPastOf past history
  pub whole : history ≡ read ++ entry ∷ later

-- the accesses of an entry are added if it counts
pub record AddsAccesses (history : History) (entry : Entry) (counts : Bool) (old new : Disclosures)
    : Type 0 where
  pub same_patient : new.patient ≡ old.patient
  pub accesses_are : new.accesses
      ≡ old.accesses ++ (if counts then entry_accesses history old.patient entry else [])

-- the accesses of the next entry are added if it counts, and the tables stay
abbrev pub Discloses : Past → Entry → Bool → Disclosures → Disclosures → Type 0
Discloses past entry counts old new =
    (history read later : History) → ComesAfter past entry history read later
    → TablesStandFor old.tables read
    → AddsAccesses history entry counts old new × TablesStandFor new.tables read

-- the same, if the entry counts and its text means this query
abbrev pub DisclosesMeant : Past → Entry → Query → Disclosures → Disclosures → Type 0
DisclosesMeant past entry query old new =
    (history read later : History) → ComesAfter past entry history read later
    → TablesStandFor old.tables read
    → ((text : Txt) → text_asked entry.act ≡ Some text
    → meaning (before_entry entry history) text ≡ Some query)
    → AddsAccesses history entry true old new × TablesStandFor new.tables read

-- the next entry is taken in; `within` is whether it passes the test
abbrev pub TakesInEntry : Past → Entry → Bool → Disclosures → Disclosures → Type 0
TakesInEntry past entry within old new =
    (patient : ℤ) (test : Entry → Bool) (history read later : History) → within ≡ test entry
    → ComesAfter past entry history read later
    → AreDisclosed patient test history read old
    → AreDisclosed patient test history (read ++ entry ∷ []) new
