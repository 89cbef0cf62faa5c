-- One more entry: its accesses, and the tables after it.
use Rattle.std.proofs.Common.{◌≡◌, ◌∙◌, sym, ap, refl, subst, ℕ, ℤ, Bool, true, false, cond, List, [], ◌∷◌, ◌++◌, filter, length, take, None, Some, append_assoc, append-nil}
use Rattle.std.specs.Prelude.{◌&&◌, is_some, slice_get, flat_map, if◌then◌else◌}
use Rattle.std.specs.List.{AllByRecursion}
use Rattle.std.specs.Option.{option_map_or}
use Rattle.std.proofs.lemmas.Bool.{and_parts, and_from}
use Rattle.std.proofs.lemmas.Grind.{flat_map-append}
use Rattle.std.proofs.lemmas.List.Elements.{filter-append}
use Rattle.std.proofs.lemmas.Option.{none-some, same_Some}
use Rattle.hippo_values.specs.Texts.{Txt}
use Rattle.hippo_values.specs.declared.names.Name.{Name}
use Rattle.hippo_model.specs.declared.entry.Act.{Act}
use Rattle.hippo_model.specs.declared.entry.Act.TheVariants.{Asked}
use Rattle.hippo_model.specs.declared.entry.Entry.{Entry}
use Rattle.hippo_model.specs.declared.query.Query.{Query}
use Rattle.hippo_model.specs.Histories.{before_entry, schema_at}
use Rattle.hippo_model.specs.Terms.{History}
use Rattle.hippo_model.specs.Validity.{is_acceptable, is_valid, may_follow}
use Rattle.hippo_model_laws.proofs.ValidFronts.{front_is_valid, is_valid-append, entries_before}
use Rattle.hippo_tables.specs.declared.tables.Tables.{Tables}
use Rattle.hippo_tables.specs.Standing.{TablesStandFor, TablesAdd, TablesAreAsBefore, are_created}
use Rattle.hippo_tables.proofs.NextLemmas.{IsNextAct-valid}
use Rattle.hippo_policy.specs.declared.book.PolicyBook.{PolicyBook}
use Rattle.hippo_policy.specs.Books.{BookRepresents}
use Rattle.hippo_typing.specs.Meanings.{meaning, meaning_in}
use Rattle.hippo_model_laws.specs.Audits.{StandsIn}
use Rattle.hippo_audit_job.specs.declared.past.Past.{Past}
use Rattle.hippo_audit_job.proofs.StretchLemmas.{question_means}
use Rattle.hippo_audit_needs.proofs.PastLemmas.{created_by_meaning}
use Rattle.hippo_history_formats.specs.declared.access.Access.{Access}
use Rattle.hippo_history_uses.specs.declared.asked.AskedThen.{AskedThen}
use Rattle.hippo_history_uses.specs.declared.disclosing.Disclosures.{Disclosures}
use Rattle.hippo_history_uses.specs.Accesses.{entry_accesses, act_accesses, accesses_in, query_accesses}
use Rattle.hippo_history_uses.specs.Asking.{asker_of, front_of}
use Rattle.hippo_history_uses.specs.Disclosing.{text_asked, IsAskedAs, ComesAfter, Discloses, DisclosesMeant, TakesInEntry}
use Rattle.hippo_history_uses.specs.Searching.{IsAskedOver, AddsQuery}

-- tables that are the same as before stand for the same history
pub stand_still : (old new : Tables) (history : History) → TablesAreAsBefore old new → TablesStandFor old history → TablesStandFor new history
stand_still old new history same stands = record { kept = λ name. same.kept name ∙ stands.kept name }

module _ (past : Past) (entry : Entry) (history read later : History) (comes : ComesAfter past entry history read later) where
  whole_parts : history ≡ (read ++ entry ∷ []) ++ later
  whole_parts = comes.whole ∙ sym (append_assoc read (entry ∷ []) later)

  with_entry : is_valid meaning (read ++ entry ∷ []) ≡ true
  with_entry = front_is_valid meaning (read ++ entry ∷ []) later (ap (is_valid meaning) (sym whole_parts) ∙ comes.past_is.valid)

  parts : (is_valid meaning read && may_follow meaning read entry) ≡ true
  parts = sym (is_valid-append meaning read entry) ∙ with_entry

  pub read_valid : is_valid meaning read ≡ true
  read_valid = (and_parts _ _ parts).0

  pub may : may_follow meaning read entry ≡ true
  may = (and_parts _ _ parts).1

  pub acceptable : is_acceptable meaning read entry.act ≡ true
  acceptable = (and_parts _ _ may).1

  -- the entries before it are those read so far
  pub before_is : before_entry entry history ≡ read
  before_is = ap (before_entry entry) comes.whole ∙ entries_before meaning read entry may later

  -- the tables after it
  pub stand_after : (old new : Tables) → TablesAdd old new entry → TablesStandFor old read → TablesStandFor new (read ++ entry ∷ [])
  stand_after old new adds stands = adds.stands read (IsNextAct-valid meaning read entry.act read_valid acceptable) stands

  -- an entry that is no logged query has no accesses
  no_text : (front : History) (act : Act) (patient : ℤ) → text_asked act ≡ None → act_accesses front entry.seq entry.moment patient act ≡ []
  no_text front (Asked user purpose recipient text) patient none = absurd (none-some text (sym none))
  no_text front act patient none = refl

  pub none_there : (patient : ℤ) (accesses : List Access) → text_asked entry.act ≡ None → accesses ≡ accesses ++ entry_accesses history patient entry
  none_there patient accesses none = sym (append-nil accesses) ∙ ap (λ l. accesses ++ l) (sym (no_text (before_entry entry history) entry.act patient none))

-- ---- a logged query
all_created : (history : History) (names : List Name) → AllByRecursion (λ table. is_some (schema_at history table) ≡ true) names → are_created history names ≡ true
all_created history [] all = refl
all_created history (name ∷ names) all =
    and_from (is_some (schema_at history name)) (are_created history names) all.0 (all_created history names all.1)

module _ (past : Past) (entry : Entry) (query : Query) (history read later : History) (comes : ComesAfter past entry history read later)
    (means : (text : Txt) → text_asked entry.act ≡ Some text → meaning (before_entry entry history) text ≡ Some query)
    (asked : AskedThen) (patient : ℤ) (its : IsAskedAs past entry query patient asked) where
  text_is : text_asked entry.act ≡ Some its.text
  text_is = ap text_asked its.act_is

  front_is : front_of asked history ≡ read
  front_is = ap (λ (n : ℕ). take n history) its.number_is ∙ before_is past entry history read later comes

  meant : meaning read its.text ≡ Some query
  meant = ap (λ (h : History). meaning h its.text) (sym (before_is past entry history read later comes)) ∙ means its.text text_is

  -- it was asked over the tables so far
  pub asked_over : (tables : Tables) → TablesStandFor tables read → IsAskedOver asked tables history
  asked_over tables stands = record {
    valid = ap (is_valid meaning) front_is ∙ read_valid past entry history read later comes;
    book = subst (λ (book : PolicyBook). BookRepresents book history) (sym its.book_is) comes.past_is.book;
    tables_are = subst (λ (h : History). TablesStandFor tables h) (sym front_is) stands;
    created = ap (λ (h : History). are_created h asked.query.now.tables) front_is ∙ ap (λ (q : Query). are_created read q.tables) its.query_is
        ∙ all_created read query.tables (created_by_meaning read its.text query (read_valid past entry history read later comes) meant);
  }

  -- its accesses are those of the entry
  pub accesses_are : query_accesses (front_of asked history) (asker_of asked) asked.patient asked.query.now ≡ entry_accesses history patient entry
  accesses_are = ap (λ (h : History). query_accesses h (asker_of asked) asked.patient asked.query.now) front_is
      ∙ (λ i. query_accesses read (record {
        entry = its.entry_is i;
        moment = its.moment_is i;
        user = asked.user.now;
        purpose = asked.purpose.now;
        recipient = asked.recipient.now;
      }) (its.patient_is i) (its.query_is i))
      ∙ sym (ap (λ (h : History). act_accesses h entry.seq entry.moment patient entry.act) (before_is past entry history read later comes)
      ∙ ap (act_accesses read entry.seq entry.moment patient) its.act_is
      ∙ ap (λ found. option_map_or (query_accesses read (record {
        entry = entry.seq;
        moment = entry.moment;
        user = asked.user.now;
        purpose = asked.purpose.now;
        recipient = asked.recipient.now;
      }) patient) found []) meant)

-- ---- what a text meant
at_length : (read later : History) (entry : Entry) → slice_get (read ++ entry ∷ later) (length read) ≡ Some entry
at_length [] later entry = refl
at_length (first ∷ read) later entry = at_length read later entry

pub record IsAskedText (act : Act) (text : Txt) : Type 0 where
  pub user : Name
  pub purpose : Name
  pub recipient : Name
  pub is : act ≡ Asked user purpose recipient text

asked_text : (act : Act) (text : Txt) → text_asked act ≡ Some text → IsAskedText act text
asked_text (Asked user purpose recipient other) text is =
    record { user = user; purpose = purpose; recipient = recipient; is = ap (Asked user purpose recipient) (same_Some other text is) }
asked_text act text is = absurd (none-some text is)

module _ (past : Past) (entry : Entry) (history read later : History) (comes : ComesAfter past entry history read later) (text : Txt) (is : text_asked entry.act ≡ Some text) where
  stands : StandsIn meaning history entry
  stands = record {
    valid = comes.past_is.valid;
    place = length read;
    stands = ap (λ (h : History). slice_get h (length read)) comes.whole ∙ at_length read later entry;
  }

  found : ((query : Query) × (meaning (before_entry entry history) text ≡ Some query) × (meaning history text ≡ Some query))
  found = let its = asked_text entry.act text is in question_means history entry stands its.user its.purpose its.recipient text its.is

  now_is : meaning_in past.catalog.now.names text ≡ meaning history text
  now_is = ap (λ names. meaning_in names text) comes.past_is.names

  pub meant_then : (query : Query) → meaning_in past.catalog.now.names text ≡ Some query → (other : Txt) → text_asked entry.act ≡ Some other → meaning (before_entry entry history) other ≡ Some query
  meant_then query means other other_is =
      let same : text ≡ other = same_Some text other (sym is ∙ other_is) in
      ap (meaning (before_entry entry history)) (sym same) ∙ found.1 ∙ sym found.2 ∙ sym now_is ∙ means

  pub means_something : meaning_in past.catalog.now.names text ≡ None → ⊥
  means_something none = none-some found.0 (sym none ∙ now_is ∙ found.2)

-- ---- the calls
-- an entry that is no logged query adds nothing
pub no_question : (past : Past) (entry : Entry) (old : Disclosures) → text_asked entry.act ≡ None → Discloses past entry true old old
no_question past entry old none = λ history read later comes stands.
    (record { same_patient = refl; accesses_are = none_there past entry history read later comes old.patient old.accesses none }, stands)

pub no_question_meant : (past : Past) (entry : Entry) (query : Query) (old : Disclosures) → text_asked entry.act ≡ None → DisclosesMeant past entry query old old
no_question_meant past entry query old none = λ history read later comes stands means.
    no_question past entry old none history read later comes stands

-- the accesses of a logged query are added
pub adds_meant : (past : Past) (entry : Entry) (query : Query) (old new : Disclosures) (asked : AskedThen) → IsAskedAs past entry query old.patient asked → TablesAreAsBefore old.tables new.tables → new.patient ≡ old.patient
    → AddsQuery asked new.tables old.accesses new.accesses → DisclosesMeant past entry query old new
adds_meant past entry query old new asked its same patient adds = λ history read later comes stands means.
    let still = stand_still old.tables new.tables read same stands in (
      record {
        same_patient = patient;
        accesses_are = adds history (asked_over past entry query history read later comes means asked old.patient its new.tables still)
            ∙ ap (λ l. old.accesses ++ l) (accesses_are past entry query history read later comes means asked old.patient its);
      },
      still,
    )

pub text_meant : (past : Past) (entry : Entry) (query : Query) (text : Txt) (old new : Disclosures) → text_asked entry.act ≡ Some text → meaning_in past.catalog.now.names text ≡ Some query → DisclosesMeant past entry query old new → Discloses past entry true old new
text_meant past entry query text old new is means adds = λ history read later comes stands.
    adds history read later comes stands (meant_then past entry history read later comes text is query means)

pub text_meant_nothing : (past : Past) (entry : Entry) (text : Txt) (old new : Disclosures) → text_asked entry.act ≡ Some text → meaning_in past.catalog.now.names text ≡ None → Discloses past entry true old new
text_meant_nothing past entry text old new is means = λ history read later comes stands.
    absurd (means_something past entry history read later comes text is means)

pub not_counted : (past : Past) (entry : Entry) (old : Disclosures) → Discloses past entry false old old
not_counted past entry old = λ history read later comes stands.
    (record { same_patient = refl; accesses_are = sym (append-nil old.accesses) }, stands)

in_one_more : (patient : ℤ) (test : Entry → Bool) (history read : History) (entry : Entry)
    → accesses_in patient test history (read ++ entry ∷ []) ≡ accesses_in patient test history read ++ (if test entry then entry_accesses history patient entry else [])
in_one_more patient test history read entry =
    ap (flat_map (entry_accesses history patient)) (filter-append test read (entry ∷ []))
    ∙ flat_map-append (entry_accesses history patient) (filter test read) (filter test (entry ∷ []))
    ∙ ap (λ l. accesses_in patient test history read ++ l) (one (test entry))
  where
    one : (counts : Bool) → flat_map (entry_accesses history patient) (cond counts (entry ∷ []) []) ≡ (if counts then entry_accesses history patient entry else [])
    one true = append-nil (entry_accesses history patient entry)
    one false = refl

pub takes_in : (past : Past) (entry : Entry) (within : Bool) (old between new : Disclosures) → Discloses past entry within old between → new.patient ≡ between.patient → new.accesses ≡ between.accesses → TablesAdd between.tables new.tables entry → TakesInEntry past entry within old new
takes_in past entry within old between new discloses patient_same accesses_same adds = λ patient test history read later same comes its.
    let both = discloses history read later comes its.tables_are in
    record {
      patient_is = patient_same ∙ both.0.same_patient ∙ its.patient_is;
      tables_are = stand_after past entry history read later comes between.tables new.tables adds both.1;
      accesses_are = accesses_same ∙ both.0.accesses_are
          ∙ (λ i. its.accesses_are i ++ (if same i then entry_accesses history (its.patient_is i) entry else []))
          ∙ sym (in_one_more patient test history read entry);
    }
