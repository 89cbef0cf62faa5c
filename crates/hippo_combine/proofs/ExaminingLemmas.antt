-- From tables that are moved forward, and what is shared over them, to examining a logged query.
use Rattle.std.proofs.Common.{◌≡◌, ◌⊎◌, ◌∙◌, sym, ap, refl, subst, arith, ℕ, ◌+◌, ◌<◌, ◌≤◌, true, false, ◌&&◌, List, [], map, filter_map, length, take, Option, None, Some, option_map, Result, Ok, Err}
use Rattle.std.specs.Prelude.{◌-◌, ℤ, IfOk, IfErr, is_some, bytes_eq}
use Rattle.std.specs.List.{AllByRecursion, IsDistinct}
use Rattle.std.proofs.lemmas.Bool.{and_parts}
use Rattle.std.proofs.lemmas.Option.{same_Some}
use Rattle.hippo_values.specs.declared.names.Name.{Name}
use Rattle.hippo_model.specs.declared.audit.Audit.{Audit}
use Rattle.hippo_model.specs.declared.audit.SharedRow.{SharedRow}
use Rattle.hippo_model.specs.declared.entry.Entry.{Entry}
use Rattle.hippo_model.specs.declared.policy.TableRules.{TableRules}
use Rattle.hippo_model.specs.declared.query.Query.{Query}
use Rattle.hippo_model.specs.declared.schema.Schema.{Schema}
use Rattle.hippo_model.specs.Columns.{names_all}
use Rattle.hippo_model.specs.Histories.{schema_at}
use Rattle.hippo_model.specs.Masking.{Choices}
use Rattle.hippo_model.specs.Rules.{choice_at}
use Rattle.hippo_tables_keyed.specs.RowSets.{KeyedRows}
use Rattle.hippo_model.specs.StoredForms.{stored}
use Rattle.hippo_model.specs.Terms.{History}
use Rattle.hippo_model.specs.Validity.{is_valid}
use Rattle.hippo_model.specs.Verdicts.{Context}
use Rattle.hippo_model_laws.specs.Audits.{StandsIn}
use Rattle.hippo_keeper.specs.Answering.{has_failed}
use Rattle.hippo_keeper.specs.Keeping.{KeeperState, IsReady}
use Rattle.hippo_typing_catalog.specs.Catalogs.{KnownNames, known_at, table_of}
use Rattle.hippo_policy.specs.declared.book.PolicyBook.{PolicyBook}
use Rattle.hippo_typing.specs.Meanings.{meaning}
use Rattle.hippo_typing.proofs.CatalogTheorem.{valid_names}
use Rattle.hippo_rewrite.specs.RewritingLaws.{rules_at}
use Rattle.hippo_rewrite.proofs.FittingRows.{schema_named}
use Rattle.hippo_audit_search.specs.Sharing.{HaveSameRows}
use Rattle.hippo_backlog.specs.declared.faults.ReadFault.{ReadFault}
use Rattle.hippo_backlog.specs.declared.faults.ReadFault.TheVariants.{Damaged, Memory}
use Rattle.hippo_backlog.specs.Calls.{reading_as_call}
use Rattle.hippo_backlog.proofs.CallLemmas.{same_Err, reading_as_call-fault}
use Rattle.hippo_keeper.proofs.CallLemmas.{KeepsSame-here, IsAfterCall-none, IsAfterCall-as}
use Rattle.hippo_keeper.proofs.Results.{err_of}
use Rattle.hippo_intervals.specs.Living.{HeldLives}
use Rattle.hippo_audit_job.specs.declared.past.Past.{Past}
use Rattle.hippo_audit_job.specs.Examining.{IsPastOf, IsAuditOf, IsServing, FindsServing, IsNew, Examines}
use Rattle.hippo_model.specs.Audits.{first_serving}
use Rattle.hippo_audit_needs.specs.Examining.{AreOfHistory}
use Rattle.hippo_combine.specs.declared.combine.Combine.{Combine}
use Rattle.hippo_combine.specs.Held.{schema_held, rows_held, are_held, AreHeldUpTo, all_taken, unread_count, TablesFit}
use Rattle.hippo_combine.specs.Bringing.{AreKnown, AreHeldIfKnown, AdvancesTables}
use Rattle.hippo_combine.specs.Sharing.{HoldsBoth}
use Rattle.hippo_combine.specs.Combining.{IsSoundCombine, combine_terms}
use Rattle.hippo_combine.proofs.ExaminerLemmas.{only_memory, undamaged, no_entry}
use Rattle.hippo_combine.proofs.HeldLemmas.{all-from}
use Rattle.hippo_combine.proofs.UnreadLemmas.{taken_and_unread}
use Rattle.hippo_audit_needs.proofs.PastLemmas.{front_valid, lasting, created_by_meaning, are_common}
use Rattle.hippo_combine.proofs.SharingLemmas.{as_many, same_rows, stand_so, sets_are, schemas_are}

-- ---- what is shared over the held rows
module _ (tables : List HeldLives) (query audit : List Name) (query_sets audit_sets : List KeyedRows) (query_is : query_sets ≡ filter_map (rows_held tables) query) (audit_is : audit_sets ≡ filter_map (rows_held tables) audit)
    (rows : (are_held tables audit && are_held tables query) ≡ true) where
  both_rows : (are_held tables audit ≡ true) × (are_held tables query ≡ true)
  both_rows = and_parts (are_held tables audit) (are_held tables query) rows

  -- there are as many sets as tables on each side
  pub query_many : length query_sets ≡ length query
  query_many = ap length query_is ∙ as_many tables query both_rows.1

  pub audit_many : length audit_sets ≡ length audit
  audit_many = ap length audit_is ∙ as_many tables audit both_rows.0

  -- and the same rows of the tables in common
  pub rows_same : HaveSameRows query query_sets audit audit_sets
  rows_same =
      subst (λ (sets : List KeyedRows). HaveSameRows query sets audit audit_sets) (sym query_is)
      (subst (λ (sets : List KeyedRows). HaveSameRows query (filter_map (rows_held tables) query) audit sets) (sym audit_is) (same_rows tables query audit both_rows.1 both_rows.0))

-- the held tables are those of the history before the entry
module _ (book : PolicyBook) (tables : List HeldLives) (number : ℕ) (query : Query) (audit : Audit) (query_sets audit_sets : List KeyedRows) (query_is : query_sets ≡ filter_map (rows_held tables) query.tables) (audit_is : audit_sets ≡ filter_map (rows_held tables) audit.tables)
    (rows : (are_held tables audit.tables && are_held tables query.tables) ≡ true) (schemas : List Schema) (schemas_is : schemas ≡ filter_map (schema_held tables) query.tables) where
  pub those_of : (history : History) → HoldsBoth book tables number history query audit → (context : Context) (rules : List TableRules) (choices : Choices) → rules ≡ rules_at (take number history) context schemas
      → ((subject : ℤ) (item : Name) → choices subject item ≡ choice_at (take number history) subject item)
      → AreOfHistory meaning (take number history) context query audit rules query_sets audit_sets choices
  those_of history holds context rules choices rules_are choices_are =
      let both = and_parts (are_held tables audit.tables) (are_held tables query.tables) rows_there in
      let of_query = stand_so tables number history holds.valid holds.fits query.tables holds.query_held both.1 in
      let of_audit = stand_so tables number history holds.valid holds.fits audit.tables holds.audit_held both.0 in
      record {
        schemas = schemas;
        tables = record {
          valid = front_valid history number holds.valid;
          schemas_are = schemas_are tables number history holds.valid query.tables of_query ∙ sym (ap (map Some) schemas_is);
        };
        columns = are_common history number holds.valid query audit holds.audit_is holds.names;
        rules_are = rules_are;
        query_rows = query_is ∙ sets_are tables number history holds.valid query.tables of_query;
        audit_rows = audit_is ∙ sets_are tables number history holds.valid audit.tables of_audit;
        choices_are = λ i subject item. choices_are subject item i;
      }
    where
      rows_there : (are_held tables audit.tables && are_held tables query.tables) ≡ true
      rows_there = rows

-- ---- tables of a history are known
module _ (known : KnownNames) (history : History) (valid : is_valid meaning history ≡ true) (names_are : known ≡ known_at history) where
  one_known : (table : Name) (found : Option Schema) → schema_at history table ≡ found → is_some found ≡ true → option_map (λ (schema : Schema). schema.name) (table_of known table) ≡ Some table
  one_known table None is some = absurd cc
  one_known table (Some schema) is some =
      ap (λ (names : KnownNames). option_map (λ (s : Schema). s.name) (table_of names table)) names_are
      ∙ ap (option_map (λ (s : Schema). s.name)) ((valid_names meaning history valid).tables table ∙ is)
      ∙ ap Some (schema_named history table schema is)

  are_known : (names : List Name) → AllByRecursion (λ (table : Name). is_some (schema_at history table) ≡ true) names → AreKnown known names
  are_known names all = all-from (λ (table : Name). is_some (schema_at history table) ≡ true) (λ (table : Name). option_map (λ (schema : Schema). schema.name) (table_of known table) ≡ Some table) (λ table. one_known table (schema_at history table) refl) names all

some_lasts : (history : History) (number : ℕ) → is_valid meaning history ≡ true → (table : Name) (found : Option Schema) → schema_at (take number history) table ≡ found → is_some found ≡ true → is_some (schema_at history table) ≡ true
some_lasts history number valid table None is some = absurd cc
some_lasts history number valid table (Some schema) is some = ap is_some (lasting history number valid table schema is)

-- a sound examiner's tables are at most at the entry before the one it is asked about
pub up_to_number : (combine : Combine) (seq number : ℕ) → IsSoundCombine combine → combine.asked ≤ seq → number + 1 ≡ seq → AreHeldUpTo number combine.tables.items
up_to_number combine seq number sound order next =
    all-from (λ (lives : HeldLives). lives.versions.place < combine.asked) (λ (lives : HeldLives). lives.versions.place ≤ number) (λ lives below. omega (arith, below, order, next)) combine.tables.items sound

-- ---- faults
unfailed : {B : Type 0} (one : Result B ReadFault) (value : B) → one ≡ Ok value → has_failed (reading_as_call one) ≡ false
unfailed one value is = ap (λ r. has_failed (reading_as_call r)) is

module _ (past : Past) (audit : Audit) (entry : Entry) (query : Query) (old new : Combine) (before : KeeperState) (s0 : ℕ)
    (asked : new.asked ≡ entry.seq) (sound : IsSoundCombine old) (order : old.asked ≤ entry.seq) where
  sound_still : new.tables.items ≡ old.tables.items → IsSoundCombine new
  sound_still same =
      subst (λ (tables : List HeldLives). AllByRecursion (λ (lives : HeldLives). lives.versions.place < new.asked) tables) (sym same)
      (all-from (λ (lives : HeldLives). lives.versions.place < old.asked) (λ (lives : HeldLives). lives.versions.place < new.asked) (λ lives below. omega (arith, below, order, asked)) old.tables.items sound)

  pub examines_nothing : new.tables.items ≡ old.tables.items → IsReady true before → (entry.seq ≡ 0) ⊎ (past.count < entry.seq) → Examines combine_terms past audit entry query (Ok None) old new before before s0 s0
  examines_nothing same ready none =
      let taken : all_taken new.tables.items ≡ all_taken old.tables.items = ap all_taken same in
      record {
        moves = record {
          is_after = IsAfterCall-none (reading_as_call (answer None)) before refl ready;
          stays = λ tells. KeepsSame-here before;
          is_sound = sound_still same;
          limit = omega (arith, asked);
          ledger = ap (λ n. n + s0) taken;
        };
        told = λ tells history kept its audit_is fits. record {
          fits_still = subst (λ (tables : List HeldLives). TablesFit tables history) (sym same) fits;
          undamaged = λ place e. absurd cc;
          once = let unread_same : unread_count new.tables.items history ≡ unread_count old.tables.items history = ap (λ (tables : List HeldLives). unread_count tables history) same in omega (arith, unread_same);
          finds = λ stands. absurd (no_entry past entry history its none stands);
        };
      }
    where
      answer : Option (List SharedRow) → Result (Option (List SharedRow)) ReadFault
      answer shared = Ok shared

  -- ---- tables that are moved forward
  module _ {B : Type 0} (number : ℕ) (next : number + 1 ≡ entry.seq) (one : Result B ReadFault) (after : KeeperState) (s1 : ℕ)
      (brings : AdvancesTables past number one old.tables.items new.tables.items before after s0 s1) where
    within : AreHeldUpTo number old.tables.items
    within = up_to_number old entry.seq number sound order next

    once_only : (history : History) → IsPastOf past history → TablesFit old.tables.items history → TablesFit new.tables.items history → s1 + unread_count new.tables.items history ≤ s0 + unread_count old.tables.items history
    once_only history its fits fits_still =
        let counted = brings.ledger in
        let at_first = taken_and_unread meaning history its.valid old.tables.items fits in
        let then = taken_and_unread meaning history its.valid new.tables.items fits_still in
        omega (arith, counted, at_first, then)

    pub examines : (result : Result (Option (List SharedRow)) ReadFault) → has_failed (reading_as_call result) ≡ has_failed (reading_as_call one) → ((place : ℕ) → result ≡ Err (Damaged place) → one ≡ Err (Damaged place))
        → (after.tells → (history : History) → map stored history ≡ before.kept → IsPastOf past history → IsAuditOf history audit → TablesFit new.tables.items history → StandsIn meaning history entry → FindsServing history audit entry query result)
        → Examines combine_terms past audit entry query result old new before after s0 s1
    examines result same whole finds =
        let up_to = brings.up_to within in
        let counted = brings.ledger in
        record {
          moves = record {
            is_after = IsAfterCall-as true false (reading_as_call one) (reading_as_call result) before after same brings.is_after;
            stays = brings.stays;
            is_sound = all-from (λ (lives : HeldLives). lives.versions.place ≤ number) (λ (lives : HeldLives). lives.versions.place < new.asked) (λ lives below. omega (arith, below, next, asked)) new.tables.items up_to;
            limit = omega (arith, asked);
            ledger = omega (arith, counted);
          };
          told = λ tells history kept its audit_is fits.
              let fits_still = brings.told tells history kept its fits in
              record {
                fits_still = fits_still;
                undamaged = λ place is. brings.undamaged tells history kept its fits place (whole place is);
                once = once_only history its fits fits_still;
                finds = finds tells history kept its audit_is fits_still;
              };
        }

    -- a fault
    pub examines_fault : (fault : ReadFault) (result : Result (Option (List SharedRow)) ReadFault) → result ≡ Err fault → one ≡ Err fault → Examines combine_terms past audit entry query result old new before after s0 s1
    examines_fault fault result is one_is =
        examines result
        (ap (λ r. has_failed (reading_as_call r)) is ∙ ap has_failed (reading_as_call-fault (Option (List SharedRow)) B fault) ∙ sym (ap (λ r. has_failed (reading_as_call r)) one_is))
        (λ place e. one_is ∙ ap (err_of B) (same_Err {A = Option (List SharedRow)} fault (Damaged place) (sym is ∙ e)))
        (λ tells history kept its audit_is fits stands. subst (FindsServing history audit entry query) (sym is) (λ user purpose recipient text asked means. tt))

    -- the result, from what is shared over the held rows
    finds_by : (tables : List HeldLives) → tables ≡ new.tables.items → names_all query audit ≡ true → AreHeldIfKnown past number audit.tables new.tables.items → AreHeldIfKnown past number query.tables new.tables.items
        → (result : Result (Option (List SharedRow)) ReadFault)
        → IfOk result (λ shared. (history : History) → HoldsBoth past.book.now tables number history query audit → IsServing (take number history) audit entry query shared)
        → (history : History) → IsPastOf past history → IsAuditOf history audit → TablesFit new.tables.items history → FindsServing history audit entry query result
    finds_by tables same names audit_held query_held (Err fault) shares history its audit_is fits = λ user purpose recipient text is means. tt
    finds_by tables same names audit_held query_held (Ok shared) shares history its audit_is fits = λ user purpose recipient text is means.
        let context : Context = record { purpose = purpose; recipient = recipient; moment = entry.moment } in
        let place : number ≡ entry.seq - 1 = omega (arith, next) in
        let means_there : meaning (take number history) text ≡ Some query = ap (λ n. meaning (take n history) text) place ∙ means in
        let created = created_by_meaning (take number history) text query (front_valid history number its.valid) means_there in
        let last = all-from (λ (table : Name). is_some (schema_at (take number history) table) ≡ true) (λ (table : Name). is_some (schema_at history table) ≡ true) (λ table. some_lasts history number its.valid table (schema_at (take number history) table) refl) query.tables created in
        let holds : HoldsBoth past.book.now new.tables.items number history query audit = record {
          valid = its.valid;
          book_is = its.book;
          fits = fits;
          audit_is = audit_is;
          names = names;
          audit_held = audit_held (are_known past.catalog.now.names history its.valid its.names audit.tables audit_is.created);
          query_held = query_held (are_known past.catalog.now.names history its.valid its.names query.tables last);
          created = created;
        } in
        shares history (subst (λ (t : List HeldLives). HoldsBoth past.book.now t number history query audit) (sym same) holds) user purpose recipient text is ∙ ap (λ n. first_serving (take n history) context query audit) place

    -- what is shared over the held rows is found
    pub examines_shared : (value : B) → one ≡ Ok value → (tables : List HeldLives) → tables ≡ new.tables.items → names_all query audit ≡ true
        → AreHeldIfKnown past number audit.tables new.tables.items → AreHeldIfKnown past number query.tables new.tables.items
        → (result : Result (Option (List SharedRow)) ReadFault) → IfErr result (λ fault. fault ≡ Memory)
        → IfOk result (λ shared. (history : History) → HoldsBoth past.book.now tables number history query audit → IsServing (take number history) audit entry query shared)
        → Examines combine_terms past audit entry query result old new before after s0 s1
    examines_shared value is tables same names audit_held query_held result memory shares =
        examines result (only_memory result memory ∙ sym (unfailed one value is)) (λ place e. absurd (undamaged result memory place e))
        (λ tells history kept its audit_is fits stands. finds_by tables same names audit_held query_held result shares history its audit_is fits)

-- ---- at first
apart_none : IsDistinct bytes_eq (map (λ (lives : HeldLives). lives.schema.name) [])
unfolding IsDistinct
apart_none = tt

pub new_is : (combine : Combine) → combine.tables.items ≡ [] → combine.asked ≡ 0 → IsNew combine_terms combine
new_is combine none unasked = record {
  is_sound = subst (λ (tables : List HeldLives). AllByRecursion (λ (lives : HeldLives). lives.versions.place < combine.asked) tables) (sym none) tt;
  unasked = unasked;
  fits_each = λ history number valid. fits history;
  none_handed = λ count is. sym (same_Some (all_taken combine.tables.items) count is) ∙ ap all_taken none;
  counted = λ history valid. let sum = taken_and_unread meaning history valid combine.tables.items (fits history) in omega (arith, sum);
}
  where
    fits : (history : History) → TablesFit combine.tables.items history
    fits history = subst (λ (tables : List HeldLives). TablesFit tables history) (sym none) (record { apart = apart_none; each = tt })
