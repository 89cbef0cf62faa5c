-- The state of a table's versions in a history: at first, at its place, and when the history grows;
-- and a snapshot.
use Rattle.std.proofs.Common.{◌≡◌, ◌∙◌, sym, ap, refl, subst, arith, ℕ, ◌+◌, ◌≤◌, Bool, true, false, cond, List, [], ◌∷◌, ◌++◌, length, take, Some, Result, Ok, Err, append_assoc, length-append}
use Rattle.std.specs.Prelude.{bytes_eq}
use Rattle.std.proofs.lemmas.Bool.{and_parts}
use Rattle.std.proofs.lemmas.List.Sums.{count_by-le-length, sum_by-cons}
use Rattle.hippo_model.specs.declared.entry.Entry.{Entry}
use Rattle.hippo_model.specs.declared.schema.Schema.{Schema}
use Rattle.hippo_model.specs.Terms.{History, Meaning, Place}
use Rattle.hippo_model.specs.Histories.{schema_at}
use Rattle.hippo_tables_keyed.specs.RowSets.{KeyedRows, kept_at}
use Rattle.hippo_model.specs.StoredForms.{table_changed}
use Rattle.hippo_model.specs.Validity.{is_valid}
use Rattle.hippo_model.specs.Versions.{is_version, versions}
use Rattle.hippo_keeper.specs.Keeping.{KeeperState, IsReady}
use Rattle.hippo_keeper.specs.Selecting.{HandsOver}
use Rattle.hippo_keeper.specs.declared.faults.KeeperFault.{KeeperFault}
use Rattle.hippo_backlog.specs.declared.faults.ReadFault.{ReadFault}
use Rattle.hippo_backlog.specs.declared.faults.ReadFault.TheVariants.{Damaged, Memory}
use Rattle.hippo_backlog.specs.Calls.{reading_as_call}
use Rattle.hippo_backlog.specs.ReadingAhead.{AreUpTo}
use Rattle.hippo_backlog.specs.Backlogs.{is_version_of, versions_of, HeldVersions, no_versions, AreAt, AdvancesTo, Snapshots}
use Rattle.hippo_backlog.proofs.AheadLemmas.{IsAhead-first, IsAhead-grown}
use Rattle.hippo_backlog.proofs.CallLemmas.{same_Err, reading_as_call-fault}
use Rattle.hippo_keeper.proofs.CallLemmas.{KeepsSame-here, IsAfterCall-none}
use Rattle.hippo_keeper.proofs.Results.{err_of, well}
use Rattle.hippo_backlog.proofs.NumberLemmas.{AreUpTo-higher, passed_at}
use Rattle.hippo_backlog.proofs.VersionsTheorem.{kept_at-versions, schemas_last}

AreUpTo-both : (number : ℕ) (front rest : History) → AreUpTo number front → AreUpTo number rest → AreUpTo number (front ++ rest)
AreUpTo-both number [] rest one other = other
AreUpTo-both number (entry ∷ front) rest one other = (one.0, AreUpTo-both number front rest one.1 other)

-- all versions of a table are versions
all_versions : (table : List ℕ) (history : History) → versions (versions_of table history) ≡ length (versions_of table history)
all_versions table [] = refl
all_versions table (entry ∷ rest) =
    let later = all_versions table rest in
    elim (is_version_of table entry) as (λ passes. is_version_of table entry ≡ passes → versions (cond passes (entry ∷ versions_of table rest) (versions_of table rest)) ≡ length (cond passes (entry ∷ versions_of table rest) (versions_of table rest))) [
      | true ↦ λ is.
          let one = (and_parts (is_version entry.act) (bytes_eq (table_changed entry.act) table) is).0 in
          let first = sum_by-cons (λ (e : Entry). cond (is_version e.act) 1 0) entry (versions_of table rest) in
          let counts : ◌≡◌ {A = ℕ} (cond (is_version entry.act) 1 0) 1 = ap (λ (b : Bool). cond {A = ℕ} b 1 0) one in
          omega (arith, first, counts, later)
      | false ↦ λ is. later
    ] refl

module _ (schema : Schema) (meaning : Meaning) where
  -- nothing is read yet, in a history in which the table has this schema
  pub AreAt-first : (history : History) → is_valid meaning history ≡ true → schema_at history schema.name ≡ Some schema → AreAt schema history (no_versions schema.key)
  AreAt-first history valid created =
      let split = IsAhead-first (is_version_of schema.name) meaning history valid in
      record { created = created; split = split.0; rows_are = ap (kept_at schema) (sym split.1) }

  -- the state of a history is the state of the history with one more entry
  pub AreAt-grown : (history : History) (entry : Entry) (held : HeldVersions) → is_valid meaning (history ++ entry ∷ []) ≡ true → AreAt schema history held → AreAt schema (history ++ entry ∷ []) held
  AreAt-grown history entry held valid there =
      let split = IsAhead-grown (is_version_of schema.name) held.place held.ahead history there.split meaning entry valid in
      record {
        created = schemas_last meaning history (entry ∷ []) schema.name schema valid there.created;
        split = split.0;
        rows_are = there.rows_are ∙ ap (kept_at schema) (sym split.1);
      }

  module _ (history : History) (held : HeldVersions) (valid : is_valid meaning history ≡ true) (there : AreAt schema history held) where
    -- the rows are those after the entries up to the place
    pub rows_at : held.rows ≡ kept_at schema (take held.place history)
    rows_at =
        let split = there.split in
        there.rows_are
        ∙ ap (kept_at schema) (passed_at meaning history (is_version_of schema.name) held.place split.used (split.waiting ++ split.later) valid split.parts split.used_up_to split.left_above)
        ∙ sym (kept_at-versions schema (take held.place history))

    -- the keeper handed over as many versions as the table has up to the number that is reached
    pub handed_is : held.ahead.handed ≡ length (versions_of schema.name (take held.ahead.reached history))
    handed_is =
        let split = there.split in
        let read = AreUpTo-both held.ahead.reached split.used split.waiting (AreUpTo-higher held.place held.ahead.reached split.used split.place_is_read split.used_up_to) split.read_up_to in
        let front = passed_at meaning history (is_version_of schema.name) held.ahead.reached (split.used ++ split.waiting) split.later valid (split.parts ∙ sym (append_assoc split.used split.waiting split.later)) read split.later_above in
        split.counted ∙ ap versions front ∙ all_versions schema.name (take held.ahead.reached history)

    -- the keeper handed over no more versions than the table has
    pub handed_within : held.ahead.handed ≤ length (versions_of schema.name history)
    handed_within =
        let split = there.split in
        let counted = split.counted in
        let few = count_by-le-length (λ (entry : Entry). is_version entry.act) (split.used ++ split.waiting) in
        let parts = ap length (split.parts ∙ sym (append_assoc split.used split.waiting split.later)) in
        let longer = length-append (split.used ++ split.waiting) split.later in
        omega (arith, counted, few, parts, longer)

module _ (schema : Schema) (number : ℕ) (before after : KeeperState) (steps_old steps_new : ℕ) where
  module _ (new : HeldVersions) where
    steps_within : {A : Type 0} (result : Result A ReadFault) → AdvancesTo schema number number result (no_versions schema.key) new before after steps_old steps_new → (meaning : Meaning) (history : History) → is_valid meaning history ≡ true → AreAt schema history new → steps_new ≤ steps_old + length (versions_of schema.name history)
    steps_within result brings meaning history valid there =
        let steps = brings.reads.hands.steps in
        let counted = brings.reads.taken.counted in
        let within = handed_within schema meaning history new valid there in
        omega (arith, steps, counted, within)

    -- the rows as they were in the past
    pub Snapshots-ok : AdvancesTo {A = Unit {0}} schema number number (Ok tt) (no_versions schema.key) new before after steps_old steps_new → Snapshots schema number (Ok new.rows) before after steps_old steps_new
    Snapshots-ok brings = record {
      handed = brings.reads.handed;
      hands = brings.reads.hands;
      damaged = λ place is. absurd cc;
      told = λ tells meaning history store created within.
          let there = brings.reads.keeps tells meaning history store within (AreAt-first schema meaning history store.valid created) in
          record {
            rows = rows_at schema meaning history new store.valid there ∙ ap (λ n. kept_at schema (take n history)) brings.place_is;
            steps = steps_within (well ReadFault) brings meaning history store.valid there;
            undamaged = λ place is. absurd cc;
          };
    }

    -- a fault
    pub Snapshots-err : (fault : ReadFault) → AdvancesTo {A = Unit {0}} schema number number (Err fault) (no_versions schema.key) new before after steps_old steps_new → Snapshots schema number (Err fault) before after steps_old steps_new
    Snapshots-err fault brings = record {
      handed = brings.reads.handed;
      hands = subst (λ (r : Result (Unit {0}) KeeperFault). HandsOver r brings.reads.handed before after steps_old steps_new) (reading_as_call-fault (Unit {0}) KeyedRows fault) brings.reads.hands;
      damaged = λ place is. brings.damaged place (as_unit place is) [] refl;
      told = λ tells meaning history store created within.
          let at_first = AreAt-first schema meaning history store.valid created in
          record {
            rows = tt;
            steps = steps_within (err_of (Unit {0}) fault) brings meaning history store.valid (brings.reads.keeps tells meaning history store within at_first);
            undamaged = λ place is. brings.undamaged tells meaning history store within at_first place (as_unit place is);
          };
    }
      where
        as_unit : (place : ℕ) → err_of KeyedRows fault ≡ Err (Damaged place) → err_of (Unit {0}) fault ≡ Err (Damaged place)
        as_unit place is = ap (err_of (Unit {0})) (same_Err {A = KeyedRows} fault (Damaged place) is)

module _ (schema : Schema) (number : ℕ) (before after : KeeperState) (steps_old steps_new : ℕ) (key : List Place) (first new : HeldVersions) (key_is : key ≡ schema.key) (first_is : first ≡ no_versions key) where
  -- the same, with each part given separately
  pub snapshot_ok : (rows : KeyedRows) → rows ≡ new.rows → AdvancesTo {A = Unit {0}} schema number number (Ok tt) first new before after steps_old steps_new → Snapshots schema number (Ok rows) before after steps_old steps_new
  snapshot_ok rows same brings =
      subst (λ (r : KeyedRows). Snapshots schema number (Ok r) before after steps_old steps_new) (sym same)
      (Snapshots-ok schema number before after steps_old steps_new new (subst (λ (held : HeldVersions). AdvancesTo {A = Unit {0}} schema number number (Ok tt) held new before after steps_old steps_new) (first_is ∙ ap no_versions key_is) brings))

  pub snapshot_err : (fault : ReadFault) → AdvancesTo {A = Unit {0}} schema number number (Err fault) first new before after steps_old steps_new → Snapshots schema number (Err fault) before after steps_old steps_new
  snapshot_err fault brings =
      Snapshots-err schema number before after steps_old steps_new new fault (subst (λ (held : HeldVersions). AdvancesTo {A = Unit {0}} schema number number (Err fault) held new before after steps_old steps_new) (first_is ∙ ap no_versions key_is) brings)

-- memory ran out before anything was read
pub Snapshots-none : (schema : Schema) (number : ℕ) (keeper : KeeperState) (steps : ℕ) → IsReady true keeper → Snapshots schema number (Err Memory) keeper keeper steps steps
Snapshots-none schema number keeper steps ready = record {
  handed = [];
  hands = record {
    call = IsAfterCall-none (reading_as_call (err_of KeyedRows Memory)) keeper refl ready;
    stays = λ tells. KeepsSame-here keeper;
    steps = omega arith;
  };
  damaged = λ place is. absurd cc;
  told = λ tells meaning history store created within. record { rows = tt; steps = omega arith; undamaged = λ place is. absurd cc };
}
