-- A table's rows and the entries read ahead, while versions are applied and batches are read.
use Rattle.std.proofs.Common.{◌≡◌, ◌∙◌, sym, ap, refl, subst, arith, ℕ, ◌+◌, ◌<◌, ◌≤◌, Bool, true, false, ◌&&◌, List, [], ◌∷◌, ◌++◌, map, length, drop, nat_lt, cond, slice_get, Some, None, Result, Ok, Err, append_assoc}
use Rattle.std.specs.Prelude.{◌≢◌, is_some, nat_le, bytes_eq, option_and_then}
use Rattle.std.specs.Bool.{then_some}
use Rattle.std.proofs.lemmas.Bool.{and_parts, or_parts}
use Rattle.std.proofs.lemmas.Bool.Decides.{nat_tests}
use Rattle.std.proofs.lemmas.List.{append-nil, map-append}
use Rattle.std.proofs.lemmas.List.Sums.{sum_by-append}
use Rattle.std.proofs.lemmas.Option.{none-some}
use Rattle.hippo_values.specs.declared.moments.Moment.{Moment}
use Rattle.hippo_model.specs.declared.born_row.BornRow.{BornRow}
use Rattle.hippo_model.specs.declared.entry.Act.{Act}
use Rattle.hippo_model.specs.declared.entry.Act.TheVariants.{Insert, Update, Delete}
use Rattle.hippo_model.specs.declared.entry.Entry.{Entry}
use Rattle.hippo_model.specs.declared.schema.Schema.{Schema}
use Rattle.hippo_model.specs.declared.stored.StoredEntry.{StoredEntry}
use Rattle.hippo_model.specs.Terms.{History, Meaning}
use Rattle.hippo_tables_keyed.specs.Changes.{with_renewed_row, changed}
use Rattle.hippo_model.specs.HandedOver.{is_wanted_version, IsFit}
use Rattle.hippo_model.specs.Keepable.{is_keepable}
use Rattle.hippo_model.specs.Rows.{key_of}
use Rattle.hippo_tables_keyed.specs.RowSets.{KeyedRows, kept_at, with_row, without_row, row_with}
use Rattle.hippo_model.specs.StoredForms.{table_changed, stored}
use Rattle.hippo_model.specs.Stores.{IsStoreOf}
use Rattle.hippo_model.specs.Validity.{is_valid}
use Rattle.hippo_model.specs.Versions.{row_fits, version_fits}
use Rattle.hippo_tables_keyed.proofs.ChangesOfRows.{changed-kept_at}
use Rattle.hippo_model_laws.proofs.ActCodes.{stored_again}
use Rattle.hippo_entry.specs.Forms.{HasForm}
use Rattle.hippo_keeper.specs.declared.faults.KeeperFault.{KeeperFault}
use Rattle.hippo_keeper.specs.Keeping.{Store, RisesAbove, KeeperState, IsReady}
use Rattle.hippo_keeper.specs.Selecting.{is_stored_version, stored_versions, selected_entries, ReadsEntries, is_stored_version_of}
use Rattle.hippo_keeper.proofs.StoredLemmas.{is_stored_version-stored}
use Rattle.hippo_backlog.specs.declared.faults.ReadFault.{ReadFault}
use Rattle.hippo_backlog.specs.declared.faults.ReadFault.TheVariants.{Keeper, Damaged}
use Rattle.hippo_backlog.specs.Calls.{read_fault, reading_as_call}
use Rattle.hippo_backlog.specs.ReadingAhead.{ReadAhead, without_first, with_piece, BeginsAbove, has_read, IsAhead}
use Rattle.hippo_backlog.specs.Taking.{HasApplied, AppliesVersion}
use Rattle.hippo_backlog.specs.Backlogs.{is_version_of, HeldVersions, higher_of, AreAt, PreservesState, TakesInVersions, HasUnfit, NamesUnfit, TakesWaiting, ReadsOn, AdvancesTo}
use Rattle.hippo_backlog.proofs.AheadLemmas.{IsAhead-used, IsAhead-moved, IsAhead-read, reached_by-least, reached_by-further}
use Rattle.hippo_backlog.proofs.NumberLemmas.{last-above}
use Rattle.hippo_backlog.proofs.CallLemmas.{reading_as_call-unfailed, same_Err, reading_as_call-read_fault}
use Rattle.hippo_keeper.proofs.CallLemmas.{KeepsSame-here, KeepsSame-then, KeepsSame-Stays, IsAfterCall-then, IsAfterCall-as, IsAfterCall-none}
use Rattle.hippo_keeper.proofs.Results.{err_of, well}
use Rattle.hippo_backlog.proofs.VersionsTheorem.{stands_at, may_there, versions_fit}

pub stored_versions-append : (first second : Store) → stored_versions (first ++ second) ≡ stored_versions first + stored_versions second
stored_versions-append first second = sum_by-append (λ (kept : StoredEntry). cond (is_stored_version kept) 1 0) first second

then_some-Some : {A : Type 0} (test : Bool) (word other : A) → then_some test word ≡ Some other → word ≡ other
then_some-Some true word other e = cc
then_some-Some false word other e = cc

-- a change keeps the key columns
changed_key : (schema : Schema) (moment : Moment) (act : Act) (old new : KeyedRows) → changed schema moment act old ≡ Some new → new.key ≡ old.key
changed_key schema moment (Insert table row) old new is = sym (ap (λ (k : KeyedRows). k.key) (then_some-Some _ (with_row (record { row = row; born = moment }) old) new is))
changed_key schema moment (Update table row) old new is =
    (elim (row_with (key_of schema.key row) old) as (λ found. option_and_then (λ (was : BornRow). then_some (bytes_eq table schema.name && row_fits schema row) (with_renewed_row row old was)) found ≡ Some new → new.key ≡ old.key) [
      | None ↦ λ e. absurd cc
      | Some was ↦ λ e. sym (ap (λ (k : KeyedRows). k.key) (then_some-Some _ (with_renewed_row row old was) new e))
    ]) is
changed_key schema moment (Delete table key) old new is = sym (ap (λ (k : KeyedRows). k.key) (then_some-Some _ (without_row key old) new is))
changed_key schema moment act old new is = absurd cc

-- the place is moved to a number
abbrev pub placed : ℕ → HeldVersions → HeldVersions
placed number held = record { rows = held.rows; ahead = held.ahead; place = number }

-- the versions that were handed over are applied one by one: none at first, whatever the place is
-- moved to
TakesInVersions-moved : (schema : Schema) (number place : ℕ) (held : HeldVersions) → held.place ≤ place → (held.place ≤ number → place ≤ number) → TakesInVersions schema number [] held (placed place held)
TakesInVersions-moved schema number place held rises limit = record {
  taken = [];
  parts = append-nil held.ahead.waiting;
  rows = λ earlier is. is ∙ ap (kept_at schema) (sym (append-nil earlier));
  key = refl;
  counted = omega arith;
  further = omega arith;
  rises = rises;
  limit = limit;
}

pub TakesInVersions-here : (schema : Schema) (number : ℕ) (held : HeldVersions) → TakesInVersions schema number [] held held
TakesInVersions-here schema number held = TakesInVersions-moved schema number held.place held (omega arith) (λ within. within)

module _ (schema : Schema) (number : ℕ) where
  pub TakesInVersions-then : (front rest : Store) (old mid new : HeldVersions) → TakesInVersions schema number front old mid → TakesInVersions schema number rest mid new → TakesInVersions schema number (front ++ rest) old new
  TakesInVersions-then front rest old mid new one other = record {
    taken = one.taken ++ other.taken;
    parts =
        sym (append_assoc old.ahead.waiting front rest) ∙ ap (λ (s : Store). s ++ rest) one.parts ∙ append_assoc (map stored one.taken) mid.ahead.waiting rest
        ∙ ap (λ (s : Store). map stored one.taken ++ s) other.parts ∙ sym (append_assoc (map stored one.taken) (map stored other.taken) new.ahead.waiting)
        ∙ ap (λ (s : Store). s ++ new.ahead.waiting) (sym (map-append stored one.taken other.taken));
    rows = λ earlier is. other.rows (earlier ++ one.taken) (one.rows earlier is) ∙ ap (kept_at schema) (append_assoc earlier one.taken other.taken);
    key = other.key ∙ one.key;
    counted = omega (arith, one.counted, other.counted, stored_versions-append front rest);
    further = omega (arith, one.further, other.further);
    rises = omega (arith, one.rises, other.rises);
    limit = λ within. other.limit (one.limit within);
  }

  pub TakesInVersions-more : (handed : Store) (old mid new : HeldVersions) → TakesInVersions schema number handed old mid → TakesInVersions schema number [] mid new → TakesInVersions schema number handed old new
  TakesInVersions-more handed old mid new one other = subst (λ (s : Store). TakesInVersions schema number s old new) (append-nil handed) (TakesInVersions-then handed [] old mid new one other)

  -- an entry that does not fit then was handed over after those that are applied
  HasUnfit-then : (handed : Store) (old mid : HeldVersions) (one : TakesInVersions schema number handed old mid) (earlier : History) (place : ℕ) → HasUnfit schema (earlier ++ one.taken) mid.ahead.waiting place → HasUnfit schema earlier (old.ahead.waiting ++ handed) place
  HasUnfit-then handed old mid one earlier place there = record {
    taken = one.taken ++ there.taken;
    entry = there.entry;
    rest = there.rest;
    parts =
        one.parts ∙ ap (λ (s : Store). map stored one.taken ++ s) there.parts ∙ sym (append_assoc (map stored one.taken) (map stored there.taken) (there.entry ∷ there.rest))
        ∙ ap (λ (s : Store). s ++ there.entry ∷ there.rest) (sym (map-append stored one.taken there.taken));
    number_is = there.number_is;
    unfit = subst (λ (h : History). ¬ (IsFit (is_wanted_version schema 0 h) there.entry)) (append_assoc earlier one.taken there.taken) there.unfit;
  }

  pub NamesUnfit-then : {A : Type 0} (result : Result A ReadFault) (handed : Store) (old mid : HeldVersions) → TakesInVersions schema number handed old mid → NamesUnfit schema result mid.ahead.waiting mid → NamesUnfit schema result (old.ahead.waiting ++ handed) old
  NamesUnfit-then result handed old mid one names place is earlier same = HasUnfit-then handed old mid one earlier place (names place is (earlier ++ one.taken) (one.rows earlier same))

  -- some versions that wait are applied, and then more of them
  pub TakesWaiting-here : (held : HeldVersions) → TakesWaiting schema number (well ReadFault) held held
  TakesWaiting-here held = record {
    taken = TakesInVersions-here schema number held;
    keeps = λ meaning history valid there. there;
    reached_is = refl;
    damaged = λ place is. absurd cc;
    undamaged = λ meaning history valid there place is. absurd cc;
    unfailed = λ is. absurd cc;
  }

  pub TakesWaiting-then : {A : Type 0} (result : Result A ReadFault) (old mid new : HeldVersions) → TakesWaiting schema number (well ReadFault) old mid → TakesWaiting schema number result mid new → TakesWaiting schema number result old new
  TakesWaiting-then result old mid new one other = record {
    taken = TakesInVersions-more [] old mid new one.taken other.taken;
    keeps = λ meaning history valid there. other.keeps meaning history valid (one.keeps meaning history valid there);
    reached_is = other.reached_is ∙ one.reached_is;
    damaged = subst (λ (s : Store). NamesUnfit schema result s old) (append-nil old.ahead.waiting) (NamesUnfit-then result [] old mid one.taken other.damaged);
    undamaged = λ meaning history valid there. other.undamaged meaning history valid (one.keeps meaning history valid there);
    unfailed = other.unfailed;
  }

  pub TakesWaiting-ok : {A B : Type 0} (one : A) (other : B) (old new : HeldVersions) → TakesWaiting {A = A} schema number (Ok one) old new → TakesWaiting {A = B} schema number (Ok other) old new
  TakesWaiting-ok one other old new takes = record {
    taken = takes.taken;
    keeps = takes.keeps;
    reached_is = takes.reached_is;
    damaged = λ place is. absurd cc;
    undamaged = λ meaning history valid there place is. absurd cc;
    unfailed = λ is. absurd cc;
  }

  pub TakesWaiting-err : {A B : Type 0} (fault : ReadFault) (old new : HeldVersions) → TakesWaiting {A = A} schema number (Err fault) old new → TakesWaiting {A = B} schema number (Err fault) old new
  TakesWaiting-err {A} {B} fault old new takes = record {
    taken = takes.taken;
    keeps = takes.keeps;
    reached_is = takes.reached_is;
    damaged = λ place is. takes.damaged place (ap (err_of A) (same_Err {A = B} fault (Damaged place) is));
    undamaged = λ meaning history valid there place is. takes.undamaged meaning history valid there place (ap (err_of A) (same_Err {A = B} fault (Damaged place) is));
    unfailed = λ is. takes.unfailed (ap (err_of A) (same_Err {A = B} fault Keeper is));
  }

-- a list from its first element
first_rest : (waiting : Store) (kept : StoredEntry) → slice_get waiting 0 ≡ Some kept → waiting ≡ kept ∷ drop 1 waiting
first_rest [] kept is = absurd cc
first_rest (first ∷ rest) kept is = let same : first ≡ kept = cc in λ i. same i ∷ rest

pub none_first : (waiting : Store) → slice_get waiting 0 ≡ None → waiting ≡ []
none_first [] is = refl
none_first (first ∷ rest) is = absurd cc

pub begins_none : (number : ℕ) (waiting : Store) → slice_get waiting 0 ≡ None → BeginsAbove number waiting
begins_none number [] is = tt
begins_none number (first ∷ rest) is = absurd cc

pub begins_some : (number : ℕ) (waiting : Store) (kept : StoredEntry) → slice_get waiting 0 ≡ Some kept → number < kept.seq → BeginsAbove number waiting
begins_some number [] kept is above = absurd cc
begins_some number (first ∷ rest) kept is above =
    let same : first ≡ kept = cc in
    let seq = ap (λ (e : StoredEntry). e.seq) same in
    omega arith

pub fewer_wait : (waiting : Store) (kept : StoredEntry) → slice_get waiting 0 ≡ Some kept → length (drop 1 waiting) < length waiting
fewer_wait [] kept is = absurd cc
fewer_wait (first ∷ rest) kept is = omega arith

pub some_waits : (waiting : Store) (kept : StoredEntry) → slice_get waiting 0 ≡ Some kept → 0 < length waiting
some_waits [] kept is = absurd cc
some_waits (first ∷ rest) kept is = omega arith

record FirstStored (waiting : History) (kept : StoredEntry) : Type 0 where
  entry : Entry
  rest : History
  waiting_is : waiting ≡ entry ∷ rest
  form : stored entry ≡ kept

first_stored : (waiting : History) (kept : StoredEntry) → slice_get (map stored waiting) 0 ≡ Some kept → FirstStored waiting kept
first_stored [] kept is = absurd cc
first_stored (entry ∷ rest) kept is = record { entry = entry; rest = rest; waiting_is = refl; form = cc }

below_is : (low number : ℕ) → low < number → nat_lt low number ≡ true
below_is low number below = grind (arith, nat_tests)

raised_above : (place number : ℕ) → place < number → higher_of place number ≡ number
raised_above place number below = let is = below_is place number below in rw is

raised_least : (place number : ℕ) → place ≤ higher_of place number
raised_least place number =
    elim (nat_lt place number) as (λ below. nat_lt place number ≡ below → place ≤ cond below number place) [
      | true ↦ λ is. grind (arith, nat_tests)
      | false ↦ λ is. omega arith
    ] refl

raised_most : (place number limit : ℕ) → place ≤ limit → number ≤ limit → higher_of place number ≤ limit
raised_most place number limit one other =
    elim (nat_lt place number) as (λ below. cond below number place ≤ limit) [
      | true ↦ other
      | false ↦ one
    ]

module _ (schema : Schema) (old : HeldVersions) (kept : StoredEntry) (first : slice_get old.ahead.waiting 0 ≡ Some kept) where
  -- the change of the rows, if they are those of a history
  change_at : (earlier : History) (entry : Entry) → old.rows ≡ kept_at schema earlier → changed schema entry.moment entry.act old.rows ≡ then_some (version_fits schema earlier entry.act) (kept_at schema (earlier ++ entry ∷ []))
  change_at earlier entry same = ap (changed schema entry.moment entry.act) same ∙ changed-kept_at schema earlier entry

  -- the first entry that waits is the next version of a history
  record IsNextOf (history : History) (there : AreAt schema history old) : Type 0 where
    next : Entry
    rest : History
    waiting_is : there.split.waiting ≡ next ∷ rest
    form : HasForm kept next
    fits : version_fits schema there.split.used next.act ≡ true
    above : old.place < kept.seq

  next_of : (meaning : Meaning) (history : History) → is_valid meaning history ≡ true → (there : AreAt schema history old) → IsNextOf history there
  next_of meaning history valid there =
      let split = there.split in
      let front = first_stored split.waiting kept (subst (λ (s : Store). slice_get s 0 ≡ Some kept) split.forms first) in
      let parts = split.parts ∙ ap (λ (w : History). split.used ++ (w ++ split.later)) front.waiting_is in
      let stands = stands_at (is_version_of schema.name) history split.used (front.rest ++ split.later) front.entry parts in
      let may = may_there meaning stands.front stands.remaining front.entry (ap (is_valid meaning) (sym stands.whole) ∙ valid) in
      let keepable = (and_parts (is_keepable front.entry) _ (and_parts _ _ (and_parts _ _ may).0).0).0 in
      let left = subst (λ (w : History). RisesAbove old.place (map stored (w ++ split.later))) front.waiting_is split.left_above in
      let seq = ap (λ (e : StoredEntry). e.seq) front.form in
      let below : old.place < front.entry.seq = left.0 in
      record {
        next = front.entry;
        rest = front.rest;
        waiting_is = front.waiting_is;
        form = (keepable, front.form);
        fits = versions_fit meaning history schema valid there.created split.used (front.rest ++ split.later) front.entry parts;
        above = omega arith;
      }

  module _ (number : ℕ) (rows : KeyedRows) (within : kept.seq ≤ number) (taken : HasApplied schema kept old.rows rows) where
    abbrev after : HeldVersions
    after = record { rows = rows; ahead = without_first old.ahead; place = higher_of old.place kept.seq }

    rows_after : (earlier : History) → old.rows ≡ kept_at schema earlier → rows ≡ kept_at schema (earlier ++ taken.entry ∷ [])
    rows_after earlier same = sym (then_some-Some _ (kept_at schema (earlier ++ taken.entry ∷ [])) rows (sym (change_at earlier taken.entry same) ∙ taken.change))

    takes_one : TakesInVersions schema number [] old after
    takes_one = record {
      taken = taken.entry ∷ [];
      parts = append-nil old.ahead.waiting ∙ first_rest old.ahead.waiting kept first ∙ (λ i. sym taken.form.1 i ∷ drop 1 old.ahead.waiting);
      rows = rows_after;
      key = changed_key schema taken.entry.moment taken.entry.act old.rows rows taken.change;
      counted = omega arith;
      further = omega arith;
      rises = raised_least old.place kept.seq;
      limit = λ so_far. raised_most old.place kept.seq number so_far within;
    }

    keeps_one : PreservesState schema old after
    keeps_one meaning history valid there =
        let next = next_of meaning history valid there in
        let same : taken.entry ≡ next.next = stored_again taken.entry next.next taken.form.0 next.form.0 (taken.form.1 ∙ sym next.form.1) in
        let moved = IsAhead-used (is_version_of schema.name) old.place old.ahead history there.split next.next next.rest next.waiting_is in
        let place_is : next.next.seq ≡ higher_of old.place kept.seq = ap (λ (e : StoredEntry). e.seq) next.form.1 ∙ sym (raised_above old.place kept.seq next.above) in
        let there_now = subst (λ (p : ℕ). ((new : IsAhead (is_version_of schema.name) p (without_first old.ahead) history) × (new.used ≡ there.split.used ++ next.next ∷ []))) place_is moved in
        record {
          created = there.created;
          split = there_now.0;
          rows_are = rows_after there.split.used there.rows_are ∙ ap (λ (e : Entry). kept_at schema (there.split.used ++ e ∷ [])) same ∙ ap (kept_at schema) (sym there_now.1);
        }

    -- the first version is applied
    pub takes_first-ok : TakesWaiting {A = Bool} schema number (Ok true) old after
    takes_first-ok = record {
      taken = takes_one;
      keeps = keeps_one;
      reached_is = refl;
      damaged = λ place is. absurd cc;
      undamaged = λ meaning history valid there place is. absurd cc;
      unfailed = λ is. absurd cc;
    }

  never_none : (earlier : History) (entry : Entry) → old.rows ≡ kept_at schema earlier → version_fits schema earlier entry.act ≡ true → ¬ (changed schema entry.moment entry.act old.rows ≡ None)
  never_none earlier entry same fits none =
      let after = kept_at schema (earlier ++ entry ∷ []) in
      none-some after (sym none ∙ change_at earlier entry same ∙ ap (λ (b : Bool). then_some b after) fits)

  -- it does not fit, or memory ran out
  pub takes_first-err : (number : ℕ) (fault : ReadFault) (rows : KeyedRows) → AppliesVersion {A = Unit {0}} schema kept (Err fault) old.rows rows → TakesWaiting {A = Bool} schema number (Err fault) old old
  takes_first-err number fault rows takes = record {
    taken = TakesInVersions-here schema number old;
    keeps = λ meaning history valid there. there;
    reached_is = refl;
    damaged = λ place is earlier same.
        let so = ap (err_of (Unit {0})) (same_Err {A = Bool} fault (Damaged place) is) in
        record {
          taken = [];
          entry = kept;
          rest = drop 1 old.ahead.waiting;
          parts = first_rest old.ahead.waiting kept first;
          number_is = sym (takes.number place so);
          unfit = λ fit.
              let fits = (and_parts (nat_lt 0 fit.entry.seq) (version_fits schema (earlier ++ []) fit.entry.act) fit.asked).1 in
              never_none earlier fit.entry same (ap (λ (h : History). version_fits schema h fit.entry.act) (sym (append-nil earlier)) ∙ fits) (takes.damaged place so fit.entry (fit.keepable, fit.form));
        };
    undamaged = λ meaning history valid there place is.
        let so = ap (err_of (Unit {0})) (same_Err {A = Bool} fault (Damaged place) is) in
        let next = next_of meaning history valid there in
        never_none there.split.used next.next there.rows_are next.fits (takes.damaged place so next.next next.form);
    unfailed = λ is. takes.unfailed (ap (err_of (Unit {0})) (same_Err {A = Bool} fault Keeper is));
  }

-- the first version is applied, with each part given separately
pub first_taken : (schema : Schema) (inside old : HeldVersions) → inside ≡ old → (number : ℕ) (kept : StoredEntry) (rows : KeyedRows) (ahead : ReadAhead) (place : ℕ) → slice_get inside.ahead.waiting 0 ≡ Some kept → kept.seq ≤ number → HasApplied schema kept inside.rows rows → ahead ≡ without_first inside.ahead → place ≡ higher_of inside.place kept.seq → TakesWaiting {A = Bool} schema number (Ok true) old (record { rows = rows; ahead = ahead; place = place })
first_taken schema inside old same number kept rows ahead place first within taken ahead_is place_is =
    subst (λ (held : HeldVersions). TakesWaiting {A = Bool} schema number (Ok true) held (record { rows = rows; ahead = ahead; place = place })) same
    (subst (λ (held : HeldVersions). TakesWaiting {A = Bool} schema number (Ok true) inside held) (λ i. record { rows = rows; ahead = sym ahead_is i; place = sym place_is i }) (takes_first-ok schema inside kept first number rows within taken))

-- it is not applied
pub first_untaken : (schema : Schema) (inside old : HeldVersions) → inside ≡ old → (number : ℕ) (kept : StoredEntry) (fault : ReadFault) (rows : KeyedRows) → slice_get inside.ahead.waiting 0 ≡ Some kept → AppliesVersion {A = Unit {0}} schema kept (Err fault) inside.rows rows → TakesWaiting {A = Bool} schema number (Err fault) old (record { rows = rows; ahead = inside.ahead; place = inside.place })
first_untaken schema inside old same number kept fault rows first takes =
    subst (λ (held : HeldVersions). TakesWaiting {A = Bool} schema number (Err fault) held (record { rows = rows; ahead = inside.ahead; place = inside.place })) same
    (subst (λ (held : HeldVersions). TakesWaiting {A = Bool} schema number (Err fault) inside held) (λ i. record { rows = sym takes.err i; ahead = inside.ahead; place = inside.place }) (takes_first-err schema inside kept first number fault rows takes))

same_test : (table : List ℕ) (entry : Entry) → is_stored_version_of table (stored entry) ≡ is_version_of table entry
same_test table entry = ap (λ passes. passes && bytes_eq (table_changed entry.act) table) (is_stored_version-stored entry)

module _ (schema : Schema) (max end : ℕ) (old : HeldVersions) (before after : KeeperState) (steps_old steps_new : ℕ) (used : old.ahead.waiting ≡ []) where
  -- a batch is read
  pub reads_piece : (piece : Store) → ReadsEntries (is_stored_version_of schema.name) old.ahead.reached max (Ok piece) before after → steps_new ≡ steps_old + stored_versions piece → (number : ℕ) → ReadsOn schema number end (reading_as_call (well ReadFault)) old (record { rows = old.rows; ahead = with_piece max end piece old.ahead; place = old.place }) before after steps_old steps_new
  reads_piece piece reads steps number = record {
    handed = piece;
    hands = record {
      call = IsAfterCall-as true false (Ok piece) (well KeeperFault) before after refl reads.call;
      stays = λ tells. KeepsSame-Stays before after (reads.stays tells);
      steps = steps;
    };
    taken = record {
      taken = [];
      parts = ap (λ (s : Store). s ++ piece) used;
      rows = λ earlier is. is ∙ ap (kept_at schema) (sym (append-nil earlier));
      key = refl;
      counted = refl;
      further = let least = reached_by-least max end piece old.ahead.reached in let last = last-above old.ahead.reached piece reads.ok.order in omega (arith, least, last);
      rises = omega arith;
      limit = λ within. within;
    };
    keeps = λ tells meaning history store within there.
        let handed = reads.ok.told tells ∙ ap (λ (s : Store). selected_entries (is_stored_version_of schema.name) old.ahead.reached max s) (sym store.forms) in
        let read = IsAhead-read (is_version_of schema.name) old.place old.ahead history there.split (is_stored_version_of schema.name) (same_test schema.name) meaning store.valid max end piece used handed within in
        record { created = there.created; split = read.0; rows_are = there.rows_are ∙ ap (kept_at schema) (sym read.1) };
  }

  -- the read fails
  pub reads_fault : (fault : KeeperFault) → ReadsEntries (is_stored_version_of schema.name) old.ahead.reached max (Err fault) before after → steps_new ≡ steps_old + 0 → (number : ℕ) → ReadsOn schema number end (reading_as_call (err_of (Unit {0}) (read_fault fault))) old old before after steps_old steps_new
  reads_fault fault reads steps number = record {
    handed = [];
    hands = record {
      call = IsAfterCall-as true false (err_of Store fault) (reading_as_call (err_of (Unit {0}) (read_fault fault))) before after (reading_as_call-read_fault (Unit {0}) Store fault) reads.call;
      stays = λ tells. KeepsSame-Stays before after (reads.stays tells);
      steps = steps;
    };
    taken = TakesInVersions-here schema number old;
    keeps = λ tells meaning history store within there. there;
  }

-- the same, with each part given separately
module _ (schema : Schema) (max end : ℕ) (old : HeldVersions) (before after : KeeperState) (steps_old steps_new reached : ℕ) (used : old.ahead.waiting ≡ []) (reached_is : reached ≡ old.ahead.reached) where
  pub read_ok : (inside : HeldVersions) → inside ≡ old → (piece : Store) (ahead : ReadAhead) → ahead ≡ with_piece max end piece inside.ahead → ReadsEntries (is_stored_version_of schema.name) reached max (Ok piece) before after → steps_new ≡ steps_old + stored_versions piece → (number : ℕ) → ReadsOn schema number end (well KeeperFault) old (record { rows = inside.rows; ahead = ahead; place = inside.place }) before after steps_old steps_new
  read_ok inside same piece ahead ahead_is reads steps number =
      let path : with_piece max end piece old.ahead ≡ ahead = ap (λ (held : HeldVersions). with_piece max end piece held.ahead) (sym same) ∙ sym ahead_is in
      subst (λ (held : HeldVersions). ReadsOn schema number end (well KeeperFault) old held before after steps_old steps_new)
      (λ i. record { rows = (sym same i).rows; ahead = path i; place = (sym same i).place })
      (reads_piece schema max end old before after steps_old steps_new used piece (subst (λ (n : ℕ). ReadsEntries (is_stored_version_of schema.name) n max (Ok piece) before after) reached_is reads) steps number)

  pub read_further : (inside : HeldVersions) → inside ≡ old → (piece : Store) (ahead : ReadAhead) → ahead ≡ with_piece max end piece inside.ahead → ReadsEntries (is_stored_version_of schema.name) reached max (Ok piece) before after → 0 < max → old.ahead.reached < end → old.ahead.reached < ahead.reached
  read_further inside same piece ahead ahead_is reads some below =
      let path : ahead ≡ with_piece max end piece old.ahead = ahead_is ∙ ap (λ (held : HeldVersions). with_piece max end piece held.ahead) same in
      let further = reached_by-further max end piece old.ahead.reached some (subst (λ (n : ℕ). RisesAbove n piece) reached_is reads.ok.order) below in
      let there = ap (λ (a : ReadAhead). a.reached) path in
      omega (arith, further, there)

  pub read_err : (fault : KeeperFault) → ReadsEntries (is_stored_version_of schema.name) reached max (Err fault) before after → steps_new ≡ steps_old + 0 → (number : ℕ) → ReadsOn schema number end (reading_as_call (err_of (Unit {0}) (read_fault fault))) old old before after steps_old steps_new
  read_err fault reads steps number = reads_fault schema max end old before after steps_old steps_new used fault (subst (λ (n : ℕ). ReadsEntries (is_stored_version_of schema.name) n max (Err fault) before after) reached_is reads) steps number

module _ (schema : Schema) (number end : ℕ) where
  -- nothing is read yet
  pub ReadsOn-first : (held : HeldVersions) (keeper : KeeperState) (steps : ℕ) → IsReady true keeper → ReadsOn schema number end (well KeeperFault) held held keeper keeper steps steps
  ReadsOn-first held keeper steps ready = record {
    handed = [];
    hands = record {
      call = IsAfterCall-none (well KeeperFault) keeper refl ready;
      stays = λ tells. KeepsSame-here keeper;
      steps = omega arith;
    };
    taken = TakesInVersions-here schema number held;
    keeps = λ tells meaning history store within there. there;
  }

  module _ (old mid new : HeldVersions) (before now : KeeperState) (steps_old steps_now : ℕ) (so_far : ReadsOn schema number end (well KeeperFault) old mid before now steps_old steps_now) where
    -- then the versions that wait are applied
    abbrev pub ReadsOn-waiting : {A : Type 0} (result : Result A ReadFault) → TakesWaiting schema number result mid new → ReadsOn schema number end (reading_as_call result) old new before now steps_old steps_now
    ReadsOn-waiting result takes = record {
      handed = so_far.handed;
      hands = record {
        call = IsAfterCall-as true false (well KeeperFault) (reading_as_call result) before now (reading_as_call-unfailed result takes.unfailed) so_far.hands.call;
        stays = so_far.hands.stays;
        steps = so_far.hands.steps;
      };
      taken = TakesInVersions-more schema number so_far.handed old mid new so_far.taken takes.taken;
      keeps = λ tells meaning history store within there. takes.keeps meaning history store.valid (so_far.keeps tells meaning history store within there);
    }

    -- up to a fault
    pub AdvancesTo-waiting : (fault : ReadFault) → TakesWaiting {A = Unit {0}} schema number (Err fault) mid new → AdvancesTo {A = Unit {0}} schema number end (Err fault) old new before now steps_old steps_now
    AdvancesTo-waiting fault takes = record {
      reads = ReadsOn-waiting (err_of (Unit {0}) fault) takes;
      place_is = tt;
      damaged = NamesUnfit-then schema number (err_of (Unit {0}) fault) so_far.handed old mid so_far.taken takes.damaged;
      undamaged = λ tells meaning history store within there. takes.undamaged meaning history store.valid (so_far.keeps tells meaning history store within there);
    }

    module _ (after : KeeperState) (steps_new : ℕ) where
      -- or a batch is read
      abbrev pub ReadsOn-then : {A : Type 0} (call : Result A KeeperFault) → ReadsOn schema number end call mid new now after steps_now steps_new → ReadsOn schema number end call old new before after steps_old steps_new
      ReadsOn-then call reads = record {
        handed = so_far.handed ++ reads.handed;
        hands = record {
          call = IsAfterCall-then false (well KeeperFault) call before now after refl so_far.hands.call reads.hands.call;
          stays = λ tells. KeepsSame-then before now after (so_far.hands.stays (reads.hands.call.told tells)) (reads.hands.stays tells);
          steps = omega (arith, so_far.hands.steps, reads.hands.steps, stored_versions-append so_far.handed reads.handed);
        };
        taken = TakesInVersions-then schema number so_far.handed reads.handed old mid new so_far.taken reads.taken;
        keeps = λ tells meaning history store within there.
            let tells_now = reads.hands.call.told tells in
            reads.keeps tells meaning history (subst (λ (s : Store). IsStoreOf meaning s history) (sym (so_far.hands.stays tells_now).same) store) within (so_far.keeps tells_now meaning history store within there);
      }

      pub AdvancesTo-fault : (fault : ReadFault) → ReadsOn schema number end (reading_as_call (err_of (Unit {0}) fault)) mid new now after steps_now steps_new → ((place : ℕ) → err_of (Unit {0}) fault ≢ Err (Damaged place)) → AdvancesTo {A = Unit {0}} schema number end (Err fault) old new before after steps_old steps_new
      AdvancesTo-fault fault reads undamaged = record {
        reads = ReadsOn-then (reading_as_call (err_of (Unit {0}) fault)) reads;
        place_is = tt;
        damaged = λ place is. absurd (undamaged place is);
        undamaged = λ tells meaning history store within there. undamaged;
      }

  module _ (old held mid new : HeldVersions) (before now after : KeeperState) (one two three : ℕ) (so_far : ReadsOn schema number end (well KeeperFault) old held before now one two) (takes : TakesWaiting schema number (well ReadFault) held mid) where
    -- the versions that wait are applied, and a batch is read
    pub ReadsOn-piece : ReadsOn schema number end (well KeeperFault) mid new now after two three → ReadsOn schema number end (well KeeperFault) old new before after one three
    ReadsOn-piece reads = ReadsOn-then old mid new before now one two (ReadsOn-waiting old held mid before now one two so_far (well ReadFault) takes) after three (well KeeperFault) reads

    -- or the read fails
    pub AdvancesTo-unread : (fault : ReadFault) → ReadsOn schema number end (reading_as_call (err_of (Unit {0}) fault)) mid new now after two three → ((place : ℕ) → err_of (Unit {0}) fault ≢ Err (Damaged place)) → AdvancesTo {A = Unit {0}} schema number end (Err fault) old new before after one three
    AdvancesTo-unread fault reads undamaged = AdvancesTo-fault old mid new before now one two (ReadsOn-waiting old held mid before now one two so_far (well ReadFault) takes) after three fault reads undamaged

  -- all versions up to the number are applied
  pub AdvancesTo-end : (old mid : HeldVersions) (before now : KeeperState) (steps_old steps_now : ℕ) → ReadsOn schema number end (well KeeperFault) old mid before now steps_old steps_now → mid.place ≤ number → BeginsAbove number mid.ahead.waiting → has_read number mid.ahead ≡ true → AdvancesTo {A = Unit {0}} schema number end (Ok tt) old (placed number mid) before now steps_old steps_now
  AdvancesTo-end old mid before now steps_old steps_now so_far forward begins read = record {
    reads = ReadsOn-waiting old mid (placed number mid) before now steps_old steps_now so_far (well ReadFault) moved;
    place_is = refl;
    damaged = λ place is. absurd cc;
    undamaged = λ tells meaning history store within there place is. absurd cc;
  }
    where
      moved : TakesWaiting schema number (well ReadFault) mid (placed number mid)
      moved = record {
        taken = TakesInVersions-moved schema number number mid forward (λ within. omega arith);
        keeps = λ meaning history valid there.
            let there_now = IsAhead-moved (is_version_of schema.name) mid.place mid.ahead history there.split number forward begins read in
            record { created = there.created; split = there_now.0; rows_are = there.rows_are ∙ ap (kept_at schema) (sym there_now.1) };
        reached_is = refl;
        damaged = λ place is. absurd cc;
        undamaged = λ meaning history valid there place is. absurd cc;
        unfailed = λ is. absurd cc;
      }

module _ (schema : Schema) (number : ℕ) (old mid new : HeldVersions) (so_far : TakesWaiting schema number (well ReadFault) old mid) (result : Result Bool ReadFault) (takes : TakesWaiting {A = Bool} schema number result mid new) where
  -- one more version was applied, or none
  pub waits_ok : (any : Bool) → result ≡ Ok any → TakesWaiting schema number (well ReadFault) old new
  waits_ok any is = TakesWaiting-then schema number (well ReadFault) old mid new so_far (TakesWaiting-ok schema number any tt mid new (subst (λ (r : Result Bool ReadFault). TakesWaiting {A = Bool} schema number r mid new) is takes))

  -- or one does not fit
  pub waits_err : (fault : ReadFault) → result ≡ Err fault → TakesWaiting {A = Unit {0}} schema number (Err fault) old new
  waits_err fault is = TakesWaiting-then schema number (err_of (Unit {0}) fault) old mid new so_far (TakesWaiting-err schema number {A = Bool} {B = Unit {0}} fault mid new (subst (λ (r : Result Bool ReadFault). TakesWaiting {A = Bool} schema number r mid new) is takes))

-- the meaning of `has_read`
pub is_not_read : (number : ℕ) (ahead : ReadAhead) → has_read number ahead ≡ false → (ahead.reached < number) × (ahead.waiting ≡ [])
is_not_read number ahead is =
    let parts = or_parts (nat_le number ahead.reached) (is_some (slice_get ahead.waiting 0)) is in
    (grind (arith, nat_tests, parts.0), none_of ahead.waiting parts.1)
  where
    none_of : (waiting : Store) → is_some (slice_get waiting 0) ≡ false → waiting ≡ []
    none_of [] e = refl
    none_of (first ∷ rest) e = absurd cc
