-- From the read result of a keeper to the entry with a number.
use Rattle.std.proofs.Common.{◌≡◌, ◌≢◌, ◌∙◌, ◌≤◌, ◌<◌, ◌+◌, ℕ, zero, suc, ℤ, pos, negsuc, refl, sym, ap, subst, arith, cond, Bool, true, false, List, [], ◌∷◌, ◌++◌, length, map, take, drop, Option, Some, None, Result, Ok, Err}
use Rattle.std.specs.Prelude.{◌-◌, ◌&&◌, if◌then◌else◌, find, slice_get, nat_le, int_lt, unsigned_abs, unwrap_or}
use Rattle.std.specs.Bool.{then_some}
use Rattle.std.specs.Ordering.{int_eq}
use Rattle.std.proofs.lemmas.Bool.{false≢true, and_parts, and_left}
use Rattle.std.proofs.lemmas.Bool.Decides.{nat_tests, Decides-int_eq}
use Rattle.std.proofs.lemmas.Cmp.{int_eq_equiv}
use Rattle.std.proofs.lemmas.List.{take-append-drop, map-append, length-take-le}
use Rattle.std.proofs.lemmas.List.Sums.{sum_by-cons}
use Rattle.hippo_model.specs.declared.entry.Act.{Act}
use Rattle.hippo_model.specs.declared.entry.Act.TheVariants.{Asked}
use Rattle.hippo_model.specs.declared.entry.Entry.{Entry}
use Rattle.hippo_model.specs.declared.stored.StoredEntry.{StoredEntry}
use Rattle.hippo_model.specs.Keepable.{is_keepable}
use Rattle.hippo_model.specs.StoredForms.{stored}
use Rattle.hippo_model.specs.Terms.{History, Place}
use Rattle.hippo_model.specs.Validity.{is_valid}
use Rattle.hippo_model.specs.Versions.{is_version, versions}
use Rattle.hippo_model_laws.proofs.ValidFronts.{entry_has_its_number, front_is_valid}
use Rattle.hippo_keeper.specs.declared.faults.KeeperFault.{KeeperFault}
use Rattle.hippo_keeper.specs.Answering.{has_failed}
use Rattle.hippo_keeper.specs.Keeping.{Store, KeeperState, RisesAbove, last_number, next_number}
use Rattle.hippo_keeper.specs.Selecting.{is_any, selected_entries, stored_versions, ReadsEntries}
use Rattle.hippo_keeper.proofs.StoredLemmas.{stored_versions-stored}
use Rattle.hippo_typing_catalog.proofs.ListLemmas.{drop_at_item}
use Rattle.hippo_typing.specs.Meanings.{meaning}
use Rattle.hippo_backlog.specs.Calls as reads
use Rattle.hippo_backlog.specs.declared.faults.ReadFault.{ReadFault}
use Rattle.hippo_backlog.specs.declared.faults.ReadFault.TheVariants.{Keeper, Damaged, Memory}
use Rattle.hippo_backlog.proofs.VersionsTheorem.{may_there}
use Rattle.hippo_backlog.proofs.NumberLemmas.{valid-rises}
use Rattle.hippo_backlog.proofs.CallLemmas.{reading_as_call-read_fault, undamaged_by}
use Rattle.hippo_keeper.proofs.CallLemmas.{KeepsSame-Stays, IsAfterCall-as}
use Rattle.hippo_replay.proofs.KeeperLemmas.{selected_entries-remaining, next_kept-stored}
use Rattle.hippo_engine_checks.specs.Checks.{question_at}
use Rattle.hippo_model.specs.HandedOver.{is_question}
use Rattle.hippo_engine_checks.specs.Entries.{number_within, IsFormOf, IsRead, HasReadEntry, ReadsEntry}

abbrev pub err_of : (T : Type 0) → {E : Type 0} → E → Result T E
err_of T fault = Err fault

-- the number is one of this many entries
pub record IsNumber (number : ℤ) (count place : ℕ) : Type 0 where
  pub same : number ≡ pos place
  pub from : 1 ≤ place
  pub to : place ≤ count

-- the member at a place is found if no other member passes the test
found_at : {A : Type 0} (test : A → Bool) (members : List A) (place : ℕ) (member : A) → slice_get members place ≡ Some member
    → ((other : ℕ) (one : A) → slice_get members other ≡ Some one → other ≢ place → test one ≡ false) → find test members ≡ then_some (test member) member
found_at test [] place member is others = absurd cc
found_at test (first ∷ rest) zero member is others =
    let same : first ≡ member = ap (λ o. unwrap_or o first) is in
    by (test first) refl ∙ ap (λ m. then_some (test m) m) same
  where
    none : {A : Type 0} (test : A → Bool) (members : List A) → ((other : ℕ) (one : A) → slice_get members other ≡ Some one → test one ≡ false) → find test members ≡ None
    none test [] fails = refl
    none test (one ∷ more) fails = rw (fails 0 one refl) (none test more (λ other member is. fails (suc other) member is))

    by : (passes : Bool) → test first ≡ passes → find test (first ∷ rest) ≡ then_some (test first) first
    by true is = rw is refl
    by false is = rw is (none test rest (λ other one at. others (suc other) one at (λ e. absurd cc)))
found_at test (first ∷ rest) (suc place) member is others =
    rw (others 0 first refl (λ e. absurd cc)) (found_at test rest place member is (λ other one at differ. others (suc other) one at (λ e. differ (ap before e))))
  where
    before : ℕ → ℕ
    before zero = zero
    before (suc n) = n

int_off : (a b : ℕ) → a ≢ b → int_eq (pos a) (pos b) ≡ false
int_off a b differ =
    elim (int_eq (pos a) (pos b)) as (λ test. int_eq (pos a) (pos b) ≡ test → int_eq (pos a) (pos b) ≡ false) [
      | true ↦ λ e. absurd (differ (ap size ((Decides-int_eq (pos a) (pos b)).0 e)))
      | false ↦ λ e. e
    ] refl
  where
    size : ℤ → ℕ
    size z = unsigned_abs z

int_same : (a : ℕ) → int_eq (pos a) (pos a) ≡ true
int_same a = int_eq_equiv.refl (pos a)

abbrev asks : ℤ → Entry → Bool
asks number entry = int_eq (pos entry.seq) number && is_question entry.act

module _ (history : History) (valid : is_valid meaning history ≡ true) where
  seq_of : (place : Place) (entry : Entry) → slice_get history place ≡ Some entry → entry.seq ≡ place + 1
  seq_of place entry is = entry_has_its_number meaning history valid place entry is

  -- the question with an entry's number is that entry, if the entry is a question
  pub question_is : (place : Place) (entry : Entry) → slice_get history place ≡ Some entry → question_at history (pos entry.seq) ≡ then_some (is_question entry.act) entry
  question_is place entry is =
      found_at (asks (pos entry.seq)) history place entry is (λ other one at differ.
      let numbers : one.seq ≢ entry.seq = λ e. differ (omega (arith, e, seq_of other one at, seq_of place entry is)) in
      and_left (int_eq (pos one.seq) (pos entry.seq)) (is_question one.act) (int_off one.seq entry.seq numbers))
      ∙ ap (λ (b : Bool). then_some (b && is_question entry.act) entry) (int_same entry.seq)

within : (place : Place) (history : History) (entry : Entry) → slice_get history place ≡ Some entry → place < length history
within place [] entry is = absurd cc
within zero (first ∷ rest) entry is = omega arith
within (suc place) (first ∷ rest) entry is = let later = within place rest entry is in omega (arith, later)

none_found : {A : Type 0} (test : A → Bool) (members : List A) → ((other : ℕ) (one : A) → slice_get members other ≡ Some one → test one ≡ false) → find test members ≡ None
none_found test [] fails = refl
none_found test (one ∷ more) fails = rw (fails 0 one refl) (none_found test more (λ other member is. fails (suc other) member is))

-- no entry has a number outside the range
pub no_question : (history : History) (number : ℤ) → is_valid meaning history ≡ true → number_within number (length history) ≡ None → question_at history number ≡ None
no_question history (pos number) valid none =
    none_found (asks (pos number)) history (λ place entry is.
    let inside = within place history entry is in
    and_left (int_eq (pos entry.seq) (pos number)) (is_question entry.act) (int_off entry.seq number (λ e. outside number (length history) none (omega (arith, e, inside, seq_of history valid place entry is)) (omega (arith, e, inside, seq_of history valid place entry is)))))
  where
    not_below : (number : ℕ) → 1 ≤ number → int_lt (pos number) (pos 1) ≡ false
    not_below number from = grind (arith, nat_tests)

    none_some : (n : ℕ) → ◌≡◌ {A = Option ℕ} None (Some n) → ⊥
    none_some n e = cc

    outside : (number count : ℕ) → number_within (pos number) count ≡ None → 1 ≤ number → number ≤ count → ⊥
    outside number count none from to =
        let low : int_lt (pos number) (pos 1) ≡ false = not_below number from in
        let high : nat_le number count ≡ true = grind (arith, nat_tests) in
        none_some number (sym none ∙ ap (λ (b : Bool). if b then None else then_some (nat_le number count) number) low ∙ ap (λ (b : Bool). then_some b number) high)
no_question history (negsuc number) valid none =
    none_found (asks (negsuc number)) history (λ place entry is. and_left (int_eq (pos entry.seq) (negsuc number)) (is_question entry.act) (apart entry.seq number))
  where
    apart : (a b : ℕ) → int_eq (pos a) (negsuc b) ≡ false
    apart a b = refl

-- a number in the range
pub is_number : (number : ℤ) (count place : ℕ) → number_within number count ≡ Some place → IsNumber number count place
is_number (pos number) count place is =
    elim (int_lt (pos number) (pos 1)) as (λ low. int_lt (pos number) (pos 1) ≡ low → (if low then None else then_some (nat_le number count) number) ≡ Some place → IsNumber (pos number) count place) [
      | true ↦ λ low is. absurd cc
      | false ↦ λ low is.
          elim (nat_le number count) as (λ high. nat_le number count ≡ high → then_some high number ≡ Some place → IsNumber (pos number) count place) [
            | true ↦ λ high is.
                let same : number ≡ place = cc in
                subst (λ (n : ℕ). IsNumber (pos number) count n) same (record { same = refl; from = grind (arith, nat_tests); to = grind (arith, nat_tests) })
            | false ↦ λ high is. absurd cc
          ] refl is
    ] refl is
is_number (negsuc number) count place is = absurd cc

-- the entry at a place
there : (history : History) (place : Place) → place < length history → (entry : Entry) × (slice_get history place ≡ Some entry)
there [] place inside = absurd (omega (arith, inside))
there (first ∷ rest) zero inside = (first, refl)
there (first ∷ rest) (suc place) inside = there rest place (omega (arith, inside))

versions_at : (history : History) (place : Place) (entry : Entry) → slice_get history place ≡ Some entry → cond (is_version entry.act) 1 0 ≤ versions history
versions_at [] place entry is = absurd cc
versions_at (first ∷ rest) zero entry is =
    let same : first ≡ entry = ap (λ o. unwrap_or o first) is in
    subst (λ (e : Entry). cond (is_version e.act) 1 0 ≤ versions (first ∷ rest)) same (omega (arith, sum_by-cons (λ (e : Entry). cond (is_version e.act) 1 0) first rest))
versions_at (first ∷ rest) (suc place) entry is =
    omega (arith, versions_at rest place entry is, sum_by-cons (λ (e : Entry). cond (is_version e.act) 1 0) first rest)

question_no_version : (act : Act) → is_question act ≡ true → ◌≡◌ {A = ℕ} (cond (is_version act) 1 0) 0
question_no_version (Asked user purpose recipient text) is = refl
question_no_version act is = absurd (false≢true is)

module _ (history : History) (valid : is_valid meaning history ≡ true) (number : ℕ) (from : 1 ≤ number) (entry : Entry) (is : slice_get history (number - 1) ≡ Some entry) where
  abbrev place : Place
  place = number - 1

  abbrev later : History
  later = drop (place + 1) history

  whole : take place history ++ entry ∷ later ≡ history
  whole = ap (λ (rest : History). take place history ++ rest) (sym (drop_at_item history place entry is)) ∙ take-append-drop place history

  -- reading one entry after the previous number yields the entry
  pub handed : selected_entries is_any place 1 (map stored history) ≡ stored entry ∷ []
  handed =
      let front : History = take place history in
      let parted : map stored front ++ stored entry ∷ map stored later ≡ map stored history = sym (map-append stored front (entry ∷ later)) ∙ ap (map stored) whole in
      let front_valid : is_valid meaning front ≡ true = front_is_valid meaning front (entry ∷ later) (ap (is_valid meaning) whole ∙ valid) in
      let next : next_number (map stored front) ≡ length front + 1 = next_kept-stored meaning front front_valid in
      let long : length front ≡ place = length-take-le place history (omega (arith, within place history entry is)) in
      let last : last_number 0 (map stored front) ≡ place = omega (arith, next, long) in
      let rises : RisesAbove 0 (map stored front ++ stored entry ∷ map stored later) = subst (λ (s : Store). RisesAbove 0 s) (sym parted) (valid-rises meaning history valid) in
      ap (selected_entries is_any place 1) (sym parted) ∙ selected_entries-remaining 1 place (map stored front) (stored entry ∷ map stored later) last rises

  keepable : is_keepable entry ≡ true
  keepable =
      let may = may_there meaning (take place history) later entry (ap (is_valid meaning) whole ∙ valid) in
      (and_parts _ _ (and_parts _ _ (and_parts _ _ may).0).0).0

  pub form : IsFormOf number (Some (stored entry)) entry
  form = record { form = refl; keepable = keepable; number_is = entry_has_its_number meaning history valid place entry is ∙ omega (arith, from) }

good_read : (list : Store) (number : ℕ) (result : Result Entry ReadFault) → IsRead list number result → has_failed (reads.reading_as_call result) ≡ false
good_read list number (Ok entry) is = refl
good_read list number (Err Keeper) is = absurd is
good_read list number (Err (Damaged other)) is = refl
good_read list number (Err Memory) is = refl

module _ (number : ℕ) (from : 1 ≤ number) (before after : KeeperState) (steps steps' : ℕ) where
  module _ (history : History) (valid : is_valid meaning history ≡ true) (list : Store) (entry : Entry) (is : slice_get history (number - 1) ≡ Some entry) (first : list ≡ stored entry ∷ []) (counted : steps' ≡ steps + stored_versions list) where
    first_is : slice_get list 0 ≡ Some (stored entry)
    first_is = ap (λ (l : Store). slice_get l 0) first

    same_form : IsFormOf number (slice_get list 0) entry
    same_form = subst (λ (o : Option StoredEntry). IsFormOf number o entry) (sym first_is) (form history valid number from entry is)

    one : stored_versions list ≡ cond (is_version entry.act) 1 0
    one =
        omega (arith, ap stored_versions first, stored_versions-stored (entry ∷ []), sum_by-cons (λ (e : Entry). cond (is_version e.act) 1 0) entry [])

    few : steps' ≤ steps + versions history
    few = omega (arith, counted, one, versions_at history (number - 1) entry is)

    read_as : (result : Result Entry ReadFault) → IsRead list number result → HasReadEntry history number result steps steps'
    read_as (Ok found) read =
        let same : found ≡ entry = read entry same_form in
        record {
          entry_is = is ∙ ap Some (sym same);
          undamaged = λ other e. absurd cc;
          few = few;
          idle = λ asked. omega (arith, counted, one, question_no_version entry.act (ap (λ (e : Entry). is_question e.act) (sym same) ∙ asked));
        }
    read_as (Err Keeper) read = absurd read
    read_as (Err (Damaged other)) read = absurd (read entry same_form)
    read_as (Err Memory) read = record { entry_is = tt; undamaged = λ other e. absurd cc; few = few; idle = tt }

  -- an entry was returned
  pub handed_entry : (list : Store) (result : Result Entry ReadFault) → ReadsEntries is_any (number - 1) 1 (Ok list) before after → steps' ≡ steps + stored_versions list → IsRead list number result
      → ReadsEntry number result before after steps steps'
  handed_entry list result over counted read = record {
    call = IsAfterCall-as true false (Ok list) (reads.reading_as_call result) before after (good_read list number result read) over.call;
    stays = λ tells. KeepsSame-Stays before after (over.stays tells);
    told = λ tells held history forms stands inside.
        let at = there history (number - 1) (omega (arith, from, inside)) in
        let first : list ≡ stored at.0 ∷ [] = over.ok.told tells ∙ ap (selected_entries is_any (number - 1) 1) (sym forms) ∙ handed history stands.valid number from at.0 at.1 in
        read_as history stands.valid list at.0 at.1 first counted result read;
  }

  -- no entry was returned
  pub unhanded_entry : (fault : KeeperFault) → ReadsEntries is_any (number - 1) 1 (Err fault) before after → steps' ≡ steps → ReadsEntry number (Err (reads.read_fault fault)) before after steps steps'
  unhanded_entry fault unread same = record {
    call = IsAfterCall-as true false (err_of Store fault) (reads.reading_as_call (err_of Entry (reads.read_fault fault))) before after (reading_as_call-read_fault Entry Store fault) unread.call;
    stays = λ tells. KeepsSame-Stays before after (unread.stays tells);
    told = λ tells held history forms stands inside. record {
      entry_is = tt;
      undamaged = λ other e. undamaged_by {A = Entry} fault other e;
      few = omega (arith, same);
      idle = tt;
    };
  }
